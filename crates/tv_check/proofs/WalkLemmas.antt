use Rattle.std.proofs.Common.{◌≡◌, ◌^◌, ℕ, zero, suc, ◌+◌, ◌<◌, ◌≤◌, List, [], ◌∷◌, ◌++◌, length, drop, get_or, arith, refl, sym, ap, ◌∙◌, subst, append_assoc, length-append, drop-cons}
use Rattle.std.proofs.lemmas.List.{append-nil}
use Rattle.tv_linear.proofs.ListLaws.{drop_past}
use Rattle.tv_cases.specs.LinearCases.{CaseSystem}
use Rattle.tv_cert.specs.declared.node.Node.{Node}
use Rattle.tv_cert.specs.Obligations.{Entry, AllMet}
use Rattle.tv_cert.specs.Nodes.{size, node_entries, own_entries, HasParts}
use Rattle.tv_cert.specs.Statements.{Statement, Statements, no_statement, statement, parts_of, count, part_at}
use Rattle.tv_cert.specs.declared.failing.Failing.{Failing}
use Rattle.tv_cert.proofs.NodeLemmas.{sizes_list, kids_of, size_is}
use Rattle.tv_cert.proofs.StatedLemmas.{past, past_more}
use Rattle.tv_cert.proofs.EntryLists.{listed_entries, parts_list, node_entries_are}
use Rattle.tv_cert.specs.FirstFailing.{IsFirstFailing}
use Rattle.tv_cert.proofs.FailingLemmas.{failing_left, all_join, failing_right}

-- ---- the loop over the children
fits_many : (ss : Statements) (kids : List Node) → parts_list ss kids → count ss ≡ length kids
fits_many no_statement [] h = refl
fits_many no_statement (a ∷ kids) h = absurd h
fits_many (statement s ss) [] h = absurd h
fits_many (statement s ss) (a ∷ kids) h = ap suc (fits_many ss kids h.1)

fits_past : (i : ℕ) (ss : Statements) (kids : List Node) → parts_list ss kids → parts_list (past i ss) (drop i kids)
fits_past zero ss kids h = h
fits_past (suc i) no_statement [] h = tt
fits_past (suc i) no_statement (a ∷ kids) h = absurd h
fits_past (suc i) (statement s ss) [] h = absurd h
fits_past (suc i) (statement s ss) (a ∷ kids) h = fits_past i ss kids h.1

-- where the walk stands before child i
pub record Stands (system : CaseSystem) (ss : Statements) (kids : List Node) (start from next seen i : ℕ) : Type 0 where
  pub done : List Entry
  pub whole : listed_entries start system ss kids ≡ done ++ listed_entries next system (past i ss) (drop i kids)
  pub true : AllMet done
  pub so_far : seen ≡ from + length done
  pub nodes : start + sizes_list kids ≡ next + sizes_list (drop i kids)

module _ (system : CaseSystem) (ss : Statements) (kids : List Node) (start from next seen i : ℕ) (fits : parts_list ss kids) (below : i < length kids) (a : Node) (is : a ≡ get_or kids i a) (h : Stands system ss kids start from next seen i) where
  pub part_there : i < count ss
  part_there = omega (arith, fits_many ss kids fits, below)

  kids_there : drop i kids ≡ a ∷ drop (suc i) kids
  kids_there = drop-cons kids i a below ∙ ap (λ x. x ∷ drop (suc i) kids) (sym is)

  pub child_fits : HasParts (part_at i ss) a
  child_fits = (subst (λ gs. parts_list gs (a ∷ drop (suc i) kids)) (past_more i ss part_there) (subst (parts_list (past i ss)) kids_there (fits_past i ss kids fits))).0

  rest_there : listed_entries next system (past i ss) (drop i kids) ≡ node_entries next system (part_at i ss) a ++ listed_entries (next + size a) system (past (suc i) ss) (drop (suc i) kids)
  rest_there = (λ k. listed_entries next system (past_more i ss part_there k) (kids_there k))

  whole_there : listed_entries start system ss kids ≡ (h.done ++ node_entries next system (part_at i ss) a) ++ listed_entries (next + size a) system (past (suc i) ss) (drop (suc i) kids)
  whole_there = h.whole ∙ ap (λ es. h.done ++ es) rest_there ∙ sym (append_assoc h.done (node_entries next system (part_at i ss) a) _)

  sizes_there : sizes_list (drop i kids) ≡ size a + sizes_list (drop (suc i) kids)
  sizes_there = ap sizes_list kids_there

  -- the room for the child
  pub room_there : (own : List Entry) → from + length (listed_entries start system ss kids ++ own) < 2 ^ 64 → seen + length (node_entries next system (part_at i ss) a) < 2 ^ 64
  room_there own r =
      let e = ap length whole_there in
      let s = h.so_far in
      omega (arith, r, e, s, length-append (listed_entries start system ss kids) own, length-append (h.done ++ node_entries next system (part_at i ss) a) (listed_entries (next + size a) system (past (suc i) ss) (drop (suc i) kids)), length-append h.done (node_entries next system (part_at i ss) a))

  pub nodes_there : start + sizes_list kids < 2 ^ 32 → next + size a < 2 ^ 32
  nodes_there r = let n = h.nodes in omega (arith, r, n, sizes_there)

  pub child_fails : (own : List Entry) (f : Failing) → IsFirstFailing (node_entries next system (part_at i ss) a) seen f → IsFirstFailing (listed_entries start system ss kids ++ own) from f
  child_fails own f k =
      failing_left (listed_entries start system ss kids) own from f (subst (λ es. IsFirstFailing es from f) (sym whole_there)
      (failing_left (h.done ++ node_entries next system (part_at i ss) a) _ from f (failing_right h.done (node_entries next system (part_at i ss) a) from seen f h.true h.so_far k)))

  pub Stands_next : (seen' next' : ℕ) → AllMet (node_entries next system (part_at i ss) a) → seen' ≡ seen + length (node_entries next system (part_at i ss) a) → next' ≡ next + size a → Stands system ss kids start from next' seen' (i + 1)
  Stands_next seen' next' t e k =
      let one : suc i ≡ i + 1 = omega arith in
      let n = h.nodes in
      let s = h.so_far in
      record {
        done = h.done ++ node_entries next system (part_at i ss) a;
        whole = whole_there ∙ (λ j. (h.done ++ node_entries next system (part_at i ss) a) ++ listed_entries (sym k j) system (past (one j) ss) (drop (one j) kids));
        true = all_join h.done (node_entries next system (part_at i ss) a) h.true t;
        so_far = (let l = length-append h.done (node_entries next system (part_at i ss) a) in omega (arith, l, e, s));
        nodes = (let z = ap (λ j. sizes_list (drop j kids)) one in omega (arith, n, sizes_there, k, z));
      }

no_kids : (next : ℕ) (system : CaseSystem) (ss : Statements) → listed_entries next system ss [] ≡ []
no_kids next system no_statement = refl
no_kids next system (statement s ss) = refl

-- after the last child
pub record Ended (system : CaseSystem) (ss : Statements) (kids : List Node) (start from next seen : ℕ) : Type 0 where
  pub true : AllMet (listed_entries start system ss kids)
  pub so_far : seen ≡ from + length (listed_entries start system ss kids)
  pub nodes : next ≡ start + sizes_list kids

pub Stands_ends : (system : CaseSystem) (ss : Statements) (kids : List Node) (start from next seen i : ℕ) → length kids ≤ i → Stands system ss kids start from next seen i → Ended system ss kids start from next seen
Stands_ends system ss kids start from next seen i l h =
    let last = drop_past kids i l in
    let all : listed_entries start system ss kids ≡ h.done = h.whole ∙ ap (λ ks. h.done ++ listed_entries next system (past i ss) ks) last ∙ ap (λ es. h.done ++ es) (no_kids next system (past i ss)) ∙ append-nil h.done in
    let n = h.nodes in
    let z : sizes_list (drop i kids) ≡ 0 = ap sizes_list last in
    record {
      true = subst AllMet (sym all) h.true;
      so_far = h.so_far ∙ ap (λ es. from + length es) (sym all);
      nodes = omega (arith, n, z);
    }

-- the node's own entries, after its children's
module _ (system : CaseSystem) (s : Statement) (node : Node) (number from next seen : ℕ) (h : Ended system (parts_of s) (kids_of node) (number + 1) from next seen) where
  pub own_room : from + length (node_entries number system s node) < 2 ^ 64 → seen + length (own_entries number system s node) < 2 ^ 64
  own_room r =
      let e = ap length (node_entries_are number system s node) in
      let so_far = h.so_far in
      omega (arith, r, e, so_far, length-append (listed_entries (number + 1) system (parts_of s) (kids_of node)) (own_entries number system s node))

  pub own_fails : (g : Failing) → IsFirstFailing (own_entries number system s node) seen g → IsFirstFailing (node_entries number system s node) from g
  own_fails g k = subst (λ es. IsFirstFailing es from g) (sym (node_entries_are number system s node)) (failing_right (listed_entries (number + 1) system (parts_of s) (kids_of node)) (own_entries number system s node) from seen g h.true h.so_far k)

  pub own_true : (now : ℕ) → AllMet (own_entries number system s node) → now ≡ seen + length (own_entries number system s node) → AllMet (node_entries number system s node) × (now ≡ from + length (node_entries number system s node)) × (next ≡ number + size node)
  own_true now t e =
      let l = ap length (node_entries_are number system s node) in
      let so_far = h.so_far in
      let n = h.nodes in
      let z = size_is node in (
        subst AllMet (sym (node_entries_are number system s node)) (all_join (listed_entries (number + 1) system (parts_of s) (kids_of node)) (own_entries number system s node) h.true t),
        omega (arith, l, so_far, e, length-append (listed_entries (number + 1) system (parts_of s) (kids_of node)) (own_entries number system s node)),
        omega (arith, n, z),
      )
