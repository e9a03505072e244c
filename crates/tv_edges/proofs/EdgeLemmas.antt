-- Where the cases of each edge stand among the cases of a program.
use Rattle.std.proofs.Common.{◌≡◌, ℕ, suc, ◌+◌, ◌-◌, ◌<◌, ◌≤◌, ◌∙◌, List, [], ◌∷◌, ◌++◌, map, length, drop, get_or, refl, sym, ap, subst, arith, Bool, true, false, Ok, Some, slice_get, nat_lt, ltb-true, ltb-false, length-append, append_assoc}
use Rattle.std.specs.Prelude.{if◌then◌else◌, Contains}
use Rattle.std.specs.List.{flat_map}
use Rattle.std.proofs.lemmas.List.{append-nil, drop_more, length-map, get_or-append-add, get_or_append_left}
use Rattle.std.proofs.lemmas.Bool.{lt-ltb, le-ltb}
use Rattle.std.proofs.lemmas.List.Elements.{All-contains}
use Rattle.std.proofs.lemmas.Option.{slice_get_within, slice_get-get_or, slice_get_read, get_or_from_slice_get}
use Rattle.tv_linear.specs.Known.{term_value}
use Rattle.tv_linear.specs.Terms.{terms_after}
use Rattle.tv_linear.proofs.ListLaws.{contains_at}
use Rattle.tv_program.specs.declared.tree.Command.{Command}
use Rattle.tv_program.specs.declared.tree.Edge.{Edge}
use Rattle.tv_program.specs.Trees.{Transition}
use Rattle.tv_program.specs.Views.{instruction, transition, transitions}
use Rattle.tv_program.specs.Systems.{System, IsLimited}
use Rattle.tv_cases.specs.LinearCases.{LinearCase}
use Rattle.tv_cases.specs.Amounts.{capped, amount, amount_after}
use Rattle.tv_cases.specs.EdgeCases.{beginning, case_of, edge_end, edge_cases}
use Rattle.tv_cases.specs.ProgramCases.{cases_from, linear_cases}
use Rattle.tv_cases.proofs.AmountLemmas.{after-counted}
use Rattle.tv_cases.proofs.CaseLimits.{are-cases, plain-edges}
use Rattle.tv_cases.proofs.ContainsLemmas.{Contains-from_map}
use Rattle.tv_cases.proofs.SameSteps.{cases_from-ok, edge-same, IsPlain}
use Rattle.tv_edges.specs.Edges.{edge_at, IsOfEdge, CaseGives}

-- the cases of all edges, one edge after the other
abbrev pub all_cases : ℕ → List Transition → List LinearCase
all_cases n es = flat_map (edge_cases n) es

cases-joined : (n k : ℕ) (before : List LinearCase) (es : List Transition) (all : List LinearCase) → cases_from n k before es ≡ Ok all → all ≡ before ++ all_cases n es
cases-joined n k before [] all h = let e : all ≡ before = cc in e ∙ sym (append-nil before)
cases-joined n k before (e ∷ es) all h =
    cases-joined n (suc k) (before ++ edge_cases n e) es all (cases_from-ok n k before all e es h).later ∙ append_assoc before (edge_cases n e) (all_cases n es)

pub cases-are_all : (p : System) (cases : List LinearCase) → linear_cases p ≡ Ok cases → cases ≡ all_cases (length p.variables) p.edges
cases-are_all p cases h = cases-joined (length p.variables) 0 [] p.edges cases h

-- ---- the case at a number

first_part : {A : Type 0} (xs ys : List A) (k : ℕ) (x : A) → slice_get (xs ++ ys) k ≡ Some x → k < length xs → slice_get xs k ≡ Some x
first_part xs ys k x e h =
    slice_get_read xs (length xs) k x refl h (sym (sym (get_or_append_left xs ys x k h) ∙ get_or_from_slice_get (xs ++ ys) k x x e))

last_part : {A : Type 0} (xs ys : List A) (k : ℕ) (x : A) → slice_get (xs ++ ys) k ≡ Some x → length xs ≤ k → slice_get ys (k - length xs) ≡ Some x
last_part xs ys k x e h =
    let within = slice_get_within (xs ++ ys) k x e in
    let all = length-append xs ys in
    let place : length xs + (k - length xs) ≡ k = omega arith in
    let below : k - length xs < length ys = omega arith in
    slice_get_read ys (length ys) (k - length xs) x refl below
    (sym (sym (get_or-append-add xs ys (k - length xs) x) ∙ ap (λ i. get_or (xs ++ ys) i x) place ∙ get_or_from_slice_get (xs ++ ys) k x x e))

-- the edge at a place, and the case as one of its own
record Found (n : ℕ) (es : List Transition) (c : LinearCase) (number : ℕ) : Type 0 where
  edge : Transition
  there : slice_get es number ≡ Some edge
  among : Contains (edge_cases n edge) c

in_rest : (n : ℕ) (e : Transition) (es : List Transition) (c : LinearCase) (number : ℕ) → Found n es c number → Found n (e ∷ es) c (suc number)
in_rest n e es c number f = record { edge = f.edge; there = f.there; among = f.among }

by_test : (n : ℕ) (e : Transition) (es : List Transition) (c : LinearCase) (k number : ℕ) (b : Bool) → nat_lt k (length (edge_cases n e)) ≡ b → (k < length (edge_cases n e) → Found n (e ∷ es) c 0) → (length (edge_cases n e) ≤ k → Found n es c number) → Found n (e ∷ es) c (if b then 0 else suc number)
by_test n e es c k number true t here later = here (ltb-true k (length (edge_cases n e)) t)
by_test n e es c k number false t here later = in_rest n e es c number (later (ltb-false k (length (edge_cases n e)) t))

found : (n : ℕ) (es : List Transition) (k : ℕ) (c : LinearCase) → slice_get (all_cases n es) k ≡ Some c → Found n es c (edge_at n es k)
found n [] k c h = absurd (omega (arith, slice_get_within [] k c h))
found n (e ∷ es) k c h =
    by_test n e es c k (edge_at n es (k - length (edge_cases n e))) (nat_lt k (length (edge_cases n e))) refl
    (λ w. record { edge = e; there = refl; among = contains_at (edge_cases n e) k c (first_part (edge_cases n e) (all_cases n es) k c h w) })
    (λ w. found n es (k - length (edge_cases n e)) c (last_part (edge_cases n e) (all_cases n es) k c h w))

pub is-of_edge : (p : System) (cases : List LinearCase) (k : ℕ) → linear_cases p ≡ Ok cases → k < length cases → IsOfEdge p cases k (edge_at (length p.variables) p.edges k)
is-of_edge p cases k h within = got cases within refl where
  n : ℕ
  n = length p.variables

  at : (c : LinearCase) → slice_get cases k ≡ Some c → IsOfEdge p cases k (edge_at n p.edges k)
  at c e =
      let f = found n p.edges k c (ap (λ cs. slice_get cs k) (sym (cases-are_all p cases h)) ∙ e) in
      record { edge = f.edge; there = f.there; case = c; taken = e; among = f.among }

  got : (cs : List LinearCase) → k < length cs → cases ≡ cs → IsOfEdge p cases k (edge_at n p.edges k)
  got [] w e = absurd (omega arith)
  got (d ∷ cs) w e = at (get_or (d ∷ cs) k d) (ap (λ xs. slice_get xs k) e ∙ slice_get-get_or (d ∷ cs) k d w)

-- ---- how many cases an edge has

-- the count of the lists is exact, where there are no more cases than a program may have
pub length-edge_cases : (n : ℕ) (e : Transition) → length (edge_cases n e) ≤ 8192 → (amount_after (amount 1 0) e.instructions).lists ≡ length (edge_cases n e)
length-edge_cases n e few =
    let p = beginning n (n + e.draws) in
    let many = length-map (edge_end n e).lists (case_of e (edge_end n e).terms) in
    let counted : (amount_after (amount 1 0) e.instructions).lists ≡ capped (length (edge_end n e).lists) = ap (λ a. a.lists) (after-counted n (n + e.draws) e.instructions p) in
    omega (arith, few, many, counted)

-- there are no more cases than a program may have
pub few_cases : (p : System) (cases : List LinearCase) → IsLimited p → linear_cases p ≡ Ok cases → length (all_cases (length p.variables) p.edges) ≤ 8192
few_cases p cases limited h =
    subst (λ cs. length cs ≤ 8192) (cases-are_all p cases h) (are-cases (length p.variables) (length p.locations) p.start p.edges cases limited h).few_cases

-- ---- an edge further

-- what is left of a list, with the element at that place in front
pub left_from : {A : Type 0} (xs : List A) (i : ℕ) (x : A) → i < length xs → x ≡ get_or xs i x → drop i xs ≡ x ∷ drop (i + 1) xs
left_from xs i x below is = drop_more xs i x below ∙ ap (λ y. y ∷ drop (i + 1) xs) (sym is)

-- what is left to find after the edges before this one: case k of the cases of the others
pub record Left (n : ℕ) (es : List Transition) (k : ℕ) : Type 0 where
  pub inside : k < length (all_cases n es)
  pub few : length (all_cases n es) ≤ 8192

module _ (n : ℕ) (edges : List Edge) (i k : ℕ) (e : Edge) (below : i < length edges) (is : e ≡ get_or edges i e) (left : Left n (transitions (drop i edges)) k) where
  abbrev own : List LinearCase
  own = edge_cases n (transition e)

  abbrev rest : List Transition
  rest = transitions (drop (i + 1) edges)

  next : transitions (drop i edges) ≡ transition e ∷ rest
  next = ap transitions (left_from edges i e below is)

  all : length (all_cases n (transitions (drop i edges))) ≡ length own + length (all_cases n rest)
  all = ap (λ xs. length (all_cases n xs)) next ∙ length-append own (all_cases n rest)

  -- what is counted of the commands at this place is how many cases the edge has
  pub own_counted : (commands : List Command) (here : ℕ) → commands ≡ (get_or edges i e).commands.items → here ≡ (amount_after (amount 1 0) (map instruction commands)).lists → here ≡ length own
  own_counted commands here same counted =
      counted
      ∙ ap (λ cs. (amount_after (amount 1 0) (map instruction cs)).lists) (same ∙ ap (λ (x : Edge). x.commands.items) (sym is))
      ∙ length-edge_cases n (transition e) (let a = all in let f = left.few in omega arith)

  pub edge_here : k < length own → edge_at n (transitions (drop i edges)) k ≡ 0
  edge_here h = ap (λ xs. edge_at n xs k) next ∙ ap (λ b. if b then 0 else suc (edge_at n rest (k - length own))) (lt-ltb k (length own) h)

  pub edge_later : length own ≤ k → edge_at n (transitions (drop i edges)) k ≡ suc (edge_at n rest (k - length own))
  edge_later h = ap (λ xs. edge_at n xs k) next ∙ ap (λ b. if b then 0 else suc (edge_at n rest (k - length own))) (le-ltb k (length own) h)

  pub left_later : length own ≤ k → Left n rest (k - length own)
  left_later h = let a = all in let w = left.inside in let f = left.few in record { inside = omega arith; few = omega arith }

-- ---- the law

pub case-gives : (p : System) → IsLimited p → (cases : List LinearCase) (k number : ℕ) (of : IsOfEdge p cases k number) → CaseGives (length p.variables) of.edge of.case
case-gives p limited cases k number of =
    let n = length p.variables in
    let l = Contains-from_map (case_of of.edge (edge_end n of.edge).terms) (edge_end n of.edge).lists of.case of.among in
    let plain = All-contains IsPlain p.edges of.edge (plain-edges n (length p.locations) p.start p.edges limited) (contains_at p.edges number of.edge of.there) in
    record {
      from = ap (λ (c : LinearCase). c.from) (sym l.2);
      to = ap (λ (c : LinearCase). c.to) (sym l.2);
      draws = ap (λ (c : LinearCase). c.draws) (sym l.2);
      gives = λ xs ds many drawn guards. (edge-same n of.edge xs ds many drawn plain _).1
          (record { taken = of.case; among = of.among; guards = guards; gives = ap (λ m. map (term_value (xs ++ ds)) (terms_after m of.case.updates)) (sym many) });
    }
