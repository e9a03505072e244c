-- How many proofs and obligations there are.
use Rattle.std.proofs.Common.{true, Option, None, Some, ◌≡◌, ℕ, zero, suc, ◌+◌, ◌<◌, ◌≤◌, List, [], ◌∷◌, length, drop, get_or, arith, refl, sym, ap, ◌∙◌, length-append, drop-cons}
use Rattle.std.proofs.lemmas.Slice.Zip.{AllZip-long}
use Rattle.std.specs.Option.{SomeIff, is_some}
use Rattle.tv_formula.specs.Properties.{Property}
use Rattle.tv_cases.specs.LinearCases.{CaseSystem}
use Rattle.tv_cert.specs.declared.node.Node.{Node, Node', Row_of-Node, end_of-Node, more_of-Node, items-the_row-Node, outs-Node'}
use Rattle.tv_cert.specs.declared.node.Verdict.{Verdict}
use Rattle.tv_cert.specs.Obligations.{About, paired}
use Rattle.tv_cert.specs.Nodes.{kid_pieces, size, entries, node_entries, children_entries, obligations, root_entry, pieces_of, node_owes}
use Rattle.tv_cert.specs.Shapes.{ProofShape, NodeShape, KidsShape, HasShape}
use Rattle.tv_cert.proofs.NodeLemmas.{kids_of, sizes_list, proofs_list, out_is, length-paired}
use Rattle.tv_cert.specs.Statements.{Statement, Statements, no_statement, statement, parts_of, stated}
use Rattle.tv_shape.specs.Amounts.{proofs_below, kid_proofs}
use Rattle.tv_shape.proofs.NumberLemmas.{own_many}

-- ---- the proofs of a node by the list of its children

abbrev pub proofs_of_all : List Node → ℕ
proofs_of_all [] = 0
proofs_of_all (a ∷ kids) = proofs_below a + proofs_of_all kids

proofs_listed : {k : _} (kids : Row_of-Node k) → kid_proofs kids ≡ proofs_of_all (items-the_row-Node k kids)
proofs_listed end_of-Node = refl
proofs_listed (more_of-Node a kids) = ap (λ n. proofs_below a + n) (proofs_listed kids)

pub proofs_are : (node : Node) → proofs_below node ≡ proofs_of_all (kids_of node) + length (proofs_list node)
proofs_are (Node' ps m shape kids proofs) =
    let a = proofs_listed kids ∙ ap proofs_of_all (sym (out_is ps m shape kids proofs)) in
    let b = ap (λ x. length x.proofs.items) (outs-Node' ps m shape kids proofs) in
    omega (arith, a, b)

-- a child has no more proofs than what is left of the children
pub proofs_there : (kids : List Node) (i : ℕ) (a : Node) → i < length kids → a ≡ get_or kids i a → proofs_of_all (drop i kids) ≡ proofs_below a + proofs_of_all (drop (i + 1) kids)
proofs_there kids i a below is = ap proofs_of_all (drop-cons kids i a below ∙ (let k : suc i ≡ i + 1 = omega arith in λ j. sym is j ∷ drop (k j) kids))

pub proofs_end : (kids : List Node) (i : ℕ) → length kids ≤ i → proofs_of_all (drop i kids) ≡ 0
proofs_end [] zero h = refl
proofs_end [] (suc i) h = refl
proofs_end (a ∷ kids) zero h = absurd (omega arith)
proofs_end (a ∷ kids) (suc i) h = proofs_end kids i (omega arith)

pub sizes_there : (kids : List Node) (i : ℕ) (a : Node) → i < length kids → a ≡ get_or kids i a → sizes_list (drop i kids) ≡ size a + sizes_list (drop (i + 1) kids)
sizes_there kids i a below is = ap sizes_list (drop-cons kids i a below ∙ (let k : suc i ≡ i + 1 = omega arith in λ j. sym is j ∷ drop (k j) kids))

pub sizes_end : (kids : List Node) (i : ℕ) → length kids ≤ i → sizes_list (drop i kids) ≡ 0
sizes_end [] zero h = refl
sizes_end [] (suc i) h = refl
sizes_end (a ∷ kids) zero h = absurd (omega arith)
sizes_end (a ∷ kids) (suc i) h = sizes_end kids i (omega arith)

-- ---- as many proofs as obligations

mutual
  pub entries_counted : (number : ℕ) (system : CaseSystem) (s : Statement) (node : Node) → NodeShape system s node → length (node_entries number system s node) ≡ proofs_below node
  entries_counted number system s (Node' ps m shape kids proofs) h =
      let below = kid_entries_counted (number + 1) system (parts_of s) kids h.1 in
      let own = length-paired (node_owes number system s ps (kid_pieces kids)) proofs.items in
      let same = own_many number system s ps (kid_pieces kids) in
      let long = AllZip-long (λ o p. ProofShape o.owed p) (node_owes 0 system s ps (kid_pieces kids)) proofs.items h.0.offered in
      let all = length-append (children_entries (number + 1) system (parts_of s) kids) (paired (node_owes number system s ps (kid_pieces kids)) proofs.items) in
      omega (arith, below, own, same, long, all)

  kid_entries_counted : {k : _} (number : ℕ) (system : CaseSystem) (ss : Statements) (kids : Row_of-Node k) → KidsShape system ss kids → length (children_entries number system ss kids) ≡ kid_proofs kids
  kid_entries_counted number system no_statement end_of-Node h = refl
  kid_entries_counted number system no_statement (more_of-Node a kids) h = absurd h
  kid_entries_counted number system (statement s ss) end_of-Node h = absurd h
  kid_entries_counted number system (statement s ss) (more_of-Node a kids) h =
      let one = entries_counted number system s a h.0 in
      let rest = kid_entries_counted (number + size a) system ss kids h.1 in
      omega (arith, one, rest, length-append (node_entries number system s a) (children_entries (number + size a) system ss kids))

-- and one more for the root
pub obligations_long : (about : About) (f : Property) (root : Node) (verdict : Verdict) → length (obligations about f root verdict) ≡ length (entries 0 about f root) + 1
obligations_long about f root verdict = length-append (entries 0 about f root) (root_entry about (pieces_of root) verdict ∷ [])

pub obligations_counted : (about : About) (f : Property) (root : Node) (verdict : Verdict) → HasShape about f root → length (obligations about f root verdict) ≡ proofs_below root + 1
obligations_counted about f root verdict h =
    let a = obligations_long about f root verdict in
    let b = entries_counted 0 about.system (stated about.tests f) root h in
    omega (arith, a, b)

-- what holds where there is an answer
pub told : (o : Option ℕ) (holds : Type 0) (n : ℕ) → is_some o ≡ true → SomeIff o holds n → holds
told None holds n e h = absurd (let k : ⊥ = cc in k)
told (Some m) holds n e h = h.0
