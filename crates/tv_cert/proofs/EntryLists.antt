-- The entries of a node by the list of its children.
use Rattle.std.proofs.Common.{◌≡◌, ℕ, ◌+◌, List, [], ◌∷◌, ◌++◌, map, refl, sym, ap, ◌∙◌, subst}
use Rattle.tv_formula.specs.Properties.{Property, Properties, none, more}
use Rattle.tv_cases.specs.LinearCases.{CaseSystem}
use Rattle.tv_cert.specs.declared.node.Node.{Node, Node', Row_of-Node, end_of-Node, more_of-Node, items-the_row-Node}
use Rattle.tv_cert.specs.declared.node.Node.{outs-Node'}
use Rattle.tv_cert.specs.Obligations.{About, Entry, paired}
use Rattle.tv_cert.specs.Nodes.{parts, size, node_owes, node_entries, children_entries, own_entries, HasParts, HaveParts}
use Rattle.tv_cert.specs.Fits.{NodeFits, KidsFit}
use Rattle.tv_cert.specs.NodeViews.{pieces_list}
use Rattle.tv_cert.specs.Statements.{Statement, Statements, no_statement, statement, parts_of, stated, stated_all}
use Rattle.tv_cert.proofs.NodeLemmas.{kids_of, proofs_list, out_is, kid_pieces_are}
use Rattle.tv_cert.proofs.StatedLemmas.{parts-stated}

abbrev pub listed_entries : ℕ → CaseSystem → Statements → List Node → List Entry
listed_entries number system ss [] = []
listed_entries number system no_statement (a ∷ kids) = []
listed_entries number system (statement s ss) (a ∷ kids) = node_entries number system s a ++ listed_entries (number + size a) system ss kids

abbrev pub parts_list : Statements → List Node → Type 0
parts_list no_statement [] = Unit {0}
parts_list no_statement (a ∷ kids) = ⊥
parts_list (statement s ss) [] = ⊥
parts_list (statement s ss) (a ∷ kids) = HasParts s a × parts_list ss kids

listed_entries_are : {k : _} (number : ℕ) (system : CaseSystem) (ss : Statements) (kids : Row_of-Node k) → children_entries number system ss kids ≡ listed_entries number system ss (items-the_row-Node k kids)
listed_entries_are number system no_statement end_of-Node = refl
listed_entries_are number system (statement s ss) end_of-Node = refl
listed_entries_are number system no_statement (more_of-Node a kids) = refl
listed_entries_are number system (statement s ss) (more_of-Node a kids) = ap (λ es. node_entries number system s a ++ es) (listed_entries_are (number + size a) system ss kids)

parts_list_is : {k : _} (ss : Statements) (kids : Row_of-Node k) → HaveParts ss kids → parts_list ss (items-the_row-Node k kids)
parts_list_is no_statement end_of-Node h = tt
parts_list_is no_statement (more_of-Node a kids) h = absurd h
parts_list_is (statement s ss) end_of-Node h = absurd h
parts_list_is (statement s ss) (more_of-Node a kids) h = (h.0, parts_list_is ss kids h.1)

pub node_entries_are : (number : ℕ) (system : CaseSystem) (s : Statement) (node : Node) → node_entries number system s node ≡ listed_entries (number + 1) system (parts_of s) (kids_of node) ++ own_entries number system s node
node_entries_are number system s (Node' ps m shape kids proofs) =
    ap (λ es. es ++ own_entries number system s (Node' ps m shape kids proofs)) (listed_entries_are (number + 1) system (parts_of s) kids ∙ ap (listed_entries (number + 1) system (parts_of s)) (sym (out_is ps m shape kids proofs)))

pub parts_are : (s : Statement) (node : Node) → HasParts s node → parts_list (parts_of s) (kids_of node)
parts_are s (Node' ps m shape kids proofs) h = subst (parts_list (parts_of s)) (sym (out_is ps m shape kids proofs)) (parts_list_is (parts_of s) kids h)

pub own_entries_are : (number : ℕ) (system : CaseSystem) (s : Statement) (node : Node) → own_entries number system s node ≡ paired (node_owes number system s (pieces_list node) (map pieces_list (kids_of node))) (proofs_list node)
own_entries_are number system s (Node' ps m shape kids proofs) =
    let a = ap (λ x. x.pieces) (outs-Node' ps m shape kids proofs) in
    let b = kid_pieces_are kids ∙ ap (map pieces_list) (sym (out_is ps m shape kids proofs)) in
    let c = ap (λ x. x.proofs.items) (outs-Node' ps m shape kids proofs) in
    (λ i. paired (node_owes number system s (sym a i) (b i)) (sym c i))

-- a node that fits a formula has a child for each argument of what it states
mutual
  pub fits_parts : (about : About) (n : ℕ) (f : Property) (node : Node) → NodeFits n f node → HasParts (stated about.tests f) node
  fits_parts about n f (Node' ps m shape kids proofs) h = subst (λ ss. HaveParts ss kids) (sym (parts-stated about f)) (kids_parts about n (parts f) kids h.1)

  kids_parts : {k : _} (about : About) (n : ℕ) (fs : Properties) (kids : Row_of-Node k) → KidsFit n fs kids → HaveParts (stated_all about.tests fs) kids
  kids_parts about n none end_of-Node h = tt
  kids_parts about n none (more_of-Node a kids) h = absurd h
  kids_parts about n (more f fs) end_of-Node h = absurd h
  kids_parts about n (more f fs) (more_of-Node a kids) h = (fits_parts about n f a h.0, kids_parts about n fs kids h.1)
