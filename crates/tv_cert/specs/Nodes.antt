use Rattle.std.specs.Prelude.{ℕ, suc, ◌+◌, List, [], ◌∷◌, ◌++◌, map, false, not, ◌==◌, slice_get, None, Some}
use Rattle.std.specs.List.{flat_map}
use Rattle.std.specs.Option.{option_map}
use Rattle.tv_formula.specs.Properties.{Property, truth, compare, at, term, negated, all_of, some_of, next, fix, Properties, none, more}
use Rattle.tv_formula.specs.declared.tree.Path.TheVariants.{Every, Any}
use Rattle.tv_cases.specs.LinearCases.{CaseSystem}
use Rattle.tv_linear.specs.Known.{given}
use Rattle.tv_cert.specs.declared.node.Marked.{Marked}
use Rattle.tv_cert.specs.declared.node.Proof.TheVariants.{Covered}
use Rattle.tv_cert.specs.declared.node.Kind.TheVariants as kind
use Rattle.tv_cert.specs.declared.node.Node.{Node, Node', Row_of-Node, end_of-Node, more_of-Node}
use Rattle.tv_cert.specs.declared.node.Verdict.{Verdict}
use Rattle.tv_cert.specs.declared.node.Verdict.TheVariants.{Proved, Disproved}
use Rattle.tv_cert.specs.Pieces.{place_of, goes, rows_of, pieces_at}
use Rattle.tv_cert.specs.Targets.{owed_into, no_fall}
use Rattle.tv_cert.specs.Obligations.{About, Obligation, Entry, a_cover, a_point, atom_of, cover_of, steps_of, choice_of, choice_into, step_fall, truth_targets, fix_of, first_of, second_of, paired}
use Rattle.tv_cert.specs.AboutSystem.{about_of}
use Rattle.tv_cert.specs.Statements.{Statement, rows, here, elsewhere, ends, never_ends, each_of, one_of, after, along, unsaid, Statements, no_statement, statement, parts_of, stated, stated_all}

-- the pieces of a node and of its children
abbrev pub pieces_of : Node → List Marked
pieces_of (Node' ps m shape kids proofs) = ps

abbrev pub kid_pieces : {k : _} → Row_of-Node k → List (List Marked)
kid_pieces end_of-Node = []
kid_pieces (more_of-Node a kids) = pieces_of a ∷ kid_pieces kids

-- the arguments of a formula
abbrev pub parts : Property → Properties
parts (truth b) = none
parts (compare r a b) = none
parts (at l) = none
parts term = none
parts (negated f) = none
parts (all_of fs) = fs
parts (some_of fs) = fs
parts (next path f) = more f none
parts (fix path shape f g) = more f (more g none)

abbrev mutual
  -- the number of nodes
  pub size : Node → ℕ
  size (Node' ps m shape kids proofs) = suc (sizes kids)

  pub sizes : {k : _} → Row_of-Node k → ℕ
  sizes end_of-Node = 0
  sizes (more_of-Node a kids) = size a + sizes kids

-- ---- the obligations of a node by the statement that it is to show
-- the obligations of a node at one of its pieces
abbrev pub piece_owes : ℕ → CaseSystem → Statement → List Marked → List (List Marked) → Marked → List Obligation
piece_owes number system (rows lists) ps kids p = atom_of number (about_of system) p lists ∷ []
piece_owes number system (here l) ps kids p = atom_of number (about_of system) p (truth_targets (place_of p == l)) ∷ []
piece_owes number system (elsewhere l) ps kids p = atom_of number (about_of system) p (truth_targets (not (place_of p == l))) ∷ []
piece_owes number system ends ps kids p = steps_of number (about_of system) p ps (step_fall (about_of system) p)
piece_owes number system never_ends ps kids p = choice_of number kind.Choice (about_of system) p false (choice_into (about_of system) ps (λ c draws. no_fall)) ∷ []
piece_owes number system (each_of ss) ps kids p = map (cover_of number kind.Child (about_of system) p) kids
piece_owes number system (one_of ss) ps kids p = cover_of number kind.Child (about_of system) p (flat_map (λ a. a) kids) ∷ []
piece_owes number system (after Every s) ps kids p = steps_of number (about_of system) p (first_of kids) (λ c. no_fall)
piece_owes number system (after Any s) ps kids p = choice_of number kind.Choice (about_of system) p false (choice_into (about_of system) (first_of kids) (λ c draws. no_fall)) ∷ []
piece_owes number system (along path shape s t) ps kids p = fix_of number (about_of system) path shape ps (first_of kids) (second_of kids) p (goes p)
piece_owes number system unsaid ps kids p = []

-- the node's own obligations, by pieces in order
abbrev pub node_owes : ℕ → CaseSystem → Statement → List Marked → List (List Marked) → List Obligation
node_owes number system s ps kids = flat_map (piece_owes number system s ps kids) ps

abbrev mutual
  -- the entries of the node with this number and of those below it
  pub node_entries : ℕ → CaseSystem → Statement → Node → List Entry
  node_entries number system s (Node' ps m shape kids proofs) =
      children_entries (number + 1) system (parts_of s) kids ++ paired (node_owes number system s ps (kid_pieces kids)) proofs.items

  pub children_entries : {k : _} → ℕ → CaseSystem → Statements → Row_of-Node k → List Entry
  children_entries number system ss end_of-Node = []
  children_entries number system no_statement (more_of-Node a kids) = []
  children_entries number system (statement s ss) (more_of-Node a kids) = node_entries number system s a ++ children_entries (number + size a) system ss kids

-- the node's own entries
abbrev pub own_entries : ℕ → CaseSystem → Statement → Node → List Entry
own_entries number system s (Node' ps m shape kids proofs) = paired (node_owes number system s ps (kid_pieces kids)) proofs.items

abbrev mutual
  -- the node and those below it have a child for each argument of what they are to show
  pub HasParts : Statement → Node → Type 0
  HasParts s (Node' ps m shape kids proofs) = HaveParts (parts_of s) kids

  pub HaveParts : {k : _} → Statements → Row_of-Node k → Type 0
  HaveParts no_statement end_of-Node = Unit {0}
  HaveParts no_statement (more_of-Node a kids) = ⊥
  HaveParts (statement s ss) end_of-Node = ⊥
  HaveParts (statement s ss) (more_of-Node a kids) = HasParts s a × HaveParts ss kids

-- ---- the same for a formula, by what it states
abbrev pub piece_of : ℕ → About → Property → List Marked → List (List Marked) → Marked → List Obligation
piece_of number about f = piece_owes number about.system (stated about.tests f)

abbrev pub own_of : ℕ → About → Property → List Marked → List (List Marked) → List Obligation
own_of number about f = node_owes number about.system (stated about.tests f)

abbrev pub entries : ℕ → About → Property → Node → List Entry
entries number about f = node_entries number about.system (stated about.tests f)

abbrev pub kid_entries : {k : _} → ℕ → About → Properties → Row_of-Node k → List Entry
kid_entries number about fs = children_entries number about.system (stated_all about.tests fs)

-- the root's entry: the start is covered by the pieces of the root, or the values are in one of them
abbrev pub root_entry : About → List Marked → Verdict → Entry
root_entry about ps (Proved tree) =
    record { obligation = record { node = 0; kind = kind.Root; owed = a_cover about.system.variables [] (owed_into ps about.system.start given no_fall) }; proof = Some (Covered tree) }
root_entry about ps (Disproved k values) =
    record { obligation = record { node = 0; kind = kind.Root; owed = a_point values.items (option_map rows_of (slice_get (pieces_at ps about.system.start) k)) }; proof = None }

-- the obligations of a certificate with their proofs, numbered from 1
abbrev pub obligations : About → Property → Node → Verdict → List Entry
obligations about f root verdict = entries 0 about f root ++ root_entry about (pieces_of root) verdict ∷ []
