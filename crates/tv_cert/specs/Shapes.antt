-- The shape of certificates: which pieces, counts, indices and proofs stand where, whether or not the obligations are met.
use Rattle.std.specs.Prelude.{◌≡◌, ℕ, ◌+◌, ◌^◌, ◌<◌, ◌≤◌, List, length, map, All, ℤ, slice_get, Option, None, Some, IsSome, Bool, true, false, IsTrue, if◌then◌else◌}
use Rattle.std.specs.List.{AllZip}
use Rattle.std.specs.Option.{option_map}
use Rattle.tv_formula.specs.declared.tree.Shape.TheVariants.{Until, Strong}
use Rattle.tv_formula.specs.Properties.{Property, Properties}
use Rattle.tv_linear.specs.declared.cover.CoverTree.{CoverTree}
use Rattle.tv_linear.specs.declared.cover.CoverTree as cover
use Rattle.tv_linear.specs.declared.choice.ChoiceTree.{ChoiceTree}
use Rattle.tv_linear.specs.declared.choice.ChoiceTree as choice
use Rattle.tv_linear.specs.Linear.{Linear, columns}
use Rattle.tv_linear.specs.Known.{Known}
use Rattle.tv_linear.specs.Depth.{splits}
use Rattle.tv_linear.specs.ChoiceDepth.{choice_splits}
use Rattle.tv_cases.specs.LinearCases.{LinearCase, CaseSystem, leaving}
use Rattle.tv_cert.specs.declared.node.Marked.{Marked}
use Rattle.tv_cert.specs.declared.node.Proof.{Proof}
use Rattle.tv_cert.specs.declared.node.Proof.TheVariants.{Covered, Chosen}
use Rattle.tv_cert.specs.declared.node.Node.{Node, Node', Row_of-Node, end_of-Node, more_of-Node}
use Rattle.tv_cert.specs.declared.node.Verdict.{Verdict}
use Rattle.tv_cert.specs.declared.node.Verdict.TheVariants.{Proved, Disproved}
use Rattle.tv_cert.specs.Pieces.{place_of, rows_of, ranks_of, goes, pieces_at}
use Rattle.tv_linear.specs.Covers.{no_target}
use Rattle.tv_cert.specs.Obligations.{About, Owed, a_cover, a_choice, a_point}
use Rattle.tv_cert.specs.Statements.{Statement, ends, along, unsaid, Statements, no_statement, statement, parts_of, stated, stated_all}
use Rattle.tv_cert.specs.Nodes.{kid_pieces, root_entry, node_owes}

-- how many rows are owed on entering a target by a fall, where there is such a target and fall
abbrev pub owed_count : (ℕ → ℕ → Option (List Known)) → ℕ → ℕ → Option ℕ
owed_count owed k j = option_map length (owed k j)

-- as many lists as rows are owed; each list has `count` multipliers
abbrev pub ListsShape : ℕ → Option ℕ → List (List ℤ) → Type 0
ListsShape count None lists = ⊥
ListsShape count (Some rows) lists = (length lists ≡ rows) × All (λ ms. length ms ≡ count) lists

-- The shape of a cover at a place with `known` known rows: split rows have n columns, there is one multiplier for each row of the
-- place, and one more for the denial of a row to be shown. `counts` says how many rows a target and fall owe.
abbrev pub CoverShape : ℕ → (ℕ → ℕ → Option ℕ) → ℕ → CoverTree → Type 0
CoverShape n counts known (cover.Split' r p a q b) = (columns r ≡ n) × CoverShape n counts (known + 1) a × CoverShape n counts (known + 1) b
CoverShape n counts known (cover.Empty ms) = length ms.items ≡ known
CoverShape n counts known (cover.Into k j lists) = ListsShape (known + 1) (counts k j) (map (λ l. l.items) lists.items)

-- a cover without targets for each case: its split rows speak of the draws too
abbrev pub NoStepShape : ℕ → ℕ → List LinearCase → List CoverTree → Type 0
NoStepShape n known cases covers = AllZip (λ c tree. CoverShape (n + c.draws) (owed_count no_target) (known + length c.guards) tree) cases covers

-- there is such a case, from the location, with one term over n variables for each of its draws; its guards and the rows owed have
-- their lists
abbrev pub TakeShape : ℕ → ℕ → (LinearCase → List Linear → ℕ → ℕ → Option (List Known)) → ℕ → Option LinearCase → ℕ → ℕ → List Linear → List (List ℤ) → Type 0
TakeShape n l owed known None k j draws lists = ⊥
TakeShape n l owed known (Some c) k j draws lists =
    (c.from ≡ l) × (length draws ≡ c.draws) × All (λ r. columns r ≡ n) draws
    × ListsShape (known + 1) (option_map (λ rows. length c.guards + length rows) (owed c draws k j)) lists

-- the shape of a choice at a place with `known` known rows over n variables, at a location
abbrev pub ChoiceShape : ℕ → List LinearCase → ℕ → Bool → (LinearCase → List Linear → ℕ → ℕ → Option (List Known)) → ℕ → ChoiceTree → Type 0
ChoiceShape n cases l stop owed known (choice.Split' r p a q b) =
    (columns r ≡ n) × ChoiceShape n cases l stop owed (known + 1) a × ChoiceShape n cases l stop owed (known + 1) b
ChoiceShape n cases l stop owed known (choice.Empty ms) = length ms.items ≡ known
ChoiceShape n cases l stop owed known (choice.NoStep covers) = IsTrue stop × NoStepShape n known (leaving l cases) covers.items
ChoiceShape n cases l stop owed known (choice.Take k target j draws lists) =
    TakeShape n l owed known (slice_get cases k) target j draws.items (map (λ x. x.items) lists.items)

-- what is offered has the shape of what is owed, with at most 128 splits on a path
abbrev pub ProofShape : Owed → Proof → Type 0
ProofShape (a_cover n known owed) (Covered tree) = CoverShape n (owed_count owed) (length known) tree × (splits tree ≤ 128)
ProofShape (a_cover n known owed) (Chosen tree) = ⊥
ProofShape (a_choice n cases l stop owed known) (Covered tree) = ⊥
ProofShape (a_choice n cases l stop owed known) (Chosen tree) = ChoiceShape n cases l stop owed (length known) tree × (choice_splits tree ≤ 128)
ProofShape (a_point xs rows) proof = ⊥

-- whether pieces may be done: in fixpoints alone
abbrev pub may_be_done : Statement → Bool
may_be_done (along path shape s t) = true
may_be_done s = false

-- whether pieces may have ranks: where what is claimed is that something comes at last
abbrev pub may_rank : Statement → Bool
may_rank ends = true
may_rank (along path Until s t) = true
may_rank (along path Strong s t) = true
may_rank s = false

-- the formula is normal
abbrev pub IsSaid : Statement → Type 0
IsSaid unsaid = ⊥
IsSaid s = Unit {0}

-- The shape of a piece of a node with m ranks: its location is one of the program's, its rows and ranks are over the variables,
-- and it has m ranks where it goes on.
pub record PieceShape (system : CaseSystem) (m : ℕ) (ends : Bool) (p : Marked) : Type 0 where
  pub place : place_of p < system.locations
  pub poly : p.columns ≡ system.variables
  pub rows : All (λ r. columns r ≡ system.variables) (rows_of p)
  pub ranks : All (λ r. columns r ≡ system.variables) (ranks_of p)
  pub many : length (ranks_of p) ≡ (if goes p then m else 0)
  pub marks : ends ≡ false → goes p ≡ true

-- The shape of a node's own parts over the pieces of its children: the number of its ranks has 32 bits, and there are its pieces and a
-- proof for each of its obligations.
pub record OwnShape (system : CaseSystem) (s : Statement) (m : ℕ) (ps : List Marked) (kids : List (List Marked)) (proofs : List Proof) : Type 0 where
  pub said : IsSaid s
  pub ranked : may_rank s ≡ false → m ≡ 0
  pub small : m < 2 ^ 32
  pub each : All (PieceShape system m (may_be_done s)) ps
  pub offered : AllZip (λ o p. ProofShape o.owed p) (node_owes 0 system s ps kids) proofs

abbrev mutual
  -- the node has the shape of a node that shows the statement, and its children have those of the arguments
  pub NodeShape : CaseSystem → Statement → Node → Type 0
  NodeShape system s (Node' ps m shape kids proofs) = OwnShape system s m ps (kid_pieces kids) proofs.items × KidsShape system (parts_of s) kids

  pub KidsShape : {k : _} → CaseSystem → Statements → Row_of-Node k → Type 0
  KidsShape system no_statement end_of-Node = Unit {0}
  KidsShape system no_statement (more_of-Node a kids) = ⊥
  KidsShape system (statement s ss) end_of-Node = ⊥
  KidsShape system (statement s ss) (more_of-Node a kids) = NodeShape system s a × KidsShape system ss kids

-- the same for a formula, by what it states
abbrev pub HasShape : About → Property → Node → Type 0
HasShape about f = NodeShape about.system (stated about.tests f)

abbrev pub HaveShapes : {k : _} → About → Properties → Row_of-Node k → Type 0
HaveShapes about fs = KidsShape about.system (stated_all about.tests fs)

-- the shape of what a certificate says over the pieces of its root: a cover of the start, or a piece there and as many values as variables
abbrev pub VerdictShape : About → List Marked → Verdict → Type 0
VerdictShape about ps (Proved tree) = ProofShape (root_entry about ps (Proved tree)).obligation.owed (Covered tree)
VerdictShape about ps (Disproved k values) = (length values.items ≡ about.system.variables) × IsSome (slice_get (pieces_at ps about.system.start) k)
