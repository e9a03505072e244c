use Rattle.std.specs.Prelude.{ℕ, ◌+◌, List, [], ◌∷◌, ◌++◌, map, All, ℤ, Option, None, Some, true, false, Bool}
use Rattle.tv_formula.specs.declared.tree.Path.{Path}
use Rattle.tv_formula.specs.declared.tree.Path.TheVariants.{Every, Any}
use Rattle.tv_formula.specs.declared.tree.Shape.{Shape}
use Rattle.tv_formula.specs.declared.tree.Shape.TheVariants.{Until, Weak, Release, Strong}
use Rattle.tv_program.specs.declared.tree.Relation.{Relation}
use Rattle.tv_program.specs.Trees.{Expression}
use Rattle.tv_linear.specs.Linear.{Linear, IsMet}
use Rattle.tv_linear.specs.Known.{Known, given, composed, as_given}
use Rattle.tv_linear.specs.Covers.{IsMetCover}
use Rattle.tv_linear.specs.Terms.{terms_after}
use Rattle.tv_cases.specs.LinearCases.{LinearCase, CaseSystem, leaving}
use Rattle.tv_cert.specs.declared.node.Marked.{Marked}
use Rattle.tv_cert.specs.declared.node.Proof.{Proof}
use Rattle.tv_cert.specs.declared.node.Proof.TheVariants.{Covered, Chosen}
use Rattle.tv_cert.specs.declared.node.Kind.{Kind}
use Rattle.tv_cert.specs.declared.node.Kind.TheVariants as kind
use Rattle.tv_cert.specs.Pieces.{place_of, rows_of, ranks_of}
use Rattle.tv_cert.specs.Targets.{owed_into, changed_lists, owed_nothing, no_fall, fall_from}
use Rattle.tv_cert.specs.Choices.{IsMetChoice, drawn_change}

-- what a certificate is about: the cases of a program, and the lists of rows of a comparison; one list is met where it is true
pub record About : Type 0 where
  pub system : CaseSystem
  pub tests : Relation → Expression → Expression → List (List Linear)

-- what is owed: a cover of known rows, a choice at them, or that a point meets rows
pub data Owed : Type 0 where
  a_cover : ℕ → List Known → (ℕ → ℕ → Option (List Known)) → Owed
  a_choice : ℕ → List LinearCase → ℕ → Bool → (LinearCase → List Linear → ℕ → ℕ → Option (List Known)) → List Known → Owed
  a_point : List ℤ → Option (List Linear) → Owed

-- an obligation of a node
pub record Obligation : Type 0 where
  pub node : ℕ
  pub kind : Kind
  pub owed : Owed

-- an obligation and what is offered for it
pub record Entry : Type 0 where
  pub obligation : Obligation
  pub proof : Option Proof

abbrev pub PointMet : List ℤ → Option (List Linear) → Type 0
PointMet xs None = ⊥
PointMet xs (Some rows) = All (IsMet xs) rows

-- what is offered meets what is owed
abbrev pub OwedMet : Owed → Option Proof → Type 0
OwedMet (a_cover n known owed) None = ⊥
OwedMet (a_cover n known owed) (Some (Covered tree)) = IsMetCover n owed known tree
OwedMet (a_cover n known owed) (Some (Chosen tree)) = ⊥
OwedMet (a_choice n cases l stop owed known) None = ⊥
OwedMet (a_choice n cases l stop owed known) (Some (Covered tree)) = ⊥
OwedMet (a_choice n cases l stop owed known) (Some (Chosen tree)) = IsMetChoice n cases l stop owed known tree
OwedMet (a_point xs rows) proof = PointMet xs rows

-- the obligation of an entry is met
abbrev pub IsMetEntry : Entry → Type 0
IsMetEntry e = OwedMet e.obligation.owed e.proof

-- every obligation of the list is met
abbrev pub AllMet : List Entry → Type 0
AllMet [] = Unit {0}
AllMet (e ∷ es) = IsMetEntry e × AllMet es

-- ---- what a piece of the node with this number may owe

-- a cover of the piece into the pieces of a region at its location
abbrev pub cover_of : ℕ → Kind → About → Marked → List Marked → Obligation
cover_of number k about p into =
    record { node = number; kind = k; owed = a_cover about.system.variables (as_given (rows_of p)) (owed_into into (place_of p) given no_fall) }

-- a cover of the piece into lists of rows
abbrev pub atom_of : ℕ → About → Marked → List (List Linear) → Obligation
atom_of number about p targets =
    record { node = number; kind = kind.Atom; owed = a_cover about.system.variables (as_given (rows_of p)) (changed_lists given targets) }

-- a row of a target after a case
abbrev pub case_change : ℕ → LinearCase → Linear → Known
case_change n c r = composed (given r) (terms_after n c.updates)

-- a cover of the piece and the guards of a case into the pieces of a region where the case leads
abbrev pub step_of : ℕ → About → Marked → List Marked → (LinearCase → Marked → ℕ → Option (List Known)) → LinearCase → Obligation
step_of number about p into fall c =
    record { node = number; kind = kind.Step; owed = a_cover (about.system.variables + c.draws) (as_given (rows_of p) ++ as_given c.guards) (owed_into into c.to (case_change about.system.variables c) (fall c)) }

-- one such cover for each case from the location of the piece
abbrev pub steps_of : ℕ → About → Marked → List Marked → (LinearCase → Marked → ℕ → Option (List Known)) → List Obligation
steps_of number about p into fall = map (step_of number about p into fall) (leaving (place_of p) about.system.cases)

-- a choice at the piece
abbrev pub choice_of : ℕ → Kind → About → Marked → Bool → (LinearCase → List Linear → ℕ → ℕ → Option (List Known)) → Obligation
choice_of number k about p stop owed =
    record { node = number; kind = k; owed = a_choice about.system.variables about.system.cases (place_of p) stop owed (as_given (rows_of p)) }

-- what a choice owes on entering a piece
abbrev pub choice_into : About → List Marked → (LinearCase → List Linear → Marked → ℕ → Option (List Known)) → LinearCase → List Linear → ℕ → ℕ → Option (List Known)
choice_into about ps fall c draws k j = owed_into ps c.to (drawn_change about.system.variables c draws) (fall c draws) k j

-- the falls from the ranks of a piece, over a case, and with terms for its draws
abbrev pub step_fall : About → Marked → LinearCase → Marked → ℕ → Option (List Known)
step_fall about p c = fall_from (case_change about.system.variables c) (ranks_of p)

abbrev pub choice_fall : About → Marked → LinearCase → List Linear → Marked → ℕ → Option (List Known)
choice_fall about p c draws = fall_from (drawn_change about.system.variables c draws) (ranks_of p)

-- true has one target without rows, false has none
abbrev pub truth_targets : Bool → List (List Linear)
truth_targets true = [] ∷ []
truth_targets false = []

-- of the arguments of a fixpoint: what holds on the way, and what holds at the end
abbrev pub hold_side : {A : Type 0} → Shape → A → A → A
hold_side Until a b = a
hold_side Weak a b = a
hold_side Release a b = b
hold_side Strong a b = b

abbrev pub end_sides : {A : Type 0} → Shape → A → A → List A
end_sides Until a b = b ∷ []
end_sides Weak a b = b ∷ []
end_sides Release a b = a ∷ b ∷ []
end_sides Strong a b = a ∷ b ∷ []

-- what follows the hold cover of a piece that goes on
abbrev pub go_of : ℕ → About → Path → Shape → List Marked → Marked → List Obligation
go_of number about Every Until ps p = choice_of number kind.Successor about p false (λ c draws. owed_nothing) ∷ steps_of number about p ps (step_fall about p)
go_of number about Every Strong ps p = choice_of number kind.Successor about p false (λ c draws. owed_nothing) ∷ steps_of number about p ps (step_fall about p)
go_of number about Every Weak ps p = steps_of number about p ps (λ c. no_fall)
go_of number about Every Release ps p = steps_of number about p ps (λ c. no_fall)
go_of number about Any Until ps p = choice_of number kind.Choice about p false (choice_into about ps (choice_fall about p)) ∷ []
go_of number about Any Strong ps p = choice_of number kind.Choice about p false (choice_into about ps (choice_fall about p)) ∷ []
go_of number about Any Weak ps p = choice_of number kind.Choice about p true (choice_into about ps (λ c draws. no_fall)) ∷ []
go_of number about Any Release ps p = choice_of number kind.Choice about p true (choice_into about ps (λ c draws. no_fall)) ∷ []

-- the obligations of a fixpoint, where a and b are the pieces of its arguments
abbrev pub fix_of : ℕ → About → Path → Shape → List Marked → List Marked → List Marked → Marked → Bool → List Obligation
fix_of number about path shape ps a b p false = map (cover_of number kind.Done about p) (end_sides shape a b)
fix_of number about path shape ps a b p true = cover_of number kind.Hold about p (hold_side shape a b) ∷ go_of number about path shape ps p

abbrev pub first_of : List (List Marked) → List Marked
first_of [] = []
first_of (a ∷ kids) = a

abbrev pub second_of : List (List Marked) → List Marked
second_of [] = []
second_of (a ∷ kids) = first_of kids

-- each obligation with the proof at its place
abbrev pub paired : List Obligation → List Proof → List Entry
paired [] proofs = []
paired (o ∷ os) [] = record { obligation = o; proof = None } ∷ paired os []
paired (o ∷ os) (p ∷ proofs) = record { obligation = o; proof = Some p } ∷ paired os proofs
