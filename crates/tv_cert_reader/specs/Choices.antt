-- What is read of choices.
use Rattle.std.specs.Prelude.{◌≡◌, ℕ, ◌+◌, ◌≤◌, ℤ, pos, Bool, false, List, [], ◌∷◌, length, slice_get, Some, Result}
use Rattle.std.specs.List.{AllZip, flat_map}
use Rattle.std.specs.Global.{Vec}
use Rattle.tv_grammar.specs.Langs.{mapped, each}
use Rattle.tv_linear.specs.Linear.{Linear}
use Rattle.tv_linear.specs.ChoiceDepth.{choice_splits}
use Rattle.tv_linear.specs.declared.cover.CoverTree.{CoverTree}
use Rattle.tv_linear.specs.declared.choice.ChoiceTree.{ChoiceTree, Split'}
use Rattle.tv_linear.specs.Covers.{no_target}
use Rattle.tv_cases.specs.LinearCases.{LinearCase, CaseSystem}
use Rattle.tv_cert.specs.declared.node.Marked.{Marked}
use Rattle.tv_cert.specs.declared.owes.Destination.{Destination}
use Rattle.tv_cert.specs.OwesViews.{destination_owes}
use Rattle.tv_cert.specs.Pieces.{place_of}
use Rattle.tv_cert.specs.Shapes.{ChoiceShape, owed_count}
use Rattle.tv_cert_reader.specs.CertificateLines.{choice_lines, cover_lines}
use Rattle.tv_cert_reader.specs.ChoiceGrammar.{Choosing, choice, stop_cover}
use Rattle.tv_cert_reader.specs.declared.cursor.Cursor.{Cursor}
use Rattle.tv_cert_reader.specs.declared.failure.Failure.{Failure}
use Rattle.tv_cert_reader.specs.Reading.{Reads}
use Rattle.tv_cert_reader.specs.Covers.{IsCoverWithin}

-- what a choice at a piece is read with
abbrev pub choosing_of : CaseSystem → Marked → Bool → Destination → Choosing
choosing_of system p stop destination =
    record { variables = system.variables; cases = system.cases; place = place_of p; may_stop = stop; counts = λ c. owed_count (destination_owes system.variables p destination c []) }

-- a choice of this shape with at most `left` splits on a path
pub record IsChoiceWithin (system : CaseSystem) (p : Marked) (stop : Bool) (destination : Destination) (known left : ℕ) (tree : ChoiceTree) : Type 0 where
  pub shape : ChoiceShape system.variables system.cases (place_of p) stop (destination_owes system.variables p destination) known tree
  pub shallow : choice_splits tree ≤ left

-- such a choice is read
abbrev pub ReadsChoice : CaseSystem → Marked → Bool → Destination → ℕ → ℕ → Cursor → Cursor → Result ChoiceTree Failure → Type 0
ReadsChoice system p stop destination known left old new result = Reads (λ t. t) (IsChoiceWithin system p stop destination known left) choice_lines (choice false left (choosing_of system p stop destination) known) old new result

-- the numbers name this case, which leaves the location of the piece, and this target and fall, which owe `rows` rows whatever the
-- terms of its draws
pub record IsTaken (system : CaseSystem) (p : Marked) (destination : Destination) (zs : List ℤ) (case : LinearCase) (c target fall rows : ℕ) : Type 0 where
  pub numbers : zs ≡ pos c ∷ pos target ∷ pos fall ∷ []
  pub there : slice_get system.cases c ≡ Some case
  pub from : case.from ≡ place_of p
  pub owes : (draws : List Linear) → owed_count (destination_owes system.variables p destination case draws) target fall ≡ Some rows

-- the numbers name no case that leaves the location of the piece, with a target and a fall
abbrev pub NamesNoCase : CaseSystem → Marked → Destination → List ℤ → Type 0
NamesNoCase system p destination zs =
    (case : LinearCase) (c target fall rows : ℕ) → zs ≡ pos c ∷ pos target ∷ pos fall ∷ [] → slice_get system.cases c ≡ Some case → case.from ≡ place_of p
    → owed_count (destination_owes system.variables p destination case []) target fall ≡ Some rows → ⊥

-- a cover without targets of the guards of a case is read
abbrev pub ReadsStop : ℕ → ℕ → ℕ → LinearCase → Cursor → Cursor → Result CoverTree Failure → Type 0
ReadsStop n known left c old new result = Reads (λ t. t) (IsCoverWithin (n + c.draws) (owed_count no_target) (known + length c.guards) left) cover_lines (stop_cover false left n known c) old new result

-- a cover without targets of the guards of a case, with at most `left` splits
abbrev pub IsStop : ℕ → ℕ → ℕ → LinearCase → CoverTree → Type 0
IsStop n known left c tree = IsCoverWithin (n + c.draws) (owed_count no_target) (known + length c.guards) left tree

-- one for each of these cases is read
abbrev pub ReadsStops : ℕ → ℕ → ℕ → List LinearCase → Cursor → Cursor → Result (Vec CoverTree) Failure → Type 0
ReadsStops n known left cases old new result = Reads (λ v. v.items) (AllZip (IsStop n known left) cases) (flat_map cover_lines) (mapped (λ all. tt {0}) (each (stop_cover false left n known) cases)) old new result

-- the tree is a split at the row, with these sides
abbrev pub IsChoiceSplitOf : Linear → ChoiceTree → ChoiceTree → ChoiceTree → Type 0
IsChoiceSplitOf row holds fails (Split' r p a q b) = (r ≡ row) × (a ≡ holds) × (b ≡ fails)
IsChoiceSplitOf row holds fails _ = ⊥
