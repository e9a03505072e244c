-- What is read and checked at once.
use Rattle.std.specs.Prelude.{◌≡◌, ℕ, ◌+◌, ◌↔◌, ℤ, pos, List, [], ◌∷◌, ◌++◌, length, map, false, Bool, IsTrue, Option, Some, Result, Ok, Err}
use Rattle.std.specs.Global.{Vec}
use Rattle.std.specs.List.{AllZip, flat_map}
use Rattle.tv_grammar.specs.Langs.{mapped, each}
use Rattle.tv_linear.specs.Linear.{Linear}
use Rattle.tv_linear.specs.Known.{Known, as_given, given, denied}
use Rattle.tv_linear.specs.Covers.{Shown, IsMetCover, no_target}
use Rattle.tv_linear.specs.declared.cover.CoverTree.{CoverTree}
use Rattle.tv_linear.specs.declared.choice.ChoiceTree.{ChoiceTree}
use Rattle.tv_cases.specs.LinearCases.{LinearCase, CaseSystem}
use Rattle.tv_cert.specs.declared.node.Marked.{Marked}
use Rattle.tv_cert.specs.declared.node.Proof.{Proof}
use Rattle.tv_cert.specs.declared.owes.Destination.{Destination}
use Rattle.tv_cert.specs.Choices.{IsMetChoice, NoStepMet}
use Rattle.tv_cert.specs.Obligations.{Owed, OwedMet}
use Rattle.tv_cert.specs.OwesViews.{destination_owes}
use Rattle.tv_cert.specs.Pieces.{place_of}
use Rattle.tv_cert.specs.Shapes.{owed_count, ProofShape}
use Rattle.tv_cert_reader.specs.CertificateLines.{by_lines, cover_lines, choice_lines, proof_lines}
use Rattle.tv_cert_reader.specs.Demands.{demand_of}
use Rattle.tv_cert_reader.specs.LineGrammar.{Grammar, many, by}
use Rattle.tv_cert_reader.specs.CoverGrammar.{both, cover}
use Rattle.tv_cert_reader.specs.ChoiceGrammar.{choice, demanded, stop_cover}
use Rattle.tv_cert_reader.specs.declared.cursor.Cursor.{Cursor}
use Rattle.tv_cert_reader.specs.declared.failure.Failure.{Failure}
use Rattle.tv_cert_reader.specs.Reading.{Takes, FailsBy}
use Rattle.tv_cert_reader.specs.Parts.{AreMany, AreNumbers}
use Rattle.tv_cert_reader.specs.Covers.{IsCoverWithin}
use Rattle.tv_cert_reader.specs.Choices.{choosing_of, IsChoiceWithin, IsStop}
use Rattle.tv_cert.specs.declared.owed.Entered.{Entered}
use Rattle.tv_cert.specs.Entering.{entered_listed}

-- ---- lines of multipliers

abbrev pub numbers_in : List (Vec ℤ) → List (List ℤ)
numbers_in vs = map (λ v. v.items) vs

-- Lines of multipliers were read, one for each of these rows. It is reported whether they show them where others are known.
pub record CheckedLists (n : ℕ) (known rows : List Known) (old new : Cursor) (met : Bool) : Type 0 where
  pub lists : List (Vec ℤ)
  pub many : AreMany (AreNumbers (length known + 1)) (length rows) (numbers_in lists)
  pub took : Takes (by_lines (numbers_in lists)) old new
  pub told : IsTrue met ↔ Shown n known rows (numbers_in lists)

-- they are read, or the first fault is reported
abbrev pub ChecksLists : ℕ → List Known → List Known → Cursor → Cursor → Result Bool Failure → Type 0
ChecksLists n known rows old new (Ok met) = CheckedLists n known rows old new met
ChecksLists n known rows old new (Err f) = FailsBy (many (length rows) (by (length known + 1))) old f

-- ---- covers

-- the numbers name no target and fall
abbrev pub EntersNone : (ℕ → ℕ → Option (List Known)) → List ℤ → Type 0
EntersNone owed zs = (target fall : ℕ) (rows : List Known) → zs ≡ pos target ∷ pos fall ∷ [] → owed target fall ≡ Some rows → ⊥

-- the numbers name a target and a fall, which owe these rows, changed
pub record IsEntered (change : Linear → Known) (owed : ℕ → ℕ → Option (List Known)) (zs : List ℤ) (entered : Entered) : Type 0 where
  pub target : ℕ
  pub fall : ℕ
  pub numbers : zs ≡ pos target ∷ pos fall ∷ []
  pub owes : owed target fall ≡ Some (entered_listed change entered)

-- a cover was read of a place where these rows are known, and it is reported whether it is met there
pub record CheckedCover (n : ℕ) (owed : ℕ → ℕ → Option (List Known)) (known : List Known) (left : ℕ) (old new : Cursor) (met : Bool) : Type 0 where
  pub tree : CoverTree
  pub within : IsCoverWithin n (owed_count owed) (length known) left tree
  pub took : Takes (cover_lines tree) old new
  pub told : IsTrue met ↔ IsMetCover n owed known tree

abbrev pub ChecksCover : ℕ → (ℕ → ℕ → Option (List Known)) → List Known → ℕ → Cursor → Cursor → Result Bool Failure → Type 0
ChecksCover n owed known left old new (Ok met) = CheckedCover n owed known left old new met
ChecksCover n owed known left old new (Err f) = FailsBy (cover false left n (length known) (owed_count owed)) old f

-- covers were read where the row is met and where its denial is, and it is reported whether both are met
pub record CheckedSides (n : ℕ) (owed : ℕ → ℕ → Option (List Known)) (known : List Known) (left : ℕ) (row : Linear) (old new : Cursor) (met : Bool) : Type 0 where
  pub middle : Cursor
  pub inside : Bool
  pub outside : Bool
  pub holds : CheckedCover n owed (known ++ given row ∷ []) left old middle inside
  pub fails : CheckedCover n owed (known ++ denied (given row) ∷ []) left middle new outside
  pub told : IsTrue met ↔ (IsTrue inside × IsTrue outside)

abbrev pub cover_side : ℕ → (ℕ → ℕ → Option (List Known)) → List Known → ℕ → Grammar (Unit {0})
cover_side n owed known left = cover false left n (length known + 1) (owed_count owed)

abbrev pub ChecksSides : ℕ → (ℕ → ℕ → Option (List Known)) → List Known → ℕ → Linear → Cursor → Cursor → Result Bool Failure → Type 0
ChecksSides n owed known left row old new (Ok met) = CheckedSides n owed known left row old new met
ChecksSides n owed known left row old new (Err f) = FailsBy (both (cover_side n owed known left) (cover_side n owed known left)) old f

-- ---- choices

-- a cover without targets of the guards of a case
abbrev pub ChecksStop : ℕ → List Known → ℕ → LinearCase → Cursor → Cursor → Result Bool Failure → Type 0
ChecksStop n known left c old new result = ChecksCover (n + c.draws) no_target (known ++ as_given c.guards) left old new result

-- such a cover was read for each of these cases, and it is reported whether all are met
pub record CheckedStops (n : ℕ) (known : List Known) (left : ℕ) (cases : List LinearCase) (old new : Cursor) (met : Bool) : Type 0 where
  pub covers : List CoverTree
  pub zip : AllZip (IsStop n (length known) left) cases covers
  pub took : Takes (flat_map cover_lines covers) old new
  pub told : IsTrue met ↔ NoStepMet n known cases covers

abbrev pub ChecksStops : ℕ → List Known → ℕ → List LinearCase → Cursor → Cursor → Result Bool Failure → Type 0
ChecksStops n known left cases old new (Ok met) = CheckedStops n known left cases old new met
ChecksStops n known left cases old new (Err f) = FailsBy (mapped (λ all. tt {0}) (each (stop_cover false left n (length known)) cases)) old f

-- a choice was read at a piece where these rows are known, and it is reported whether it is met there
pub record CheckedChoice (system : CaseSystem) (p : Marked) (stop : Bool) (destination : Destination) (known : List Known) (left : ℕ) (old new : Cursor) (met : Bool) : Type 0 where
  pub tree : ChoiceTree
  pub within : IsChoiceWithin system p stop destination (length known) left tree
  pub took : Takes (choice_lines tree) old new
  pub told : IsTrue met ↔ IsMetChoice system.variables system.cases (place_of p) stop (destination_owes system.variables p destination) known tree

abbrev pub ChecksChoice : CaseSystem → Marked → Bool → Destination → List Known → ℕ → Cursor → Cursor → Result Bool Failure → Type 0
ChecksChoice system p stop destination known left old new (Ok met) = CheckedChoice system p stop destination known left old new met
ChecksChoice system p stop destination known left old new (Err f) = FailsBy (choice false left (choosing_of system p stop destination) (length known)) old f

-- choices were read where the row is met and where its denial is, and it is reported whether both are met
pub record CheckedChoiceSides (system : CaseSystem) (p : Marked) (stop : Bool) (destination : Destination) (known : List Known) (left : ℕ) (row : Linear) (old new : Cursor) (met : Bool) : Type 0 where
  pub middle : Cursor
  pub inside : Bool
  pub outside : Bool
  pub holds : CheckedChoice system p stop destination (known ++ given row ∷ []) left old middle inside
  pub fails : CheckedChoice system p stop destination (known ++ denied (given row) ∷ []) left middle new outside
  pub told : IsTrue met ↔ (IsTrue inside × IsTrue outside)

abbrev pub choice_side : CaseSystem → Marked → Bool → Destination → List Known → ℕ → Grammar (Unit {0})
choice_side system p stop destination known left = choice false left (choosing_of system p stop destination) (length known + 1)

abbrev pub ChecksChoiceSides : CaseSystem → Marked → Bool → Destination → List Known → ℕ → Linear → Cursor → Cursor → Result Bool Failure → Type 0
ChecksChoiceSides system p stop destination known left row old new (Ok met) = CheckedChoiceSides system p stop destination known left row old new met
ChecksChoiceSides system p stop destination known left row old new (Err f) = FailsBy (both (choice_side system p stop destination known left) (choice_side system p stop destination known left)) old f

-- ---- what is owed

-- a proof of what is owed was read, and it is reported whether it meets that
pub record CheckedProof (o : Owed) (old new : Cursor) (met : Bool) : Type 0 where
  pub proof : Proof
  pub is_proof : ProofShape o proof
  pub took : Takes (proof_lines proof) old new
  pub told : IsTrue met ↔ OwedMet o (Some proof)

abbrev pub ChecksProof : Owed → Cursor → Cursor → Result Bool Failure → Type 0
ChecksProof o old new (Ok met) = CheckedProof o old new met
ChecksProof o old new (Err f) = FailsBy (demanded false (demand_of o)) old f
