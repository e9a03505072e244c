-- What is offered for the obligations of a node.
use Rattle.std.specs.Prelude.{ℕ, List, ◌++◌}
use Rattle.tv_linear.specs.declared.cover.CoverTree.{CoverTree}
use Rattle.tv_linear.specs.declared.choice.ChoiceTree.{ChoiceTree}
use Rattle.tv_linear.specs.declared.region.Piece.{Piece}
use Rattle.tv_cases.specs.LinearCases.{LinearCase, CaseSystem}
use Rattle.tv_cert.specs.declared.node.Kind.{Kind}
use Rattle.tv_cert.specs.declared.node.Kind.TheVariants as kind
use Rattle.tv_cert.specs.declared.node.Marked.{Marked}
use Rattle.tv_cert.specs.declared.node.Proof.{Proof}
use Rattle.tv_cert.specs.declared.node.Proof.TheVariants.{Covered, Chosen}
use Rattle.tv_cert.specs.Claims.{about_with}
use Rattle.tv_cert.specs.Obligations.{Obligation, cover_of, step_of, choice_of, choice_into}
use Rattle.tv_cert.specs.Targets.{no_fall, owed_nothing}
use Rattle.std.specs.Prelude.{Bool, false}
use Rattle.tv_shape.specs.Made.{IsOffered, Offers}
use Rattle.tv_pre.specs.Pieces.{IsMarked, AreMarked}

-- after proofs of any obligations, those of these ones were added
abbrev pub Adds : List Obligation → List Proof → List Proof → Type 0
Adds obligations old new = (before : List Obligation) → Offers before old → Offers (before ++ obligations) new

-- ---- wherever the pieces stand in nodes

-- the cover is offered for an obligation that the piece lies in these pieces
abbrev pub ShowsInside : CaseSystem → Piece → List Piece → CoverTree → Type 0
ShowsInside about q into tree =
    (number : ℕ) (k : Kind) (p : Marked) (ps : List Marked) → IsMarked p q → AreMarked ps into → IsOffered (cover_of number k (about_with about) p ps) (Covered tree)

-- the cover is offered for an obligation that the case leads from the piece into these pieces, where no fall is owed
abbrev pub ShowsStep : CaseSystem → Piece → LinearCase → List Piece → CoverTree → Type 0
ShowsStep about q c into tree =
    (number : ℕ) (p : Marked) (ps : List Marked) → IsMarked p q → AreMarked ps into → IsOffered (step_of number (about_with about) p ps (λ c. no_fall) c) (Covered tree)

-- the choice is offered for an obligation that from the piece some step leads into these pieces, where no fall is owed
abbrev pub ShowsChoice : CaseSystem → Piece → Bool → List Piece → ChoiceTree → Type 0
ShowsChoice about q stop into tree =
    (number : ℕ) (k : Kind) (p : Marked) (ps : List Marked) → IsMarked p q → AreMarked ps into →
    IsOffered (choice_of number k (about_with about) p stop (choice_into (about_with about) ps (λ c draws. no_fall))) (Chosen tree)

-- the choice is offered for the obligation that from the piece some step leads anywhere
abbrev pub ShowsSuccessor : CaseSystem → Piece → ChoiceTree → Type 0
ShowsSuccessor about q tree =
    (number : ℕ) (p : Marked) → IsMarked p q → IsOffered (choice_of number kind.Successor (about_with about) p false (λ c draws. owed_nothing)) (Chosen tree)
