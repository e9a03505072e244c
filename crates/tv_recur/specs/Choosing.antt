-- Choices made of covers.
use Rattle.std.specs.Prelude.{◌≡◌, ℕ, ◌≤◌, List, length, map, ℤ, slice_get, Option, Some, false}
use Rattle.std.specs.Global.{Vec}
use Rattle.tv_linear.specs.Linear.{Linear, IsNarrow}
use Rattle.tv_linear.specs.Known.{Known, as_given}
use Rattle.tv_linear.specs.ChoiceDepth.{choice_splits}
use Rattle.tv_linear.specs.declared.cover.CoverTree.{CoverTree}
use Rattle.tv_linear.specs.declared.cover.CoverTree as cover
use Rattle.tv_linear.specs.declared.choice.ChoiceTree.{ChoiceTree}
use Rattle.tv_linear.specs.declared.choice.ChoiceTree as choice
use Rattle.tv_cases.specs.LinearCases.{LinearCase, CaseSystem}
use Rattle.tv_cert.specs.declared.node.Marked.{Marked}
use Rattle.tv_cert.specs.Choices.{IsMetChoice, drawn_change}
use Rattle.tv_cert.specs.Pieces.{rows_of, pieces_at}
use Rattle.tv_cert.specs.Shapes.{ChoiceShape}
use Rattle.tv_cert.specs.Targets.{owed_into, no_fall}
use Rattle.tv_shape.specs.Narrow.{ChoiceNarrow}
use Rattle.tv_recur.specs.declared.choosing.Entered.{Entered}

-- The choice has the splits and the refutations of the cover; where the cover enters a target, it takes the case k with these terms for its
-- draws into the piece at this place.
abbrev pub IsChoiceOf : ℕ → ℕ → List Linear → CoverTree → ChoiceTree → Type 0
IsChoiceOf k place draws (cover.Split' r p a q b) (choice.Split' s t x u y) =
    (s ≡ r) × IsNarrow r × IsChoiceOf k place draws a x × IsChoiceOf k place draws b y
IsChoiceOf k place draws (cover.Split' r p a q b) (choice.Empty ms) = ⊥
IsChoiceOf k place draws (cover.Split' r p a q b) (choice.NoStep covers) = ⊥
IsChoiceOf k place draws (cover.Split' r p a q b) (choice.Take taken target fall terms lists) = ⊥
IsChoiceOf k place draws (cover.Empty ns) (choice.Split' s t x u y) = ⊥
IsChoiceOf k place draws (cover.Empty ns) (choice.Empty ms) = ms.items ≡ ns.items
IsChoiceOf k place draws (cover.Empty ns) (choice.NoStep covers) = ⊥
IsChoiceOf k place draws (cover.Empty ns) (choice.Take taken target fall terms lists) = ⊥
IsChoiceOf k place draws (cover.Into other none lines) (choice.Split' s t x u y) = ⊥
IsChoiceOf k place draws (cover.Into other none lines) (choice.Empty ms) = ⊥
IsChoiceOf k place draws (cover.Into other none lines) (choice.NoStep covers) = ⊥
IsChoiceOf k place draws (cover.Into other none lines) (choice.Take taken target fall terms lists) =
    (taken ≡ k) × (target ≡ place) × (fall ≡ 0) × (terms.items ≡ draws) × (map (λ l. l.items) lists.items ≡ map (λ l. l.items) lines.items)

-- the choice splits at the row, with these choices where it is met and where it is not
abbrev pub IsSplitOf : Linear → ChoiceTree → ChoiceTree → ChoiceTree → Type 0
IsSplitOf row holds fails (choice.Split' r p h q f) = (r ≡ row) × (h ≡ holds) × (f ≡ fails)
IsSplitOf row holds fails (choice.Empty ms) = ⊥
IsSplitOf row holds fails (choice.NoStep covers) = ⊥
IsSplitOf row holds fails (choice.Take taken target fall draws lists) = ⊥

-- what a choice owes on entering one of these pieces, where no fall is owed
abbrev pub entering : CaseSystem → List Marked → LinearCase → List Linear → ℕ → ℕ → Option (List Known)
entering about ps c draws k j = owed_into ps c.to (drawn_change about.variables c draws) no_fall k j

-- a choice at a location that is met at the rows and leads into these pieces, with the shape of one, narrow numbers and few splits
pub record IsChoiceAt (about : CaseSystem) (ps : List Marked) (l : ℕ) (rows : List Linear) (tree : ChoiceTree) : Type 0 where
  pub met : IsMetChoice about.variables about.cases l false (entering about ps) (as_given rows) tree
  pub shape : ChoiceShape about.variables about.cases l false (entering about ps) (length (as_given rows)) tree
  pub narrow : ChoiceNarrow tree
  pub shallow : choice_splits tree ≤ 128

-- such a choice, wherever the rows that are entered are those of the piece at this place
abbrev pub LeadsInto : CaseSystem → LinearCase → ℕ → List Linear → List Linear → ChoiceTree → Type 0
LeadsInto about c place rows into tree =
    (ps : List Marked) (q : Marked) → slice_get (pieces_at ps c.to) place ≡ Some q → rows_of q ≡ into → IsChoiceAt about ps c.from rows tree

-- the choice takes the case into the piece, with these lines
abbrev pub IsTakeOf : Entered → List (Vec ℤ) → ChoiceTree → Type 0
IsTakeOf e lines (choice.Split' r p h q f) = ⊥
IsTakeOf e lines (choice.Empty ms) = ⊥
IsTakeOf e lines (choice.NoStep covers) = ⊥
IsTakeOf e lines (choice.Take taken target fall terms lists) =
    (taken ≡ e.number) × (target ≡ e.place) × (fall ≡ 0) × (terms.items ≡ e.draws.now) × (map (λ l. l.items) lists.items ≡ map (λ l. l.items) lines)
