-- Ranks that are numbers, and the falls of covers and choices.
use Rattle.std.specs.Prelude.{◌≡◌, ◌==◌, ℕ, ◌+◌, ◌<◌, ◌≤◌, List, [], ◌∷◌, ◌++◌, length, map, Option, None, Some, slice_get, true, false, ℤ, pos, ◌+ℤ◌, ◌≤ℤ◌}
use Rattle.tv_linear.specs.Linear.{IsWithin}
use Rattle.tv_linear.specs.Arithmetic.{zeros, constant_row}
use Rattle.tv_linear.specs.declared.cover.CoverTree.{CoverTree}
use Rattle.tv_linear.specs.declared.cover.CoverTree as cover
use Rattle.tv_linear.specs.declared.choice.ChoiceTree.{ChoiceTree}
use Rattle.tv_linear.specs.declared.choice.ChoiceTree as choice
use Rattle.tv_linear.specs.declared.region.Piece.{Piece}
use Rattle.tv_cases.specs.LinearCases.{LinearCase, CaseSystem}
use Rattle.tv_cert.specs.declared.node.Kind.TheVariants as kind
use Rattle.tv_cert.specs.declared.node.Marked.{Marked}
use Rattle.tv_cert.specs.declared.node.Proof.TheVariants.{Covered, Chosen}
use Rattle.tv_cert.specs.Claims.{about_with}
use Rattle.tv_cert.specs.Obligations.{step_of, step_fall, choice_of, choice_into, choice_fall}
use Rattle.tv_cert.specs.Pieces.{goes, ranks_of}
use Rattle.std.specs.List.{filter}
use Rattle.tv_pre.specs.Pieces.{IsMarked, AreMarked}
use Rattle.tv_shape.specs.Made.{IsOffered}

-- each item has the property
abbrev pub EachOf : {A : Type 0} → (A → Type 0) → List A → Type 0
EachOf P [] = Unit {0}
EachOf P (x ∷ xs) = P x × EachOf P xs

-- the piece goes on with one rank, a number below another one
pub record IsRankBelow (n : ℕ) (a : ℤ) (p : Marked) : Type 0 where
  pub goes_on : goes p ≡ true
  pub rank : ℤ
  pub ranks : ranks_of p ≡ constant_row n rank ∷ []
  pub below : (rank +ℤ pos 1) ≤ℤ a
  pub not_below_zero : pos 0 ≤ℤ rank

-- A piece of a node whose rank is a number: the pieces that are done stand first in the node, those with lesser ranks next; the two together
-- are the pieces that are entered.
pub record IsLayered (n : ℕ) (q : Piece) (done into : List Piece) (p : Marked) (all : List Marked) : Type 0 where
  pub rank : ℤ
  pub dones : List Marked
  pub ranked : List Marked
  pub later : List Marked
  pub parts : all ≡ dones ++ (ranked ++ later)
  pub marked : IsMarked p q
  pub ranks : ranks_of p ≡ constant_row n rank ∷ []
  pub low : pos 0 ≤ℤ rank
  pub small : IsWithin 62 rank
  pub done_with : EachOf (λ d. goes d ≡ false) dones
  pub below : EachOf (IsRankBelow n rank) ranked
  pub done_are : AreMarked dones done
  pub all_are : AreMarked (dones ++ ranked) into

-- ---- trees with falls
-- multipliers 0 for `count` rows, and 1 for the denial of the row that is shown
abbrev pub last_line : ℕ → List ℤ
last_line count = zeros count ++ pos 1 ∷ []

-- A target from number `first` on is entered by fall 1, and the two rows of the fall are shown by their denials, at `count` rows. Another
-- target is entered as before.
pub record IsFallingEntry (first count target fall new_target new_fall : ℕ) (lists new : List (List ℤ)) : Type 0 where
  pub same : new_target ≡ target
  pub before : target < first → (new_fall ≡ fall) × (new ≡ lists)
  pub onward : first ≤ target → (new_fall ≡ 1) × (new ≡ lists ++ last_line count ∷ last_line count ∷ [])

-- the second cover is the first with such falls, at `count` rows
abbrev pub IsFallingCover : ℕ → ℕ → CoverTree → CoverTree → Type 0
IsFallingCover first count (cover.Split' r p a q b) (cover.Split' s t x u y) =
    (s ≡ r) × IsFallingCover first (count + 1) a x × IsFallingCover first (count + 1) b y
IsFallingCover first count (cover.Split' r p a q b) (cover.Empty ms) = ⊥
IsFallingCover first count (cover.Split' r p a q b) (cover.Into k j ls) = ⊥
IsFallingCover first count (cover.Empty ns) (cover.Split' s t x u y) = ⊥
IsFallingCover first count (cover.Empty ns) (cover.Empty ms) = ms.items ≡ ns.items
IsFallingCover first count (cover.Empty ns) (cover.Into k j ls) = ⊥
IsFallingCover first count (cover.Into k j ls) (cover.Split' s t x u y) = ⊥
IsFallingCover first count (cover.Into k j ls) (cover.Empty ms) = ⊥
IsFallingCover first count (cover.Into k j ls) (cover.Into m i ns) =
    IsFallingEntry first count k j m i (map (λ l. l.items) ls.items) (map (λ l. l.items) ns.items)

-- how many of the pieces that are done stand where the case of the number leads
abbrev pub first_past : Option LinearCase → List Piece → ℕ
first_past None done = 0
first_past (Some c) done = length (filter (λ p. p.location == c.to) done)

-- the same of a choice, where a case is taken
abbrev pub IsFallingChoice : CaseSystem → List Piece → ℕ → ChoiceTree → ChoiceTree → Type 0
IsFallingChoice about done count (choice.Split' r p a q b) (choice.Split' s t x u y) =
    (s ≡ r) × IsFallingChoice about done (count + 1) a x × IsFallingChoice about done (count + 1) b y
IsFallingChoice about done count (choice.Split' r p a q b) (choice.Empty ms) = ⊥
IsFallingChoice about done count (choice.Split' r p a q b) (choice.NoStep covers) = ⊥
IsFallingChoice about done count (choice.Split' r p a q b) (choice.Take taken k j draws ls) = ⊥
IsFallingChoice about done count (choice.Empty ns) (choice.Split' s t x u y) = ⊥
IsFallingChoice about done count (choice.Empty ns) (choice.Empty ms) = ms.items ≡ ns.items
IsFallingChoice about done count (choice.Empty ns) (choice.NoStep covers) = ⊥
IsFallingChoice about done count (choice.Empty ns) (choice.Take taken k j draws ls) = ⊥
IsFallingChoice about done count (choice.NoStep olds) new = ⊥
IsFallingChoice about done count (choice.Take taken k j draws ls) (choice.Split' s t x u y) = ⊥
IsFallingChoice about done count (choice.Take taken k j draws ls) (choice.Empty ms) = ⊥
IsFallingChoice about done count (choice.Take taken k j draws ls) (choice.NoStep covers) = ⊥
IsFallingChoice about done count (choice.Take taken k j draws ls) (choice.Take other m i terms ns) =
    (other ≡ taken) × (terms.items ≡ draws.items)
    × IsFallingEntry (first_past (slice_get about.cases taken) done) count k j m i (map (λ l. l.items) ls.items) (map (λ l. l.items) ns.items)

-- the choice shows nowhere that there is no step
abbrev pub NeverStops : ChoiceTree → Type 0
NeverStops (choice.Split' r p a q b) = NeverStops a × NeverStops b
NeverStops (choice.Empty ms) = Unit {0}
NeverStops (choice.NoStep covers) = ⊥
NeverStops (choice.Take taken k j draws ls) = Unit {0}

-- ---- wherever the pieces stand in a node
-- the cover is offered for the obligation that the case leads from the piece into these pieces, with a fall into those that go on
abbrev pub ShowsFallingStep : CaseSystem → Piece → LinearCase → List Piece → List Piece → CoverTree → Type 0
ShowsFallingStep about q c done into tree =
    (number : ℕ) (p : Marked) (all : List Marked) → IsLayered about.variables q done into p all →
    IsOffered (step_of number (about_with about) p all (step_fall (about_with about) p) c) (Covered tree)

-- the choice is offered for the obligation that from the piece some step leads into these pieces, with a fall into those that go on
abbrev pub ShowsFallingChoice : CaseSystem → Piece → List Piece → List Piece → ChoiceTree → Type 0
ShowsFallingChoice about q done into tree =
    (number : ℕ) (p : Marked) (all : List Marked) → IsLayered about.variables q done into p all →
    IsOffered (choice_of number kind.Choice (about_with about) p false (choice_into (about_with about) all (choice_fall (about_with about) p))) (Chosen tree)
