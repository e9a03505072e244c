-- Regions that are the same have the same lists and states.
use Rattle.std.proofs.Common.{◌≡◌, inl, inr, ℕ, ◌<◌, List, [], ◌∷◌, length, ℤ, cond, ◌==◌, refl, sym, ap, ◌∙◌, subst, true}
use Rattle.std.specs.Prelude.{All, Contains}
use Rattle.std.specs.List.{AllZip}
use Rattle.tv_program.specs.Steps.{State}
use Rattle.tv_linear.specs.Linear.{columns, IsMet}
use Rattle.tv_linear.specs.Regions.{InPiece}
use Rattle.tv_linear.specs.declared.region.Piece.{Piece}
use Rattle.tv_linear.specs.declared.region.Region.{Region}
use Rattle.tv_cases.proofs.ContainsLemmas.{Contains-here, Contains-later, Contains-cases, Contains-none}
use Rattle.tv_copy.specs.SameRegions.{SamePiece, SameRegion}
use Rattle.tv_copy.proofs.Carrying.{all_carried}
use Rattle.tv_region.specs.Regions.{IsPieceOf, IsRegion, lists_at, count_at}
use Rattle.tv_region.specs.StepRegions.{InState}
use Rattle.tv_region.specs.Met.{some_met}
use Rattle.tv_region.proofs.AlgebraLemmas.{state_in, in_state}

pub same_lists : (l : ℕ) (ps qs : List Piece) → AllZip SamePiece ps qs → lists_at l qs ≡ lists_at l ps
same_lists l [] [] h = refl
same_lists l [] (q ∷ qs) h = absurd h
same_lists l (p ∷ ps) [] h = absurd h
same_lists l (p ∷ ps) (q ∷ qs) h = (λ i. cond (h.0.location i == l) (h.0.rows i ∷ same_lists l ps qs h.1 i) (same_lists l ps qs h.1 i))

pub same_count : (l : ℕ) (a b : Region) → SameRegion a b → count_at l b ≡ count_at l a
same_count l a b e = ap (λ lists. length lists) (same_lists l a.pieces.items b.pieces.items e.pieces)

same_width : (n m : ℕ) (p q : Piece) → SamePiece p q → IsPieceOf n m p → IsPieceOf n m q
same_width n m p q e h = record { place = subst (λ l. l < m) (sym e.location) h.place; width = e.columns ∙ h.width; even = subst (All (λ r. columns r ≡ n)) (sym e.rows) h.even }

pub same_over : (n m : ℕ) (a b : Region) → SameRegion a b → IsRegion n m a → IsRegion n m b
same_over n m a b e h = record { variables = e.variables ∙ h.variables; locations = e.locations ∙ h.locations; pieces = all_carried (IsPieceOf n m) SamePiece (same_width n m) a.pieces.items b.pieces.items e.pieces h.pieces }

same_inside : (l : ℕ) (xs : List ℤ) (p q : Piece) → SamePiece p q → InPiece l xs p → InPiece l xs q
same_inside l xs p q e h = record { place = h.place ∙ sym e.location; inside = subst (All (IsMet xs)) (sym e.rows) h.inside }

same_piece : (l : ℕ) (xs : List ℤ) (ps qs : List Piece) (p : Piece) → AllZip SamePiece ps qs → Contains ps p → InPiece l xs p → (q : Piece) × Contains qs q × InPiece l xs q
same_piece l xs [] qs p h c i = absurd (Contains-none p c)
same_piece l xs (a ∷ ps) [] p h c i = absurd h
same_piece l xs (a ∷ ps) (b ∷ qs) p h c i =
    elim (Contains-cases a p ps c) [
      | inl e ↦ (b, Contains-here b qs, same_inside l xs a b h.0 (subst (InPiece l xs) (sym e) i))
      | inr d ↦ (let r = same_piece l xs ps qs p h.1 d i in (r.0, Contains-later b r.0 qs r.1, r.2))
    ]

pub same_state : (a b : Region) (s : State) → SameRegion a b → InState a s → InState b s
same_state a b s e m = same_piece s.location s.values a.pieces.items b.pieces.items m.0 e.pieces m.1 m.2

-- and the other way
pub state_same : (a b : Region) (s : State) → SameRegion a b → InState b s → InState a s
state_same a b s e m =
    in_state s.location s.values a (subst (λ ls. some_met s.values ls ≡ true) (same_lists s.location a.pieces.items b.pieces.items e.pieces) (state_in s.location s.values b m))
