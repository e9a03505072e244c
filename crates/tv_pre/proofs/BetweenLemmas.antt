-- Pieces that lie in two regions together, and states that are in neither.
use Rattle.std.proofs.Common.{◌≡◌, inl, inr, ℕ, ◌+◌, ◌<◌, ◌≤◌, List, [], ◌∷◌, length, take, get_or, refl, sym, subst, arith, ℤ, Bool, true, false, cond}
use Rattle.std.specs.Prelude.{All, Contains, ◌==◌}
use Rattle.std.proofs.lemmas.Bool.Decides.{nat_tests}
use Rattle.std.proofs.lemmas.List.{take_all}
use Rattle.std.proofs.lemmas.List.Elements.{All-contains, All-more}
use Rattle.tv_program.specs.Steps.{State}
use Rattle.tv_formula.specs.declared.tree.Shape.{Shape}
use Rattle.tv_formula.specs.declared.tree.Shape.TheVariants.{Until, Weak, Release, Strong}
use Rattle.tv_formula.specs.Properties.{Property}
use Rattle.tv_linear.specs.Linear.{Linear, IsMet}
use Rattle.tv_linear.specs.declared.region.Piece.{Piece}
use Rattle.tv_linear.specs.declared.region.Region.{Region}
use Rattle.tv_farkas.specs.Paths.{IsWholePoint}
use Rattle.tv_meaning.specs.Meaning.{Holds}
use Rattle.tv_cases.specs.LinearCases.{CaseSystem, CaseSteps}
use Rattle.tv_cases.proofs.ContainsLemmas.{Contains-here, Contains-later, Contains-cases, Contains-none}
use Rattle.tv_cert.specs.Statements.{Statement}
use Rattle.tv_choice.specs.Leading.{piece_rows, state}
use Rattle.tv_cover.specs.Covering.{IsHole}
use Rattle.tv_cover.specs.Targets.{IsInTarget, IsOutside}
use Rattle.tv_known.specs.Rounds.{HoldSide, EndSides}
use Rattle.tv_region.specs.Regions.{IsPieceOf, lists_at}
use Rattle.tv_region.specs.StepRegions.{InState}
use Rattle.tv_pre.specs.declared.sides.Sides.{Sides}
use Rattle.tv_pre.specs.Along.{AreAtEnd}
use Rattle.tv_pre.specs.Built.{IsBuilt, AreBuilt, IsAsked}
use Rattle.tv_pre.specs.Full.{IsExactly}
use Rattle.tv_pre.specs.Growing.{IsEverywhere}
use Rattle.tv_pre.specs.Inclusions.{OfPiece, OfPieces}
use Rattle.tv_pre.specs.Parts.{joined_pieces}
use Rattle.tv_pre.specs.Pieces.{InPieces}
use Rattle.tv_pre.specs.Questions.{Question, lies, AsksOf}
use Rattle.tv_pre.specs.RankedAlong.{HasAll, AreGoing, IsBesideIfTame}
use Rattle.tv_pre.specs.Unserved.{SomeIsOutside, IsUnservedBy}
use Rattle.tv_pre.proofs.AskedLemmas.{place_asked}
use Rattle.tv_pre.proofs.BuiltLemmas.{pieces_of, joined_of}
use Rattle.tv_pre.proofs.SetLemmas.{in_joined}
use Rattle.tv_pre.proofs.StepLemmas.{in_lists}

-- ---- pieces
module _ (l : ℕ) (xs : List ℤ) where
  shifted : (q : Piece) (qs : List Piece) → InPieces qs (state l xs) → InPieces (q ∷ qs) (state l xs)
  shifted q qs w = (w.0, Contains-later q w.0 qs w.1, w.2)

  one_more : (b : Bool) (q : Piece) (qs : List Piece) (rows : List Linear) → (q.location == l) ≡ b → All (IsMet xs) rows → (Contains (lists_at l qs) rows → InPieces qs (state l xs)) → Contains (cond b (piece_rows q ∷ lists_at l qs) (lists_at l qs)) rows → InPieces (q ∷ qs) (state l xs)
  one_more true q qs rows e met rest m = elim (Contains-cases (piece_rows q) rows (lists_at l qs) m) [
    | inl is ↦ (q, Contains-here q qs, record { place = sym (same_place q.location e); inside = subst (All (IsMet xs)) (sym is) met })
    | inr k ↦ shifted q qs (rest k)
  ] where
    same_place : (k : ℕ) → (k == l) ≡ true → k ≡ l
    same_place k h = grind (arith, nat_tests)
  one_more false q qs rows e met rest m = shifted q qs (rest m)

  in_pieces : (qs : List Piece) (rows : List Linear) → All (IsMet xs) rows → Contains (lists_at l qs) rows → InPieces qs (state l xs)
  in_pieces [] rows met m = absurd (Contains-none rows m)
  in_pieces (q ∷ qs) rows met m = one_more (q.location == l) q qs rows refl met (in_pieces qs rows met) m

module _ (about : CaseSystem) (first second : Region) where
  -- a piece that lies in both together, and a state of it that is in neither
  pub piece_between : (q : Piece) (lists : List (List Linear)) → lists ≡ lists_at q.location (joined_pieces (first ∷ second ∷ [])) → ((xs : List ℤ) → IsWholePoint about.variables (piece_rows q) xs → IsInTarget lists xs) → OfPiece about q (InPieces (joined_pieces (first ∷ second ∷ [])))
  piece_between q lists e h xs point = (let w = h xs point in in_pieces q.location xs (joined_pieces (first ∷ second ∷ [])) w.rows w.met (subst (λ ls. Contains ls w.rows) e w.target))

  pub piece_outside : (q : Piece) (lists : List (List Linear)) → lists ≡ lists_at q.location (joined_pieces (first ∷ second ∷ [])) → IsPieceOf about.variables about.locations q → (xs : List ℤ) → IsHole about.variables lists (piece_rows q) xs → SomeIsOutside about first second
  piece_outside q lists e over xs hole = record {
    state = state q.location xs;
    is = record { location = over.place; values = hole.point.width };
    not_first = λ m. none_in (in_joined (first ∷ second ∷ []) first (state q.location xs) (Contains-here first (second ∷ [])) m);
    not_second = λ m. none_in (in_joined (first ∷ second ∷ []) second (state q.location xs) (Contains-later first second (second ∷ []) (Contains-here second [])) m);
  } where
    none_in : InPieces (joined_pieces (first ∷ second ∷ [])) (state q.location xs) → ⊥
    none_in m =
        let w = in_lists q.location xs (joined_pieces (first ∷ second ∷ [])) m in
        let o = All-contains (IsOutside xs) lists w.rows hole.outside (subst (λ ls. Contains ls w.rows) (sym e) w.target) in
        o.2 (All-contains (IsMet xs) w.rows o.0 w.met o.1)

  -- ---- one piece after the other
  pub between_more : (pieces : List Piece) (i : ℕ) (q : Piece) → i < length pieces → q ≡ get_or pieces i q → All (λ p. OfPiece about p (InPieces (joined_pieces (first ∷ second ∷ [])))) (take i pieces) → OfPiece about q (InPieces (joined_pieces (first ∷ second ∷ []))) → All (λ p. OfPiece about p (InPieces (joined_pieces (first ∷ second ∷ [])))) (take (i + 1) pieces)
  between_more pieces i q l e before here = All-more (λ p. OfPiece about p (InPieces (joined_pieces (first ∷ second ∷ [])))) pieces i q l before (subst (λ (p : Piece). OfPiece about p (InPieces (joined_pieces (first ∷ second ∷ [])))) e here)

  pub between_all : (pieces : List Piece) (i : ℕ) → length pieces ≤ i → All (λ p. OfPiece about p (InPieces (joined_pieces (first ∷ second ∷ [])))) (take i pieces) → OfPieces about pieces (InPieces (joined_pieces (first ∷ second ∷ [])))
  between_all pieces i l all s is m =
      let P = λ (p : Piece). OfPiece about p (InPieces (joined_pieces (first ∷ second ∷ []))) in
      let each = All-contains P pieces m.0 (subst (All P) (take_all i pieces l) all) m.1 in
      subst (λ k. InPieces (joined_pieces (first ∷ second ∷ [])) (state k s.values)) (sym m.2.place) (each s.values (record { width = is.values; met = m.2.inside }))

  pub all_between : (all : Region) → IsEverywhere about all → OfPieces about all.pieces.items (InPieces (joined_pieces (first ∷ second ∷ []))) → HasAll about (joined_pieces (first ∷ second ∷ []))
  all_between all e h s is = h s is (e.all s is.location)

-- so some state is neither at the end nor on the way with a step
pub beside_of : (about : CaseSystem) (sides : Sides) (end onward : Region) → AreAtEnd about sides end → AreGoing about sides onward → SomeIsOutside about end onward → IsBesideIfTame about sides
beside_of about sides end onward e o out tame = record {
  state = out.state;
  is = out.is;
  not_end = λ m. out.not_first (e.all tt out.state out.is m);
  not_way = λ m goes. out.not_second (o.all tame out.state out.is (m, goes));
}

-- ---- what is asked
pub between_asked : (about : CaseSystem) (s : Statement) (h : ℕ) (own first second : Region) → IsBuilt about s h own → AreBuilt about s h (first ∷ second ∷ []) → (a : Question) → AsksOf (λ q b. b ≡ lies q (joined_pieces (first ∷ second ∷ []))) own.pieces.items a → IsAsked about s h a
between_asked about s h own first second b each a w =
    place_asked about s h own.pieces.items (joined_pieces (first ∷ second ∷ [])) w.0 a (pieces_of about s h own b) w.1 (joined_of about s h (first ∷ second ∷ []) each) w.2

-- ---- other sets
pub end_other : (shape : Shape) (P Q R S : State → Type 0) (s : State) → (P s → R s) → (Q s → S s) → EndSides shape P Q s → EndSides shape R S s
end_other Until P Q R S s f g h = g h
end_other Weak P Q R S s f g h = g h
end_other Release P Q R S s f g h = (f h.0, g h.1)
end_other Strong P Q R S s f g h = (f h.0, g h.1)

pub hold_other : (shape : Shape) (P Q R S : State → Type 0) (s : State) → (P s → R s) → (Q s → S s) → HoldSide shape P Q s → HoldSide shape R S s
hold_other Until P Q R S s f g h = f h
hold_other Weak P Q R S s f g h = f h
hold_other Release P Q R S s f g h = g h
hold_other Strong P Q R S s f g h = g h

-- where the regions of the arguments are exact, the ranks serve as little for the arguments
pub unserved_same : (about : CaseSystem) (shape : Shape) (f g : Property) (a b : Region) → IsExactly about f a → IsExactly about g b → IsUnservedBy about shape (InState a) (InState b) →
    IsUnservedBy about shape (λ s. Holds (CaseSteps about) f s) (λ s. Holds (CaseSteps about) g s)
unserved_same about shape f g a b first second (inl none) = inl none
unserved_same about shape f g a b first second (inr some) = inr (λ tame. (
    let w = some tame in
    let s = w.state in
    record {
      state = s;
      is = w.is;
      not_end = λ m. w.not_end (end_other shape (λ t. Holds (CaseSteps about) f t) (λ t. Holds (CaseSteps about) g t) (InState a) (InState b) s (first s w.is).1 (second s w.is).1 m);
      not_way = λ m goes. w.not_way (hold_other shape (λ t. Holds (CaseSteps about) f t) (λ t. Holds (CaseSteps about) g t) (InState a) (InState b) s (first s w.is).1 (second s w.is).1 m) goes;
    }))
