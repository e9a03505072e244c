-- The pieces of an inductive list are closed.
use Rattle.std.proofs.Common.{◌≡◌, ℕ, zero, suc, ◌<◌, List, [], ◌∷◌, length, All, Some, arith, refl, sym, ap, subst}
use Rattle.std.specs.Prelude.{Contains, slice_get}
use Rattle.std.proofs.lemmas.List.Elements.{All-nil, All-cons, All-contains}
use Rattle.tv_linear.specs.Linear.{columns, IsMet}
use Rattle.tv_linear.specs.declared.region.Piece.{Piece}
use Rattle.tv_linear.specs.declared.region.Region.{Region}
use Rattle.tv_program.specs.Steps.{State}
use Rattle.tv_cases.specs.LinearCases.{LinearCase, CaseSystem, AreCases}
use Rattle.tv_cases.proofs.ContainsLemmas.{Contains-here, Contains-later}
use Rattle.tv_candidates.specs.declared.candidate.Candidate.{Candidate}
use Rattle.tv_candidates.specs.Inductive.{MeetsAll, IsInductive}
use Rattle.tv_invariant.specs.Rows.{IsStronger}
use Rattle.tv_invariant.specs.Pieces.{ArePiecesOf}
use Rattle.tv_invariant.specs.Places as places
use Rattle.tv_invariant.proofs.ListLemmas.{all_by}
use Rattle.tv_invariant.proofs.PieceLemmas.{in_rows, row_there}
use Rattle.tv_rank.specs.Ways.{rows_at, case_at}
use Rattle.tv_lexrank.specs.Certified.{BeginsKnown}
use Rattle.tv_lexrank.specs.Known.{AreKnown, piece_rows}
use Rattle.tv_lexrank.proofs.SortLemmas.{of_case}
use Rattle.tv_finitely.specs.Refusals.{AreKept}

-- ---- the pieces at places
all_got : {A : Type 0} (P : A → Type 0) (xs : List A) → ((k : ℕ) (x : A) → slice_get xs k ≡ Some x → P x) → All P xs
all_got P [] h = All-nil P
all_got P (x ∷ xs) h = All-cons P x xs (h 0 x refl) (all_got P xs (λ k y e. h (suc k) y e))

there_is : {A : Type 0} (xs : List A) (k : ℕ) → k < length xs → (x : A) × (slice_get xs k ≡ Some x)
there_is [] k h = absurd (omega (arith, h))
there_is (x ∷ xs) zero h = (x, refl)
there_is (x ∷ xs) (suc k) h = there_is xs k (omega (arith, h))

rows_there : (known : List Piece) (l : ℕ) (p : Piece) → slice_get known l ≡ Some p → rows_at known l ≡ piece_rows p
rows_there [] l p e = absurd cc
rows_there (q ∷ known) zero p e = (let s : q ≡ p = cc in ap piece_rows s)
rows_there (q ∷ known) (suc l) p e = rows_there known l p e

case_among : (cases : List LinearCase) (k : ℕ) → k < length cases → Contains cases (case_at cases k)
case_among [] k h = absurd (omega (arith, h))
case_among (c ∷ cases) zero h = Contains-here c cases
case_among (c ∷ cases) (suc k) h = Contains-later c (case_at cases k) cases (case_among cases k (omega (arith, h)))

module _ (about : CaseSystem) (list : List Candidate) (known : Region) (are : ArePiecesOf about list known) where
  abbrev pieces : List Piece
  pieces = known.pieces.items

  pub is_known : AreKnown about pieces
  is_known = record {
    one_each = are.one_each;
    over = all_got (λ p. All (λ r. columns r ≡ about.variables) (piece_rows p)) pieces (λ l p e. (are.in_place l p e).over);
  }

  stronger_at : (l : ℕ) → l < about.locations → IsStronger (places.rows_at l list) (rows_at pieces l)
  stronger_at l h =
      let p = there_is pieces l (let e = are.one_each in omega (arith, e, h)) in
      subst (IsStronger (places.rows_at l list)) (sym (rows_there pieces l p.0 p.1)) (are.in_place l p.0 p.1).rows

  -- the known rows are met where those of the list are, and else are not
  meets_known : (s : State) → s.location < about.locations → MeetsAll list s → All (IsMet s.values) (rows_at pieces s.location)
  meets_known s h meets = all_by (IsMet s.values) (rows_at pieces s.location) (λ r a.
      let c = row_there s.location list r ((stronger_at s.location h).from r a) in
      subst (IsMet s.values) c.3 (meets c.0 c.1 (sym c.2)))

  known_meets : (s : State) → s.location < about.locations → All (IsMet s.values) (rows_at pieces s.location) → MeetsAll list s
  known_meets s h met c among at =
      All-contains (IsMet s.values) (places.rows_at s.location list) c.row ((stronger_at s.location h).met s.values met) (in_rows s.location list c among (sym at))

  pub begins_known : AreCases about → IsInductive about list → BeginsKnown about pieces
  begins_known cases inductive xs wide =
      let s : State = record { location = about.start; values = xs } in
      meets_known s cases.starts (inductive.begins s refl wide)

  pub never_left : AreCases about → IsInductive about list → AreKept about pieces
  never_left cases inductive taken values out =
      let c = of_case about taken cases out.numbered in
      let from : out.old.location < about.locations = (let e = out.does.leaves in let l = c.leaves in omega (arith, e, l)) in
      let to : out.new.location < about.locations = (let e = out.does.enters in let l = c.enters in omega (arith, e, l)) in
      let before = known_meets out.old from out.meets in
      let after = inductive.kept out.old out.new out.wide record { taken = case_at about.cases taken; among = case_among about.cases taken out.numbered; draws = out.draws; does = out.does } before in
      out.unmet (All-contains (IsMet out.new.values) (rows_at pieces out.new.location) out.row (meets_known out.new to after) out.among)
