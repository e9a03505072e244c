-- Faults that are kept, and what they show of regions that are built.
use Rattle.std.proofs.Common.{◌≡◌, ℕ, suc, ◌+◌, ◌≤◌, List, sym, subst, arith, Bool}
use Rattle.std.specs.Prelude.{Contains, Result}
use Rattle.std.specs.Result.{IsErrAnd, IfErr}
use Rattle.std.proofs.lemmas.Result.{err_from_is_err_and}
use Rattle.tv_linear.specs.declared.region.Piece.{Piece}
use Rattle.tv_linear.specs.declared.region.Region.{Region}
use Rattle.tv_cases.specs.LinearCases.{CaseSystem}
use Rattle.tv_cert.specs.Statements.{Statement}
use Rattle.tv_farkas.specs.declared.budget.Budget.{Budget}
use Rattle.tv_farkas.specs.declared.fault.CoverFault.{CoverFault}
use Rattle.tv_farkas.specs.declared.fault.CoverFault.TheVariants as covers
use Rattle.tv_region.specs.declared.fault.RegionFault.{RegionFault}
use Rattle.tv_rounds.specs.declared.fixed_point.FixedPoint.{FixedPoint}
use Rattle.tv_rounds.specs.declared.fault.RoundFault.{RoundFault}
use Rattle.tv_rounds.specs.Answers as answers
use Rattle.tv_rounds.specs.Answers.{IsCompared, growing, shrinking}
use Rattle.tv_pre.specs.declared.fault.PreFault.{PreFault}
use Rattle.tv_pre.specs.declared.fault.PreFault.TheVariants as faults
use Rattle.tv_pre.specs.Faults.{IsOfRegion, IsOfCover, IsOfRounds}
use Rattle.tv_pre.specs.Questions.{Question, IsRefusal, lies}
use Rattle.tv_pre.specs.Built.{IsBuilt, IsRefusedRegion, IsAsked, of_place, IsPreFault, IsFaultOf}
use Rattle.tv_pre.proofs.BuiltLemmas.{built_to, fault_to, pieces_of, made_built, call_built}

-- what a `?` passes on
pub passed_on : {X : Type 0} {Q : PreFault → Type 0} (R : PreFault → Type 0) (r : Result X PreFault) → IsErrAnd r Q → ((f : PreFault) → Q f → R f) → IfErr r R
passed_on R r is m = let p = err_from_is_err_and r is in subst (λ x. IfErr x R) (sym p.1) (m p.0 p.2)

module _ (about : CaseSystem) (budget : Budget) where
  pub none_fault : (s : Statement) (h : ℕ) (r : PreFault) → r ≡ faults.Memory → IsPreFault about s budget h r
  none_fault s h r e = subst (IsPreFault about s budget h) (sym e) tt

  pub region_fault : (s : Statement) (h : ℕ) (fault : RegionFault) (r : PreFault) → IsOfRegion fault r → IsRefusedRegion about s budget h fault → IsPreFault about s budget h r
  region_fault s h fault (faults.Region k) is m = (subst (IsRefusedRegion about s budget h) is.0 m, is.1)
  region_fault s h fault (faults.Cover k) is m = absurd is
  region_fault s h fault (faults.Rank system k) is m = absurd is
  region_fault s h fault faults.Memory is m = tt

  question_fault : (s : Statement) (h : ℕ) (asks : Question → Type 0) → ((a : Question) → asks a → IsAsked about s h a) → (fault : CoverFault) → (fault ≡ covers.Memory → ⊥) → IsRefusal about budget asks fault → IsPreFault about s budget h (faults.Cover fault)
  question_fault s h asks w (covers.Splits path) n m = (record { question = m.question; asked = w m.question m.asked; refuses = m.refuses }, n)
  question_fault s h asks w (covers.Solve kept f) n m = (record { question = m.question; asked = w m.question m.asked; refuses = m.refuses }, n)
  question_fault s h asks w (covers.Wide column) n m = (record { question = m.question; asked = w m.question m.asked; refuses = m.refuses }, n)
  question_fault s h asks w covers.Memory n m = absurd (n cc)

  pub cover_fault : (s : Statement) (h : ℕ) (asks : Question → Type 0) → ((a : Question) → asks a → IsAsked about s h a) → (fault : CoverFault) (r : PreFault) → IsOfCover fault r → IsRefusal about budget asks fault → IsPreFault about s budget h r
  cover_fault s h asks w fault (faults.Region k) is m = absurd is
  cover_fault s h asks w fault (faults.Cover k) is m = question_fault s h asks w k is.1 (subst (IsRefusal about budget asks) is.0 m)
  cover_fault s h asks w fault (faults.Rank system k) is m = absurd is
  cover_fault s h asks w fault faults.Memory is m = tt

  -- a fault of regions is passed on as it is
  pub fault_again : (k n : ℕ) (given : List Region) (fault r : PreFault) → k ≤ n → r ≡ fault → IsFaultOf about budget k given fault → IsFaultOf about budget n given r
  fault_again k n given fault r l e f = λ s h m. subst (IsPreFault about s budget (n + h)) (sym e) (fault_to about s budget (k + h) (n + h) fault (omega (arith, l)) (f s h m))

  -- ---- rounds
  module _ (s : Statement) (h : ℕ) (fix : FixedPoint) (hold : IsBuilt about s h fix.hold.now) (end : IsBuilt about s h fix.end.now) (most : ℕ) where
    compared_built : (k : ℕ) (grows : Bool) (inner outer : Region) → k ≤ most → IsCompared about fix k grows inner outer → IsBuilt about s (suc most + h) inner × IsBuilt about s (suc most + h) outer
    compared_built k _ _ _ l (growing layer round f g) = (
      built_to about s (suc k + h) (suc most + h) layer (omega (arith, l)) (made_built about s h fix hold end (suc k) layer f.made),
      built_to about s (k + h) (suc most + h) round (omega (arith, l)) (made_built about s h fix hold end k round g.made),
    )
    compared_built k _ _ _ l (shrinking round next f g) = (
      built_to about s (k + h) (suc most + h) round (omega (arith, l)) (made_built about s h fix hold end k round f.made),
      built_to about s (suc k + h) (suc most + h) next (omega (arith, l)) (made_built about s h fix hold end (suc k) next g.made),
    )

    -- whether a piece of the one region lies in the other one is a question of what the sides are made for
    pub compared_asked : (grows : Bool) (k : ℕ) (inner outer : Region) → k ≤ most → IsCompared about fix k grows inner outer → (q : Piece) → Contains inner.pieces.items q → IsAsked about s (suc most + h) (lies q outer.pieces.items)
    compared_asked grows k inner outer l c q m =
        let b = compared_built k grows inner outer l c in
        of_place (suc most + h) inner.pieces.items outer.pieces.items q (pieces_of about s (suc most + h) inner b.0) m (pieces_of about s (suc most + h) outer b.1)

    pub rounds_fault : (grows : Bool) (fault : RoundFault) (r : PreFault) → IsOfRounds fault r → answers.IsFaultOf grows about fix most budget fault → IsPreFault about s budget (suc most + h) r
    rounds_fault grows fault (faults.Region k) is m =
        (let w = subst (answers.IsFaultOf grows about fix most budget) is m in (call_built about s h fix hold end budget (suc most) k w.0, w.1))
    rounds_fault grows fault (faults.Cover k) is m =
        (let w = subst (answers.IsFaultOf grows about fix most budget) is m in
        let v = w.0 in (
          record {
            question = lies v.refused.piece v.outer.pieces.items;
            asked = compared_asked grows v.round v.inner v.outer v.early v.compared v.refused.piece v.refused.among;
            refuses = v.refused.refused;
          },
          w.1,
        ))
    rounds_fault grows fault (faults.Rank system k) is m = absurd is
    rounds_fault grows fault faults.Memory is m = tt
