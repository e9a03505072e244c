-- The proofs of a location, one after the other, and of all locations.
use Rattle.std.proofs.Common.{◌≡◌, ℕ, suc, ◌+◌, List, [], ◌∷◌, ◌++◌, length, map, take, arith, sym, ap, ◌∙◌, subst, append_assoc}
use Rattle.std.specs.List.{AllZip}
use Rattle.tv_linear.proofs.ListLaws.{zip_push, take_more}
use Rattle.tv_cases.specs.LinearCases.{LinearCase, leaving}
use Rattle.tv_cert.specs.declared.node.Proof.{Proof}
use Rattle.tv_rank.specs.Ways.{case_at}
use Rattle.tv_shape.specs.Made.{IsOffered}
use Rattle.tv_lexrank.proofs.StandLemmas.{IsLeaving}
use Rattle.tv_settling.specs.Nodes.{system_of, owed_step, IsHoldProof, IsStepAt, IsStepProof, AreStepsShown, AreShownAt, AreShownBelow}
use Rattle.tv_settling.specs.declared.barrier.Barrier.{Barrier}
use Rattle.std.proofs.Math.Seq.{take-length}

module _ (b : Barrier) (l : ℕ) where
  abbrev left : List LinearCase
  left = leaving l (system_of b).cases

  -- none yet
  pub steps_none : (old : List Proof) → old ≡ old ++ [] → AreStepsShown b l [] old old
  steps_none old e = record { more = []; parts = e; each = tt }

  -- one more
  pub steps_more : (k number : ℕ) (p : Proof) (old mid new : List Proof) → IsLeaving (system_of b).cases l k number → IsStepProof b number p → AreStepsShown b l (take k left) old mid → new ≡ mid ++ p ∷ [] → AreStepsShown b l (take (k + 1) left) old new
  steps_more k number p old mid new at shown h e =
      let c = case_at (system_of b).cases number in
      record {
        more = h.more ++ p ∷ [];
        parts = e ∙ ap (λ z. z ++ p ∷ []) h.parts ∙ append_assoc old h.more (p ∷ []);
        each = subst (λ z. AllZip (IsStepAt b l) z (h.more ++ p ∷ [])) (sym (take_more left k c at.case))
            (zip_push (IsStepAt b l) (take k left) h.more c p h.each (subst (λ z. IsStepAt b z c p) at.leaves shown));
      }

  -- all of them
  pub all_steps : (k : ℕ) (old new : List Proof) → k ≡ length left → AreStepsShown b l (take k left) old new → AreStepsShown b l left old new
  all_steps k old new e h = subst (λ z. AreStepsShown b l z old new) (ap (λ n. take n left) e ∙ take-length left) h

  steps_offered : (number : ℕ) (cases : List LinearCase) (proofs : List Proof) → AllZip (IsStepAt b l) cases proofs → AllZip IsOffered (map (owed_step b number l) cases) proofs
  steps_offered number [] [] h = tt
  steps_offered number [] (p ∷ proofs) h = absurd h
  steps_offered number (c ∷ cases) [] h = absurd h
  steps_offered number (c ∷ cases) (p ∷ proofs) h = (h.0 number, steps_offered number cases proofs h.1)

  -- the first proof of the location, and then its steps
  pub shown_at : (p : Proof) (old mid new : List Proof) → IsHoldProof b l p → mid ≡ old ++ p ∷ [] → AreStepsShown b l left mid new → AreShownAt b l old new
  shown_at p old mid new hold e h = record {
    more = p ∷ h.more;
    parts = h.parts ∙ ap (λ z. z ++ h.more) e ∙ append_assoc old (p ∷ []) h.more;
    each = λ number. (hold number, steps_offered number left h.more h.each);
  }

  -- one more location
  pub location_more : (front proofs : List Proof) → AreShownBelow b l front → AreShownAt b l front proofs → AreShownBelow b (l + 1) proofs
  location_more front proofs h g = subst (λ z. AreShownBelow b z proofs) (let e : suc l ≡ l + 1 = omega arith in e) (front, h, g)
