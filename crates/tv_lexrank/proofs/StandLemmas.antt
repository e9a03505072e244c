-- The proofs for the cases from a location, one after the other.
use Rattle.tv_shape.specs.Made.{IsOffered}
use Rattle.std.proofs.Common.{◌≡◌, ℕ, zero, suc, ◌+◌, ◌<◌, List, [], ◌∷◌, ◌++◌, length, map, get_or, take, Some, Bool, true, false, cond, ◌==◌, arith, refl, sym, ap, ◌∙◌, subst, append_assoc}
use Rattle.std.specs.Prelude.{slice_get}
use Rattle.std.specs.List.{AllZip, filter}
use Rattle.std.proofs.lemmas.Option.{slice_get_within, slice_get-get_or, get_or_from_slice_get}
use Rattle.tv_linear.proofs.ListLaws.{zip_push, take_more}
use Rattle.tv_cases.specs.LinearCases.{LinearCase, from_of, leaving}
use Rattle.tv_cases.specs.Systems.{cases_of}
use Rattle.tv_cert.specs.declared.node.Proof.{Proof}
use Rattle.tv_cert.specs.declared.node.Proof.TheVariants.{Covered, Chosen}
use Rattle.tv_places.specs.Places.{places_of}
use Rattle.tv_places.proofs.PlaceLemmas.{place_told, places_counted}
use Rattle.tv_rank.specs.Ways.{case_at, no_case}
use Rattle.tv_lexrank.specs.declared.ranking.Ranking.{Ranking}
use Rattle.tv_lexrank.specs.Offered.{IsStepProof, IsOfferedAt, step_owed, AreStepsShown, AreShownBelow}
use Rattle.tv_lexrank.proofs.OfferLemmas.{step_offered}
use Rattle.std.proofs.Math.Seq.{take-length}
use Rattle.std.proofs.lemmas.Bool.{eqb-true}

pub kept_holds : {A : Type 0} (p : A → Bool) (xs : List A) (k : ℕ) (y : A) → slice_get (filter p xs) k ≡ Some y → p y ≡ true
kept_holds p [] k y h = absurd cc
kept_holds p (x ∷ xs) k y h = by_test (p x) refl k h (λ i g. kept_holds p xs i y g)
  where
    by_test : (b : Bool) → p x ≡ b → (k : ℕ) → slice_get (cond b (x ∷ filter p xs) (filter p xs)) k ≡ Some y → ((i : ℕ) → slice_get (filter p xs) i ≡ Some y → p y ≡ true) → p y ≡ true
    by_test true t zero g rest = let e : x ≡ y = cc in subst (λ z. p z ≡ true) e t
    by_test true t (suc k) g rest = rest k g
    by_test false t k g rest = rest k g

-- the case at a place among those from a location
pub record IsLeaving (cases : List LinearCase) (l k number : ℕ) : Type 0 where
  pub within : number < length cases
  pub case : slice_get (leaving l cases) k ≡ Some (case_at cases number)
  pub leaves : (case_at cases number).from ≡ l

pub leaving_at : (cases : List LinearCase) (l k number : ℕ) → slice_get (places_of l (map from_of cases)) k ≡ Some number → IsLeaving cases l k number
leaving_at cases l k number h =
    let told = place_told from_of cases l k number h in
    let a = slice_get_within (places_of l (map from_of cases)) k number h in
    let b = places_counted from_of cases l in
    let there = slice_get-get_or (leaving l cases) k no_case (omega (arith, a, b)) in
    let stands = told ∙ there in
    let is = get_or_from_slice_get cases number (get_or (leaving l cases) k no_case) no_case stands in
    let found = there ∙ ap Some (sym is) in
    record {
      within = slice_get_within cases number (get_or (leaving l cases) k no_case) stands;
      case = found;
      leaves = eqb-true (case_at cases number).from l (kept_holds (λ c. from_of c == l) cases k (case_at cases number) found);
    }

proof_offered : (r : Ranking) (l number : ℕ) (p : Proof) → number < length (cases_of r.about.now).cases → (case_at (cases_of r.about.now).cases number).from ≡ l → IsStepProof r number p → IsOfferedAt r l (case_at (cases_of r.about.now).cases number) p
proof_offered r l number (Covered tree) k_in e h = λ n ps pieces. subst (λ z. IsOffered (step_owed r n ps z (case_at (cases_of r.about.now).cases number)) (Covered tree)) e (step_offered r number k_in ps pieces n tree h)
proof_offered r l number (Chosen tree) k_in e h = absurd h

-- one more
pub steps_more : (r : Ranking) (l k number : ℕ) (p : Proof) (old mid new : List Proof) → IsLeaving (cases_of r.about.now).cases l k number → IsStepProof r number p → AreStepsShown r l (take k (leaving l (cases_of r.about.now).cases)) old mid → new ≡ mid ++ p ∷ [] → AreStepsShown r l (take (k + 1) (leaving l (cases_of r.about.now).cases)) old new
steps_more r l k number p old mid new at shown h e = record {
  more = h.more ++ p ∷ [];
  parts = e ∙ ap (λ z. z ++ p ∷ []) h.parts ∙ append_assoc old h.more (p ∷ []);
  each = subst (λ z. AllZip (IsOfferedAt r l) z (h.more ++ p ∷ [])) (sym (take_more (leaving l (cases_of r.about.now).cases) k (case_at (cases_of r.about.now).cases number) at.case))
      (zip_push (IsOfferedAt r l) (take k (leaving l (cases_of r.about.now).cases)) h.more (case_at (cases_of r.about.now).cases number) p h.each (proof_offered r l number p at.within at.leaves shown));
}

-- all of them
pub all_steps : (r : Ranking) (l k : ℕ) (old new : List Proof) → k ≡ length (leaving l (cases_of r.about.now).cases) → AreStepsShown r l (take k (leaving l (cases_of r.about.now).cases)) old new → AreStepsShown r l (leaving l (cases_of r.about.now).cases) old new
all_steps r l k old new e h = subst (λ z. AreStepsShown r l z old new) (ap (λ n. take n (leaving l (cases_of r.about.now).cases)) e ∙ take-length (leaving l (cases_of r.about.now).cases)) h

-- one more location
pub location_more : (r : Ranking) (l : ℕ) (front proofs : List Proof) → AreShownBelow r l front → AreStepsShown r l (leaving l (cases_of r.about.now).cases) front proofs → AreShownBelow r (l + 1) proofs
location_more r l front proofs h g = subst (λ z. AreShownBelow r z proofs) (let e : suc l ≡ l + 1 = omega arith in e) (front, h, g)
