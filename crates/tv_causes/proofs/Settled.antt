-- what the causes show
use Rattle.std.proofs.Common.{◌≡◌, ℕ, zero, List, ◌∙◌, sym, ap, subst, ℤ}
use Rattle.std.specs.Prelude.{Some}
use Rattle.tv_formula.specs.Properties.{Property, at, negated, fix}
use Rattle.tv_formula.specs.Forms.{never_at}
use Rattle.tv_cases.specs.LinearCases.{CaseSystem}
use Rattle.tv_candidates.specs.declared.candidate.Candidate.{Candidate}
use Rattle.tv_candidates.specs.Offered.{offered}
use Rattle.tv_candidates.proofs.Parts.{larger}
use Rattle.tv_causes.specs.Invariants.{IsSufficient}
use Rattle.tv_causes.specs.Causes.{IsLeftPoint}
use Rattle.tv_causes.specs.Laws.{SafetyIsSettled}

-- the location of a location test
abbrev pub tested : Property → ℕ
tested (at l) = l
tested f = zero

-- what a negation is of
abbrev pub denied_part : Property → Property
denied_part (negated f) = f
denied_part f = f

abbrev pub hold_part : Property → Property
hold_part (fix p w f g) = f
hold_part f = f

one_location : (k l : ℕ) → never_at k ≡ never_at l → k ≡ l
one_location k l e = ap (λ f. tested (denied_part (hold_part f))) e

none_left : (about : CaseSystem) (rests : List (List Candidate)) (l : ℕ) → IsSufficient about rests l → (point : List ℤ) → IsLeftPoint about (Some rests) l point → ⊥
none_left about rests l sufficient point left =
    let same = larger about (offered about rests) (offered about rests) sufficient.part left.known (λ d among. among) sufficient.largest left.strengthened.greatest in
    sufficient.none point left.counted (λ d among place. left.meets d (same d among) place)

pub settled : (about : CaseSystem) (f : Property) (rests : List (List Candidate)) (l : ℕ) → IsSufficient about rests l → SafetyIsSettled about f rests l
settled about f rests l sufficient = record {
  left = none_left about rests l sufficient;
  invariant = λ point cause. none_left about rests l sufficient point cause.left;
  paths = λ budget count is cause.
      none_left about rests l sufficient cause.point
      (subst (λ k. IsLeftPoint about (Some rests) k cause.point) (one_location cause.l l (sym cause.safety ∙ is)) cause.left);
}
