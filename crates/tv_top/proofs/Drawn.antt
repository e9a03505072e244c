-- The first case that has a draw.
use Rattle.std.proofs.Common.{◌≡◌, ◌⊎◌, inl, inr, ℕ, zero, suc, ◌+◌, ◌<◌, ◌≤◌, List, [], ◌∷◌, length, slice_get, Some, arith, sym, ap, ◌∙◌, subst}
use Rattle.tv_cases.specs.LinearCases.{LinearCase}
use Rattle.tv_region.specs.Met.{Has}
use Rattle.std.proofs.lemmas.Option.{same_Some}
use Rattle.tv_derived.proofs.Different.{front_or_last}

-- no case before the place has a draw
abbrev pub NoneBefore : List LinearCase → ℕ → Type 0
NoneBefore cases n = (k : ℕ) (c : LinearCase) → k < n → slice_get cases k ≡ Some c → c.draws ≡ 0

pub none_more : (cases : List LinearCase) (n : ℕ) (d : LinearCase) → NoneBefore cases n → slice_get cases n ≡ Some d → d.draws ≡ 0 → NoneBefore cases (n + 1)
none_more cases n d before there zero_draws k c l e = by_case (front_or_last k n l)
  where
    by_case : (k < n) ⊎ (k ≡ n) → c.draws ≡ 0
    by_case (inl m) = before k c m e
    by_case (inr m) = subst (λ (x : LinearCase). x.draws ≡ 0) (same_Some d c (sym there ∙ (ap (slice_get cases) (sym m) ∙ e))) zero_draws

within : (cases : List LinearCase) (k : ℕ) (c : LinearCase) → slice_get cases k ≡ Some c → k < length cases
within [] k c e = absurd (let no : ⊥ = cc in no)
within (d ∷ cases) zero c e = omega arith
within (d ∷ cases) (suc k) c e = let l = within cases k c e in omega (arith, l)

pub none_at_all : (cases : List LinearCase) (n : ℕ) → length cases ≤ n → NoneBefore cases n → (k : ℕ) (c : LinearCase) → slice_get cases k ≡ Some c → c.draws ≡ 0
none_at_all cases n l before k c e = before k c (let m = within cases k c e in omega (arith, l, m)) e

-- so no case has one
pub none_has : (cases : List LinearCase) → ((k : ℕ) (c : LinearCase) → slice_get cases k ≡ Some c → c.draws ≡ 0) → (c : LinearCase) → Has cases c → c.draws ≡ 0
none_has [] h c m = absurd m
none_has (d ∷ cases) h c (inl e) = h 0 c (ap (λ (x : LinearCase). Some x) e)
none_has (d ∷ cases) h c (inr m) = none_has cases (λ k x g. h (suc k) x g) c m
