use Rattle.std.specs.Prelude.{◌≡◌, ℕ, zero, suc, ◌<◌, ◌≤◌, ◌^◌, List, [], ◌∷◌, length, get_or, ℤ, pos, ◌*ℤ◌, ◌<ℤ◌, unsigned_abs}
use Prim.Native.Nat.{◌∣◌}
use Rattle.tv_fraction.specs.declared.Fraction.{Fraction}
use Rattle.tv_simplex.specs.Outcomes.{IsShort}
use Rattle.tv_simplex.specs.Ratios.{Ratio}
use Rattle.tv_simplex.specs.Rows.{ratio, none, IsNarrowRatio}
use Rattle.tv_simplex.specs.declared.stop.Stop.{Stop}
use Rattle.tv_simplex.specs.declared.stop.Stop.TheVariants.{Wide, Scale, Memory}

-- the fraction at a place of a list; past the end it is 0
abbrev pub ratio_at : List Fraction → ℕ → Ratio
ratio_at [] j = none
ratio_at (f ∷ fs) zero = ratio f
ratio_at (f ∷ fs) (suc j) = ratio_at fs j

abbrev pub numerator_at : List Fraction → ℕ → ℤ
numerator_at fractions j = (ratio_at fractions j).numerator

abbrev pub denominator_at : List Fraction → ℕ → ℤ
denominator_at fractions j = (ratio_at fractions j).denominator

-- each numerator is below 2^41 in magnitude
abbrev pub AreBounded : List Fraction → Type 0
AreBounded fractions = (j : ℕ) → j < length fractions → unsigned_abs (numerator_at fractions j) < 2 ^ 41

-- both parts of each are below 2^40 in magnitude
abbrev pub AreNarrow : List Fraction → Type 0
AreNarrow fractions = (j : ℕ) → j < length fractions → IsNarrowRatio (ratio_at fractions j)

-- k is a multiple of each of the first n denominators
abbrev pub IsMultiple : List Fraction → ℕ → ℕ → Type 0
IsMultiple fractions n k = (j : ℕ) → j < n → unsigned_abs (denominator_at fractions j) ∣ k

-- the least common multiple of the first n denominators, below 2^62
pub record IsCommon (fractions : List Fraction) (n scale : ℕ) : Type 0 where
  pub positive : 0 < scale
  pub short : scale < 2 ^ 62
  pub multiple : IsMultiple fractions n scale
  pub least : (k : ℕ) → IsMultiple fractions n k → scale ∣ k

-- no common multiple of the first n denominators is below 2^62
abbrev pub HasNoCommon : List Fraction → ℕ → Type 0
HasNoCommon fractions n = (k : ℕ) → 0 < k → IsMultiple fractions n k → 2 ^ 62 ≤ k

-- the least common multiple of two numbers, below 2^62
pub record IsLarger (a b scale : ℕ) : Type 0 where
  pub positive : 0 < scale
  pub short : scale < 2 ^ 62
  pub first : a ∣ scale
  pub second : b ∣ scale
  pub least : (k : ℕ) → a ∣ k → b ∣ k → scale ∣ k

-- no common multiple of two numbers is below 2^62
abbrev pub HasNoLarger : ℕ → ℕ → Type 0
HasNoLarger a b = (k : ℕ) → 0 < k → a ∣ k → b ∣ k → 2 ^ 62 ≤ k

-- the integer is the fraction times the scale
abbrev pub IsTimes : Fraction → ℤ → ℤ → Type 0
IsTimes f scale whole = whole *ℤ f.denominator ≡ scale *ℤ f.numerator

-- the integers are the fractions times the scale, and all are short
pub record AreScaled (fractions : List Fraction) (numbers : List ℤ) (scale : ℤ) : Type 0 where
  pub as_many : length numbers ≡ length fractions
  pub positive : pos 0 <ℤ scale
  pub scale_short : IsShort scale
  pub same : (j : ℕ) → j < length fractions → get_or numbers j (pos 0) *ℤ denominator_at fractions j ≡ scale *ℤ numerator_at fractions j
  pub short : (j : ℕ) → j < length fractions → IsShort (get_or numbers j (pos 0))

-- there are such numbers
pub record HaveScale (fractions : List Fraction) : Type 0 where
  pub scale : ℤ
  pub whole : ℕ → ℤ
  pub positive : pos 0 <ℤ scale
  pub scale_short : IsShort scale
  pub same : (j : ℕ) → j < length fractions → whole j *ℤ denominator_at fractions j ≡ scale *ℤ numerator_at fractions j
  pub short : (j : ℕ) → j < length fractions → IsShort (whole j)

abbrev pub IsScalingStop : List Fraction → Stop → Type 0
IsScalingStop fractions (Wide row column) = ⊥
IsScalingStop fractions Scale = HaveScale fractions → ⊥
IsScalingStop fractions Memory = Unit {0}
