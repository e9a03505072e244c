use Rattle.std.specs.Prelude.{◌≡◌, ◌⊎◌, ℕ, zero, suc, ◌%◌, ◌<◌, ℤ, pos, neg_ℤ, ◌+ℤ◌, ◌*ℤ◌, ◌≤ℤ◌, ◌<ℤ◌, unsigned_abs, List, [], ◌∷◌, map, All}
use Prim.Native.Nat.{◌∣◌}
use Rattle.std.specs.Int.{int_div_euclid}
use Rattle.tv_linear.specs.Linear.{Linear, linear}

-- Euclid's algorithm, in at most `steps` steps
abbrev pub gcd_within : ℕ → ℕ → ℕ → ℕ
gcd_within zero a b = a
gcd_within (suc steps) a zero = a
gcd_within (suc steps) a (suc b) = gcd_within steps (suc b) (a % suc b)

-- the greatest common divisor of two numbers, which is 0 for 0 and 0
abbrev pub gcd : ℕ → ℕ → ℕ
gcd a b = gcd_within (suc b) a b

-- the greatest common divisor of a number and the magnitudes of a list
abbrev pub divisor_from : ℕ → List ℤ → ℕ
divisor_from g [] = g
divisor_from g (c ∷ cs) = divisor_from (gcd g (unsigned_abs c)) cs

-- the greatest number that divides each number of the list, 0 where these are all 0
abbrev pub divisor : List ℤ → ℕ
divisor cs = divisor_from 0 cs

-- the least integer at or above the quotient
abbrev pub rounded_up : ℕ → ℤ → ℤ
rounded_up g z = neg_ℤ (int_div_euclid (neg_ℤ z) (pos g))

-- the row with each number divided by g, and the constant rounded up; the coefficients are multiples of g
abbrev pub divided : ℕ → Linear → Linear
divided g r = linear (map (rounded_up g) r.coefficients) (rounded_up g r.constant)

-- the same, but by 0 the row stays
abbrev pub divided_unless_zero : ℕ → Linear → Linear
divided_unless_zero zero r = r
divided_unless_zero (suc g) r = divided (suc g) r

-- the row divided by the greatest common divisor of its coefficients; a row without a coefficient other
-- than 0 stays
abbrev pub tight : Linear → Linear
tight r = divided_unless_zero (divisor r.coefficients) r

-- t is r divided by d, which is the greatest common divisor of the coefficients, with the constant rounded up
pub record IsDivided (d : ℕ) (r t : Linear) : Type 0 where
  pub positive : 0 < d
  pub coefficients : r.coefficients ≡ map (λ c. pos d *ℤ c) t.coefficients
  pub greatest : (e : ℕ) → All (λ c. e ∣ unsigned_abs c) r.coefficients → e ∣ d
  pub at_least : r.constant ≤ℤ (pos d *ℤ t.constant)
  pub by_less : (pos d *ℤ t.constant) <ℤ (r.constant +ℤ pos d)

-- r has no coefficient other than 0, and t is r
pub record IsKept (r t : Linear) : Type 0 where
  pub zeros : All (λ c. c ≡ pos 0) r.coefficients
  pub same : t ≡ r

-- t is r divided by the greatest common divisor of its coefficients, where there is one
abbrev pub IsTightened : Linear → Linear → Type 0
IsTightened r t = IsKept r t ⊎ ((d : ℕ) × IsDivided d r t)
