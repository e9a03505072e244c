use Rattle.std.specs.Prelude.{◌≡◌, ℕ, ◌^◌, ◌<◌, ℤ, ◌-ℤ◌, ◌*ℤ◌, unsigned_abs}
use Rattle.tv_fraction.specs.declared.Fraction.{Fraction}

-- the parts of a fraction in lowest terms
abbrev pub numerator_of : Fraction → ℤ
numerator_of f = f.numerator

abbrev pub denominator_of : Fraction → ℤ
denominator_of f = f.denominator

-- f is n / d
abbrev pub IsRatio : Fraction → ℤ → ℤ → Type 0
IsRatio f n d = f.numerator *ℤ d ≡ n *ℤ f.denominator

-- f is a / b
abbrev pub IsQuotient : Fraction → Fraction → Fraction → Type 0
IsQuotient f a b = IsRatio f (a.numerator *ℤ b.denominator) (a.denominator *ℤ b.numerator)

-- f is a - c * q
abbrev pub IsDifference : Fraction → Fraction → Fraction → Fraction → Type 0
IsDifference f a c q =
    let over : ℤ = c.numerator *ℤ q.numerator in
    let under : ℤ = c.denominator *ℤ q.denominator in
    IsRatio f (a.numerator *ℤ under -ℤ over *ℤ a.denominator) (a.denominator *ℤ under)

-- both parts are below the bound in magnitude
abbrev pub IsBelow : ℕ → Fraction → Type 0
IsBelow bound f = (unsigned_abs f.numerator < bound) × (unsigned_abs f.denominator < bound)

-- both parts are below 2^40 in magnitude
abbrev pub IsNarrow : Fraction → Type 0
IsNarrow f = IsBelow (2 ^ 40) f
