use Rattle.std.specs.Prelude.{◌≡◌}
use Rattle.tv_fraction.specs.declared.Fraction.{Fraction}
use Rattle.tv_fraction.specs.declared.narrow.Narrow.{Narrow}

-- both have the same parts
abbrev pub IsOf : Fraction → Narrow → Type 0
IsOf f n = (f.numerator ≡ n.numerator) × (f.denominator ≡ n.denominator)
