use Rattle.std.specs.Prelude.{ℕ}
use Rattle.tv_formula.specs.declared.formula.Formula.{Formula}
use Rattle.tv_formula.specs.Properties.{Property}
use Rattle.tv_formula.specs.Views.{property}

-- the property that a formula is
abbrev pub property_of : Formula → Property
property_of f = property f.tree

-- how many variables and locations it speaks of
abbrev pub variables_of : Formula → ℕ
variables_of f = f.variables

abbrev pub locations_of : Formula → ℕ
locations_of f = f.locations
