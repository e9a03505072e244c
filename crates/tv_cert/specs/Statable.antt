-- Formulas that an aim can state: normal ones whose comparisons are linear.
use Rattle.std.specs.Prelude.{◌&&◌, IsTrue}
use Rattle.tv_formula.specs.Forms.{is_mark}
use Rattle.tv_formula.specs.Properties.{Property, truth, compare, at, term, negated, all_of, some_of, next, fix, Properties, none, more}
use Rattle.tv_cases.specs.Linearity.{is_linear}

abbrev mutual
  pub IsStatable : Property → Type 0
  IsStatable (truth b) = Unit {0}
  IsStatable (compare r a b) = IsTrue (is_linear a && is_linear b)
  IsStatable (at l) = Unit {0}
  IsStatable term = Unit {0}
  IsStatable (negated f) = IsTrue (is_mark f)
  IsStatable (all_of fs) = AreStatable fs
  IsStatable (some_of fs) = AreStatable fs
  IsStatable (next p f) = IsStatable f
  IsStatable (fix p s f g) = IsStatable f × IsStatable g

  pub AreStatable : Properties → Type 0
  AreStatable none = Unit {0}
  AreStatable (more f fs) = IsStatable f × AreStatable fs
