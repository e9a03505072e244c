use Rattle.std.specs.Prelude.{List, ℤ, Option, None, Some}
use Rattle.tv_cases.specs.LinearCases.{CaseSystem}
use Rattle.tv_propose.specs.declared.constants.Constants.{Constants}
use Rattle.tv_propose.specs.Constants.{constants}

-- the constants that were kept, and those of the cases where none were
abbrev pub told_constants : Option Constants → CaseSystem → List ℤ
told_constants None about = constants about
told_constants (Some kept) about = kept.numbers.items
