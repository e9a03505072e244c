use Rattle.std.proofs.Common.{◌+◌, arith, le-leb, sym}
use Rattle.tv_language.proofs.NumberLemmas.{value-take, value-take_more}
use Rattle.tv_language.proofs.number.is_wide.Goals as goal

pub returns-then-total : goal.returns-then-total
returns-then-total c = sym (le-leb _ _ (omega (arith, value-take (c.loop-digit.digit-index + 1) c.args.digits.now, value-take_more c.args.digits.now c.loop-digit.digit-index)))
