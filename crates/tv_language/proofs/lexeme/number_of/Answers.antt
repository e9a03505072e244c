use Rattle.std.proofs.Common.{◌+◌, arith}
use Rattle.tv_language.proofs.NumberLemmas.{value-take, value-take_more}
use Rattle.tv_language.proofs.lexeme.number_of.Goals as goal

pub returns-then-total : goal.returns-then-total
returns-then-total c = omega (arith, value-take (c.loop-digit.digit-index + 1) c.args.digits.now, value-take_more c.args.digits.now c.loop-digit.digit-index)
