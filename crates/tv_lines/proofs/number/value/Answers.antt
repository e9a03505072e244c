use Rattle.std.proofs.Common.{◌+◌, arith}
use Rattle.tv_lines.proofs.ValueLemmas.{value_grows, value_more}
use Rattle.tv_lines.proofs.number.value.Goals as goal

pub returns-then-total-ge-WIDE : goal.returns-then-total-ge-WIDE
returns-then-total-ge-WIDE c = omega (arith, value_grows (c.loop-digit.digit-index + 1) c.args.digits.now, value_more c.args.digits.now c.loop-digit.digit-index)
