use Rattle.std.proofs.Common.{arith}
use Rattle.tv_language.proofs.TokenCounts.{few_tokens}
use Rattle.tv_reading.proofs.reading.Reading.new.Goals as goal

pub invariant_of-result : goal.invariant_of-result
invariant_of-result c =
    let bounded = few_tokens 0 c.args.text.now c.args.list.now c.requires.scanned in
    let short = c.requires.short in
    record { bounded = omega arith }
