use Rattle.std.proofs.Common.{arith, length-drop, sym}
use Rattle.tv_language.proofs.GapLemmas.{gap_length-gap}
use Rattle.tv_language.proofs.gap.gap_length.Goals as goal

pub loop-n-preserved : goal.loop-n-preserved
loop-n-preserved c =
    let more = gap_length-gap c.in-Some.n c.loop-n.rest.now (sym c.in-Some.ensures.exact) c.in-Some.ensures.within.0 c.in-Some.ensures.within.1 in
    record { all = rw c.split_at.ensures.back (omega (arith, more)); within = rw c.split_at.ensures.back (omega (arith, length-drop c.in-Some.n c.loop-n.rest.now, c.in-Some.ensures.within.1)) }
