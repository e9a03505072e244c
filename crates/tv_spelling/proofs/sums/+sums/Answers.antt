use Rattle.std.proofs.Common.{◌-◌, ◌∙◌, arith, length, take, drop}
use Rattle.tv_spelling.proofs.TextLemmas.{part_written}
use Rattle.tv_spelling.proofs.sums.+sums.Goals as goal

pub append_parts-loop-part-preserved : goal.append_parts-loop-part-preserved
append_parts-loop-part-preserved t c =
    part_written c.args.names.now (take (length c.args.parts.now - 1) (drop 1 c.args.parts.now)) c.loop-part.part-index c.part-item.result c.loop-part.out.items c.append_further_part.new.out.items
    (omega arith) c.part-item.is c.in_ok-append_further_part-in-len1-up.ensures ∙ c.loop-part.invariant
