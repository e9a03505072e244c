use Rattle.std.proofs.Common.{sym}
use Rattle.tv_shape.proofs.ShaperLemmas.{aims_counted}
use Rattle.tv_shape.proofs.nodes.part_count.Goals as goal

pub returns : goal.returns
returns c = sym (aims_counted c.args.parts.now)
