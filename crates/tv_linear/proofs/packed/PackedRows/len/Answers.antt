use Rattle.std.proofs.Common.{sym}
use Rattle.tv_linear.proofs.PackedLemmas.{length-unpacked}
use Rattle.tv_linear.proofs.packed.PackedRows.len.Goals as goal

pub returns-clause-counted : goal.returns-clause-counted
returns-clause-counted c = sym (length-unpacked c.args.self.columns c.args.self.count c.args.self.numbers.now)
