use Rattle.std.proofs.Common.{arith}
use Rattle.std.proofs.lemmas.Grind.{common_steps}
use Rattle.tv_text.proofs.StreamLemmas.{before_rest, told_rest}
use Rattle.tv_text.proofs.mem_source.MemSourceSource.read.Goals as goal

pub returns-clause-given : goal.returns-clause-given
returns-clause-given c =
    rw (← c.self.view_is)
    (record {
      told = told_rest c.self.inside.bytes.items c.copy_from_slice.new.self c.args.buf.now c.self.inside.at c.min-count.result (grind (arith, common_steps)) (grind (arith, common_steps));
      lost = before_rest c.self.inside.bytes.items c.copy_from_slice.new.self c.args.buf.now c.self.inside.at c.min-count.result (grind (arith, common_steps)) (grind (arith, common_steps));
    })
