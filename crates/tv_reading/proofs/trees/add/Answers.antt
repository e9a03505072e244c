use Rattle.tv_reading.proofs.LinearLemmas.{told_added}
use Rattle.tv_reading.proofs.trees.add.Goals as goal

pub invariant_of-result : goal.invariant_of-result
invariant_of-result c = record { told = told_added c.args.run.parts.items c.push.new.self.items c.args.made.expr c.args.run.named c.args.made.named c.either-named.result c.in_ok-push.ensures.items c.either-named.ensures c.args.run.told c.args.made.told }
