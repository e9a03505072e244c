use Rattle.std.proofs.Common.{◌+◌, length}
use Rattle.tv_farkas.proofs.SystemLemmas.{system_whole}
use Rattle.tv_farkas.proofs.refutation.refutation_of.Goals as goal

pub returns-clause-whole : goal.returns-clause-whole
returns-clause-whole c = system_whole c.args.columns c.args.rows.now _ (λ i. record { rows = c.args.columns + 1; columns = length c.args.rows.now; entries = c.in_ok-entries.ensures i; right = c.in_ok-right.ensures i }) c.requires.bounded c.requires.size
