use Rattle.std.proofs.Common.{sym}
use Rattle.tv_linear.specs.Views.{rows_seen}
use Rattle.tv_cert.proofs.OwedLemmas.{fall_many}
use Rattle.tv_cert.proofs.fall.Fall.count.Goals as goal

pub returns-clause-many : goal.returns-clause-many
returns-clause-many c = λ change. let f = c.args.self.now in sym (fall_many change (rows_seen f.old) (rows_seen f.new) f.place f.before f.after)
