use Rattle.std.proofs.Common.{sym}
use Rattle.tv_linear.proofs.PlainLists.{length-zeros}
use Rattle.tv_linear.proofs.columns.ConstantColumns.width.Goals as goal

pub returns-clause-is : goal.returns-clause-is
returns-clause-is c = sym (length-zeros c.args.self.now.columns)
