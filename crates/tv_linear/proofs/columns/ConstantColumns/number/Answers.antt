use Rattle.std.proofs.Common.{arith}
use Rattle.tv_linear.proofs.PlainLists.{length-zeros}
use Rattle.tv_linear.proofs.Entries.{constant_inner}
use Rattle.tv_linear.proofs.columns.ConstantColumns.number.Goals as goal

pub returns-then-column-width-clause-is : goal.returns-then-column-width-clause-is
returns-then-column-width-clause-is c =
    let counted = length-zeros c.args.self.now.columns in
    constant_inner c.args.self.now.columns c.args.self.now.number c.args.column (omega (arith, counted))
