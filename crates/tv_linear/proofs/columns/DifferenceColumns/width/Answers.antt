use Rattle.std.proofs.Common.{◌∙◌, sym}
use Rattle.tv_linear.proofs.Entries.{columns-difference}
use Rattle.tv_linear.proofs.columns.DifferenceColumns.width.Goals as goal

pub returns-clause-is : goal.returns-clause-is
returns-clause-is c =
    c.columns.ensures.counted ∙ sym (columns-difference c.args.self.now.left.now c.args.self.now.right.now c.args.self.now.more c.args.self.now.even)
