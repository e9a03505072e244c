use Rattle.std.proofs.Common.{◌∙◌, sym, arith}
use Rattle.tv_linear.proofs.Entries.{columns-composed, width_of-first}
use Rattle.tv_linear.proofs.columns.ComposedColumns.width.Goals as goal

pub returns-in-len1-up-clause-is : goal.returns-in-len1-up-clause-is
returns-in-len1-up-clause-is c =
    let terms = c.args.self.now.terms.now in
    c.columns.ensures.counted ∙ width_of-first terms c.first-item.result (omega arith) c.first-item.is ∙ sym (columns-composed c.args.self.now.row.now terms c.args.self.now.even)
