use Rattle.std.proofs.Common.{◌∙◌, ap, sym}
use Rattle.tv_linear.specs.Linear.{columns}
use Rattle.tv_linear.proofs.Entries.{columns-opposite}
use Rattle.tv_linear.proofs.PlainLists.{length-unit}
use Rattle.tv_recur.proofs.staying.push_unchanged.Goals as goal

pub add-requires : goal.add-requires
add-requires c =
    let n = c.args.columns in
    let v = c.args.update.now.variable in
    c.requires.even ∙ sym (ap columns c.in_ok-opposite.ensures ∙ columns-opposite c.in_ok-column.column ∙ ap columns c.in_ok-column.ensures ∙ length-unit n v)

pub add-requires-2 : goal.add-requires-2
add-requires-2 c =
    let n = c.args.columns in
    let v = c.args.update.now.variable in
    ap columns c.in_ok-column.ensures ∙ length-unit n v ∙ sym (ap columns c.in_ok-opposite-2.ensures ∙ columns-opposite c.args.update.now.term ∙ c.requires.even)
