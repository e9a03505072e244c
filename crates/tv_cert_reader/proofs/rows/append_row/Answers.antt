use Rattle.std.proofs.Common.{◌∙◌, ◌++◌, ap}
use Rattle.tv_cert_reader.proofs.AppendedLemmas.{row_appended}
use Rattle.tv_cert_reader.proofs.rows.append_row.Goals as goal

pub returns : goal.returns
returns c =
    let ns = c.in_ok-numbers.numbers.items in
    row_appended c.args.width ns c.in_ok-numbers.ensures.0.many c.args.kind c.args.packed.now.items c.extend_from_slice.new.self.items c.args.cursor.now c.numbers.new.cursor c.requires c.in_ok-numbers.ensures.0.narrow
    (c.in_ok-extend_from_slice.ensures.items ∙ ap (λ xs. c.args.packed.now.items ++ xs) c.deref.ensures.value) c.in_ok-numbers.ensures.1
