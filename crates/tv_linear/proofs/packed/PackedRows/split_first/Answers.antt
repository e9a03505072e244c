use Rattle.std.proofs.Common.{arith, sym, ◌∙◌, ◌∷◌, ◌-◌}
use Rattle.tv_linear.specs.Packed.{unpacked}
use Rattle.tv_linear.proofs.PackedLemmas.{unpacked-cons}
use Rattle.tv_linear.proofs.packed.PackedRows.split_first.Goals as goal

pub returns : goal.returns
returns c =
    let rows = c.args.self in
    unpacked-cons rows.columns rows.count rows.numbers.now (omega arith) ∙ (λ i. sym c.first_row.ensures i ∷ unpacked rows.columns (rows.count - 1) (sym c.split_at.ensures.back i))
