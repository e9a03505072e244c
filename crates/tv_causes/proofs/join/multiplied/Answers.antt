use Rattle.std.proofs.Common.{◌≡◌, sym, ◌∙◌, ap, ◌*◌, ◌^◌, rules, FitsSigned}
use Rattle.std.specs.Prelude.{min, unsigned_abs}
use Rattle.std.specs.Int.{w128}
use Rattle.std.proofs.lemmas.Int.{to_z-of_z}
use Rattle.tv_causes.proofs.JoinLemmas.{times_number, times_other}
use Rattle.tv_causes.proofs.join.multiplied.Goals as goal

pub returns-then-is_number : goal.returns-then-is_number
returns-then-is_number c t even h =
    let fits : FitsSigned w128 c.constant.result = search rules in
    let magnitude : c.unsigned_abs-constant.result ≡ unsigned_abs c.constant.result = simp to_z-of_z at c.unsigned_abs-constant.ensures.value in
    let is = magnitude ∙ ap unsigned_abs c.constant.ensures.is in
    times_number t c.args.row.now c.args.column c.capped_product.result c.capped_product-then-is_number.result c.args.product
    (sym c.is_number.ensures ∙ c.if-is_number.true) h
    (c.capped_product.ensures ∙ ap (λ k. min (c.args.product.at_column * k) (2 ^ 62)) is)
    (c.capped_product-then-is_number.ensures ∙ ap (λ k. min (c.args.product.constant * k) (2 ^ 62)) is)

pub returns-else-is_number : goal.returns-else-is_number
returns-else-is_number c t even h =
    let fits : FitsSigned w128 c.constant.result = search rules in
    let magnitude : c.unsigned_abs-constant.result ≡ unsigned_abs c.constant.result = simp to_z-of_z at c.unsigned_abs-constant.ensures.value in
    let is = magnitude ∙ ap unsigned_abs c.constant.ensures.is in
    let number_fits : FitsSigned w128 c.entry.result = search rules in
    let number : c.unsigned_abs.result ≡ unsigned_abs c.entry.result = simp to_z-of_z at c.unsigned_abs.ensures.value in
    let at_column = number ∙ ap unsigned_abs c.entry.ensures.is in
    times_other t c.args.row.now c.args.column c.capped_product-else-is_number.result c.capped_product-else-is_number-2.result c.args.product
    (sym c.is_number.ensures ∙ c.if-is_number.false) h
    (c.capped_product-else-is_number.ensures ∙ ap (λ k. min (c.args.product.constant * k) (2 ^ 62)) at_column)
    (c.capped_product-else-is_number-2.ensures ∙ ap (λ k. min (c.args.product.constant * k) (2 ^ 62)) is)
