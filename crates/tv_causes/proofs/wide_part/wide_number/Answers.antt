use Rattle.std.proofs.Common.{[], rules, FitsSigned}
use Rattle.std.specs.Prelude.{◌↔◌, IsTrue}
use Rattle.std.specs.Int.{w128}
use Rattle.std.proofs.lemmas.Int.{to_z-of_z}
use Rattle.tv_linear.specs.Arithmetic.{constant_row}
use Rattle.tv_linear.specs.Linear.{IsWithin}
use Rattle.tv_causes.proofs.FormLemmas.{constant_narrow, constant_wide}
use Rattle.tv_causes.proofs.WideLemmas.{one_narrow, wide_here}
use Rattle.tv_causes.proofs.wide_part.wide_number.Goals as goal

pub returns-then-is_narrow : goal.returns-then-is_narrow
returns-then-is_narrow c =
    let fits : FitsSigned w128 c.args.number = search rules in
    let tells : IsTrue c.is_narrow.result ↔ IsWithin 62 c.args.number = simp to_z-of_z at c.is_narrow.ensures in
    one_narrow (constant_row c.args.variables c.args.number) (constant_narrow c.args.variables c.args.number (tells.0 c.if-is_narrow.true))

pub returns-else-is_narrow : goal.returns-else-is_narrow
returns-else-is_narrow c =
    let fits : FitsSigned w128 c.args.number = search rules in
    let tells : IsTrue c.is_narrow.result ↔ IsWithin 62 c.args.number = simp to_z-of_z at c.is_narrow.ensures in
    wide_here (constant_row c.args.variables c.args.number) [] c.args.variables
    (constant_wide c.args.variables c.args.number (λ narrow. let e = tells.1 narrow in let f = c.if-is_narrow.false in cc))
