use Rattle.std.proofs.Common.{rules, FitsSigned}
use Rattle.std.specs.Int.{w128}
use Rattle.std.proofs.lemmas.Int.{to_z-of_z}
use Rattle.tv_linear.specs.Fits.{GivesTight}
use Rattle.tv_cases.specs.Lists.{difference}
use Rattle.tv_causes.proofs.WideLemmas.{tight_narrow, tight_wide}
use Rattle.tv_causes.proofs.wide_comparison.wide_difference.Goals as goal
use Rattle.tv_causes.proofs.wide_comparison.wide_difference.Goals.{in-Ok, in-Err-Wide, in-Err-Memory}

pub returns : goal.returns
returns c =
    let row = difference c.args.less c.args.left.now c.args.right.now in
    let fits : FitsSigned w128 c.args.less = search rules in
    let exact : GivesTight (difference c.args.less c.args.left.now c.args.right.now) c.at_most.result = simp to_z-of_z at c.at_most.ensures.exact in
    elim c.match-at_most.branch [
      | in-Ok w ↦ rw w.result-is (tight_narrow row w.in-Ok.field-0 c.at_most.result w.in-Ok.is exact)
      | in-Err-Wide w ↦ rw w.result-is (tight_wide row c.at_most.result w.in-Err-Wide.field-0 w.in-Err-Wide.column w.in-Err-Wide.is w.in-Err-Wide.field-0-is exact)
      | in-Err-Memory w ↦ rw w.result-is tt
    ]
