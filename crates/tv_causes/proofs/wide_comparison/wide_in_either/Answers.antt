use Rattle.std.proofs.Common.{[], ◌∷◌, subst, rules, FitsSigned}
use Rattle.std.specs.Prelude.{IfOk}
use Rattle.std.specs.Int.{w128}
use Rattle.std.proofs.lemmas.Int.{to_z-of_z}
use Rattle.tv_cases.specs.Lists.{difference}
use Rattle.tv_causes.specs.Widths.{TellsWide}
use Rattle.tv_causes.proofs.WideLemmas.{wide_before, tells_after, on_ok}
use Rattle.tv_causes.proofs.wide_comparison.wide_in_either.Goals as goal

pub returns-in-Some : goal.returns-in-Some
returns-in-Some c =
    let one = difference c.args.less c.args.left.now c.args.right.now in
    let two = difference c.args.less c.args.right.now c.args.left.now in
    let fits : FitsSigned w128 c.args.less = search rules in
    let told : TellsWide (difference c.args.less c.args.left.now c.args.right.now ∷ []) c.in_ok-column.field-0 = simp to_z-of_z at c.in_ok-column.ensures in
    wide_before (one ∷ []) (two ∷ []) c.in-Some.column (subst (TellsWide (one ∷ [])) c.in-Some.is told)

pub returns-in-None : goal.returns-in-None
returns-in-None c =
    let one = difference c.args.less c.args.left.now c.args.right.now in
    let two = difference c.args.less c.args.right.now c.args.left.now in
    let fits : FitsSigned w128 c.args.less = search rules in
    let told : TellsWide (difference c.args.less c.args.left.now c.args.right.now ∷ []) c.in_ok-column.field-0 = simp to_z-of_z at c.in_ok-column.ensures in
    let later : IfOk c.wide_difference-in-None.result (TellsWide (difference c.args.less c.args.right.now c.args.left.now ∷ [])) = simp to_z-of_z at c.wide_difference-in-None.ensures in
    let narrow = subst (TellsWide (one ∷ [])) c.in-None.is told in
    on_ok (TellsWide (two ∷ [])) (TellsWide (one ∷ two ∷ [])) (λ found k. tells_after (one ∷ []) (two ∷ []) found narrow k) c.wide_difference-in-None.result later
