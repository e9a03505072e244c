use Rattle.std.proofs.Common.{◌≡◌, ◌↔◌, ◌∙◌, ◌+ℤ◌, ◌≤ℤ◌, ap, sym, subst, FitsSigned}
use Rattle.std.specs.Int.{w128}
use Rattle.std.proofs.lemmas.Int.{to_z-of_z}
use Rattle.tv_linear.specs.Linear.{IsMet, value}
use Rattle.tv_linear.specs.Arithmetic.{plus, opposite, raised}
use Rattle.tv_linear.specs.Tight.{tight}
use Rattle.tv_linear.proofs.RowValues.{at_most-met}
use Rattle.tv_linear.proofs.row.Row.at_most.Goals as goal

pub returns-clause-at_most : goal.returns-clause-at_most
returns-clause-at_most c xs =
    let left = c.args.left.now in
    let right = c.args.right.now in
    let less_fits : FitsSigned w128 c.args.less = c.ranges.less in
    let made : c.in_ok-row.row ≡ raised c.args.less (plus left (opposite right)) = simp to_z-of_z at c.in_ok-row.ensures.same in
    let is : c.in_ok-tighten.field-0 ≡ tight (raised c.args.less (plus left (opposite right))) = c.in_ok-tighten.ensures.exact ∙ ap tight made in
    subst (λ row. IsMet xs row ↔ ((value left xs +ℤ c.args.less) ≤ℤ value right xs)) (sym is) (at_most-met c.args.less left right xs)
