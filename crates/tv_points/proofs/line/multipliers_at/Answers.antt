use Rattle.std.proofs.Common.{◌∙◌, ◌++◌, ◌∷◌, [], ap, sym, pos}
use Rattle.tv_refute.specs.Built.{built}
use Rattle.tv_points.proofs.LineLemmas.{many_constants, made_wide, made_shows}
use Rattle.tv_points.proofs.PushLemmas.{one_fault}
use Rattle.tv_points.proofs.line.multipliers_at.Goals as goal

pub constant_sum-requires : goal.constant_sum-requires
constant_sum-requires c = many_constants (built c.args.row.now) c.args.point.now c.deref.result.now (c.deref.ensures.value ∙ c.in_ok-multipliers.ensures)

pub returns-in-None : goal.returns-in-None
returns-in-None c = one_fault c.args.point.now (built c.args.row.now) _ (made_wide (built c.args.row.now) c.args.point.now c.deref.result.now (c.deref.ensures.value ∙ c.in_ok-multipliers.ensures) c.requires.showable.flat c.in-None.ensures)

pub returns-in_ok-push_item-in-Some : goal.returns-in_ok-push_item-in-Some
returns-in_ok-push_item-in-Some c = made_shows (built c.args.row.now) c.args.point.now c.deref.result.now c.push_item.new.items.items (c.deref.ensures.value ∙ c.in_ok-multipliers.ensures) c.requires.showable c.in-Some.ensures.0 (c.in_ok-push_item-in-Some.ensures ∙ ap (λ ys. ys ++ pos 1 ∷ []) (sym c.deref.ensures.value))
