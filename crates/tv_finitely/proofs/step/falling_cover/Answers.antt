use Rattle.std.proofs.Common.{ap, sym, subst, arith}
use Rattle.tv_linear.specs.Depth.{splits}
use Rattle.tv_farkas.specs.Refuting.{AreShort}
use Rattle.tv_farkas.specs.Trees.{TreeNumbers}
use Rattle.tv_lexrank.specs.Falling.{HasFall}
use Rattle.tv_finitely.proofs.StepCovers.{falling_step}
use Rattle.tv_finitely.proofs.step.falling_cover.Goals as goal

pub with_fall-requires-clause-short : goal.with_fall-requires-clause-short
with_fall-requires-clause-short c = subst (TreeNumbers AreShort) (sym c.tree.ensures.same) c.in-Ok.ensures.closed.short

pub with_fall-requires-clause-room : goal.with_fall-requires-clause-room
with_fall-requires-clause-room c = (let e = ap splits c.tree.ensures.same in let s = c.in-Ok.ensures.closed.shallow in omega (arith, e, s))

pub returns-in-Ok-with_fall-clause-shows : goal.returns-in-Ok-with_fall-clause-shows
returns-in-Ok-with_fall-clause-shows c =
    let h = subst (λ t. HasFall c.args.fall.now 0 t c.in-Ok-with_fall.tree) c.tree.ensures.same c.in-Ok-with_fall.ensures in
    falling_step c.args.ranking.now c.args.number c.requires.number c.args.fall.now _ c.in-Ok-with_fall.tree c.in-Ok.ensures.closed c.requires.falls h
