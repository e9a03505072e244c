use Rattle.std.proofs.Common.{ap, sym, subst, arith}
use Rattle.tv_linear.specs.Depth.{splits}
use Rattle.tv_cases.specs.Systems.{cases_of}
use Rattle.tv_farkas.specs.Refuting.{AreShort}
use Rattle.tv_farkas.specs.Trees.{TreeNumbers}
use Rattle.tv_lexrank.specs.Falling.{HasFall}
use Rattle.tv_lexrank.specs.Steps.{way_in, ranks_of, rows_known}
use Rattle.tv_lexrank.proofs.StepLemmas.{falling_met}
use Rattle.tv_lexrank.proofs.step.falling_cover.Goals as goal

pub with_fall-requires-clause-short : goal.with_fall-requires-clause-short
with_fall-requires-clause-short c = subst (TreeNumbers AreShort) (sym c.tree.ensures.same) c.in-Ok.ensures.closed.short

pub with_fall-requires-clause-room : goal.with_fall-requires-clause-room
with_fall-requires-clause-room c = (let e = ap splits c.tree.ensures.same in let s = c.in-Ok.ensures.closed.shallow in omega (arith, e, s))

pub returns-in-Ok-with_fall-clause-shows : goal.returns-in-Ok-with_fall-clause-shows
returns-in-Ok-with_fall-clause-shows c =
    let r = c.args.ranking.now in
    let w = way_in r c.args.number in
    let h = subst (λ t. HasFall c.args.fall.now 0 t c.in-Ok-with_fall.tree) c.tree.ensures.same c.in-Ok-with_fall.ensures in
    falling_met (cases_of r.about.now).variables w (rows_known r w.taken.to) (ranks_of r w.taken.from) (ranks_of r w.taken.to) c.args.fall.now _ c.in-Ok-with_fall.tree c.in-Ok.ensures.closed c.requires.falls.shown h
