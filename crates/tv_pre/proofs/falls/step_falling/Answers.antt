use Rattle.std.proofs.Common.{◌+◌, length, subst, sym, ap, arith}
use Rattle.tv_linear.specs.Depth.{splits}
use Rattle.tv_cases.specs.Systems.{cases_of}
use Rattle.tv_cases.specs.Views.{case_view}
use Rattle.tv_pre.specs.Ranked.{IsFallingCover, ShowsFallingStep}
use Rattle.tv_pre.proofs.FallingLemmas.{shows_falling_step}
use Rattle.tv_pre.proofs.ShownLemmas.{falling_splits}
use Rattle.tv_pre.proofs.falls.step_falling.Goals as goal

pub unreachable-requires : goal.unreachable-requires
unreachable-requires c =
    let d = falling_splits c.count_at-first.result (length c.deref-rows.result.now + length c.deref-guards.result.now) c.tree.result.now c.in_ok-tree.tree c.in_ok-tree.ensures in
    let s = c.tree.ensures.shallow in
    let e = ap splits c.tree.ensures.same in
    c.in-None.ensures (omega (arith, d, s, e))

pub returns-clause-shows : goal.returns-clause-shows
returns-clause-shows c =
    let about = cases_of c.args.setting.now.about.now in
    let q = c.args.piece.now in
    let case = case_view c.args.case.now in
    let first = c.count_at-first.result in
    let count = length c.deref-rows.result.now + length c.deref-guards.result.now in
    let falling = subst (λ t. IsFallingCover first count t c.in_ok-tree.tree) c.tree.ensures.same c.in_ok-tree.ensures in
    subst (ShowsFallingStep about q case c.args.done.now c.args.into.now) (sym c.in-Some.ensures.1)
    (shows_falling_step about q case c.args.done.now c.args.into.now first count c.in-Ok.cover c.in_ok-tree.tree c.count_at-first.ensures
    (λ i. length (c.deref-rows.ensures.value i) + length (c.deref-guards.ensures.value i)) c.in-Ok.ensures.shows falling)
