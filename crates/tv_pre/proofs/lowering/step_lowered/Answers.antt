use Rattle.std.proofs.Common.{subst, sym, ap, arith}
use Rattle.tv_linear.specs.Depth.{splits}
use Rattle.tv_cases.specs.Systems.{cases_of}
use Rattle.tv_cases.specs.Views.{case_view}
use Rattle.tv_shape.specs.Narrow.{CoverNarrow}
use Rattle.tv_pre.specs.Lowering.{IsLowered, ShowsRankedStep}
use Rattle.tv_pre.proofs.LoweringLemmas.{shows_ranked_step, step_narrow}
use Rattle.tv_pre.proofs.lowering.step_lowered.Goals as goal

pub lowered-requires-clause-narrow : goal.lowered-requires-clause-narrow
lowered-requires-clause-narrow c =
    subst CoverNarrow (sym c.tree.ensures.same) (step_narrow (cases_of c.args.setting.now.about.now) c.args.piece.now (case_view c.args.case.now) c.args.into.now c.in-Ok.cover c.in-Ok.ensures.shows)

pub unreachable-requires : goal.unreachable-requires
unreachable-requires c =
    let d = c.in_ok-tree.ensures.deep in
    let s = c.tree.ensures.shallow in
    let e = ap splits c.tree.ensures.same in
    c.in-None.ensures (omega (arith, d, s, e))

pub returns-clause-shows : goal.returns-clause-shows
returns-clause-shows c ranked falls =
    let about = cases_of c.args.setting.now.about.now in
    let q = c.args.piece.now in
    let case = case_view c.args.case.now in
    let first = c.count_at-first.result in
    let lower = subst (λ t. IsLowered c.args.fall.now first 0 t c.in_ok-tree.tree) c.tree.ensures.same c.in_ok-tree.ensures in
    subst (ShowsRankedStep about ranked q case c.args.done.now c.args.into.now) (sym c.in-Some.ensures.1)
    (shows_ranked_step about ranked q case c.args.done.now c.args.into.now c.args.fall.now first c.in-Ok.cover c.in_ok-tree.tree c.count_at-first.ensures c.requires.from c.in-Ok.ensures.shows lower falls)
