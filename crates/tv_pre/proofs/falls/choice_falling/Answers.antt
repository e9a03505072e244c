use Rattle.std.proofs.Common.{length, subst, sym, ap, arith}
use Rattle.tv_linear.specs.ChoiceDepth.{choice_splits}
use Rattle.tv_cases.specs.Systems.{cases_of}
use Rattle.tv_pre.specs.Ranked.{IsFallingChoice, NeverStops, ShowsFallingChoice}
use Rattle.tv_pre.proofs.FallingLemmas.{shows_falling_choice, choice_depth, never_stops}
use Rattle.tv_pre.proofs.falls.choice_falling.Goals as goal

pub falling_choice-requires-clause-goes : goal.falling_choice-requires-clause-goes
falling_choice-requires-clause-goes c = subst NeverStops (sym c.tree.ensures.same) (never_stops (cases_of c.args.setting.now.about.now) c.args.piece.now c.args.into.now.pieces.items c.in-Ok.choice c.in-Ok.ensures.shows)

pub unreachable-requires : goal.unreachable-requires
unreachable-requires c =
    let d = choice_depth (cases_of c.args.setting.now.about.now) c.args.done.now (length c.deref-rows.result.now) c.tree.result.now c.in_ok-tree.tree c.in_ok-tree.ensures in
    let s = c.tree.ensures.shallow in
    let e = ap choice_splits c.tree.ensures.same in
    c.in-None.ensures (omega (arith, d, s, e))

pub returns-clause-shows : goal.returns-clause-shows
returns-clause-shows c =
    let about = cases_of c.args.setting.now.about.now in
    let q = c.args.piece.now in
    let count = length c.deref-rows.result.now in
    let falling = subst (λ t. IsFallingChoice about c.args.done.now count t c.in_ok-tree.tree) c.tree.ensures.same c.in_ok-tree.ensures in
    let into = c.args.into.now.pieces.items in
    subst (ShowsFallingChoice about q c.args.done.now into) (sym c.in-Some.ensures.1)
    (shows_falling_choice about q c.args.done.now into count c.in-Ok.choice c.in_ok-tree.tree (ap length c.deref-rows.ensures.value) c.in-Ok.ensures.shows falling)
