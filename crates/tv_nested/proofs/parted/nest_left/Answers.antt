use Rattle.std.proofs.Common.{length, sym, subst}
use Rattle.tv_cases.specs.Systems.{cases_of}
use Rattle.tv_rank.specs.Given.{lists, AreNumbered}
use Rattle.tv_rank.specs.Sets.{PointsOf}
use Rattle.tv_nested.specs.Depths.{AreAnswered}
use Rattle.tv_nested.proofs.PartedLemmas.{is_left, barred_depths}
use Rattle.tv_nested.proofs.TakenLemmas.{numbered_left}
use Rattle.tv_nested.proofs.parted.nest_left.Goals as goal

pub nested_depths-requires-clause-numbered : goal.nested_depths-requires-clause-numbered
nested_depths-requires-clause-numbered c =
    let k = c.args.component.now in
    let about = cases_of k.about.now in
    subst (AreNumbered (length (cases_of c.args.component.now.about.now).cases)) (sym c.deref.ensures.value)
    (numbered_left about k.known.now.pieces.items (length about.cases) c.args.sorted.set.items c.args.rounds.items c.args.left.items c.requires.left.lead c.requires.sorted.numbered)

pub nested_depths-requires-clause-points : goal.nested_depths-requires-clause-points
nested_depths-requires-clause-points c =
    subst (PointsOf (cases_of c.args.component.now.about.now) c.args.component.now.known.now.pieces.items) (sym c.deref.ensures.value) c.requires.left.points

pub returns-in_ok-barriers-in-Ok-None-clause-parted : goal.returns-in_ok-barriers-in-Ok-None-clause-parted
returns-in_ok-barriers-in-Ok-None-clause-parted c =
    let k = c.args.component.now in
    let about = cases_of k.about.now in
    let known = k.known.now.pieces.items in
    let a = subst (λ s. AreAnswered (cases_of c.args.component.now.about.now) c.args.component.now.known.now.pieces.items s c.in-Ok-None.field-0) c.deref.ensures.value c.in-Ok-None.ensures.answers in
    let b = subst (AreAnswered (cases_of c.args.component.now.about.now) c.args.component.now.known.now.pieces.items c.args.left.items) c.in-Ok-None.field-0-is a in (
      is_left about known k.numbers.now k.number c.args.sorted c.args.rounds.items c.args.left.items c.requires.sorted c.requires.left,
      barred_depths about known c.args.left.items c.in-Ok-None.two.items c.in-Ok-None.three.items c.in-Ok-None.four.items (lists c.in_ok-barriers-in-Ok-None.barriers.items) c.in_ok-barriers-in-Ok-None.ensures b.0 b.1 b.2,
    )
