use Rattle.std.proofs.Common.{subst}
use Rattle.std.specs.Prelude.{MatchOption}
use Rattle.tv_cases.specs.Systems.{cases_of}
use Rattle.tv_pre.specs.Finding.{IsGapOf}
use Rattle.tv_top.specs.Finding.{IsDrawnAt, NoneDraws}
use Rattle.tv_top.proofs.Drawn.{none_has}
use Rattle.tv_top.proofs.paths.left.Goals as goal

pub unreachable-requires : goal.unreachable-requires
unreachable-requires c =
    let about = cases_of c.args.about.now in
    let drawn = subst (IsGapOf about) c.in-Inexact.is c.requires in
    let none = subst (λ r. MatchOption r (NoneDraws about) (IsDrawnAt about)) c.in-None.is c.first_drawn.ensures in
    drawn (λ d m. none_has about.cases none d m)
