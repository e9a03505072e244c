use Rattle.std.proofs.Common.{rules, ◌≡◌, ◌↔◌, IsTrue, Some, subst}
use Rattle.tv_cases.specs.Systems.{cases_of}
use Rattle.tv_cases.specs.Views.{case_view}
use Rattle.tv_cert.specs.Choices.{drawn_change}
use Rattle.tv_cert.specs.OwesViews.{destination_owes}
use Rattle.tv_cert.specs.TargetViews.{counts_of}
use Rattle.tv_cert.proofs.TargetLemmas.{counts_as}
use Rattle.tv_shape.proofs.choices.destination_owes_rows.Goals as goal

pub returns : goal.returns
returns c =
    let choosing = c.args.choosing.now in
    let n = (cases_of choosing.about.now).variables in
    let take = c.args.take.now in
    let case = case_view c.args.case.now in
    let draws = take.draws.now in
    let e = counts_as (drawn_change n case draws) c.targets_after-targets.result (destination_owes n choosing.piece.now choosing.destination.now case draws) (c.targets_after-targets.ensures.owed n draws) take.target take.fall in
    let here : IsTrue c.eq.result ↔ (counts_of c.targets_after-targets.result take.target take.fall ≡ Some c.args.rows) = search rules in
    subst (λ o. IsTrue c.eq.result ↔ (o ≡ Some c.args.rows)) e here
