use Rattle.std.proofs.Common.{◌∙◌, rules}
use Rattle.tv_program.specs.Programs.{system_of}
use Rattle.tv_cases.specs.Systems.{cases_of}
use Rattle.tv_invariant.specs.Asking.{Gave}
use Rattle.tv_top.specs.Finding.{Offers, IsOther}
use Rattle.tv_top.specs.Views.{task_view}
use Rattle.tv_top.proofs.Found.{answered_so}
use Rattle.tv_top.proofs.finding.settle_other.Goals as goal

pub returns-else-location-locations : goal.returns-else-location-locations
returns-else-location-locations g c = λ f is parts.
    let s = c.args.search.now in
    let about = cases_of s.about.now in
    let offers : Offers = λ about. Gave (λ p. (goal.Proposer-dyn g (p.vtable, p.value)).rest p.value about) c.args.proposers.now.items in
    let other : IsOther about f = record { not_ends = λ n. c.requires.other (is.proved ∙ n); not_safety = search rules } in
    answered_so offers (task_view s.task.now) (system_of s.program.now) f about other s.about.now.are_cases parts c.over_paths.result (c.over_paths.ensures f is)

pub returns-in-None : goal.returns-in-None
returns-in-None g c = λ f is parts.
    let s = c.args.search.now in
    let about = cases_of s.about.now in
    let offers : Offers = λ about. Gave (λ p. (goal.Proposer-dyn g (p.vtable, p.value)).rest p.value about) c.args.proposers.now.items in
    let other : IsOther about f = record { not_ends = λ n. c.requires.other (is.proved ∙ n); not_safety = search rules } in
    answered_so offers (task_view s.task.now) (system_of s.program.now) f about other s.about.now.are_cases parts c.over_paths-in-None.result (c.over_paths-in-None.ensures f is)
