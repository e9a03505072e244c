use Rattle.tv_cases.specs.Systems.{cases_of}
use Rattle.tv_cases.specs.Views.{case_view}
use Rattle.tv_recur.proofs.KeepLemmas.{loop_gives}
use Rattle.tv_recur.proofs.searching.loop_at.Goals as goal

pub returns-in-Ok-Some-clause-found : goal.returns-in-Ok-Some-clause-found
returns-in-Ok-Some-clause-found c =
    loop_gives (cases_of c.args.search.now.about.now) (case_view c.in-Some.case.now) c.args.number c.enter.result c.in-Some.ensures c.enter.ensures.found
