use Rattle.std.proofs.Common.{sym}
use Rattle.tv_cases.specs.Systems.{cases_of}
use Rattle.tv_cases.specs.Views.{case_view}
use Rattle.tv_invariant.proofs.RunLemmas.{leaves_from}
use Rattle.tv_invariant.proofs.walks.next.Goals as goal

pub after-requires-clause-case : goal.after-requires-clause-case
after-requires-clause-case c = (leaves_from c.args.state.now.location (case_view c.in-Some.case.now) (cases_of c.args.about.now).cases c.cases.k c.in-Some.ensures.case).0

pub after-requires-clause-place : goal.after-requires-clause-place
after-requires-clause-place c = sym (leaves_from c.args.state.now.location (case_view c.in-Some.case.now) (cases_of c.args.about.now).cases c.cases.k c.in-Some.ensures.case).1
