use Rattle.std.proofs.Common.{◌≡◌, drop, []}
use Rattle.tv_program.specs.Views.{transitions}
use Rattle.tv_cases.specs.Views.{case_views}
use Rattle.tv_cases.specs.ProgramCases.{cases_from}
use Rattle.tv_cases.specs.Answers.{IsCollected}
use Rattle.tv_cases.proofs.program.listed.Given as goal

abbrev pub invariant-loop-number : goal.invariant-loop-number
invariant-loop-number l = record {
  exact : cases_from l.variables 0 [] (transitions l.edges) ≡ cases_from l.variables l.number (case_views l.so_far.cases.items) (transitions (drop l.number l.edges));
  collected : IsCollected l.so_far;
}
