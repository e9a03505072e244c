use Rattle.tv_known.proofs.RankedEnds.{every_run_ends}
use Rattle.tv_known.proofs.Programs.{none_endless, program_ends}
use Rattle.tv_known.proofs.laws.ranked_cases_end.Goals as goal

pub returns : goal.returns
returns c = record {
  ends = λ about ranking. every_run_ends about ranking;
  endless = λ about ranking. none_endless about ranking;
  program = λ p about are ranking. program_ends p about are ranking;
}
