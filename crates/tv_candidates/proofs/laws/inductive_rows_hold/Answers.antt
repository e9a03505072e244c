use Rattle.tv_candidates.proofs.OnRuns.{never_reached, on_runs}
use Rattle.tv_candidates.proofs.laws.inductive_rows_hold.Goals as goal

pub returns : goal.returns
returns c = record {
  reached = λ about list h. on_runs about list h;
  never = λ about list l h has. never_reached about list l h has;
}
