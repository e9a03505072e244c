use Rattle.tv_cover_refusals.proofs.Refusals.{case_refusal, refusal}
use Rattle.tv_cover_refusals.proofs.laws.covers_are_derived.Goals as goal

pub returns : goal.returns
returns c = record {
  refusals = λ about base f h many lists rows pivots splits fault are into bounded is. refusal about base f h lists into many rows pivots splits fault are bounded is;
  case = λ about d rows owed asked. case_refusal about d rows owed asked;
}
