use Rattle.tv_derived.proofs.CaseMade.{deny, known, put, refusals}
use Rattle.tv_derived.proofs.laws.case_questions_are_derived.Goals as goal

pub returns : goal.returns
returns c = record {
  known = λ about d rows owed asked. known about d rows owed asked;
  put = λ about d rows owed asked. put about d rows owed asked;
  denied = λ about d rows owed asked. deny about d rows owed asked;
  refusals = λ about d rows owed asked. refusals about d rows owed asked;
}
