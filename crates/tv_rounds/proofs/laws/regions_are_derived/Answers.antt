use Rattle.tv_rounds.proofs.DerivedLemmas.{both_derives, both_refuses, either_derives, either_refuses, rest_derives, rest_refuses, any_derives, any_refuses, every_derives, every_refuses}
use Rattle.tv_rounds.proofs.laws.regions_are_derived.Goals as goal

pub returns : goal.returns
returns c = record {
  both = both_derives;
  both_refused = both_refuses;
  either = either_derives;
  either_refused = either_refuses;
  rest = rest_derives;
  rest_refused = rest_refuses;
  any = λ about base h well. any_derives about base well h;
  any_refused = λ about base h well. any_refuses about base well h;
  every = λ about base h well. every_derives about base well h;
  every_refused = λ about base h well. every_refuses about base well h;
}
