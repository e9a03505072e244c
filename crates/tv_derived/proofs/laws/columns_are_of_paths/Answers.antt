use Rattle.tv_derived.proofs.PathScopes.{scoped, wide_scoped}
use Rattle.tv_derived.proofs.laws.columns_are_of_paths.Goals as goal

pub returns : goal.returns
returns c = record {
  scopes = λ about base f h r d. scoped about base d;
  columns = λ about base well h column w. wide_scoped about base well h column w;
}
