use Rattle.std.proofs.Common.{◌∙◌, sym}
use Rattle.tv_cases.specs.Systems.{cases_of}
use Rattle.tv_propose.proofs.TableLemmas.{difference_groups}
use Rattle.tv_propose.proofs.differences.DifferenceTableTable.groups.Goals as goal

pub returns : goal.returns
returns c = c.variables.ensures.same ∙ sym (difference_groups (cases_of c.args.about.now))
