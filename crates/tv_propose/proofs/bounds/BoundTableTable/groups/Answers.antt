use Rattle.std.proofs.Common.{◌∙◌, sym}
use Rattle.tv_cases.specs.Systems.{cases_of}
use Rattle.tv_propose.proofs.TableLemmas.{bound_groups}
use Rattle.tv_propose.proofs.bounds.BoundTableTable.groups.Goals as goal

pub returns : goal.returns
returns c = c.variables.ensures.same ∙ sym (bound_groups (cases_of c.args.about.now) c.args.self.now.constants.now.numbers.items)
