use Rattle.std.proofs.Common.{◌∙◌, ◌<◌, sym, subst}
use Rattle.tv_cases.specs.Systems.{cases_of}
use Rattle.tv_propose.proofs.TableLemmas.{difference_groups, difference_places}
use Rattle.tv_propose.proofs.differences.DifferenceTableTable.places.Goals as goal

pub returns : goal.returns
returns c =
    let about = cases_of c.args.about.now in
    c.variables.ensures.same ∙ sym (difference_places about c.args._group (subst (λ n. c.args._group < n) (difference_groups about) c.requires))
