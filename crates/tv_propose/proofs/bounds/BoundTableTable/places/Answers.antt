use Rattle.std.proofs.Common.{◌∙◌, ◌<◌, sym, subst}
use Rattle.tv_cases.specs.Systems.{cases_of}
use Rattle.tv_propose.proofs.TableLemmas.{bound_groups, bound_places}
use Rattle.tv_propose.proofs.bounds.BoundTableTable.places.Goals as goal

pub returns : goal.returns
returns c =
    let about = cases_of c.args._about.now in
    let numbers = c.args.self.now.constants.now.numbers in
    c.len.ensures ∙ numbers.ok.0 ∙ sym (bound_places about numbers.items c.args._group (subst (λ n. c.args._group < n) (bound_groups about numbers.items) c.requires))
