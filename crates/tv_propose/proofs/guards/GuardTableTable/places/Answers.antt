use Rattle.std.proofs.Common.{ap, sym, ◌∙◌, vec_len}
use Rattle.tv_cases.specs.Systems.{cases_of}
use Rattle.tv_propose.proofs.TableLemmas.{guard_within, guard_places}
use Rattle.tv_propose.proofs.guards.GuardTableTable.places.Goals as goal

pub returns : goal.returns
returns c =
    let about = cases_of c.args.about.now in
    let list = c.list.result.now in
    let same = c.list.ensures.same in
    let x = c.index-list-group.result in
    let here = c.index-list-group.is in
    c.len.ensures ∙ ap (λ y. vec_len y.guards.rows) (sym here) ∙ x.guards.rows.ok.0
    ∙ sym (guard_places about list same c.args.group x here (guard_within about list same c.args.group x here c.requires))
