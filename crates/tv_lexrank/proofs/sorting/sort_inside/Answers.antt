use Rattle.std.proofs.Common.{◌∙◌, ap, subst, [], ◌∷◌}
use Rattle.std.proofs.lemmas.List.{map-append}
use Rattle.tv_cases.specs.Systems.{cases_of}
use Rattle.tv_rank.specs.Given.{lists}
use Rattle.tv_lexrank.specs.Sorting.{IsTaken, way_inside}
use Rattle.tv_lexrank.proofs.SortLemmas.{point_more, empty_more}
use Rattle.tv_lexrank.proofs.sorting.sort_inside.Goals as goal

pub returns-in_ok-push_item-in-None-clause-sorted : goal.returns-in_ok-push_item-in-None-clause-sorted
returns-in_ok-push_item-in-None-clause-sorted c = λ h.
    let about = cases_of c.args.component.now.about.now in
    let s = subst (λ o. IsTaken about.variables (way_inside c.args.component.now c.args.number) o) c.in-None.is c.in-Ok.ensures.settled in
    point_more about c.args.component.now.known.now.pieces.items c.args.component.now.numbers.now c.args.component.now.number c.args.number c.args.sorted.now.set.items c.args.sorted.now.empty.items (lists c.args.sorted.now.refutations.items) h c.requires.inside s c.push_item.new.items.items c.in_ok-push_item-in-None.ensures

pub returns-in_ok-push_item-in-Some-2-clause-sorted : goal.returns-in_ok-push_item-in-Some-2-clause-sorted
returns-in_ok-push_item-in-Some-2-clause-sorted c = λ h.
    let about = cases_of c.args.component.now.about.now in
    let s = subst (λ o. IsTaken about.variables (way_inside c.args.component.now c.args.number) o) c.in-Some.is c.in-Ok.ensures.settled in
    empty_more about c.args.component.now.known.now.pieces.items c.args.component.now.numbers.now c.args.component.now.number c.args.number c.args.sorted.now.set.items c.args.sorted.now.empty.items (lists c.args.sorted.now.refutations.items) h c.requires.inside c.in-Some.multipliers.items s.0 s.1 c.push_item-in-Some.new.items.items (lists c.push_item-in-Some-2.new.items.items) c.in_ok-push_item-in-Some.ensures
    (ap lists c.in_ok-push_item-in-Some-2.ensures ∙ map-append (λ v. v.items) c.args.sorted.now.refutations.items (c.in-Some.multipliers ∷ []))
