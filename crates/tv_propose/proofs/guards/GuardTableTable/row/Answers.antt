use Rattle.std.proofs.Common.{◌≡◌, ◌<◌, ◌≤◌, length, get_or, arith, ap, sym, subst, ◌∙◌}
use Rattle.std.specs.List.{slice_get}
use Rattle.tv_linear.specs.Linear.{columns}
use Rattle.tv_cases.specs.Systems.{cases_of}
use Rattle.tv_propose.specs.GuardLists.{guard_at, denial_at, guard_rows}
use Rattle.tv_propose.proofs.TableLemmas.{guard_within, guard_places, guard_there, guard_wide, first_row, second_row, no_row, if_ok}
use Rattle.tv_propose.proofs.guards.GuardTableTable.row.Goals as goal

pub offset_bounds-guards-at : goal.offset_bounds-guards-at
offset_bounds-guards-at c =
    let about = cases_of c.args.about.now in
    let w = c.args.at.now in
    let list = c.list.result.now in
    let same = c.list.ensures.same in
    let x = c.index-list-at.result in
    let here = c.index-list-at.is in
    let inside = guard_within about list same w.group x here c.requires.group in
    let rows : c.deref-guards.result.now ≡ x.guards.rows.items = c.deref-guards.ensures.value ∙ sym (ap (λ y. y.guards.rows.items) here) in
    let place : w.place < length x.guards.rows.items = subst (λ n. w.place < n) (guard_places about list same w.group x here inside) c.requires.place in
    let p : w.place < length c.deref-guards.result.now = subst (λ rs. w.place < length rs) (sym rows) place in
    let t = c.deref-guards.type_inv in
    omega (arith, p, t.1)

pub bounds-guards-at : goal.bounds-guards-at
bounds-guards-at c =
    let about = cases_of c.args.about.now in
    let w = c.args.at.now in
    let list = c.list.result.now in
    let same = c.list.ensures.same in
    let x = c.index-list-at.result in
    let here = c.index-list-at.is in
    let inside = guard_within about list same w.group x here c.requires.group in
    let rows : c.deref-guards.result.now ≡ x.guards.rows.items = c.deref-guards.ensures.value ∙ sym (ap (λ y. y.guards.rows.items) here) in
    let place : w.place < length x.guards.rows.items = subst (λ n. w.place < n) (guard_places about list same w.group x here inside) c.requires.place in
    subst (λ rs. w.place < length rs) (sym rows) place

pub guard_at-requires : goal.guard_at-requires
guard_at-requires c =
    let about = cases_of c.args.about.now in
    let w = c.args.at.now in
    let list = c.list.result.now in
    let same = c.list.ensures.same in
    let x = c.index-list-at.result in
    let here = c.index-list-at.is in
    let inside = guard_within about list same w.group x here c.requires.group in
    let rows : c.deref-guards.result.now ≡ x.guards.rows.items = c.deref-guards.ensures.value ∙ sym (ap (λ y. y.guards.rows.items) here) in
    let place : w.place < length x.guards.rows.items = subst (λ n. w.place < n) (guard_places about list same w.group x here inside) c.requires.place in
    let guard = c.index-guards-at.result in
    let is : guard ≡ get_or x.guards.rows.items w.place guard = subst (λ rs. guard ≡ get_or rs w.place guard) rows c.index-guards-at.is in
    subst (λ n. n ≤ columns guard) (sym c.variables-variables.ensures.same) (guard_wide about list same w.group x here c.list.ensures.limits inside w.place guard place is)

pub denial_at-requires : goal.denial_at-requires
denial_at-requires c =
    let about = cases_of c.args.about.now in
    let w = c.args.at.now in
    let list = c.list.result.now in
    let same = c.list.ensures.same in
    let x = c.index-list-at.result in
    let here = c.index-list-at.is in
    let inside = guard_within about list same w.group x here c.requires.group in
    let rows : c.deref-guards.result.now ≡ x.guards.rows.items = c.deref-guards.ensures.value ∙ sym (ap (λ y. y.guards.rows.items) here) in
    let place : w.place < length x.guards.rows.items = subst (λ n. w.place < n) (guard_places about list same w.group x here inside) c.requires.place in
    let guard = c.index-guards-at.result in
    let is : guard ≡ get_or x.guards.rows.items w.place guard = subst (λ rs. guard ≡ get_or rs w.place guard) rows c.index-guards-at.is in
    subst (λ n. n ≤ columns guard) (sym c.variables-variables.ensures.same) (guard_wide about list same w.group x here c.list.ensures.limits inside w.place guard place is)

pub returns-in-0-clause-is : goal.returns-in-0-clause-is
returns-in-0-clause-is c =
    let about = cases_of c.args.about.now in
    let w = c.args.at.now in
    let list = c.list.result.now in
    let same = c.list.ensures.same in
    let x = c.index-list-at.result in
    let here = c.index-list-at.is in
    let inside = guard_within about list same w.group x here c.requires.group in
    let rows : c.deref-guards.result.now ≡ x.guards.rows.items = c.deref-guards.ensures.value ∙ sym (ap (λ y. y.guards.rows.items) here) in
    let place : w.place < length x.guards.rows.items = subst (λ n. w.place < n) (guard_places about list same w.group x here inside) c.requires.place in
    let guard = c.index-guards-at.result in
    let is : guard ≡ get_or x.guards.rows.items w.place guard = subst (λ rs. guard ≡ get_or rs w.place guard) rows c.index-guards-at.is in
    if_ok (λ r. r ≡ guard_at c.variables-variables.result guard) _ c.guard_at.result
    (λ r e. e ∙ ap (λ n. guard_at n guard) c.variables-variables.ensures.same ∙ sym (guard_there about list same w.group x here inside w.place guard w.row place is ∙ ap (λ k. slice_get (guard_rows about.variables guard) k) c.in-0.is ∙ first_row about.variables guard)) c.guard_at.ensures

pub returns-in-1-clause-is : goal.returns-in-1-clause-is
returns-in-1-clause-is c =
    let about = cases_of c.args.about.now in
    let w = c.args.at.now in
    let list = c.list.result.now in
    let same = c.list.ensures.same in
    let x = c.index-list-at.result in
    let here = c.index-list-at.is in
    let inside = guard_within about list same w.group x here c.requires.group in
    let rows : c.deref-guards.result.now ≡ x.guards.rows.items = c.deref-guards.ensures.value ∙ sym (ap (λ y. y.guards.rows.items) here) in
    let place : w.place < length x.guards.rows.items = subst (λ n. w.place < n) (guard_places about list same w.group x here inside) c.requires.place in
    let guard = c.index-guards-at.result in
    let is : guard ≡ get_or x.guards.rows.items w.place guard = subst (λ rs. guard ≡ get_or rs w.place guard) rows c.index-guards-at.is in
    if_ok (λ r. r ≡ denial_at c.variables-variables.result guard) _ c.denial_at.result
    (λ r e. e ∙ ap (λ n. denial_at n guard) c.variables-variables.ensures.same ∙ sym (guard_there about list same w.group x here inside w.place guard w.row place is ∙ ap (λ k. slice_get (guard_rows about.variables guard) k) c.in-1.is ∙ second_row about.variables guard)) c.denial_at.ensures

pub returns-in_default-clause-is : goal.returns-in_default-clause-is
returns-in_default-clause-is c =
    let about = cases_of c.args.about.now in
    let w = c.args.at.now in
    let list = c.list.result.now in
    let same = c.list.ensures.same in
    let x = c.index-list-at.result in
    let here = c.index-list-at.is in
    let inside = guard_within about list same w.group x here c.requires.group in
    let rows : c.deref-guards.result.now ≡ x.guards.rows.items = c.deref-guards.ensures.value ∙ sym (ap (λ y. y.guards.rows.items) here) in
    let place : w.place < length x.guards.rows.items = subst (λ n. w.place < n) (guard_places about list same w.group x here inside) c.requires.place in
    let guard = c.index-guards-at.result in
    let is : guard ≡ get_or x.guards.rows.items w.place guard = subst (λ rs. guard ≡ get_or rs w.place guard) rows c.index-guards-at.is in
    sym (guard_there about list same w.group x here inside w.place guard w.row place is ∙ no_row about.variables guard w.row (omega arith))
