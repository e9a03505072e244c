use Rattle.std.proofs.Common.{◌≡◌, ◌∙◌, sym, subst, All}
use Rattle.tv_linear.specs.Linear.{columns}
use Rattle.tv_cover.specs.Emptying.{IsEmptied, HasNoWholePoint, IsShortEmptied}
use Rattle.tv_cases.specs.Systems.{cases_of}
use Rattle.tv_search.proofs.LeftLemmas.{rows_even, none_left, point_left, left_refused}
use Rattle.tv_search.proofs.left.left_point.Goals as goal

pub empty-requires-clause-even : goal.empty-requires-clause-even
empty-requires-clause-even c =
    let about = cases_of c.args.about.now in
    subst (λ n. All (λ r. columns r ≡ n) c.deref.result.now) (sym c.variables.ensures.same)
    (rows_even c.args.location about c.args.list.now c.requires.over c.deref.result.now (c.deref.ensures.value ∙ c.in_ok-rows.ensures))

pub returns-in-Err-clause-refusals : goal.returns-in-Err-clause-refusals
returns-in-Err-clause-refusals c =
    let about = cases_of c.args.about.now in
    let budget = c.args.budget.now in
    left_refused c.args.location about c.args.list.now _ c.deref.result.now c.variables.ensures.same (c.deref.ensures.value ∙ c.in_ok-rows.ensures) budget.pivots budget.splits c.in-Err.fault c.in-Err.ensures.refusals

pub returns-in-Ok-Tree-clause-left : goal.returns-in-Ok-Tree-clause-left
returns-in-Ok-Tree-clause-left c =
    let about = cases_of c.args.about.now in
    none_left c.args.location about c.args.list.now _ c.deref.result.now c.variables.ensures.same (c.deref.ensures.value ∙ c.in_ok-rows.ensures)
    (subst (HasNoWholePoint c.variables.result c.deref.result.now) c.in-Ok-Tree.field-0-is c.in-Ok-Tree.ensures.none)

pub returns-clause-left : goal.returns-clause-left
returns-clause-left c =
    let about = cases_of c.args.about.now in
    point_left c.args.location about c.args.list.now _ c.deref.result.now c.variables.ensures.same (c.deref.ensures.value ∙ c.in_ok-rows.ensures) c.in-Ok-Whole.point.items
    (subst (IsEmptied c.variables.result c.deref.result.now) c.in-Ok-Whole.field-0-is c.in-Ok-Whole.ensures.answers)
    (subst IsShortEmptied c.in-Ok-Whole.field-0-is c.in-Ok-Whole.ensures.short)
