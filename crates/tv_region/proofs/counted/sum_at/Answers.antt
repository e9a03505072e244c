use Rattle.std.proofs.Common.{◌⊎◌, ◌∙◌, ◌+◌, ◌-◌, ◌^◌, min, length, sym, refl, subst}
use Rattle.tv_cases.specs.Given.{lists, row_lists}
use Rattle.tv_region.specs.Met.{InSome}
use Rattle.tv_region.specs.Adding.{IsUnion, NoColumn}
use Rattle.tv_region.specs.Regions.{MadeAt, IsCountAt}
use Rattle.tv_region.proofs.AlgebraLemmas.{region_fault, many_at}
use Rattle.tv_region.proofs.counted.sum_at.Goals as goal

pub unions-requires-clause-first : goal.unions-requires-clause-first
unions-requires-clause-first c = λ r h. c.requires.first r h ∙ sym c.limits_for-limits.ensures.columns

pub unions-requires-clause-second : goal.unions-requires-clause-second
unions-requires-clause-second c = λ r h. c.requires.second r h ∙ sym c.limits_for-limits.ensures.columns

pub returns-in-Ok-clause-union : goal.returns-in-Ok-clause-union
returns-in-Ok-clause-union c = subst (λ n. IsUnion n (row_lists c.args.first.now) (row_lists c.args.second.now) (lists c.in-Ok.made)) c.limits_for-limits.ensures.columns c.in-Ok.ensures.union

pub returns-in-Err-clause-refused : goal.returns-in-Err-clause-refused
returns-in-Err-clause-refused c =
    let a = row_lists c.args.first.now in
    let b = row_lists c.args.second.now in
    let p = many_at c.args.first.now (length c.args.first.now) a refl refl in
    let q = many_at c.args.second.now (length c.args.second.now) b refl refl in
    region_fault c.limits_for-limits.result c.args.columns (λ r. InSome a r ⊎ InSome b r) (MadeAt c.args.location (λ r. InSome a r ⊎ InSome b r)) NoColumn NoColumn (IsCountAt c.args.location (length a + length b)) c.args.budget.now c.args.location c.sum_of_counts-count.result c.in-Err.fault c.refusal.result
    c.limits_for-limits.ensures.columns c.limits_for-limits.ensures.pivots c.limits_for-limits.ensures.most
    (refl, c.sum_of_counts-count.ensures ∙ (λ i. min (p i + q i) (2 ^ 64 - 1)))
    (λ r h. (refl, h)) (λ x w. w) c.in-Err.ensures.refused c.refusal.ensures
