use Rattle.std.proofs.Common.{◌∙◌, sym, refl, subst}
use Rattle.tv_cases.specs.Given.{lists, row_lists}
use Rattle.tv_region.specs.Met.{InSome}
use Rattle.tv_region.specs.Adding.{IsComplement, IsDenied, IsWideDenial, row_product}
use Rattle.tv_region.specs.Regions.{MadeAt, IsCountAt}
use Rattle.tv_region.proofs.AlgebraLemmas.{region_fault, complement_zero, capped_zero}
use Rattle.tv_region.proofs.counted.rest_of.Goals as goal

pub returns-then-count-eq0-clause-complement : goal.returns-then-count-eq0-clause-complement
returns-then-count-eq0-clause-complement c =
    let ls = row_lists c.args.first.now in
    subst (λ v. IsComplement c.args.columns ls (row_lists v)) (sym c.new.ensures.items)
    (complement_zero c.args.columns ls (capped_zero (row_product ls) (sym c.product_of_lengths-count.ensures ∙ c.if-count-eq0.true)))

pub complement_of-requires : goal.complement_of-requires
complement_of-requires c = record { wide = λ r h. c.requires.wide r h ∙ sym c.limits_for-limits.ensures.columns }

pub returns-in-Ok-clause-complement : goal.returns-in-Ok-clause-complement
returns-in-Ok-clause-complement c = subst (λ n. IsComplement n (row_lists c.args.first.now) (lists c.in-Ok.made)) c.limits_for-limits.ensures.columns c.in-Ok.ensures.complement

pub returns-in-Err-clause-refused : goal.returns-in-Err-clause-refused
returns-in-Err-clause-refused c =
    let ls = row_lists c.args.first.now in
    region_fault c.limits_for-limits.result c.args.columns (IsDenied (InSome ls)) (MadeAt c.args.location (IsDenied (InSome ls))) (IsWideDenial (InSome ls)) (IsWideDenial (InSome ls)) (IsCountAt c.args.location (row_product ls)) c.args.budget.now c.args.location c.product_of_lengths-count.result c.in-Err.fault c.refusal.result
    c.limits_for-limits.ensures.columns c.limits_for-limits.ensures.pivots c.limits_for-limits.ensures.most
    (refl, c.product_of_lengths-count.ensures) (λ r h. (refl, h)) (λ x h. h) c.in-Err.ensures.refused c.refusal.ensures
