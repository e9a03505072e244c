use Rattle.std.proofs.Common.{◌∙◌, ap, sym, subst}
use Rattle.tv_cases.specs.Given.{lists, row_lists}
use Rattle.tv_region.specs.Met.{InSome}
use Rattle.tv_region.specs.Adding.{IsDenied, IsWideDenial, row_product}
use Rattle.tv_region.specs.Regions.{lists_at, capped, HasRowAt, HasRow, MadeAt, IsCount, IsCountAt}
use Rattle.tv_region.specs.Algebra.{OfRest, denied_count}
use Rattle.tv_region.proofs.AddLemmas.{denied_columns}
use Rattle.tv_region.proofs.AlgebraLemmas.{width_in, has_width, region_weaker, denied_in, wide_in, rest_is, if_ok, if_err}
use Rattle.tv_region.proofs.algebra.rest_at.Goals as goal

pub rest_of-requires : goal.rest_of-requires
rest_of-requires c =
    let a = c.args.a.now in
    let l = c.args.location in record {
      bounded = c.requires.bounded;
      wide = width_in a.variables a.locations a c.requires.fits l (row_lists c.deref-2.result.now) (ap row_lists c.deref-2.ensures.value ∙ c.in_ok-pieces.ensures ∙ ap (lists_at l) c.deref.ensures.value);
    }

pub returns : goal.returns
returns c =
    let a = c.args.a.now in
    let l = c.args.location in
    let p = row_lists c.deref-2.result.now in
    let e = ap row_lists c.deref-2.ensures.value ∙ c.in_ok-pieces.ensures ∙ ap (lists_at l) c.deref.ensures.value in record {
      at = if_ok c.rest_of.result (λ made h. rest_is a l p c.requires.fits e (lists made) h (denied_columns a.variables (HasRowAt a l) (λ r m. has_width a.variables a.locations a c.requires.fits r (l, m)))) c.rest_of.ensures.complement;
      refused = if_err c.rest_of.result (λ fault h. region_weaker a.variables (MadeAt l (IsDenied (InSome p))) (OfRest a) (IsWideDenial (InSome p)) (IsWideDenial (HasRow a)) (IsCountAt l (row_product p)) (IsCount (denied_count a)) c.args.budget.now
          (λ k r m. subst (λ x. OfRest a x r) (sym m.0) (denied_in a l p c.requires.fits e r m.1)) (wide_in a l p c.requires.fits e)
          (λ k n m. subst (λ x. IsCount (denied_count a) x n) (sym m.0) (m.1 ∙ ap (λ ls. capped (row_product ls)) e))
          fault h) c.rest_of.ensures.refused;
    }
