use Rattle.std.proofs.Common.{◌⊎◌, ◌∙◌, ◌*◌, ap, sym, subst, length, inl, inr}
use Rattle.tv_cases.specs.Given.{lists, row_lists}
use Rattle.tv_region.specs.Met.{InSome}
use Rattle.tv_region.specs.Adding.{NoColumn}
use Rattle.tv_region.specs.Regions.{lists_at, capped, count_at, MadeAt, IsCount, IsCountAt}
use Rattle.tv_region.specs.Algebra.{OfEither}
use Rattle.tv_region.proofs.AlgebraLemmas.{width_in, row_in, region_weaker, both_is, if_ok, if_err}
use Rattle.tv_region.proofs.algebra.both_at.Goals as goal

pub product_at-requires : goal.product_at-requires
product_at-requires c =
    let a = c.args.a.now in
    let b = c.args.b.now in
    let l = c.args.location in record {
      bounded = c.requires.bounded;
      first = width_in a.variables a.locations a c.requires.first l (row_lists c.deref-3.result.now) (ap row_lists c.deref-3.ensures.value ∙ c.in_ok-first.ensures ∙ ap (lists_at l) c.deref.ensures.value);
      second = width_in a.variables a.locations b c.requires.second l (row_lists c.deref-4.result.now) (ap row_lists c.deref-4.ensures.value ∙ c.in_ok-second.ensures ∙ ap (lists_at l) c.deref-2.ensures.value);
    }

pub returns : goal.returns
returns c =
    let a = c.args.a.now in
    let b = c.args.b.now in
    let l = c.args.location in
    let p = row_lists c.deref-3.result.now in
    let q = row_lists c.deref-4.result.now in
    let e = ap row_lists c.deref-3.ensures.value ∙ c.in_ok-first.ensures ∙ ap (lists_at l) c.deref.ensures.value in
    let f = ap row_lists c.deref-4.ensures.value ∙ c.in_ok-second.ensures ∙ ap (lists_at l) c.deref-2.ensures.value in record {
      at = if_ok c.product_at.result (λ made h. both_is a b l p q (lists made) c.requires.first c.requires.second e f h) c.product_at.ensures.product;
      refused = if_err c.product_at.result (λ fault h. region_weaker a.variables (MadeAt l (λ r. InSome p r ⊎ InSome q r)) (OfEither a b) NoColumn NoColumn (IsCountAt l (length p * length q)) (IsCount (λ x. count_at x a * count_at x b)) c.args.budget.now
          (λ k r m. subst (λ x. OfEither a b x r) (sym m.0) (elim m.1 [ inl x ↦ inl (row_in a l p e r x) | inr x ↦ inr (row_in b l q f r x) ])) (λ x w. w)
          (λ k n m. subst (λ x. IsCount (λ y. count_at y a * count_at y b) x n) (sym m.0) (m.1 ∙ (λ i. capped (length (e i) * length (f i)))))
          fault h) c.product_at.ensures.refused;
    }
