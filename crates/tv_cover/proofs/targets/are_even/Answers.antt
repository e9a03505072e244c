use Rattle.std.proofs.Common.{◌∙◌, false, IsTrue, refl, subst, ap}
use Rattle.std.proofs.lemmas.List.Elements.{All-map, All-more, All-contains}
use Rattle.tv_linear.specs.declared.region.Poly.{Poly}
use Rattle.tv_simplex.proofs.RowLemmas.{tested_true, tested_false}
use Rattle.tv_cover.specs.Targets.{AreEven, lists_of}
use Rattle.tv_cover.proofs.StepLemmas.{all_of_take, list_among}
use Rattle.tv_cover.proofs.targets.are_even.Goals as goal

pub polys-preserved : goal.polys-preserved
polys-preserved c =
    let n = c.args.columns in
    let here = subst (AreEven n) c.deref.ensures.value (tested_true c.is_even.result c.is_even.ensures c.if-not-is_even.false) in
    All-more (λ (p : Poly). AreEven n p.rows.items) c.args.polys.now c.polys.poly-index c.poly-item.result c.polys-test.true c.polys.invariant (subst (λ (p : Poly). AreEven n p.rows.items) c.poly-item.is here)

pub returns : goal.returns
returns c = (
  λ t. All-map (AreEven c.args.columns) (λ (p : Poly). p.rows.items) c.args.polys.now (all_of_take (λ (p : Poly). AreEven c.args.columns p.rows.items) c.polys.poly-index c.args.polys.now c.polys-test.false c.polys.invariant),
  λ all. refl,
)

pub returns-then-not-is_even : goal.returns-then-not-is_even
returns-then-not-is_even c =
    let n = c.args.columns in
    let rows = c.deref.result.now in
    let never = tested_false c.is_even.result c.is_even.ensures c.if-not-is_even.true in
    let among = list_among c.args.polys.now c.polys.poly-index c.poly-item.result rows c.polys-test.true (c.deref.ensures.value ∙ ap (λ (p : Poly). p.rows.items) c.poly-item.is) in (
      λ e. absurd (no_test e),
      λ all. absurd (never (All-contains (AreEven n) (lists_of c.args.polys.now) rows all among)),
    )
  where
    no_test : IsTrue false → ⊥
    no_test e = cc
