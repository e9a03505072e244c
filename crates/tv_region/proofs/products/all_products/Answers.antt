use Rattle.std.proofs.Common.{◌⊎◌, inl, inr, [], take, sym, subst}
use Rattle.tv_cases.specs.Given.{lists, row_lists}
use Rattle.tv_region.specs.Met.{Has, InSome}
use Rattle.tv_region.specs.Adding.{IsProduct, IsEach, NoColumn}
use Rattle.tv_region.proofs.AddLemmas.{in_some-has, list_has, lists_next, fault_weaker, product_none, product_more}
use Rattle.tv_region.proofs.products.all_products.Goals as goal

pub first-init : goal.first-init
first-init c = subst (λ v. IsProduct c.args.limits.now.columns [] (row_lists c.args.second.now) (row_lists v)) (sym c.new-kept.ensures.items) (product_none c.args.limits.now.columns (row_lists c.args.second.now))

pub add_each-requires-clause-rows : goal.add_each-requires-clause-rows
add_each-requires-clause-rows c = λ r h.
    c.requires.first r (in_some-has (row_lists c.args.first.now) c.list-item.result.items r (list_has c.args.first.now c.first.list-index c.list-item.result c.first-test.true c.list-item.is) (subst (λ rs. Has rs r) c.deref.ensures.value h))

pub returns-in-Err-clause-refused : goal.returns-in-Err-clause-refused
returns-in-Err-clause-refused c =
    fault_weaker c.args.limits.now (λ r. Has c.deref.result.now r ⊎ InSome (row_lists c.args.second.now) r) (λ r. InSome (row_lists c.args.first.now) r ⊎ InSome (row_lists c.args.second.now) r) NoColumn NoColumn
    (λ r h. elim h [
      | inl m ↦ inl (in_some-has (row_lists c.args.first.now) c.list-item.result.items r (list_has c.args.first.now c.first.list-index c.list-item.result c.first-test.true c.list-item.is) (subst (λ rs. Has rs r) c.deref.ensures.value m))
      | inr m ↦ inr m
    ]) (λ k w. w) c.in-Err.fault c.in-Err.ensures.refused

pub first-preserved : goal.first-preserved
first-preserved c =
    subst (λ fs. IsProduct c.args.limits.now.columns fs (row_lists c.args.second.now) (lists c.in-Ok.more)) (sym (lists_next c.args.first.now c.first.list-index c.list-item.result c.first-test.true c.list-item.is))
    (product_more c.args.limits.now.columns (row_lists (take c.first.list-index c.args.first.now)) (row_lists c.args.second.now) (lists c.first.kept) (lists c.in-Ok.more) c.list-item.result.items c.first.invariant
    (subst (λ rs. IsEach c.args.limits.now.columns (lists c.first.kept) rs (row_lists c.args.second.now) (lists c.in-Ok.more)) c.deref.ensures.value c.in-Ok.ensures.added))
