use Rattle.std.proofs.Common.{◌≡◌, [], sym, ap, ◌∙◌, subst, refl}
use Rattle.tv_linear.specs.Known.{given}
use Rattle.tv_linear.specs.Covers.{IsMetCover}
use Rattle.tv_finitely.specs.Entrances.{entrance_owes}
use Rattle.tv_finitely.proofs.checking.settle_root.Goals as goal

pub returns-then-all_are_covered : goal.returns-then-all_are_covered
returns-then-all_are_covered c =
    let wide = c.variables.ensures.same ∙ ap (λ x. x.variables) c.cases.ensures.same in
    subst (λ (x : Type 0). x) (λ i. IsMetCover (wide i) (c.entrance_at_start-entrance.ensures given i) [] (c.tree.ensures.same i)) (c.all_are_covered.ensures.0 c.if-all_are_covered.true)

pub returns-else-all_are_covered : goal.returns-else-all_are_covered
returns-else-all_are_covered c =
    let wide = c.variables.ensures.same ∙ ap (λ x. x.variables) c.cases.ensures.same in
    let same = λ (x : Type 0) (y : Type 0) (e : x ≡ y) (h : y). subst (λ (z : Type 0). z) (sym e) h in
    (λ m. let h = c.all_are_covered.ensures.1 (same (IsMetCover c.variables.result (entrance_owes given c.entrance_at_start-entrance.result) [] c.tree.result.now) _ (λ i. IsMetCover (wide i) (c.entrance_at_start-entrance.ensures given i) [] (c.tree.ensures.same i)) m) in let f = c.if-all_are_covered.false in cc, refl)
