use Rattle.std.proofs.Common.{rules, arith, ◌≡◌, ◌∙◌, ap, sym, subst, get_or, pos, ◌+ℤ◌, ◌*ℤ◌, FitsSigned, to_z}
use Rattle.std.specs.Int.{w128}
use Rattle.std.proofs.lemmas.Int.{to_z-of_z}
use Rattle.tv_linear.specs.Fits.{IsHeld}
use Rattle.tv_refute.specs.Blocks.{IsAddedHeld}
use Rattle.tv_refute.proofs.Stepping.{none_changed, one_changed, one_kept, not_changed, all_changed}
use Rattle.tv_refute.proofs.Telling.{zero_added}
use Rattle.tv_refute.proofs.addends.add_each.Goals as goal

pub loop-k-init : goal.loop-k-init
loop-k-init g c =
    let factor_fits : FitsSigned w128 c.args.factor = search rules in
    rw (to_z-of_z w128 c.args.factor factor_fits) (none_changed (λ k z. g.A.Addend.told c.args.addend.now k × IsAddedHeld z c.args.factor (g.A.Addend.number c.args.addend.now k)) (λ k z. z +ℤ c.args.factor *ℤ g.A.Addend.number c.args.addend.now k) c.args.totals.now)

pub loop-k-preserved-then-number-eq0 : goal.loop-k-preserved-then-number-eq0
loop-k-preserved-then-number-eq0 g c =
    let factor_fits : FitsSigned w128 c.args.factor = search rules in
    let number_fits : FitsSigned w128 c.in-Some.number = search rules in
    let so_far = simp to_z-of_z at c.loop-k.invariant in
    let w = c.in-Some.ensures in
    let zero : g.A.Addend.number c.args.addend.now c.loop-k.k ≡ pos 0 = sym w.1 ∙ sym (to_z-of_z w128 c.in-Some.number number_fits) ∙ ap (to_z w128) c.if-number-eq0.true in
    let here = so_far.after c.loop-k.k (omega arith) in
    let held : IsHeld (get_or c.loop-k.totals c.loop-k.k (pos 0)) = subst IsHeld (sym here) (c.requires.held c.loop-k.k (omega arith)) in
    let none = zero_added c.args.factor (get_or c.loop-k.totals c.loop-k.k (pos 0)) (g.A.Addend.number c.args.addend.now c.loop-k.k) zero held in
    rw (to_z-of_z w128 c.args.factor factor_fits) (one_kept (λ k z. g.A.Addend.told c.args.addend.now k × IsAddedHeld z c.args.factor (g.A.Addend.number c.args.addend.now k)) (λ k z. z +ℤ c.args.factor *ℤ g.A.Addend.number c.args.addend.now k) c.args.totals.now c.loop-k.totals c.loop-k.k so_far (omega arith) (w.0, none.0) none.1)

pub returns-in-None-clause-told : goal.returns-in-None-clause-told
returns-in-None-clause-told g c =
    let factor_fits : FitsSigned w128 c.args.factor = search rules in
    let number_fits : FitsSigned w128 c.in-Some.number = search rules in
    let total_fits : FitsSigned w128 (get_or c.loop-k.totals c.loop-k.k (pos 0)) = search rules in
    let so_far = simp to_z-of_z at c.loop-k.invariant in
    let never = simp to_z-of_z at c.in-None.ensures in
    let w = c.in-Some.ensures in
    not_changed (λ k z. g.A.Addend.told c.args.addend.now k × IsAddedHeld z c.args.factor (g.A.Addend.number c.args.addend.now k)) (λ k z. z +ℤ c.args.factor *ℤ g.A.Addend.number c.args.addend.now k) c.args.totals.now c.loop-k.totals c.loop-k.k so_far c.args.count (omega arith)
    (λ t. never (subst (IsAddedHeld (get_or c.loop-k.totals c.loop-k.k (pos 0)) c.args.factor) (sym w.1) t.1))

pub loop-k-preserved : goal.loop-k-preserved
loop-k-preserved g c =
    let factor_fits : FitsSigned w128 c.args.factor = search rules in
    let number_fits : FitsSigned w128 c.in-Some.number = search rules in
    let total_fits : FitsSigned w128 (get_or c.loop-k.totals c.loop-k.k (pos 0)) = search rules in
    let sum_fits : FitsSigned w128 c.in-Some-add_product.sum = search rules in
    let so_far = simp to_z-of_z at c.loop-k.invariant in
    let added = simp to_z-of_z at c.in-Some-add_product.ensures in
    let w = c.in-Some.ensures in
    rw (to_z-of_z w128 c.in-Some-add_product.sum sum_fits) (rw (to_z-of_z w128 c.args.factor factor_fits)
    (one_changed (λ k z. g.A.Addend.told c.args.addend.now k × IsAddedHeld z c.args.factor (g.A.Addend.number c.args.addend.now k)) (λ k z. z +ℤ c.args.factor *ℤ g.A.Addend.number c.args.addend.now k) c.args.totals.now c.loop-k.totals c.loop-k.k so_far c.in-Some-add_product.sum (omega arith)
    (w.0, subst (IsAddedHeld (get_or c.loop-k.totals c.loop-k.k (pos 0)) c.args.factor) w.1 added.0)
    (added.1 ∙ ap (λ x. get_or c.loop-k.totals c.loop-k.k (pos 0) +ℤ c.args.factor *ℤ x) w.1)))

pub returns-clause-told : goal.returns-clause-told
returns-clause-told g c =
    let factor_fits : FitsSigned w128 c.args.factor = search rules in
    let so_far = simp to_z-of_z at c.loop-k.invariant in
    all_changed (λ k z. g.A.Addend.told c.args.addend.now k × IsAddedHeld z c.args.factor (g.A.Addend.number c.args.addend.now k)) (λ k z. z +ℤ c.args.factor *ℤ g.A.Addend.number c.args.addend.now k) c.args.totals.now c.loop-k.totals c.loop-k.k so_far c.args.count (omega arith)
