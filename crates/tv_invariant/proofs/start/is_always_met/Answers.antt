use Rattle.std.proofs.Common.{rules, FitsSigned, subst, sym, pos, ◌≤ℤ◌}
use Rattle.std.specs.Int.{w128}
use Rattle.std.proofs.lemmas.Int.{to_z-of_z}
use Rattle.tv_invariant.proofs.StartLemmas.{above_from_test, constant_met, never_met}
use Rattle.tv_invariant.proofs.start.is_always_met.Goals as goal
use Rattle.tv_linear.proofs.ListLaws.{le_from_test}

pub returns-then-constant-le0 : goal.returns-then-constant-le0
returns-then-constant-le0 c =
    let f : FitsSigned w128 c.constant.result = search rules in
    let t = le_from_test c.constant.result (pos 0) (simp to_z-of_z at c.if-constant-le0.true) in
    constant_met c.args.row.now c.is_number.result c.is_number.ensures (subst (λ z. z ≤ℤ pos 0) c.constant.ensures.is t)

pub returns-else-constant-le0 : goal.returns-else-constant-le0
returns-else-constant-le0 c =
    let f : FitsSigned w128 c.constant.result = search rules in
    let t = above_from_test c.constant.result (pos 0) (simp to_z-of_z at c.if-constant-le0.false) in
    never_met c.args.row.now _ c.if-constant-le0.false (λ k. t (subst (λ z. z ≤ℤ pos 0) (sym c.constant.ensures.is) k))
