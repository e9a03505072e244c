use Rattle.std.proofs.Common.{rules, arith, get_or, pos, FitsSigned}
use Rattle.std.specs.Int.{w128}
use Rattle.std.proofs.lemmas.Int.{to_z-of_z}
use Rattle.tv_refute.proofs.Stepping.{none_changed, one_changed, not_changed, all_changed}
use Rattle.tv_refute.proofs.steps.change_each.Goals as goal

pub loop-k-init : goal.loop-k-init
loop-k-init g c = none_changed (g.S.Step.told c.args.step.now) (g.S.Step.value c.args.step.now) c.args.numbers.now

pub loop-k-preserved : goal.loop-k-preserved
loop-k-preserved g c =
    let old_fits : FitsSigned w128 (get_or c.loop-k.numbers c.loop-k.k (pos 0)) = search rules in
    let number_fits : FitsSigned w128 c.in-Some.number = search rules in
    let w = simp to_z-of_z at c.in-Some.ensures in
    rw (to_z-of_z w128 c.in-Some.number number_fits) (one_changed (g.S.Step.told c.args.step.now) (g.S.Step.value c.args.step.now) c.args.numbers.now c.loop-k.numbers c.loop-k.k c.loop-k.invariant c.in-Some.number (omega arith) w.0 w.1)

pub returns-in-None-clause-told : goal.returns-in-None-clause-told
returns-in-None-clause-told g c =
    let old_fits : FitsSigned w128 (get_or c.loop-k.numbers c.loop-k.k (pos 0)) = search rules in
    let never = simp to_z-of_z at c.in-None.ensures in
    not_changed (g.S.Step.told c.args.step.now) (g.S.Step.value c.args.step.now) c.args.numbers.now c.loop-k.numbers c.loop-k.k c.loop-k.invariant c.args.count (omega arith) never

pub returns-clause-told : goal.returns-clause-told
returns-clause-told g c = all_changed (g.S.Step.told c.args.step.now) (g.S.Step.value c.args.step.now) c.args.numbers.now c.loop-k.numbers c.loop-k.k c.loop-k.invariant c.args.count (omega arith)
