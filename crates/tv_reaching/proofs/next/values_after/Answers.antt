use Rattle.std.proofs.Common.{◌∙◌, sym, ◌++◌, ◌∷◌, [], rules, FitsSigned}
use Rattle.std.specs.Int.{w64}
use Rattle.std.proofs.lemmas.Int.{to_z-of_z}
use Rattle.std.proofs.lemmas.List.Elements.{All-push}
use Rattle.tv_linear.specs.Linear.{IsWithin}
use Rattle.tv_linear.specs.Known.{term_value}
use Rattle.tv_cases.proofs.BeforeValue.{terms-push}
use Rattle.tv_reaching.proofs.ValueLemmas.{wide_here}
use Rattle.tv_reaching.proofs.next.values_after.Goals as goal

pub returns-in-None : goal.returns-in-None
returns-in-None c = wide_here c.args.point.now c.args.updates.now c.args.variables c.loop-variable.variable c.loop-variable.values.items c.loop-variable-test.true c.loop-variable.invariant.exact c.loop-variable.invariant.narrow c.in-None.ensures.exact

pub loop-variable-preserved : goal.loop-variable-preserved
loop-variable-preserved c =
    let fits : FitsSigned w64 c.in-Some.value = search rules in
    let items = simp to_z-of_z at c.in_ok-push_value-in-Some.ensures in
    record {
      exact = items ∙ (λ i. c.loop-variable.invariant.exact i ++ c.in-Some.ensures.exact.1 i ∷ []) ∙ sym (terms-push (term_value c.args.point.now) c.args.updates.now c.loop-variable.variable);
      narrow = rw items (All-push (IsWithin 62) c.loop-variable.values.items c.in-Some.value c.loop-variable.invariant.narrow c.in-Some.ensures.narrow);
    }
