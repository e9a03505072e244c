use Rattle.std.proofs.Common.{◌≡◌, ◌∙◌, ◌++◌, ap, map, arith, subst}
use Rattle.tv_cases.specs.Views.{case_view}
use Rattle.tv_invariant.specs.Rows.{IsStronger}
use Rattle.tv_invariant.specs.Places.{rows_at, step_rows}
use Rattle.tv_invariant.proofs.StepLemmas.{step_even, sieved_step, step_refused}
use Rattle.tv_invariant.proofs.step.step.Goals as goal
use Rattle.tv_linear.specs.Arithmetic.{padded_row}

pub invariant_of-judge : goal.invariant_of-judge
invariant_of-judge c =
    let case = case_view c.args.case.now in
    let front = c.in_ok-rows.ensures ∙ ap (λ cs. map (padded_row c.args.case.now.draws) (rows_at c.args.case.now.from cs)) c.deref.ensures.value in
    let rows : c.push_copies.new.list.items ≡ step_rows case c.args.now.items = c.in_ok-push_copies.ensures.copied ∙ (λ i. front i ++ c.deref-2.ensures.value i) in
    let strong = subst (λ rs. IsStronger rs c.in_ok-strongest.field-0.items) rows c.in_ok-strongest.ensures in
    let bounded = c.requires.bounded in
    let draws = c.requires.case.1.few_draws in
    record {
      bounded = omega (arith, bounded, draws);
      even = step_even c.args.variables case c.args.now.items c.in_ok-strongest.field-0.items c.requires.over c.requires.case.1.guards strong;
      terms = c.requires.case.1.terms;
      splits = c.requires.splits;
    }

pub returns-clause-sieved : goal.returns-clause-sieved
returns-clause-sieved c =
    let case = case_view c.args.case.now in
    let front = c.in_ok-rows.ensures ∙ ap (λ cs. map (padded_row c.args.case.now.draws) (rows_at c.args.case.now.from cs)) c.deref.ensures.value in
    let rows : c.push_copies.new.list.items ≡ step_rows case c.args.now.items = c.in_ok-push_copies.ensures.copied ∙ (λ i. front i ++ c.deref-2.ensures.value i) in
    let strong = subst (λ rs. IsStronger rs c.in_ok-strongest.field-0.items) rows c.in_ok-strongest.ensures in
    sieved_step c.args.variables case c.args.now.items c.in_ok-strongest.field-0.items c.requires.over strong c.sieve.result c.sieve.ensures.sieved

pub returns-clause-refusals : goal.returns-clause-refusals
returns-clause-refusals c =
    let case = case_view c.args.case.now in
    let front = c.in_ok-rows.ensures ∙ ap (λ cs. map (padded_row c.args.case.now.draws) (rows_at c.args.case.now.from cs)) c.deref.ensures.value in
    let rows : c.push_copies.new.list.items ≡ step_rows case c.args.now.items = c.in_ok-push_copies.ensures.copied ∙ (λ i. front i ++ c.deref-2.ensures.value i) in
    let strong = subst (λ rs. IsStronger rs c.in_ok-strongest.field-0.items) rows c.in_ok-strongest.ensures in
    step_refused c.args.variables case c.args.now.items c.in_ok-strongest.field-0.items c.requires.over strong c.args.budget.now.pivots c.args.budget.now.splits c.sieve.result c.sieve.ensures.refusals
