use Rattle.std.proofs.Common.{◌≡◌, ◌∙◌, ◌+◌, ◌++◌, map, subst, sym}
use Rattle.std.specs.Prelude.{All}
use Rattle.std.proofs.lemmas.List.Elements.{All-append}
use Rattle.tv_linear.specs.Linear.{columns as width}
use Rattle.tv_cases.specs.Views.{case_view}
use Rattle.tv_choice.specs.Asked.{query_of}
use Rattle.tv_choice.specs.ChoicePaths.{IsInner, starting}
use Rattle.tv_choice.proofs.RefusalLemmas.{inner_fault}
use Rattle.tv_choice.proofs.StopLemmas.{stopped_by}
use Rattle.tv_choice.proofs.stopping.stop_by.Goals as goal
use Rattle.tv_linear.specs.Arithmetic.{padded_row}
use Rattle.tv_linear.proofs.PaddedLemmas.{padded_even}

pub empty-requires-clause-even : goal.empty-requires-clause-even
empty-requires-clause-even c =
    let q = c.args.question.now in
    let n = q.columns in
    let case = case_view c.args.case.now in
    let w = n + c.args.case.now.draws in
    let asked = c.deref-2.ensures.value ∙ c.in_ok-push_copies.ensures.copied ∙ (λ i. c.in_ok-all.ensures.exact i ++ c.deref.ensures.value i) in
    let guards = subst (λ v. All (λ r. width r ≡ v + c.args.case.now.draws) case.guards) (sym q.variables) c.requires.case.guards in
    subst (λ rs. All (λ r. width r ≡ w) rs) (sym asked) (All-append (λ r. width r ≡ w) (map (padded_row c.args.case.now.draws) c.args.rows.now) case.guards (padded_even n c.args.case.now.draws c.args.rows.now c.requires.even) guards)

pub returns-in-Err-clause-refusals : goal.returns-in-Err-clause-refusals
returns-in-Err-clause-refusals c =
    let q = c.args.question.now in
    let n = q.columns in
    let case = case_view c.args.case.now in
    let w = n + c.args.case.now.draws in
    let asked = c.deref-2.ensures.value ∙ c.in_ok-push_copies.ensures.copied ∙ (λ i. c.in_ok-all.ensures.exact i ++ c.deref.ensures.value i) in
    inner_fault n (query_of q) c.args.rows.now c.deref-2.result.now w q.pivots c.args.left c.in-Err.fault
    (subst (IsInner n (query_of q) c.args.rows.now w) (sym asked) (starting case c.requires.stop c.requires.among c.requires.from)) c.in-Err.ensures.refusals

pub returns-clause-stopped : goal.returns-clause-stopped
returns-clause-stopped c =
    let n = c.args.question.now.columns in
    let asked = c.deref-2.ensures.value ∙ c.in_ok-push_copies.ensures.copied ∙ (λ i. c.in_ok-all.ensures.exact i ++ c.deref.ensures.value i) in
    let h = c.in-Ok.ensures in
    stopped_by n c.args.rows.now c.deref-2.result.now (case_view c.args.case.now) c.args.left c.requires.even asked c.in-Ok.emptied h.answers h.none h.shallow h.split_rows h.short h.first
