use Rattle.std.proofs.Common.{◌∙◌, ◌≡◌, ◌+◌, ◌++◌, ap, refl, sym, subst, arith, map, All}
use Rattle.tv_linear.specs.Linear.{columns}
use Rattle.tv_linear.specs.Arithmetic.{padded_row}
use Rattle.tv_shape.specs.Narrow.{CoverNarrow}
use Rattle.tv_cases.specs.LinearCases.{IsCase}
use Rattle.tv_cases.specs.Systems.{cases_of}
use Rattle.tv_cases.specs.Views.{case_view}
use Rattle.tv_cases.specs.Before.{rows_before}
use Rattle.tv_cover.specs.Targets.{lists_of, AreEven}
use Rattle.tv_cover.specs.Covering.{IsCovered, IsShallow, HasSplitRows, IsCoverFault}
use Rattle.tv_cover.proofs.SingleLemmas.{rows_even}
use Rattle.tv_region.specs.Regions.{lists_at}
use Rattle.tv_choice.specs.Leading.{piece_rows}
use Rattle.tv_pre.specs.Questions.{steps, step_rows, uncovered}
use Rattle.tv_pre.specs.Targets.{AreBefore}
use Rattle.tv_pre.proofs.StepLemmas.{shows_step, step_even, step_whole, targets_even}
use Rattle.tv_pre.proofs.RefusalLemmas.{refusal_of, unmade_step}
use Rattle.tv_pre.proofs.inside.step_inside.Goals as goal
use Rattle.tv_cases.proofs.LeavingLemmas.{case_of_system}

pub returns-in-Err-clause-refusals : goal.returns-in-Err-clause-refusals
returns-in-Err-clause-refusals c = unmade_step (cases_of c.args.setting.now.about.now) c.args.setting.now.budget.now c.args.piece.now (case_view c.args.case.now) c.args.into.now c.in-Err.fault c.in-Err.ensures.refusals

-- the rows that are asked about
asked : (c : goal.After-deref-3) → c.push_copies.new.list.items ≡ step_rows (case_view c.args.case.now) (piece_rows c.args.piece.now)
asked c =
    c.in_ok-push_copies.ensures.copied
    ∙ (λ i. (c.in_ok-rows.ensures.exact ∙ ap (map (padded_row c.args.case.now.draws)) c.deref.ensures.value) i ++ c.deref-2.ensures.value i)

made : (c : goal.After-deref-3) → AreBefore (case_view c.args.case.now) (lists_at c.args.case.now.to c.args.into.now) (lists_of c.deref-3.result.now)
made c = subst (λ ts. AreBefore (case_view c.args.case.now) (lists_at c.args.case.now.to c.args.into.now) (lists_of ts)) (sym c.deref-3.ensures.value) c.in-Ok.ensures.targets

case_is : (c : goal.After-deref-3) → IsCase (cases_of c.args.setting.now.about.now).variables (cases_of c.args.setting.now.about.now).locations (case_view c.args.case.now)
case_is c = case_of_system (cases_of c.args.setting.now.about.now) (case_view c.args.case.now) c.variables-variables.ensures.limits c.requires.among

wide : (c : goal.After-deref-3) → c.variables-variables.result + c.args.case.now.draws ≡ (cases_of c.args.setting.now.about.now).variables + c.args.case.now.draws
wide c = ap (λ n. n + c.args.case.now.draws) c.variables-variables.ensures.same

pub cover-requires-clause-even : goal.cover-requires-clause-even
cover-requires-clause-even c =
    subst (λ n. All (λ r. columns r ≡ n) c.push_copies.new.list.items) (sym (wide c))
    (step_even (cases_of c.args.setting.now.about.now) (case_view c.args.case.now) (case_is c) c.args.piece.now c.requires.piece c.args.into.now c.requires.into c.push_copies.new.list.items (asked c))

pub cover-requires-clause-same : goal.cover-requires-clause-same
cover-requires-clause-same c =
    subst (λ n. All (AreEven n) (lists_of c.deref-3.result.now)) (sym (wide c))
    (targets_even (cases_of c.args.setting.now.about.now) (case_view c.args.case.now) (case_is c) c.args.piece.now c.requires.piece c.args.into.now c.requires.into (lists_of c.deref-3.result.now) (made c))

pub returns-in-Err-cover-clause-refusals : goal.returns-in-Err-cover-clause-refusals
returns-in-Err-cover-clause-refusals c =
    let about = cases_of c.args.setting.now.about.now in
    let case = case_view c.args.case.now in
    let piece = c.args.piece.now in
    let into = c.args.into.now in
    let n = c.variables-variables.result + c.args.case.now.draws in
    let wide : n ≡ about.variables + case.draws = ap (λ n. n + c.args.case.now.draws) c.variables-variables.ensures.same in
    let rows = c.push_copies.new.list.items in
    let lists = lists_of c.deref-3.result.now in
    let asked : rows ≡ step_rows case (piece_rows piece) =
    c.in_ok-push_copies.ensures.copied
    ∙ (λ i. (c.in_ok-rows.ensures.exact ∙ ap (map (padded_row c.args.case.now.draws)) c.deref.ensures.value) i ++ c.deref-2.ensures.value i)
    in
    let made : AreBefore case (lists_at case.to into) lists = subst (λ ts. AreBefore case (lists_at case.to into) (lists_of ts)) (sym c.deref-3.ensures.value) c.in-Ok.ensures.targets in
    let budget = c.args.setting.now.budget.now in
    let a = steps piece case into in
    let fault = c.in-Err-cover.fault in
    refusal_of about budget (λ b. b ≡ a) a fault refl
    (uncovered fault (subst (λ rs. IsCoverFault (about.variables + case.draws) (map (rows_before case) (lists_at case.to into)) rs budget.pivots budget.splits fault) asked
    (subst (λ ls. IsCoverFault (about.variables + case.draws) ls rows budget.pivots budget.splits fault) made.exact
    (subst (λ k. IsCoverFault k lists rows budget.pivots budget.splits fault) wide c.in-Err-cover.ensures.refusals))))

pub unreachable-requires : goal.unreachable-requires
unreachable-requires c =
    let about = cases_of c.args.setting.now.about.now in
    let case = case_view c.args.case.now in
    let piece = c.args.piece.now in
    let into = c.args.into.now in
    let n = c.variables-variables.result + c.args.case.now.draws in
    let wide : n ≡ about.variables + case.draws = ap (λ n. n + c.args.case.now.draws) c.variables-variables.ensures.same in
    let rows = c.push_copies.new.list.items in
    let lists = lists_of c.deref-3.result.now in
    let asked : rows ≡ step_rows case (piece_rows piece) =
    c.in_ok-push_copies.ensures.copied
    ∙ (λ i. (c.in_ok-rows.ensures.exact ∙ ap (map (padded_row c.args.case.now.draws)) c.deref.ensures.value) i ++ c.deref-2.ensures.value i)
    in
    let made : AreBefore case (lists_at case.to into) lists = subst (λ ts. AreBefore case (lists_at case.to into) (lists_of ts)) (sym c.deref-3.ensures.value) c.in-Ok.ensures.targets in
    let is_case = case_of_system about case c.variables-variables.ensures.limits c.requires.among in
    let hole = subst (IsCovered n lists rows) c.in-Ok-Hole.field-0-is c.in-Ok-Hole.ensures.answers in
    step_whole about case is_case piece c.requires.piece into c.requires.into lists rows n c.in-Ok-Hole.field-0-0.items c.requires.among c.requires.from c.requires.inside made asked wide hole

pub returns-clause-shows : goal.returns-clause-shows
returns-clause-shows c =
    let about = cases_of c.args.setting.now.about.now in
    let case = case_view c.args.case.now in
    let piece = c.args.piece.now in
    let into = c.args.into.now in
    let n = c.variables-variables.result + c.args.case.now.draws in
    let wide : n ≡ about.variables + case.draws = ap (λ n. n + c.args.case.now.draws) c.variables-variables.ensures.same in
    let rows = c.push_copies.new.list.items in
    let lists = lists_of c.deref-3.result.now in
    let asked : rows ≡ step_rows case (piece_rows piece) =
    c.in_ok-push_copies.ensures.copied
    ∙ (λ i. (c.in_ok-rows.ensures.exact ∙ ap (map (padded_row c.args.case.now.draws)) c.deref.ensures.value) i ++ c.deref-2.ensures.value i)
    in
    let made : AreBefore case (lists_at case.to into) lists = subst (λ ts. AreBefore case (lists_at case.to into) (lists_of ts)) (sym c.deref-3.ensures.value) c.in-Ok.ensures.targets in
    let is_case = case_of_system about case c.variables-variables.ensures.limits c.requires.among in
    let is = c.in-Ok-Tree.field-0-is in
    let tree = c.in-Ok-Tree.cover in
    shows_step about case is_case piece c.requires.piece into c.requires.into lists rows n tree made asked wide
    (subst (IsCovered n lists rows) is c.in-Ok-Tree.ensures.answers)
    (rows_even n lists tree (subst (HasSplitRows n lists) is c.in-Ok-Tree.ensures.split_rows))
    (subst CoverNarrow c.tree.ensures.same c.narrow_tree.ensures)
    (let s = subst (IsShallow c.args.setting.now.budget.now.splits) is c.in-Ok-Tree.ensures.shallow in let bounded = c.requires.splits in omega (arith, s, bounded))
