use Rattle.std.proofs.Common.{◌≡◌, ◌∙◌, All, map, sym, ap, subst, Some, slice_get}
use Rattle.tv_linear.specs.Linear.{IsNarrow}
use Rattle.tv_cases.specs.Systems.{cases_of}
use Rattle.tv_cases.specs.Views.{case_view}
use Rattle.tv_points.specs.PointRows.{number_rows}
use Rattle.tv_points.specs.Lines.{IsShowable, IsShown, IsLineFault, ArePushed, lines_at}
use Rattle.tv_points.specs.Taking.{taken_rows, fall_number, IsChosen}
use Rattle.tv_points.proofs.TakingMet.{owed_are, can_show, is_chosen}
use Rattle.tv_points.proofs.taking.take.Goals as goal

pub push_taken-requires-clause-showable : goal.push_taken-requires-clause-showable
push_taken-requires-clause-showable c =
    let t = c.args.taking.now in
    let case = case_view c.in-Some.case.now in
    let n = (cases_of t.about.now).variables in
    let found : slice_get (cases_of t.about.now).cases t.step.now.taken ≡ Some case = c.in-Some.ensures in
    let drawn : c.deref-4.result.now ≡ number_rows n t.step.now.draws.items = c.deref-4.ensures.value ∙ c.in_ok-draws.ensures ∙ (λ i. number_rows (c.variables.ensures.same i) (c.deref-3.ensures.value i)) in
    subst (λ ds. All (IsShowable t.state.now.values.items) (taken_rows n case ds t.falls t.from.now t.into.now)) (sym drawn)
    (can_show t c.requires case found (subst (All IsNarrow) c.deref.ensures.value c.narrow_rows.ensures) (subst (All (λ u. IsNarrow u.term)) c.deref-2.ensures.value c.narrow_updates.ensures))

pub returns-in-Err : goal.returns-in-Err
returns-in-Err c =
    let t = c.args.taking.now in
    let case = case_view c.in-Some.case.now in
    let n = (cases_of t.about.now).variables in
    let found : slice_get (cases_of t.about.now).cases t.step.now.taken ≡ Some case = c.in-Some.ensures in
    let drawn : c.deref-4.result.now ≡ number_rows n t.step.now.draws.items = c.deref-4.ensures.value ∙ c.in_ok-draws.ensures ∙ (λ i. number_rows (c.variables.ensures.same i) (c.deref-3.ensures.value i)) in
    record {
      lines = subst (λ rows. IsLineFault (lines_at t.state.now.values.items rows) c.in-Err.fault) (sym (owed_are t c.requires case found))
          (subst (λ ds. IsLineFault (lines_at t.state.now.values.items (taken_rows n case ds t.falls t.from.now t.into.now)) c.in-Err.fault) drawn c.in-Err.ensures);
    }

pub returns : goal.returns
returns c =
    let t = c.args.taking.now in
    let case = case_view c.in-Some.case.now in
    let n = (cases_of t.about.now).variables in
    let found : slice_get (cases_of t.about.now).cases t.step.now.taken ≡ Some case = c.in-Some.ensures in
    let made : c.in_ok-draws.draws.items ≡ number_rows n t.step.now.draws.items = c.in_ok-draws.ensures ∙ (λ i. number_rows (c.variables.ensures.same i) (c.deref-3.ensures.value i)) in
    let old = map (λ l. l.items) c.new-lists.result.items in
    let new = map (λ l. l.items) c.push_taken.new.lists.items in
    let pushed : ArePushed t.state.now.values.items (taken_rows n case (number_rows n t.step.now.draws.items) t.falls t.from.now t.into.now) old new =
    subst (λ ds. ArePushed t.state.now.values.items (taken_rows n case ds t.falls t.from.now t.into.now) old new) (c.deref-4.ensures.value ∙ made) c.in-Ok.ensures in
    record {
      shown = subst (λ rows. All IsShown (lines_at t.state.now.values.items rows)) (sym (owed_are t c.requires case found)) pushed.shown;
      chosen = λ ps at. subst (λ tree. IsChosen (cases_of t.about.now) ps t.falls t.from.now tree) (sym c.in-Some-new.ensures.1)
          (is_chosen t c.requires case found ps c.fall_of.result c.in_ok-draws.draws c.push_taken.new.lists old at (c.fall_of.ensures ∙ ap fall_number c.is_owed.ensures) made (ap (map (λ l. l.items)) c.new-lists.ensures.items) pushed);
    }
