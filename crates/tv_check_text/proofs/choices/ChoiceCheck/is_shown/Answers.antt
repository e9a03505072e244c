use Rattle.std.proofs.Common.{◌≡◌, ◌++◌, map, sym, ◌∙◌, subst}
use Rattle.tv_linear.specs.Known.{given, composed}
use Rattle.tv_linear.specs.Terms.{terms_after, draw_terms}
use Rattle.tv_refute.specs.Frames.{known_at}
use Rattle.tv_cases.specs.Systems.{cases_of}
use Rattle.tv_cases.specs.Views.{case_view}
use Rattle.tv_cert.specs.Choices.{drawn_change, drawn_guards}
use Rattle.tv_check_text.specs.Checking.{ChecksLists}
use Rattle.tv_cert.specs.Entering.{entered_listed}
use Rattle.tv_check_text.proofs.TreeLemmas.{same_rows}
use Rattle.tv_check_text.proofs.choices.ChoiceCheck.is_shown.Goals as goal

pub returns : goal.returns
returns c = λ rows owes.
    let n = (cases_of c.args.self.now.context.about.now).variables in
    let t = c.args.taken.now in
    let case = case_view t.case.now in
    let draws = c.args.draws.now in
    let x = c.in-Some.entered in
    let known = known_at c.args.frames.now in
    let e : entered_listed (drawn_change n case draws) x ≡ rows = same_rows (entered_listed (drawn_change n case draws) x) rows (sym (c.in-Some.ensures (drawn_change n case draws)) ∙ (λ i. c.targets_after-targets.ensures.owed n draws i t.target t.fall) ∙ owes) in
    let here : ChecksLists n known (drawn_guards n case draws ++ entered_listed (drawn_change n case draws) x) c.args.cursor.now c.rows_are_shown.new.cursor c.rows_are_shown.result =
    subst (λ (x : Type 0). x) (λ i. ChecksLists (c.variables-columns.ensures.same i) known (map (λ r. composed (given r) (draw_terms (c.variables-columns.ensures.same i) draws)) (c.deref-2.ensures.value i) ++ entered_listed (λ r. composed (composed (given r) (terms_after (c.variables-columns.ensures.same i) (c.deref.ensures.value i))) (draw_terms (c.variables-columns.ensures.same i) draws)) x) c.args.cursor.now c.rows_are_shown.new.cursor c.rows_are_shown.result) c.rows_are_shown.ensures in
    subst (λ more. ChecksLists n known (drawn_guards n case draws ++ more) c.args.cursor.now c.rows_are_shown.new.cursor c.rows_are_shown.result) e here
