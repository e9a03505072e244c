use Rattle.std.proofs.Common.{◌≡◌, All, List, map, sym, subst, ◌++◌}
use Rattle.std.specs.Prelude.{MatchResult}
use Rattle.tv_linear.specs.Known.{Known, given, composed}
use Rattle.tv_linear.specs.Terms.{terms_after, draw_terms}
use Rattle.tv_cases.specs.Systems.{cases_of}
use Rattle.tv_cases.specs.Views.{case_view}
use Rattle.tv_cert.specs.Choices.{drawn_change}
use Rattle.tv_points.specs.Lines.{IsShowable, IsLineFault, ArePushed, lines_at}
use Rattle.tv_points.specs.Taking.{entered_rows, taken_rows}
use Rattle.tv_points.proofs.PushLemmas.{then_pushed, then_fault}
use Rattle.tv_points.proofs.taking.push_taken.Goals as goal
use Rattle.tv_linear.proofs.ListLaws.{all_back, all_front}

pub push_lines-requires-clause-showable : goal.push_lines-requires-clause-showable
push_lines-requires-clause-showable c =
    let t = c.args.taking.now in
    let n = (cases_of t.about.now).variables in
    let draws = c.args.draws.now in
    let all = taken_rows n (case_view c.args.case.now) draws t.falls t.from.now t.into.now in
    let guards : List Known = map (λ r. composed (given r) (draw_terms c.variables-columns.result draws)) c.deref-2.result.now in
    let rest : List Known = entered_rows t.falls (drawn_change n (case_view c.args.case.now) draws) t.from.now t.into.now in
    let whole : all ≡ guards ++ rest = (λ i. map (λ r. composed (given r) (draw_terms (sym c.variables-columns.ensures.same i) draws)) (sym c.deref-2.ensures.value i) ++ rest) in
    all_front (IsShowable c.deref.result.now) guards rest (subst (λ ys. All (IsShowable ys) (guards ++ rest)) (sym c.deref.ensures.value) (subst (All (IsShowable t.state.now.values.items)) whole c.requires.showable))

pub push_entered-requires-clause-showable : goal.push_entered-requires-clause-showable
push_entered-requires-clause-showable c =
    let t = c.args.taking.now in
    let n = (cases_of t.about.now).variables in
    let draws = c.args.draws.now in
    let all = taken_rows n (case_view c.args.case.now) draws t.falls t.from.now t.into.now in
    let k = c.variables-columns.result in
    let guards : List Known = map (λ r. composed (given r) (draw_terms n draws)) c.args.case.now.guards.rows.items in
    let rest : List Known = entered_rows t.falls (λ r. composed (composed (given r) (terms_after k c.deref-in-Ok.result.now)) (draw_terms k draws)) t.from.now t.into.now in
    let whole : all ≡ guards ++ rest = (λ i. guards ++ entered_rows t.falls (λ r. composed (composed (given r) (terms_after (sym c.variables-columns.ensures.same i) (sym c.deref-in-Ok.ensures.value i))) (draw_terms (sym c.variables-columns.ensures.same i) draws)) t.from.now t.into.now) in
    all_back (IsShowable c.deref-in-Ok-2.result.now) guards rest (subst (λ ys. All (IsShowable ys) (guards ++ rest)) (sym c.deref-in-Ok-2.ensures.value) (subst (All (IsShowable t.state.now.values.items)) whole c.requires.showable))

pub returns-in-Err : goal.returns-in-Err
returns-in-Err c =
    let t = c.args.taking.now in
    let n = (cases_of t.about.now).variables in
    let draws = c.args.draws.now in
    let all = taken_rows n (case_view c.args.case.now) draws t.falls t.from.now t.into.now in
    let guards : List Known = map (λ r. composed (given r) (draw_terms c.variables-columns.result draws)) c.deref-2.result.now in
    let rest : List Known = entered_rows t.falls (drawn_change n (case_view c.args.case.now) draws) t.from.now t.into.now in
    let whole : all ≡ guards ++ rest = (λ i. map (λ r. composed (given r) (draw_terms (sym c.variables-columns.ensures.same i) draws)) (sym c.deref-2.ensures.value i) ++ rest) in
    subst (λ ys. IsLineFault (lines_at ys all) c.in-Err.fault) c.deref.ensures.value (then_fault c.deref.result.now guards rest all c.in-Err.fault whole c.in-Err.ensures)

pub returns-in-Ok : goal.returns-in-Ok
returns-in-Ok c =
    let t = c.args.taking.now in
    let xs = t.state.now.values.items in
    let draws = c.args.draws.now in
    let k = c.variables-columns.result in
    let all = taken_rows (cases_of t.about.now).variables (case_view c.args.case.now) draws t.falls t.from.now t.into.now in
    let guards : List Known = map (λ r. composed (given r) (draw_terms k draws)) c.deref-2.result.now in
    let rest : List Known = entered_rows t.falls (λ r. composed (composed (given r) (terms_after k c.deref-in-Ok.result.now)) (draw_terms k draws)) t.from.now t.into.now in
    let whole : all ≡ guards ++ rest = (λ i. map (λ r. composed (given r) (draw_terms (sym c.variables-columns.ensures.same i) draws)) (sym c.deref-2.ensures.value i) ++ entered_rows t.falls (λ r. composed (composed (given r) (terms_after (sym c.variables-columns.ensures.same i) (sym c.deref-in-Ok.ensures.value i))) (draw_terms (sym c.variables-columns.ensures.same i) draws)) t.from.now t.into.now) in
    let old = map (λ l. l.items) c.args.lists.now.items in
    let mid = map (λ l. l.items) c.push_lines.new.lists.items in
    let new = map (λ l. l.items) c.push_entered.new.lists.items in
    then_pushed xs guards rest all old mid new c.push_entered.result whole
    (subst (λ ys. ArePushed ys guards old mid) c.deref.ensures.value c.in-Ok.ensures)
    (subst (λ ys. MatchResult c.push_entered.result (λ _. ArePushed ys rest mid new) (IsLineFault (lines_at ys rest))) c.deref-in-Ok-2.ensures.value c.push_entered.ensures)
