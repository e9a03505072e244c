use Rattle.std.proofs.Common.{◌≡◌, ◌∙◌, ◌+◌, [], ◌∷◌, length, take, drop, All, arith, refl, ap, sym, subst}
use Rattle.tv_linear.specs.Linear.{columns, IsWithin, IsMet}
use Rattle.tv_cases.specs.Systems.{cases_of}
use Rattle.tv_cases.specs.Views.{case_view}
use Rattle.tv_recur.specs.Choosing.{LeadsInto}
use Rattle.tv_recur.specs.Nodes.{on_piece}
use Rattle.tv_recur.proofs.KeepLemmas.{entry_by, entering_wide, never_left, inside_piece, second_there}
use Rattle.tv_recur.proofs.OwedLemmas.{terms_each, terms_even}
use Rattle.tv_recur.proofs.PointLemmas.{draw_at, split_point, put_is, put_even, split_met}
use Rattle.tv_recur.proofs.ReadLemmas.{case_is, undrawn_wide}
use Rattle.tv_recur.specs.Refusing.{AreFrom}
use Rattle.tv_derived.specs.Scopes.{at_location}
use Rattle.tv_recur.specs.Making.{drawn_terms}
use Rattle.tv_recur.proofs.RefusalLemmas.{may_put, undrawn_from, entering_from, put_refused, made_from}
use Rattle.tv_recur.proofs.entering.enter_by.Goals as goal
use Rattle.tv_linear.proofs.ListLaws.{contains_at}
use Rattle.tv_cases.proofs.LeavingLemmas.{case_of_system}

pub rows_put-requires-clause-each : goal.rows_put-requires-clause-each
rows_put-requires-clause-each c =
    let about = cases_of c.args.search.now.about.now in
    let kept = case_view c.args.kept.now in
    let case = case_view c.in-Some.case.now in
    let v = c.variables-columns.result in
    let xs = c.split_at.result.0.now in
    let ds = c.split_at.result.1.now in
    let rows = c.deref-2.result.now in
    let e = entry_by about kept c.args.entry.now case rows c.requires.entry c.in-Some.ensures c.deref-2.ensures.value in
    let good = case_of_system about kept c.args.search.now.about.now.are_cases c.requires.among in
    let wide = undrawn_wide about.variables kept c.requires.kept.no_draws good.guards in
    let s = split_point v case.draws c.args.entry.now.point.items xs ds
    (e.point_is.width ∙ ap (λ k. k + case.draws) (sym c.variables-columns.ensures.same)) e.short (c.split_at.ensures.front ∙ ap (take v) c.deref.ensures.value) (c.split_at.ensures.back ∙ ap (drop v) c.deref.ensures.value) in
    let own = case_is about c.args.entry.now.number case c.args.search.now.about.now.are_cases c.in-Some.ensures in
    terms_each about.variables v case.draws ds c.deref-3.result.now rows rows c.variables-columns.ensures.same (c.deref-3.ensures.value ∙ c.in_ok-terms.ensures) s.drawn (λ i. rows)
    (entering_wide about.variables case kept.guards rows e.entering own.guards own.terms wide)

pub rows_put-requires-clause-even : goal.rows_put-requires-clause-even
rows_put-requires-clause-even c =
    terms_even c.variables-columns.result c.split_at.result.1.now c.deref-3.result.now (c.deref-3.ensures.value ∙ c.in_ok-terms.ensures)

pub leading-requires-clause-taking : goal.leading-requires-clause-taking
leading-requires-clause-taking c =
    let about = cases_of c.args.search.now.about.now in
    let kept = case_view c.args.kept.now in
    let case = case_view c.in-Some.case.now in
    let v = c.variables-columns.result in
    let xs = c.split_at.result.0.now in
    let ds = c.split_at.result.1.now in
    let rows = c.deref-2.result.now in
    let e = entry_by about kept c.args.entry.now case rows c.requires.entry c.in-Some.ensures c.deref-2.ensures.value in
    let s = split_point v case.draws c.args.entry.now.point.items xs ds
    (e.point_is.width ∙ ap (λ k. k + case.draws) (sym c.variables-columns.ensures.same)) e.short (c.split_at.ensures.front ∙ ap (take v) c.deref.ensures.value) (c.split_at.ensures.back ∙ ap (drop v) c.deref.ensures.value) in
    let good = case_of_system about kept c.args.search.now.about.now.are_cases c.requires.among in
    let wide = undrawn_wide about.variables kept c.requires.kept.no_draws good.guards in
    let b = c.args.search.now.budget.now in
    let from = subst (λ l. AreFrom about (at_location l) 1 kept.guards) (sym e.ends) (undrawn_from about b kept 1 c.requires.among c.requires.kept.no_draws) in
    let rows_from = entering_from about b case kept.guards rows (contains_at about.cases c.args.entry.now.number case c.in-Some.ensures) wide from e.entering in
    let may = may_put about c.args.search.now.budget.now 2 case rows c.args.entry.now.point.items ds (about.variables + case.draws) refl rows_from e.first s.drawn
    (λ j l. draw_at about.variables v case.draws c.args.entry.now.point.items xs ds c.variables-columns.ensures.same s j) in
    record { found = c.in-Some.ensures; counted = s.drawn; narrow = s.draws; may = may; near = omega arith; splits = c.requires.splits }

pub leading-requires-clause-even : goal.leading-requires-clause-even
leading-requires-clause-even c =
    let about = cases_of c.args.search.now.about.now in
    let kept = case_view c.args.kept.now in
    let case = case_view c.in-Some.case.now in
    let v = c.variables-columns.result in
    let xs = c.split_at.result.0.now in
    let ds = c.split_at.result.1.now in
    let rows = c.deref-2.result.now in
    let e = entry_by about kept c.args.entry.now case rows c.requires.entry c.in-Some.ensures c.deref-2.ensures.value in
    let made = put_is v ds c.deref-3.result.now c.in_ok-terms.terms.items rows c.in-Ok.put.items c.deref-3.ensures.value c.in_ok-terms.ensures c.in-Ok.ensures.rows in
    put_even v ds rows c.in-Ok.put.items made

pub leading-requires-clause-same : goal.leading-requires-clause-same
leading-requires-clause-same c =
    let about = cases_of c.args.search.now.about.now in
    let kept = case_view c.args.kept.now in
    let case = case_view c.in-Some.case.now in
    let v = c.variables-columns.result in
    let xs = c.split_at.result.0.now in
    let ds = c.split_at.result.1.now in
    let rows = c.deref-2.result.now in
    let e = entry_by about kept c.args.entry.now case rows c.requires.entry c.in-Some.ensures c.deref-2.ensures.value in
    let good = case_of_system about kept c.args.search.now.about.now.are_cases c.requires.among in
    let wide = undrawn_wide about.variables kept c.requires.kept.no_draws good.guards in
    subst (λ k. All (λ r. columns r ≡ k) c.deref-4.result.now) (sym c.variables-columns.ensures.same) (subst (All (λ r. columns r ≡ about.variables)) (sym c.deref-4.ensures.value) wide)

pub unreachable-requires-in-Ok-None : goal.unreachable-requires-in-Ok-None
unreachable-requires-in-Ok-None c =
    let about = cases_of c.args.search.now.about.now in
    let kept = case_view c.args.kept.now in
    let case = case_view c.in-Some.case.now in
    let v = c.variables-columns.result in
    let xs = c.split_at.result.0.now in
    let ds = c.split_at.result.1.now in
    let rows = c.deref-2.result.now in
    let e = entry_by about kept c.args.entry.now case rows c.requires.entry c.in-Some.ensures c.deref-2.ensures.value in
    let good = case_of_system about kept c.args.search.now.about.now.are_cases c.requires.among in
    let wide = undrawn_wide about.variables kept c.requires.kept.no_draws good.guards in
    let s = split_point v case.draws c.args.entry.now.point.items xs ds
    (e.point_is.width ∙ ap (λ k. k + case.draws) (sym c.variables-columns.ensures.same)) e.short (c.split_at.ensures.front ∙ ap (take v) c.deref.ensures.value) (c.split_at.ensures.back ∙ ap (drop v) c.deref.ensures.value) in
    let made = put_is v ds c.deref-3.result.now c.in_ok-terms.terms.items rows c.in-Ok.put.items c.deref-3.ensures.value c.in_ok-terms.ensures c.in-Ok.ensures.rows in
    never_left v case ds kept.guards rows c.in-Ok.put.items c.in-Ok.put.items c.deref-4.result.now e.entering
    (subst (λ k. All (λ r. columns r ≡ k) kept.guards) (sym c.variables-columns.ensures.same) wide)
    made (λ i. c.in-Ok.put.items) c.deref-4.ensures.value s.drawn
    (rw c.in-Ok-None.field-0-is at c.in-Ok-None.ensures.found)

pub stem_node-requires-clause-stem : goal.stem_node-requires-clause-stem
stem_node-requires-clause-stem c =
    let about = cases_of c.args.search.now.about.now in
    let kept = case_view c.args.kept.now in
    let case = case_view c.in-Some.case.now in
    let v = c.variables-columns.result in
    let xs = c.split_at.result.0.now in
    let ds = c.split_at.result.1.now in
    let rows = c.deref-2.result.now in
    let e = entry_by about kept c.args.entry.now case rows c.requires.entry c.in-Some.ensures c.deref-2.ensures.value in
    let made = put_is v ds c.deref-3.result.now c.in_ok-terms.terms.items rows c.in-Ok.put.items c.deref-3.ensures.value c.in_ok-terms.ensures c.in-Ok.ensures.rows in
    let leads = rw c.in-Ok-Some.field-0-is at c.in-Ok-Some.ensures.found in
    record {
      starts = e.starts;
      ends = e.ends;
      away = c.requires.away;
      even = subst (λ k. All (λ r. columns r ≡ k) c.deref-in-Ok-Some.result.now) c.variables-columns.ensures.same (put_even v ds rows c.deref-in-Ok-Some.result.now (c.deref-in-Ok-Some.ensures.value ∙ made));
      leads = subst (λ z. LeadsInto about case 0 z kept.guards c.in-Ok-Some.taken) (sym c.deref-in-Ok-Some.ensures.value) (subst (λ z. LeadsInto about case 0 c.in-Ok.put.items z c.in-Ok-Some.taken) c.deref-4.ensures.value leads);
    }

pub returns-in_ok-values-in-Ok-Some-clause-found : goal.returns-in_ok-values-in-Ok-Some-clause-found
returns-in_ok-values-in-Ok-Some-clause-found c =
    let about = cases_of c.args.search.now.about.now in
    let kept = case_view c.args.kept.now in
    let case = case_view c.in-Some.case.now in
    let v = c.variables-columns.result in
    let xs = c.split_at.result.0.now in
    let ds = c.split_at.result.1.now in
    let rows = c.deref-2.result.now in
    let e = entry_by about kept c.args.entry.now case rows c.requires.entry c.in-Some.ensures c.deref-2.ensures.value in
    let s = split_point v case.draws c.args.entry.now.point.items xs ds
    (e.point_is.width ∙ ap (λ k. k + case.draws) (sym c.variables-columns.ensures.same)) e.short (c.split_at.ensures.front ∙ ap (take v) c.deref.ensures.value) (c.split_at.ensures.back ∙ ap (drop v) c.deref.ensures.value) in
    let made = put_is v ds c.deref-3.result.now c.in_ok-terms.terms.items rows c.in-Ok.put.items c.deref-3.ensures.value c.in_ok-terms.ensures c.in-Ok.ensures.rows in
    let node = c.in_ok-root-in-Ok-Some.ensures in
    let first = on_piece about.variables about.start c.deref-in-Ok-Some.result.now in
    let guards = on_piece about.variables kept.from kept.guards in
    let values = c.in_ok-values-in-Ok-Some.values.items in
    let same : values ≡ xs = c.in_ok-values-in-Ok-Some.ensures.items in
    record {
      fitted = node.fitted;
      inside = inside_piece about (guards ∷ first ∷ []) c.in_ok-root-in-Ok-Some.root first values node.pieces (second_there guards first about.start c.requires.away (λ i. about.start))
          (ap length same ∙ s.many ∙ c.variables-columns.ensures.same)
          (subst (All (IsWithin 62)) (sym same) s.values)
          (subst (λ ys. All (IsMet ys) c.deref-in-Ok-Some.result.now) (sym same) (split_met v case.draws c.args.entry.now.point.items xs ds rows c.deref-in-Ok-Some.result.now s (c.deref-in-Ok-Some.ensures.value ∙ made) e.point_is.met));
    }

pub returns-in-Err-clause-refusals : goal.returns-in-Err-clause-refusals
returns-in-Err-clause-refusals c =
    let about = cases_of c.args.search.now.about.now in
    let kept = case_view c.args.kept.now in
    let case = case_view c.in-Some.case.now in
    let v = c.variables-columns.result in
    let xs = c.split_at.result.0.now in
    let ds = c.split_at.result.1.now in
    let rows = c.deref-2.result.now in
    let e = entry_by about kept c.args.entry.now case rows c.requires.entry c.in-Some.ensures c.deref-2.ensures.value in
    let s = split_point v case.draws c.args.entry.now.point.items xs ds
    (e.point_is.width ∙ ap (λ k. k + case.draws) (sym c.variables-columns.ensures.same)) e.short (c.split_at.ensures.front ∙ ap (take v) c.deref.ensures.value) (c.split_at.ensures.back ∙ ap (drop v) c.deref.ensures.value) in
    let good = case_of_system about kept c.args.search.now.about.now.are_cases c.requires.among in
    let wide = undrawn_wide about.variables kept c.requires.kept.no_draws good.guards in
    let b = c.args.search.now.budget.now in
    let from = subst (λ l. AreFrom about (at_location l) 1 kept.guards) (sym e.ends) (undrawn_from about b kept 1 c.requires.among c.requires.kept.no_draws) in
    let rows_from = entering_from about b case kept.guards rows (contains_at about.cases c.args.entry.now.number case c.in-Some.ensures) wide from e.entering in
    let may = may_put about c.args.search.now.budget.now 2 case rows c.args.entry.now.point.items ds (about.variables + case.draws) refl rows_from e.first s.drawn
    (λ j l. draw_at about.variables v case.draws c.args.entry.now.point.items xs ds c.variables-columns.ensures.same s j) in
    let terms = c.deref-3.ensures.value ∙ c.in_ok-terms.ensures ∙ ap (λ k. drawn_terms k ds) c.variables-columns.ensures.same in
    put_refused about b case ds s.drawn may rows c.deref-3.result.now c.in-Err.fault terms rows_from c.in-Err.ensures.refusals

pub leading-requires-clause-derived : goal.leading-requires-clause-derived
leading-requires-clause-derived c =
    let about = cases_of c.args.search.now.about.now in
    let kept = case_view c.args.kept.now in
    let case = case_view c.in-Some.case.now in
    let v = c.variables-columns.result in
    let xs = c.split_at.result.0.now in
    let ds = c.split_at.result.1.now in
    let rows = c.deref-2.result.now in
    let e = entry_by about kept c.args.entry.now case rows c.requires.entry c.in-Some.ensures c.deref-2.ensures.value in
    let s = split_point v case.draws c.args.entry.now.point.items xs ds
    (e.point_is.width ∙ ap (λ k. k + case.draws) (sym c.variables-columns.ensures.same)) e.short (c.split_at.ensures.front ∙ ap (take v) c.deref.ensures.value) (c.split_at.ensures.back ∙ ap (drop v) c.deref.ensures.value) in
    let good = case_of_system about kept c.args.search.now.about.now.are_cases c.requires.among in
    let wide = undrawn_wide about.variables kept c.requires.kept.no_draws good.guards in
    let b = c.args.search.now.budget.now in
    let from = subst (λ l. AreFrom about (at_location l) 1 kept.guards) (sym e.ends) (undrawn_from about b kept 1 c.requires.among c.requires.kept.no_draws) in
    let rows_from = entering_from about b case kept.guards rows (contains_at about.cases c.args.entry.now.number case c.in-Some.ensures) wide from e.entering in
    let may = may_put about c.args.search.now.budget.now 2 case rows c.args.entry.now.point.items ds (about.variables + case.draws) refl rows_from e.first s.drawn
    (λ j l. draw_at about.variables v case.draws c.args.entry.now.point.items xs ds c.variables-columns.ensures.same s j) in
    let terms = c.deref-3.ensures.value ∙ c.in_ok-terms.ensures ∙ ap (λ k. drawn_terms k ds) c.variables-columns.ensures.same in
    made_from about b 2 case ds s.drawn may c.deref-3.result.now rows c.in-Ok.put.items terms rows_from c.in-Ok.ensures.rows

pub leading-requires-clause-entered : goal.leading-requires-clause-entered
leading-requires-clause-entered c =
    let about = cases_of c.args.search.now.about.now in
    let kept = case_view c.args.kept.now in
    let case = case_view c.in-Some.case.now in
    let v = c.variables-columns.result in
    let xs = c.split_at.result.0.now in
    let ds = c.split_at.result.1.now in
    let rows = c.deref-2.result.now in
    let e = entry_by about kept c.args.entry.now case rows c.requires.entry c.in-Some.ensures c.deref-2.ensures.value in
    let s = split_point v case.draws c.args.entry.now.point.items xs ds
    (e.point_is.width ∙ ap (λ k. k + case.draws) (sym c.variables-columns.ensures.same)) e.short (c.split_at.ensures.front ∙ ap (take v) c.deref.ensures.value) (c.split_at.ensures.back ∙ ap (drop v) c.deref.ensures.value) in
    let good = case_of_system about kept c.args.search.now.about.now.are_cases c.requires.among in
    let wide = undrawn_wide about.variables kept c.requires.kept.no_draws good.guards in
    let b = c.args.search.now.budget.now in
    let from = subst (λ l. AreFrom about (at_location l) 1 kept.guards) (sym e.ends) (undrawn_from about b kept 1 c.requires.among c.requires.kept.no_draws) in
    let rows_from = entering_from about b case kept.guards rows (contains_at about.cases c.args.entry.now.number case c.in-Some.ensures) wide from e.entering in
    let may = may_put about c.args.search.now.budget.now 2 case rows c.args.entry.now.point.items ds (about.variables + case.draws) refl rows_from e.first s.drawn
    (λ j l. draw_at about.variables v case.draws c.args.entry.now.point.items xs ds c.variables-columns.ensures.same s j) in
    let terms = c.deref-3.ensures.value ∙ c.in_ok-terms.ensures ∙ ap (λ k. drawn_terms k ds) c.variables-columns.ensures.same in
    subst (AreFrom about (at_location case.to) 1) (sym c.deref-4.ensures.value) from
