use Rattle.std.proofs.Common.{◌≡◌, ◌∙◌, ◌+◌, [], ◌∷◌, length, All, arith, refl, ap, sym, subst, ℕ, ◌<◌}
use Rattle.tv_linear.specs.Linear.{columns, IsWithin, IsMet}
use Rattle.tv_cases.specs.Systems.{cases_of}
use Rattle.tv_cases.specs.Views.{case_view}
use Rattle.tv_recur.specs.Making.{drawn_terms}
use Rattle.tv_recur.specs.Nodes.{on_piece}
use Rattle.tv_recur.specs.Staying.{staying_rows}
use Rattle.tv_recur.proofs.KeepLemmas.{inside_piece, first_there}
use Rattle.tv_recur.proofs.OwedLemmas.{terms_each, terms_even}
use Rattle.tv_recur.proofs.PointLemmas.{draw_at, split_point, put_is, put_even, split_met}
use Rattle.tv_recur.proofs.ReadLemmas.{case_is}
use Rattle.tv_recur.proofs.RefusalLemmas.{may_put, put_refused, made_from, more_from}
use Rattle.tv_derived.specs.Scopes.{at_location, over_case}
use Rattle.tv_recur.specs.Refusing.{AreFrom}
use Rattle.tv_recur.proofs.StayLemmas.{never_left, staying_wide}
use Rattle.tv_recur.proofs.staying.staying_at.Goals as goal

pub rows_put-requires-clause-each : goal.rows_put-requires-clause-each
rows_put-requires-clause-each c =
    let about = cases_of c.args.search.now.about.now in
    let case = case_view c.args.case.now in
    let good = case_is about c.args.number case c.args.search.now.about.now.are_cases c.requires.found in
    let e = c.variables-variables.ensures.same in
    let s = split_point c.variables-variables.result case.draws c.args.point.now c.split_at.result.0.now c.split_at.result.1.now
    (c.requires.point.width ∙ ap (λ k. k + case.draws) (sym e)) c.requires.short c.split_at.ensures.front c.split_at.ensures.back in
    terms_each about.variables c.variables-variables.result case.draws c.split_at.result.1.now c.deref.result.now c.args.rows.now c.args.rows.now e
    (c.deref.ensures.value ∙ c.in_ok-terms.ensures) s.drawn (λ i. c.args.rows.now) (staying_wide about.variables case c.args.rows.now c.requires.rows good.guards good.terms)

pub rows_put-requires-clause-even : goal.rows_put-requires-clause-even
rows_put-requires-clause-even c =
    terms_even c.variables-variables.result c.split_at.result.1.now c.deref.result.now (c.deref.ensures.value ∙ c.in_ok-terms.ensures)

pub leading-requires-clause-taking : goal.leading-requires-clause-taking
leading-requires-clause-taking c =
    let case = case_view c.args.case.now in
    let s = split_point c.variables-variables.result case.draws c.args.point.now c.split_at.result.0.now c.split_at.result.1.now
    (c.requires.point.width ∙ ap (λ k. k + case.draws) (sym c.variables-variables.ensures.same)) c.requires.short c.split_at.ensures.front c.split_at.ensures.back in
    let may = may_put (cases_of c.args.search.now.about.now) c.args.search.now.budget.now 2 case c.args.rows.now c.args.point.now c.split_at.result.1.now ((cases_of c.args.search.now.about.now).variables + case.draws) refl (more_from (cases_of c.args.search.now.about.now) c.args.search.now.budget.now (over_case case) c.args.rows.now c.requires.from) c.requires.first s.drawn
    (λ j l. draw_at (cases_of c.args.search.now.about.now).variables c.variables-variables.result case.draws c.args.point.now c.split_at.result.0.now c.split_at.result.1.now c.variables-variables.ensures.same s j) in
    record { found = c.requires.found; counted = s.drawn; narrow = s.draws; may = may; near = omega arith; splits = c.requires.splits }

pub leading-requires-clause-even : goal.leading-requires-clause-even
leading-requires-clause-even c =
    put_even c.variables-variables.result c.split_at.result.1.now c.args.rows.now c.in-Ok.put.items
    (put_is c.variables-variables.result c.split_at.result.1.now c.deref.result.now c.in_ok-terms.terms.items c.args.rows.now c.in-Ok.put.items c.deref.ensures.value c.in_ok-terms.ensures c.in-Ok.ensures.rows)

pub leading-requires-clause-same : goal.leading-requires-clause-same
leading-requires-clause-same c =
    put_even c.variables-variables.result c.split_at.result.1.now c.args.rows.now c.deref-2.result.now
    (c.deref-2.ensures.value ∙ put_is c.variables-variables.result c.split_at.result.1.now c.deref.result.now c.in_ok-terms.terms.items c.args.rows.now c.in-Ok.put.items c.deref.ensures.value c.in_ok-terms.ensures c.in-Ok.ensures.rows)

pub unreachable-requires : goal.unreachable-requires
unreachable-requires c =
    let v = c.variables-variables.result in
    let case = case_view c.args.case.now in
    let ds = c.split_at.result.1.now in
    let s = split_point v case.draws c.args.point.now c.split_at.result.0.now ds
    (c.requires.point.width ∙ ap (λ k. k + case.draws) (sym c.variables-variables.ensures.same)) c.requires.short c.split_at.ensures.front c.split_at.ensures.back in
    never_left v case ds c.args.rows.now c.in-Ok.put.items c.in-Ok.put.items c.deref-2.result.now
    (c.requires.rows ∙ ap (λ k. staying_rows k case) (sym c.variables-variables.ensures.same))
    (put_is v ds c.deref.result.now c.in_ok-terms.terms.items c.args.rows.now c.in-Ok.put.items c.deref.ensures.value c.in_ok-terms.ensures c.in-Ok.ensures.rows)
    (λ i. c.in-Ok.put.items) c.deref-2.ensures.value s.drawn
    (rw c.in-Ok-None.field-0-is at c.in-Ok-None.ensures.found)

pub lone_node-requires-clause-even : goal.lone_node-requires-clause-even
lone_node-requires-clause-even c =
    subst (λ k. All (λ r. columns r ≡ k) c.deref-in-Ok-Some.result.now) c.variables-variables.ensures.same
    (put_even c.variables-variables.result c.split_at.result.1.now c.args.rows.now c.deref-in-Ok-Some.result.now
    (c.deref-in-Ok-Some.ensures.value ∙ put_is c.variables-variables.result c.split_at.result.1.now c.deref.result.now c.in_ok-terms.terms.items c.args.rows.now c.in-Ok.put.items c.deref.ensures.value c.in_ok-terms.ensures c.in-Ok.ensures.rows))

pub returns-clause-found : goal.returns-clause-found
returns-clause-found c =
    let about = cases_of c.args.search.now.about.now in
    let v = c.variables-variables.result in
    let case = case_view c.args.case.now in
    let xs = c.split_at.result.0.now in
    let ds = c.split_at.result.1.now in
    let node = c.in_ok-root-in-Ok-Some.ensures in
    let rows = c.deref-in-Ok-Some.result.now in
    let piece = on_piece about.variables case.from rows in
    let values = c.in_ok-values-in-Ok-Some.values.items in
    let same : values ≡ xs = c.in_ok-values-in-Ok-Some.ensures.items in
    let s = split_point v case.draws c.args.point.now xs ds
    (c.requires.point.width ∙ ap (λ k. k + case.draws) (sym c.variables-variables.ensures.same)) c.requires.short c.split_at.ensures.front c.split_at.ensures.back in
    let put = c.deref-in-Ok-Some.ensures.value ∙ put_is v ds c.deref.result.now c.in_ok-terms.terms.items c.args.rows.now c.in-Ok.put.items c.deref.ensures.value c.in_ok-terms.ensures c.in-Ok.ensures.rows in
    record {
      fitted = node.fitted;
      inside = inside_piece about (piece ∷ []) c.in_ok-root-in-Ok-Some.root piece values node.pieces (first_there piece [] about.start c.requires.starts)
          (ap length same ∙ s.many ∙ c.variables-variables.ensures.same)
          (subst (All (IsWithin 62)) (sym same) s.values)
          (subst (λ ys. All (IsMet ys) rows) (sym same) (split_met v case.draws c.args.point.now xs ds c.args.rows.now rows s put c.requires.point.met));
    }

pub drawn_terms-requires-clause-narrow : goal.drawn_terms-requires-clause-narrow
drawn_terms-requires-clause-narrow c =
    let about = cases_of c.args.search.now.about.now in
    let b = c.args.search.now.budget.now in
    let case = case_view c.args.case.now in
    let v = c.variables-variables.result in
    let ds = c.split_at.result.1.now in
    let s = split_point v case.draws c.args.point.now c.split_at.result.0.now ds
    (c.requires.point.width ∙ ap (λ k. k + case.draws) (sym c.variables-variables.ensures.same)) c.requires.short c.split_at.ensures.front c.split_at.ensures.back in
    s.draws

pub returns-in-Err-clause-refusals : goal.returns-in-Err-clause-refusals
returns-in-Err-clause-refusals c =
    let about = cases_of c.args.search.now.about.now in
    let b = c.args.search.now.budget.now in
    let case = case_view c.args.case.now in
    let v = c.variables-variables.result in
    let ds = c.split_at.result.1.now in
    let s = split_point v case.draws c.args.point.now c.split_at.result.0.now ds
    (c.requires.point.width ∙ ap (λ k. k + case.draws) (sym c.variables-variables.ensures.same)) c.requires.short c.split_at.ensures.front c.split_at.ensures.back in
    let at = λ (j : ℕ) (l : j < case.draws). draw_at about.variables v case.draws c.args.point.now c.split_at.result.0.now ds c.variables-variables.ensures.same s j in
    let terms = c.deref.ensures.value ∙ c.in_ok-terms.ensures ∙ ap (λ k. drawn_terms k ds) c.variables-variables.ensures.same in
    let more = more_from about b (over_case case) c.args.rows.now c.requires.from in
    put_refused about b case ds s.drawn (may_put about b 2 case c.args.rows.now c.args.point.now ds (about.variables + case.draws) refl more c.requires.first s.drawn at) c.args.rows.now c.deref.result.now c.in-Err.fault terms more c.in-Err.ensures.refusals

pub leading-requires-clause-derived : goal.leading-requires-clause-derived
leading-requires-clause-derived c =
    let about = cases_of c.args.search.now.about.now in
    let b = c.args.search.now.budget.now in
    let case = case_view c.args.case.now in
    let v = c.variables-variables.result in
    let ds = c.split_at.result.1.now in
    let s = split_point v case.draws c.args.point.now c.split_at.result.0.now ds
    (c.requires.point.width ∙ ap (λ k. k + case.draws) (sym c.variables-variables.ensures.same)) c.requires.short c.split_at.ensures.front c.split_at.ensures.back in
    let at = λ (j : ℕ) (l : j < case.draws). draw_at about.variables v case.draws c.args.point.now c.split_at.result.0.now ds c.variables-variables.ensures.same s j in
    let terms = c.deref.ensures.value ∙ c.in_ok-terms.ensures ∙ ap (λ k. drawn_terms k ds) c.variables-variables.ensures.same in
    let more = more_from about b (over_case case) c.args.rows.now c.requires.from in
    made_from about b 2 case ds s.drawn (may_put about b 2 case c.args.rows.now c.args.point.now ds (about.variables + case.draws) refl more c.requires.first s.drawn at) c.deref.result.now c.args.rows.now c.in-Ok.put.items terms more c.in-Ok.ensures.rows

pub leading-requires-clause-entered : goal.leading-requires-clause-entered
leading-requires-clause-entered c =
    let about = cases_of c.args.search.now.about.now in
    let b = c.args.search.now.budget.now in
    let case = case_view c.args.case.now in
    let v = c.variables-variables.result in
    let ds = c.split_at.result.1.now in
    let s = split_point v case.draws c.args.point.now c.split_at.result.0.now ds
    (c.requires.point.width ∙ ap (λ k. k + case.draws) (sym c.variables-variables.ensures.same)) c.requires.short c.split_at.ensures.front c.split_at.ensures.back in
    let at = λ (j : ℕ) (l : j < case.draws). draw_at about.variables v case.draws c.args.point.now c.split_at.result.0.now ds c.variables-variables.ensures.same s j in
    let terms = c.deref.ensures.value ∙ c.in_ok-terms.ensures ∙ ap (λ k. drawn_terms k ds) c.variables-variables.ensures.same in
    subst (AreFrom about (at_location case.to) 1) (sym c.deref-2.ensures.value)
    (subst (λ l. AreFrom about (at_location l) 1 c.in-Ok.put.items) (c.requires.starts ∙ sym c.requires.ends)
    (made_from about b 1 case ds s.drawn (may_put about b 1 case c.args.rows.now c.args.point.now ds (about.variables + case.draws) refl c.requires.from c.requires.first s.drawn at) c.deref.result.now c.args.rows.now c.in-Ok.put.items terms c.requires.from c.in-Ok.ensures.rows))
