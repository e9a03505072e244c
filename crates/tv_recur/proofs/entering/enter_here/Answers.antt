use Rattle.std.proofs.Common.{◌∙◌, [], ◌∷◌, All, sym, subst, ◌≡◌}
use Rattle.tv_linear.specs.Linear.{IsMet}
use Rattle.tv_cases.specs.Systems.{cases_of}
use Rattle.tv_cases.specs.Views.{case_view}
use Rattle.tv_farkas.specs.Paths.{IsWholePoint}
use Rattle.tv_recur.specs.Nodes.{on_piece}
use Rattle.tv_recur.proofs.KeepLemmas.{inside_piece, first_there, not_entered_here}
use Rattle.std.proofs.Common.{◌+◌, arith}
use Rattle.tv_derived.specs.Scopes.{at_location}
use Rattle.tv_recur.specs.Refusing.{AreFrom}
use Rattle.tv_recur.proofs.RefusalLemmas.{empty_refused, undrawn_from}
use Rattle.tv_recur.proofs.entering.enter_here.Goals as goal
use Rattle.tv_farkas.proofs.StretchLemmas.{short_all}

pub returns-in-Ok-Tree-clause-found : goal.returns-in-Ok-Tree-clause-found
returns-in-Ok-Tree-clause-found c =
    let about = cases_of c.args.search.now.about.now in
    let none = rw c.in-Ok-Tree.field-0-is at c.in-Ok-Tree.ensures.none in
    not_entered_here about (case_view c.args.kept.now) c.requires.here
    (λ xs p. none xs (subst (λ k. IsWholePoint k c.deref.result.now xs) (sym c.variables-columns.ensures.same) (subst (λ rows. IsWholePoint about.variables rows xs) (sym c.deref.ensures.value) p)))

pub returns-in_ok-root-in-Ok-Whole-clause-found : goal.returns-in_ok-root-in-Ok-Whole-clause-found
returns-in_ok-root-in-Ok-Whole-clause-found c =
    let about = cases_of c.args.search.now.about.now in
    let kept = case_view c.args.kept.now in
    let node = c.in_ok-root-in-Ok-Whole.ensures in
    let rows = c.deref-in-Ok-Whole.result.now in
    let piece = on_piece about.variables kept.from rows in
    let values = c.in-Ok-Whole.values.items in
    let whole = rw c.in-Ok-Whole.field-0-is at c.in-Ok-Whole.ensures.answers in
    let short = rw c.in-Ok-Whole.field-0-is at c.in-Ok-Whole.ensures.short in
    record {
      fitted = node.fitted;
      inside = inside_piece about (piece ∷ []) c.in_ok-root-in-Ok-Whole.root piece values node.pieces (first_there piece [] about.start c.requires.here)
          (whole.width ∙ c.variables-columns.ensures.same)
          (short_all values short)
          (subst (All (IsMet values)) (c.deref.ensures.value ∙ sym c.deref-in-Ok-Whole.ensures.value) whole.met);
    }

pub returns-in-Err-clause-refusals : goal.returns-in-Err-clause-refusals
returns-in-Err-clause-refusals c =
    let about = cases_of c.args.search.now.about.now in
    let b = c.args.search.now.budget.now in
    let kept = case_view c.args.kept.now in
    empty_refused about b (at_location kept.from) c.deref.result.now c.variables-columns.result c.in-Err.fault (c.variables-columns.ensures.same ∙ sym (let e : about.variables + 0 ≡ about.variables = omega arith in e))
    (subst (AreFrom about (at_location kept.from) 2) (sym c.deref.ensures.value) (undrawn_from about b kept 2 c.requires.among c.requires.kept.no_draws)) c.in-Err.ensures.refusals
