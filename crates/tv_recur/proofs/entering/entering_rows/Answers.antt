use Rattle.std.proofs.Common.{◌∙◌, ◌++◌, All, ap, subst}
use Rattle.tv_cases.specs.Views.{case_view}
use Rattle.std.proofs.Common.{◌≡◌, sym}
use Rattle.tv_linear.specs.Linear.{columns}
use Rattle.tv_cases.specs.Systems.{cases_of}
use Rattle.tv_cases.specs.Before.{FitsBefore, rows_before}
use Rattle.tv_derived.specs.Scopes.{at_location}
use Rattle.tv_recur.specs.Refusing.{AreFrom}
use Rattle.tv_recur.proofs.RefusalLemmas.{before_refused}
use Rattle.tv_recur.proofs.entering.entering_rows.Goals as goal

pub returns-in_ok-append-in-Ok-clause-entering : goal.returns-in_ok-append-in-Ok-clause-entering
returns-in_ok-append-in-Ok-clause-entering c =
    let case = case_view c.args.case.now in
    let made = c.in-Ok.ensures.rows in
    record {
      exact = c.in_ok-append-in-Ok.ensures.items
          ∙ (λ i. (c.in_ok-push_copies.ensures.copied ∙ (λ j. c.new-rows.ensures.items j ++ c.deref.ensures.value j)) i ++ (made.exact ∙ ap (rows_before case) c.deref-2.ensures.value) i);
      fits = subst (All (FitsBefore case)) c.deref-2.ensures.value made.fits;
    }

pub returns-in-Err-clause-refusals : goal.returns-in-Err-clause-refusals
returns-in-Err-clause-refusals c =
    let about = cases_of c.args.search.now.about.now in
    let case = case_view c.args.case.now in
    before_refused about c.args.search.now.budget.now case c.deref-2.result.now c.in-Err.fault c.requires.among
    (subst (All (λ r. columns r ≡ about.variables)) (sym c.deref-2.ensures.value) c.requires.even)
    (subst (AreFrom about (at_location case.to) 1) (sym c.deref-2.ensures.value) c.requires.from) c.in-Err.ensures.refusals
