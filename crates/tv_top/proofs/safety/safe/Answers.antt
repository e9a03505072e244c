use Rattle.std.proofs.Common.{◌≡◌, ◌∙◌, List, inl, refl, sym, subst}
use Rattle.tv_program.specs.Programs.{system_of}
use Rattle.tv_formula.specs.Forms.{never_at}
use Rattle.tv_formula.specs.Normal.{normal}
use Rattle.tv_cases.specs.Systems.{cases_of}
use Rattle.tv_candidates.specs.declared.candidate.Candidate.{Candidate}
use Rattle.tv_invariant.specs.Asking.{Gave}
use Rattle.tv_reaching.specs.FoundRuns.{lists_of}
use Rattle.tv_reaching.specs.declared.found.Found.{Found}
use Rattle.tv_search.specs.Answers.{IsReached, IsSearched, IsUnsearched}
use Rattle.std.specs.Prelude.{IfOk}
use Rattle.tv_top.specs.Answers.{uncovered}
use Rattle.tv_top.specs.Finding.{Offers, Finds, IsWeakAt, AreTooManyAt, KeepsFrom, budget_of}
use Rattle.tv_top.specs.Searching.{IsShownOrNot}
use Rattle.tv_top.specs.Views.{task_view}
use Rattle.tv_top.proofs.Found.{keeps_from, is_found, reached_so, shown_so, weak_so, many_so, uncovered_near}
use Rattle.tv_top.proofs.safety.safe.Goals as goal

pub shown-requires-clause-keeps : goal.shown-requires-clause-keeps
shown-requires-clause-keeps g c =
    let about = cases_of c.args.search.now.about.now in
    let Given : List (List Candidate) → Type 0 = Gave (λ p. (goal.Proposer-dyn g (p.vtable, p.value)).rest p.value about) c.args.proposers.now.items in
    let h = subst (IsSearched about Given c.args.location) c.in-Ok-Safe.field-0-is c.in-Ok-Safe.ensures.answers in
    subst (KeepsFrom about c.args.location) (sym c.deref.ensures.value) (keeps_from about Given c.args.location c.in-Ok-Safe.list.items h.0 h.1)

pub returns-in-Ok-Safe : goal.returns-in-Ok-Safe
returns-in-Ok-Safe g c = λ f is.
    let search = c.args.search.now in
    let task = task_view search.task.now in
    let p = system_of search.program.now in
    let about = cases_of search.about.now in
    let l = c.args.location in
    let n : normal f ≡ never_at l = sym is.proved ∙ c.requires.never in
    let offers : Offers = λ about. Gave (λ p. (goal.Proposer-dyn g (p.vtable, p.value)).rest p.value about) c.args.proposers.now.items in
    let k = subst (IsSearched about (offers about) l) c.in-Ok-Safe.field-0-is c.in-Ok-Safe.ensures.answers in
    let list = c.in-Ok-Safe.list.items in
    let h = subst (λ cs. IsShownOrNot search f l cs c.budget_of-budget.result c.shown.result) c.deref.ensures.value (c.shown.ensures f is) in
    shown_so offers task p f about l n list k.0 k.1 c.shown.result (subst (λ b. IsShownOrNot search f l list b c.shown.result) c.budget_of-budget.ensures.exact h)

pub reached-requires-clause-run : goal.reached-requires-clause-run
reached-requires-clause-run g c =
    let search = c.args.search.now in
    let about = cases_of search.about.now in
    let l = c.args.location in
    let offers : Offers = λ about. Gave (λ p. (goal.Proposer-dyn g (p.vtable, p.value)).rest p.value about) c.args.proposers.now.items in
    let run : Found = record {
      location = l;
      path = c.deref-in-Ok-Reached.result;
      values = c.deref-in-Ok-Reached-2.result;
      draws = c.deref-in-Ok-Reached-3.result;
    } in
    let h = subst (IsSearched about (offers about) l) c.in-Ok-Reached.field-0-is c.in-Ok-Reached.ensures.answers in
    let d = subst (λ ds. IsReached about l c.in-Ok-Reached.path.items c.in-Ok-Reached.values.items (lists_of ds)) (sym c.deref-in-Ok-Reached-3.ensures.value) h in
    let v = subst (λ vs. IsReached about l c.in-Ok-Reached.path.items vs (lists_of run.draws.now)) (sym c.deref-in-Ok-Reached-2.ensures.value) d in
    let found = is_found about run (subst (λ ks. IsReached about l ks run.values.now (lists_of run.draws.now)) (sym c.deref-in-Ok-Reached.ensures.value) v) in
    found

pub returns-in-Ok-Reached : goal.returns-in-Ok-Reached
returns-in-Ok-Reached g c = λ f is.
    let search = c.args.search.now in
    let about = cases_of search.about.now in
    let l = c.args.location in
    let offers : Offers = λ about. Gave (λ p. (goal.Proposer-dyn g (p.vtable, p.value)).rest p.value about) c.args.proposers.now.items in
    let run : Found = record {
      location = l;
      path = c.deref-in-Ok-Reached.result;
      values = c.deref-in-Ok-Reached-2.result;
      draws = c.deref-in-Ok-Reached-3.result;
    } in
    let h = subst (IsSearched about (offers about) l) c.in-Ok-Reached.field-0-is c.in-Ok-Reached.ensures.answers in
    let d = subst (λ ds. IsReached about l c.in-Ok-Reached.path.items c.in-Ok-Reached.values.items (lists_of ds)) (sym c.deref-in-Ok-Reached-3.ensures.value) h in
    let v = subst (λ vs. IsReached about l c.in-Ok-Reached.path.items vs (lists_of run.draws.now)) (sym c.deref-in-Ok-Reached-2.ensures.value) d in
    let found = is_found about run (subst (λ ks. IsReached about l ks run.values.now (lists_of run.draws.now)) (sym c.deref-in-Ok-Reached.ensures.value) v) in
    reached_so offers (task_view search.task.now) (system_of search.program.now) f about l (sym is.proved ∙ c.requires.never) run refl found c.reached.result (c.reached.ensures f is)

pub returns-in-Err-Invariant : goal.returns-in-Err-Invariant
returns-in-Err-Invariant g c = λ f is.
    let search = c.args.search.now in
    let task = task_view search.task.now in
    let p = system_of search.program.now in
    let about = cases_of search.about.now in
    let l = c.args.location in
    let n : normal f ≡ never_at l = sym is.proved ∙ c.requires.never in
    let offers : Offers = λ about. Gave (λ p. (goal.Proposer-dyn g (p.vtable, p.value)).rest p.value about) c.args.proposers.now.items in
    let k = subst (λ b. IsUnsearched about (offers about) l b c.in-Err-Invariant.field-0) c.budget_of-budget.ensures.exact c.in-Err-Invariant.ensures.refusals in
    subst (λ answer. Finds offers task p f about answer) (sym c.unknown.ensures)
    (weak_so offers task p f about l n c.weak.result c.in-Err-Invariant.point (subst (λ q. IfOk c.weak.result (IsWeakAt p l q)) c.in-Err-Invariant.point-is c.weak.ensures) (subst (IsUnsearched about (offers about) l (budget_of task.limits)) c.in-Err-Invariant.field-0-is k))

pub returns-in-Err-Paths : goal.returns-in-Err-Paths
returns-in-Err-Paths g c = λ f is.
    let search = c.args.search.now in
    let task = task_view search.task.now in
    let p = system_of search.program.now in
    let about = cases_of search.about.now in
    let l = c.args.location in
    let n : normal f ≡ never_at l = sym is.proved ∙ c.requires.never in
    let offers : Offers = λ about. Gave (λ p. (goal.Proposer-dyn g (p.vtable, p.value)).rest p.value about) c.args.proposers.now.items in
    let k = subst (λ b. IsUnsearched about (offers about) l b c.in-Err-Paths.field-0) c.budget_of-budget.ensures.exact c.in-Err-Paths.ensures.refusals in
    subst (λ answer. Finds offers task p f about answer) (sym c.unknown-in-Err-Paths.ensures)
    (many_so offers task p f about l n c.too_many.result c.in-Err-Paths.count c.in-Err-Paths.field-0-1 (subst (λ k. IfOk c.too_many.result (AreTooManyAt p l k)) c.in-Err-Paths.count-is c.too_many.ensures) (subst (IsUnsearched about (offers about) l (budget_of task.limits)) c.in-Err-Paths.field-0-is k))

pub returns-in-Err-Cover : goal.returns-in-Err-Cover
returns-in-Err-Cover g c = λ f is.
    let search = c.args.search.now in
    let task = task_view search.task.now in
    let p = system_of search.program.now in
    let about = cases_of search.about.now in
    let l = c.args.location in
    let n : normal f ≡ never_at l = sym is.proved ∙ c.requires.never in
    let offers : Offers = λ about. Gave (λ p. (goal.Proposer-dyn g (p.vtable, p.value)).rest p.value about) c.args.proposers.now.items in
    let k = subst (λ b. IsUnsearched about (offers about) l b c.in-Err-Cover.field-0) c.budget_of-budget.ensures.exact c.in-Err-Cover.ensures.refusals in
    subst (λ answer. Finds offers task p f about answer) (sym c.uncovered.ensures)
    (subst (λ e. Finds offers task p f about (uncovered e)) (sym c.in-Err-Cover.fault-is)
    (uncovered_near offers task p f about l n c.in-Err-Cover.fault (inl (subst (IsUnsearched about (offers about) l (budget_of task.limits)) c.in-Err-Cover.field-0-is k))))
