use Rattle.std.proofs.Common.{ap, ◌<◌, ◌≤◌, ◌∙◌, length, set, false, arith, sym, subst}
use Rattle.std.proofs.lemmas.List.{length-set}
use Rattle.std.proofs.lemmas.List.Elements.{All-contains}
use Rattle.tv_cases.specs.LinearCases.{IsCase}
use Rattle.tv_cases.specs.Systems.{cases_of}
use Rattle.tv_cases.specs.Views.{case_view}
use Rattle.tv_invariant.specs.Sieves.{Sieved}
use Rattle.tv_invariant.specs.Falling.{KeptBy, IsFallen}
use Rattle.tv_invariant.specs.Passes.{IsTried}
use Rattle.tv_invariant.proofs.ListLemmas.{written_back}
use Rattle.tv_invariant.proofs.PassLemmas.{as_many, among_cases, case_at, step_refused, none_fell, some_fell, reopened}
use Rattle.tv_invariant.proofs.passes.try_case.Goals as goal
use Rattle.tv_invariant.proofs.passes.try_case.Goals.{then-len-before, else-len-before}

pub step-requires-clause-case : goal.step-requires-clause-case
step-requires-clause-case c =
    let about = cases_of c.args.about.now in
    let list = c.list-list.result.now in
    let same = c.list-list.ensures.same in
    let x = c.index-list-number.result in
    let inside : c.args.number < length list = subst (λ n. c.args.number < n) (as_many about list same) c.requires.number in
    let among = among_cases about list same c.args.number x inside c.index-list-number.is in (
      about.locations,
      subst (λ n. IsCase n about.locations (case_view x)) (sym c.variables.ensures.same)
          (All-contains (IsCase about.variables about.locations) about.cases (case_view x) c.list-list.ensures.limits.cases among),
    )

pub returns-in-Err-clause-refusals : goal.returns-in-Err-clause-refusals
returns-in-Err-clause-refusals c list left =
    let about = cases_of c.args.about.now in
    let cases = c.list-list.result.now in
    let same = c.list-list.ensures.same in
    let x = c.index-list-number.result in
    let inside : c.args.number < length cases = subst (λ n. c.args.number < n) (as_many about cases same) c.requires.number in
    let among = among_cases about cases same c.args.number x inside c.index-list-number.is in
    step_refused about list c.args.now.items (case_view x) c.variables.result c.args.budget.now.pivots c.args.budget.now.splits c.in-Err.fault c.variables.ensures.same among left c.in-Err.ensures.refusals

pub returns-after-len-before-clause-tried : goal.returns-after-len-before-clause-tried
returns-after-len-before-clause-tried c =
    let about = cases_of c.args.about.now in
    let cases = c.list-list.result.now in
    let same = c.list-list.ensures.same in
    let x = c.index-list-number.result in
    let number = c.args.number in
    let old = c.args.now.items in
    let new = c.in-Ok.kept.items in
    let before = c.as_mut_slice-marks.result.now in
    let is = c.as_mut_slice-marks.ensures.value in
    let opened = c.args.tries.now.open.items in
    let inside : number < length cases = subst (λ n. number < n) (as_many about cases same) c.requires.number in
    let there = case_at about cases same number x inside c.index-list-number.is in
    let among = among_cases about cases same number x inside c.index-list-number.is in
    let marked : number < length before = subst (λ n. number < n) (sym (ap length is ∙ c.requires.marks)) c.requires.number in
    let sieved = subst (λ n. Sieved (KeptBy n (case_view x) old) (IsFallen n (case_view x) old) old new) c.variables.ensures.same c.in-Ok.ensures.sieved in
    let oldlen = c.len-before.ensures ∙ c.args.now.ok.0 in
    let newlen = c.len.ensures ∙ c.in-Ok.kept.ok.0 in
    subst (λ m. IsTried about number old new m c.if-len-before.tries.open.items) is (elim c.if-len-before.branch [
      | then-len-before w ↦
          let fell : length new < length old = (let t = w.if-len-before.true in omega (arith, t, oldlen, newlen)) in
          let many = c.args.tries.now.open.ok.0 in
          let back = written_back w.reopen.new.marks opened c.args.tries.now.open.len (w.reopen.ensures.as_many ∙ length-set before number false ∙ ap length is ∙ sym many) (sym many) in
          subst (λ m. IsTried about number old new before m) (sym (ap (λ t. t.open.items) w.tries-is ∙ back))
          (some_fell about number (case_view x) there among old new sieved before marked fell w.reopen.new.marks
          (λ k other at shut. reopened about cases same x.to (set before number false) w.reopen.new.marks w.reopen.ensures.reopened k other at shut))
      | else-len-before w ↦
          let long : length old ≤ length new = (let t = w.if-len-before.false in omega (arith, t, oldlen, newlen)) in
          let many = c.args.tries.now.open.ok.0 in
          let back = written_back (set before number false) opened c.args.tries.now.open.len (length-set before number false ∙ ap length is ∙ sym many) (sym many) in
          subst (λ m. IsTried about number old new before m) (sym (ap (λ t. t.open.items) w.tries-is ∙ back))
          (none_fell about number (case_view x) there among old new sieved before marked long)
    ])
