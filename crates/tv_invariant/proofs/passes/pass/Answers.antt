use Rattle.std.proofs.Common.{◌+◌, ◌∙◌, length, ap, sym, subst, arith, true, false}
use Rattle.std.proofs.lemmas.List.{get_or_default}
use Rattle.tv_cases.specs.Systems.{cases_of}
use Rattle.tv_invariant.specs.Passes.{IsPassed}
use Rattle.tv_invariant.proofs.PassLemmas.{over_part, passed_part, passed_tried, passed_closed}
use Rattle.tv_invariant.proofs.passes.pass.Goals as goal
use Rattle.tv_invariant.proofs.passes.pass.Goals.{then-index+in-Ok, else-index}

pub try_case-requires-clause-over : goal.try_case-requires-clause-over
try_case-requires-clause-over c =
    let about = cases_of c.args.about.now in
    over_part about.variables c.args.old.items c.cases.now.items c.requires.over (passed_part about c.cases.number c.args.old.items c.cases.now.items c.args.tries.now.open.items c.cases.tries.open.items c.cases.invariant.passed)

pub cases-preserved : goal.cases-preserved
cases-preserved c =
    let about = cases_of c.args.about.now in
    let n = c.cases.number in
    let old = c.args.old.items in
    let before = c.args.tries.now.open.items in
    elim c.if-index.branch [
      | then-index+in-Ok w ↦ record {
        as_many = ap length (ap (λ t. t.open.items) w.tries-is) ∙ w.in-Ok.ensures.marks ∙ c.cases.invariant.as_many;
        passed = subst (λ m. IsPassed about (n + 1) old c.if-index.now.items before m) (sym (ap (λ t. t.open.items) w.tries-is))
            (subst (λ v. IsPassed about (n + 1) old v.items before w.try_case.new.tries.open.items) (sym w.now-is)
            (passed_tried about n old c.cases.now.items w.in-Ok.kept.items before c.cases.tries.open.items w.try_case.new.tries.open.items c.cases.invariant.passed w.in-Ok.ensures.tried));
      }
      | else-index w ↦ record {
        as_many = ap length (ap (λ t. t.open.items) w.tries-is) ∙ c.cases.invariant.as_many;
        passed = subst (λ m. IsPassed about (n + 1) old c.if-index.now.items before m) (sym (ap (λ t. t.open.items) w.tries-is))
            (subst (λ v. IsPassed about (n + 1) old v.items before c.cases.tries.open.items) (sym w.now-is)
            (passed_closed about n old c.cases.now.items before c.cases.tries.open.items c.cases.invariant.passed (sym (get_or_default c.cases.tries.open.items n c.index.result.now true (let t = c.cases-test.true in let e = c.len-number-end.ensures in let m = c.cases.invariant.as_many in omega (arith, t, e, m))) ∙ sym c.index.ensures ∙ w.if-index.false)));
      }
    ]
