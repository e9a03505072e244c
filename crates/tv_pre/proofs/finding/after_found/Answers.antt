use Rattle.std.specs.Prelude.{IfSome}
use Rattle.std.proofs.Common.{◌≡◌, ◌∙◌, [], ◌∷◌, ◌++◌, ap, sym, subst}
use Rattle.tv_linear.specs.declared.region.Region.{Region}
use Rattle.tv_formula.specs.Properties.{none, more}
use Rattle.tv_formula.specs.Properties as props
use Rattle.tv_cert.specs.Statements.{Statement}
use Rattle.tv_cert.specs.Statements as statements
use Rattle.tv_region.specs.Regions.{IsRegion}
use Rattle.tv_pre.specs.Parts.{IsPart, AreParts}
use Rattle.tv_pre.specs.Search.{system_of}
use Rattle.tv_pre.specs.Sized.{IsFewBefore}
use Rattle.tv_pre.specs.Along.{OthersLeadOut}
use Rattle.tv_pre.specs.Built.{IsBuiltOf}
use Rattle.tv_pre.specs.Finding.{first_of, steps_back, IsGapFor, IsFound, IsRefusedFor}
use Rattle.tv_pre.proofs.GapLemmas.{after_gap}
use Rattle.tv_pre.proofs.GapAlongLemmas.{step_gap}
use Rattle.tv_pre.proofs.PassedLemmas.{passed_on}
use Rattle.tv_pre.proofs.FoundLemmas.{none_of_two, none_behind, after_is_found, after_fault, after_question}
use Rattle.tv_pre.specs.Counted.{IsCountedFor, IsCountedBefore}
use Rattle.tv_pre.proofs.CountedFormulas.{after_counted, after_question_counted}
use Rattle.tv_pre.specs.KnownStates.{IsKnownFor}
use Rattle.tv_pre.proofs.KnownFormulas.{after_known}
use Rattle.tv_pre.proofs.finding.after_found.Goals as goal

pub returns-in_err-region-clause-refused : goal.returns-in_err-region-clause-refused
returns-in_err-region-clause-refused c =
    let about = system_of c.args.search.now in
    let budget = c.args.search.now.setting.now.budget.now in
    let last = c.args.search.now.last in
    passed_on (λ fault. (s : Statement) → IsFound about last s c.args.child → IsRefusedFor about budget last (statements.after c.args.path s) fault)
    c.from_residual-in_err-region.result c.from_residual-in_err-region.ensures.1
    (λ r is s h. after_fault about last c.args.path s c.args.child h budget c.in_err-region.field-0.0 r is c.in_err-region.ensures.refused)

pub returns-in_err-part-clause-refused : goal.returns-in_err-part-clause-refused
returns-in_err-part-clause-refused c =
    let about = system_of c.args.search.now in
    let budget = c.args.search.now.setting.now.budget.now in
    let last = c.args.search.now.last in
    passed_on (λ fault. (s : Statement) → IsFound about last s c.args.child → IsRefusedFor about budget last (statements.after c.args.path s) fault)
    c.from_residual-in_err-part.result c.from_residual-in_err-part.ensures.1
    (λ r is s h. after_question about last c.args.path s c.args.child h budget c.in_ok-region.region c.in_err-part.field-0.0 r c.in_ok-region.ensures.built is c.in_err-part.ensures.refusals)

pub returns-clause-found : goal.returns-clause-found
returns-clause-found c s h =
    let about = system_of c.args.search.now in
    let last = c.args.search.now.last in
    let child = c.args.child in
    let part = c.in_ok-part.part in
    let same = sym c.in_ok-part.ensures.region in
    let children : c.push_item.new.items.items ≡ child.part.node ∷ [] = c.in_ok-push_item.ensures ∙ ap (λ xs. xs ++ child.part.node ∷ []) c.new-children.ensures.items in
    after_is_found about last c.args.path s child h _
    (subst (IsRegion about.variables about.locations) same c.in_ok-region.ensures.before.over)
    (λ f w. subst (λ (r : Region). IsPart about (props.next c.args.path f) r part.node) same (c.in_ok-part.ensures.part f (subst (AreParts about (more f none) (child.part.region ∷ [])) (sym children) w)))
    (subst (IsBuiltOf about 1 (child.part.region ∷ [])) same c.in_ok-region.ensures.built)
    c.in_ok-size.ensures c.variables-variables.ensures.limits.cases
    (λ whole. (let parted = none_of_two _ _ (sym c.first_gap-gap.ensures ∙ whole) in (c.gap_before.ensures.none parted.1, none_behind 1 child.gap (sym c.in_ok-inner.ensures ∙ parted.0))))
    (subst (OthersLeadOut about c.args.path child.part.region) same c.in_ok-region.ensures.others)
    (subst (λ o. IfSome o (IsGapFor about last (statements.after c.args.path s))) (sym c.first_gap-gap.ensures)
    (subst (λ o. IfSome (first_of o c.gap_before.result) (IsGapFor about last (statements.after c.args.path s))) (sym c.in_ok-inner.ensures)
    (after_gap about last c.args.path s child.gap c.gap_before.result h.gap (step_gap about last c.args.path s (steps_back last s) child.part.region h.built c.gap_before.result c.gap_before.ensures.some))))
    (subst (IsFewBefore about c.args.path child.part.region) same c.in_ok-region.ensures.bounded)

pub returns-in_err-region-clause-counted : goal.returns-in_err-region-clause-counted
returns-in_err-region-clause-counted c =
    let about = system_of c.args.search.now in
    let budget = c.args.search.now.setting.now.budget.now in
    let last = c.args.search.now.last in
    passed_on (λ fault. (s : Statement) → IsFound about last s c.args.child → IsCountedFor about budget last (statements.after c.args.path s) fault)
    c.from_residual-in_err-region.result c.from_residual-in_err-region.ensures.1
    (λ r is s h. after_counted about budget last c.args.path s c.args.child h r (subst (IsCountedBefore about c.args.path c.args.child.part.region) (sym is) c.in_err-region.ensures.counted))

pub returns-in_err-part-clause-counted : goal.returns-in_err-part-clause-counted
returns-in_err-part-clause-counted c =
    let about = system_of c.args.search.now in
    let budget = c.args.search.now.setting.now.budget.now in
    let last = c.args.search.now.last in
    passed_on (λ fault. (s : Statement) → IsFound about last s c.args.child → IsCountedFor about budget last (statements.after c.args.path s) fault)
    c.from_residual-in_err-part.result c.from_residual-in_err-part.ensures.1
    (λ r is s h. after_question_counted about budget last c.args.path s c.args.child h c.in_ok-region.region c.in_err-part.field-0.0 r c.in_ok-region.ensures.built is c.in_err-part.ensures.refusals)

pub returns-clause-known : goal.returns-clause-known
returns-clause-known c s h known =
    let about = system_of c.args.search.now in
    let last = c.args.search.now.last in
    let alone = c.args.search.now.alone in
    record {
      states = subst (λ (r : Region). IsKnownFor about last alone (statements.after c.args.path s) r) (sym c.in_ok-part.ensures.region)
          (after_known about last alone c.variables-variables.ensures.limits.cases c.args.path s (steps_back last s) c.args.child.part.region c.in_ok-region.region h.built c.in_ok-region.ensures.before known.states);
    }
