use Rattle.std.specs.Prelude.{sum}
use Rattle.std.proofs.Common.{◌≡◌, ◌∙◌, ℕ, ◌≤◌, All, List, ap, sym, subst, ◌+◌}
use Rattle.tv_linear.specs.declared.region.Region.{Region}
use Rattle.tv_formula.specs.Properties as props
use Rattle.tv_cert.specs.AimViews.{statements_of}
use Rattle.tv_cert.specs.Statements.{Statement}
use Rattle.tv_cert.specs.Statements as statements
use Rattle.tv_region.specs.Regions.{IsRegion, count_at}
use Rattle.tv_region.specs.StepRegions.{InState}
use Rattle.tv_pre.specs.Pieces.{InPieces}
use Rattle.tv_pre.specs.Inclusions.{OfPieces}
use Rattle.tv_pre.specs.Questions.{lies, IsRefusal, AsksOf}
use Rattle.tv_pre.specs.Parts.{IsPart, AreParts, joined_pieces}
use Rattle.tv_pre.specs.Search.{system_of}
use Rattle.tv_pre.specs.Sized.{counts_at}
use Rattle.tv_pre.specs.Arguments.{AreArguments}
use Rattle.tv_pre.specs.Built.{IsBuiltOf, IsFaultOf}
use Rattle.tv_pre.specs.Finding.{IsRefusedFor}
use Rattle.tv_pre.proofs.PassedLemmas.{passed_on}
use Rattle.tv_pre.proofs.FoundLemmas.{some_is_found, some_fault, some_question}
use Rattle.tv_pre.specs.Counted.{IsWithin, IsCountedFor}
use Rattle.tv_pre.proofs.CountedFormulas.{some_counted, some_question_counted}
use Rattle.tv_pre.specs.KnownStates.{IsKnownFor}
use Rattle.tv_pre.proofs.KnownFormulas.{some_known}
use Rattle.tv_pre.proofs.finding.some_found.Goals as goal

pub returns-in_err-region-clause-refused : goal.returns-in_err-region-clause-refused
returns-in_err-region-clause-refused c =
    let about = system_of c.args.search.now in
    let budget = c.args.search.now.setting.now.budget.now in
    let last = c.args.search.now.last in
    let arguments = c.args.arguments in
    passed_on (λ fault. (ss : List Statement) → AreArguments about last ss arguments → IsRefusedFor about budget last (statements.one_of (statements_of ss)) fault)
    c.from_residual-in_err-region.result c.from_residual-in_err-region.ensures.1
    (λ r is ss h. some_fault about last ss arguments.regions.items arguments.nodes.items h.each budget c.in_err-region.field-0.0 r is
    (subst (λ rs. IsFaultOf about budget 0 rs c.in_err-region.field-0.0) c.deref.ensures.value c.in_err-region.ensures.refused))

pub one_of-requires-clause-inside : goal.one_of-requires-clause-inside
one_of-requires-clause-inside c =
    let about = system_of c.args.search.now in
    subst (λ rs. OfPieces about c.in_ok-region.region.pieces.items (InPieces (joined_pieces rs))) (c.deref.ensures.value ∙ sym c.deref-2.ensures.value) c.in_ok-region.ensures.inside

pub returns-in_err-part-clause-refused : goal.returns-in_err-part-clause-refused
returns-in_err-part-clause-refused c =
    let about = system_of c.args.search.now in
    let budget = c.args.search.now.setting.now.budget.now in
    let last = c.args.search.now.last in
    let arguments = c.args.arguments in
    let fault = c.in_err-part.field-0.0 in
    passed_on (λ fault. (ss : List Statement) → AreArguments about last ss arguments → IsRefusedFor about budget last (statements.one_of (statements_of ss)) fault)
    c.from_residual-in_err-part.result c.from_residual-in_err-part.ensures.1
    (λ r is ss h. some_question about last ss arguments.regions.items arguments.nodes.items h.each budget c.in_ok-region.region fault r
    (subst (λ rs. IsBuiltOf about 0 rs c.in_ok-region.region) c.deref.ensures.value c.in_ok-region.ensures.built) is
    (subst (λ rs. IsRefusal about budget (AsksOf (λ q a. a ≡ lies q (joined_pieces rs)) c.in_ok-region.region.pieces.items) fault) c.deref-2.ensures.value c.in_err-part.ensures.refusals))

pub returns-clause-found : goal.returns-clause-found
returns-clause-found c ss h =
    let about = system_of c.args.search.now in
    let last = c.args.search.now.last in
    let arguments = c.args.arguments in
    let part = c.in_ok-part.part in
    let same = sym c.in_ok-part.ensures.region in
    some_is_found about last ss arguments.regions.items arguments.nodes.items h.each _
    (subst (IsRegion about.variables about.locations) same c.in_ok-region.ensures.over)
    (λ fs w. subst (λ (r : Region). IsPart about (props.some_of fs) r part.node) same (c.in_ok-part.ensures.part fs (subst (λ rs. AreParts about fs rs arguments.nodes.items) (sym c.deref-2.ensures.value) w)))
    (subst (IsBuiltOf about 0 arguments.regions.items) same (subst (λ rs. IsBuiltOf about 0 rs c.in_ok-region.region) c.deref.ensures.value c.in_ok-region.ensures.built))
    (c.in_ok-size.ensures ∙ ap (λ k. 1 + k) h.size) h.full
    (subst (λ (r : Region). All (λ x. OfPieces about x.pieces.items (InState r)) arguments.regions.items) same
    (subst (All (λ x. OfPieces about x.pieces.items (InState c.in_ok-region.region))) c.deref.ensures.value c.in_ok-region.ensures.all)) h.gap
    (subst (λ (r : Region). (l : ℕ) → count_at l r ≤ sum (counts_at l arguments.regions.items)) same
    (subst (λ rs. (l : ℕ) → count_at l c.in_ok-region.region ≤ sum (counts_at l rs)) c.deref.ensures.value c.in_ok-region.ensures.bounded))

pub returns-in_err-region-clause-counted : goal.returns-in_err-region-clause-counted
returns-in_err-region-clause-counted c =
    let about = system_of c.args.search.now in
    let budget = c.args.search.now.setting.now.budget.now in
    let last = c.args.search.now.last in
    let arguments = c.args.arguments in
    passed_on (λ fault. (ss : List Statement) → AreArguments about last ss arguments → IsCountedFor about budget last (statements.one_of (statements_of ss)) fault)
    c.from_residual-in_err-region.result c.from_residual-in_err-region.ensures.1
    (λ r is ss h. some_counted about budget last ss arguments.regions.items arguments.nodes.items h.each r
    (subst (λ rs. IsWithin (λ (l : ℕ). sum (counts_at l rs)) r) c.deref.ensures.value (subst (λ f. IsWithin (λ (l : ℕ). sum (counts_at l c.deref.result.now)) f) (sym is) c.in_err-region.ensures.counted)))

pub returns-in_err-part-clause-counted : goal.returns-in_err-part-clause-counted
returns-in_err-part-clause-counted c =
    let about = system_of c.args.search.now in
    let budget = c.args.search.now.setting.now.budget.now in
    let last = c.args.search.now.last in
    let arguments = c.args.arguments in
    passed_on (λ fault. (ss : List Statement) → AreArguments about last ss arguments → IsCountedFor about budget last (statements.one_of (statements_of ss)) fault)
    c.from_residual-in_err-part.result c.from_residual-in_err-part.ensures.1
    (λ r is ss h. some_question_counted about budget last ss arguments.regions.items arguments.nodes.items h.each c.in_ok-region.region c.in_err-part.field-0.0 r
    (subst (λ rs. IsBuiltOf about 0 rs c.in_ok-region.region) c.deref.ensures.value c.in_ok-region.ensures.built) is
    (subst (λ rs. IsRefusal about budget (AsksOf (λ q a. a ≡ lies q (joined_pieces rs)) c.in_ok-region.region.pieces.items) c.in_err-part.field-0.0) c.deref-2.ensures.value c.in_err-part.ensures.refusals))

pub returns-clause-known : goal.returns-clause-known
returns-clause-known c ss h =
    let about = system_of c.args.search.now in
    let last = c.args.search.now.last in
    let alone = c.args.search.now.alone in
    let region = c.in_ok-region.region in
    record {
      states = subst (λ (r : Region). IsKnownFor about last alone (statements.one_of (statements_of ss)) r) (sym c.in_ok-part.ensures.region)
          (some_known about last alone ss c.args.arguments.regions.items region h
          (subst (λ rs. OfPieces about region.pieces.items (InPieces (joined_pieces rs))) c.deref.ensures.value c.in_ok-region.ensures.inside)
          (subst (All (λ x. OfPieces about x.pieces.items (InState region))) c.deref.ensures.value c.in_ok-region.ensures.all));
    }
