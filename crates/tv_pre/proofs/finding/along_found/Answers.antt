use Rattle.std.proofs.Common.{◌≡◌, ◌∙◌, ℕ, [], ◌∷◌, ◌++◌, ap, sym, subst, ◌+◌, None}
use Rattle.std.specs.Prelude.{IfSome}
use Rattle.tv_formula.specs.Properties.{none, more}
use Rattle.tv_cert.specs.Statements.{Statement}
use Rattle.tv_cert.specs.Statements as statements
use Rattle.tv_pre.specs.Parts.{AreParts}
use Rattle.tv_pre.specs.Search.{system_of}
use Rattle.tv_pre.specs.Finding.{first_of, gap_behind, steps_back, IsGapFor, IsFound, IsRefusedFor}
use Rattle.tv_pre.specs.declared.gap.Gap.TheVariants.{Inexact, Open}
use Rattle.tv_pre.proofs.GapAlongLemmas.{along_gap, own_open, said_of}
use Rattle.tv_pre.proofs.PassedLemmas.{passed_on}
use Rattle.tv_pre.proofs.FoundLemmas.{along_is_found, along_fault, none_of_two, none_behind, sides_built}
use Rattle.tv_pre.specs.Questions.{Question}
use Rattle.tv_pre.specs.Built.{AreBuilt, IsAsked}
use Rattle.tv_pre.specs.Counted.{IsWithinFew, IsCountedFor}
use Rattle.tv_known.specs.Sizes.{fix_count}
use Rattle.tv_pre.proofs.CountedFormulas.{along_counted}
use Rattle.tv_pre.specs.KnownStates.{IsKnownFor}
use Rattle.tv_pre.proofs.KnownAlongLemmas.{none_told}
use Rattle.tv_pre.proofs.KnownFormulas.{along_known, weak_known}
use Rattle.tv_pre.proofs.finding.along_found.Goals as goal

pub returns-in_err-part-clause-refused : goal.returns-in_err-part-clause-refused
returns-in_err-part-clause-refused c =
    let about = system_of c.args.search.now in
    let budget = c.args.search.now.setting.now.budget.now in
    let last = c.args.search.now.last in
    passed_on (λ fault. (s t : Statement) → IsFound about last s c.args.first → IsFound about last t c.args.second → IsRefusedFor about budget last (statements.along c.args.path c.args.shape s t) fault)
    c.from_residual-in_err-part.result c.from_residual-in_err-part.ensures.1
    (λ r is s t h g. along_fault about last c.args.path c.args.shape s t c.args.first c.args.second h g budget c.in_err-part.field-0.0 r is c.in_err-part.ensures.refused)

pub returns-clause-found : goal.returns-clause-found
returns-clause-found c s t h g =
    let about = system_of c.args.search.now in
    let last = c.args.search.now.last in
    let front = c.args.first.part.node in
    let back = c.args.second.part.node in
    let along = c.in_ok-part.ensures.along in
    let children : c.push_item-2.new.items.items ≡ front ∷ back ∷ [] = c.in_ok-push_item-2.ensures ∙ ap (λ xs. xs ++ back ∷ []) (c.in_ok-push_item.ensures ∙ ap (λ xs. xs ++ front ∷ []) c.new-children.ensures.items) in
    along_is_found about last c.args.path c.args.shape s t c.args.first c.args.second h g _ along.over
    (λ f k w. along.shows f k (subst (AreParts about (more f (more k none)) (c.args.first.part.region ∷ c.args.second.part.region ∷ [])) (sym children) w))
    along.built (c.in_ok-size.ensures ∙ ap (λ k. 1 + k) c.in_ok-added.ensures)
    (λ whole.
    (let parted = none_of_two _ _ (sym c.first_gap-gap.ensures ∙ whole) in
    let sides = none_of_two _ _ (sym c.first_gap.ensures ∙ parted.0) in
    (none_behind _ c.args.first.gap (sym c.in_ok-left.ensures ∙ sides.0), none_behind _ c.args.second.gap (sym c.in_ok-right.ensures ∙ sides.1), λ f k x y. c.in_ok-part.ensures.full parted.1 f k x y)))
    (let own = c.in_ok-part.field-0.gap in
    let told = c.in_ok-part.ensures.gap in
    let whole = IsGapFor about last (statements.along c.args.path c.args.shape s t) in
    subst (λ o. IfSome o whole) (sym c.first_gap-gap.ensures)
    (subst (λ o. IfSome (first_of o own) whole) (sym c.first_gap.ensures)
    (subst (λ o. IfSome (first_of (first_of o c.in_ok-right.right) own) whole) (sym c.in_ok-left.ensures)
    (subst (λ o. IfSome (first_of (first_of (gap_behind 1 c.args.first.gap) o) own) whole) (sym c.in_ok-right.ensures)
    (subst (λ n. IfSome (first_of (first_of (gap_behind 1 c.args.first.gap) (gap_behind n c.args.second.gap)) own) whole) (sym c.in_ok-added-2.ensures)
    (along_gap about last c.variables-variables.ensures.limits.cases c.args.path c.args.shape s t c.args.first c.args.second h g own
    (λ e. said_of _ own Inexact e told)
    (λ place e. said_of _ own (Open place) e told)
    (λ place e. said_of _ own (Open place) e c.in_ok-part.ensures.unserved)))))))
    (λ plain m is a b x y l. c.in_ok-part.ensures.bounded plain m is a b (record { first = x; second = y }) l)

pub returns-in_err-part-clause-counted : goal.returns-in_err-part-clause-counted
returns-in_err-part-clause-counted c =
    let about = system_of c.args.search.now in
    let budget = c.args.search.now.setting.now.budget.now in
    let last = c.args.search.now.last in
    let path = c.args.path in
    let shape = c.args.shape in
    let asks = λ (a : Question). ((s : Statement) (h : ℕ) → AreBuilt about s h (c.args.first.part.region ∷ c.args.second.part.region ∷ []) → IsAsked about s ((last + 2) + h) a) in
    passed_on (λ fault. (s t : Statement) → IsFound about last s c.args.first → IsFound about last t c.args.second → IsCountedFor about budget last (statements.along path shape s t) fault)
    c.from_residual-in_err-part.result c.from_residual-in_err-part.ensures.1
    (λ r is s t h g. along_counted about budget last r path shape s t c.args.first c.args.second h g asks
    (λ a f. f (statements.along path shape s t) (steps_back last s + steps_back last t) (sides_built about last path shape s t c.args.first c.args.second h g))
    (λ plain m o a b x y u v. subst (IsWithinFew about budget asks (fix_count about.cases m path shape a b)) (sym is)
    (c.in_err-part.ensures.counted plain m o a b (record { counts = record { first = x; second = y }; some_first = u; some_second = v }))))

pub returns-clause-known : goal.returns-clause-known
returns-clause-known c inner within s t h g one two =
    let about = system_of c.args.search.now in
    let last = c.args.search.now.last in
    record {
      states = along_known about last c.args.search.now.alone c.variables-variables.ensures.limits.cases inner c.args.path c.args.shape s t (steps_back last s + steps_back last t)
          c.args.first.part.region c.args.second.part.region c.in_ok-part.field-0.part.region within
          (sides_built about last c.args.path c.args.shape s t c.args.first c.args.second h g) one.states two.states (λ w k built tame. c.in_ok-part.ensures.known w k built tame);
    }

pub returns-clause-settled : goal.returns-clause-settled
returns-clause-settled c other may settled s t one two =
    let about = system_of c.args.search.now in
    let last = c.args.search.now.last in
    let alone = c.args.search.now.alone in
    let none : c.in_ok-part.field-0.gap ≡ None = none_told c.in_ok-part.field-0.gap c.is_none-settled.result c.is_none-settled.ensures settled in
    let region = c.in_ok-part.field-0.part.region in
    record {
      states = subst (λ b. IsKnownFor about last b (statements.along c.args.path c.args.shape s t) region) (sym other)
          (weak_known about last alone c.variables-variables.ensures.limits.cases c.args.path c.args.shape s t c.args.first.part.region c.args.second.part.region region may one.states two.states
          (λ u p h. c.in_ok-part.ensures.holding may none u p h));
    }

pub returns-clause-unsettled : goal.returns-clause-unsettled
returns-clause-unsettled c other s t h g tame =
    let own = c.in_ok-part.field-0.gap in
    let told = c.in_ok-part.ensures.gap in
    own_open (system_of c.args.search.now) c.args.search.now.last c.variables-variables.ensures.limits.cases c.args.path c.args.shape s t c.args.first c.args.second h g own c.is_none-settled.result c.is_none-settled.ensures other
    (λ x. said_of _ own Inexact x told) (λ place x. said_of _ own (Open place) x told) tame
