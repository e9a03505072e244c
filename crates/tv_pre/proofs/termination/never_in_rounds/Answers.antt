use Rattle.std.proofs.Common.{refl, sym, subst, false}
use Rattle.tv_formula.specs.declared.tree.Path.TheVariants.{Any}
use Rattle.tv_formula.specs.declared.tree.Shape.TheVariants.{Release}
use Rattle.tv_formula.specs.Properties.{term, negated}
use Rattle.tv_linear.specs.declared.region.Region.{Region}
use Rattle.tv_cert.specs.Statements as statements
use Rattle.tv_rounds.specs.Answers.{IsFullBy}
use Rattle.tv_pre.specs.declared.sides.Sides.{Sides}
use Rattle.tv_pre.specs.Counted.{IsCountedFor}
use Rattle.tv_pre.specs.Finding.{IsRefusedFor}
use Rattle.tv_pre.specs.KnownStates.{IsKnownFor}
use Rattle.tv_pre.specs.Parts.{IsPart}
use Rattle.tv_pre.specs.Search.{system_of}
use Rattle.tv_pre.proofs.AlongLemmas.{settled_round, open_rounds, open_round}
use Rattle.tv_pre.proofs.ExactLemmas.{open_sides}
use Rattle.tv_pre.proofs.FullAlongLemmas.{along_full}
use Rattle.tv_pre.proofs.NeverByRounds.{both_over, at_none, none_few, open_gap, release_refused, release_counted, round_goes, round_refused, round_counted, round_found}
use Rattle.tv_pre.proofs.KnownAlongLemmas.{round_known, none_known}
use Rattle.tv_pre.proofs.KnownTermination.{never_along}
use Rattle.tv_pre.proofs.PassedLemmas.{passed_on}
use Rattle.tv_pre.proofs.TerminationFound.{nowhere_found}
use Rattle.tv_pre.proofs.BuiltLemmas.{first_of_two}
use Rattle.tv_pre.proofs.termination.never_in_rounds.Goals as goal

pub rounds_of-requires-clause-end : goal.rounds_of-requires-clause-end
rounds_of-requires-clause-end c =
    let sides : Sides = record { path = Any; shape = Release; first = c.args.none; second = c.args.goes } in
    at_none (system_of c.args.search.now) c.variables-variables.ensures.limits.cases c.args.search.now.last c.requires.search.last sides refl refl c.requires.nowhere c.requires.sides

pub rounds_of-requires-clause-end_few : goal.rounds_of-requires-clause-end_few
rounds_of-requires-clause-end_few c =
    none_few (system_of c.args.search.now) c.variables-variables.ensures.limits.cases c.args.search.now.last c.requires.search.last _ refl refl c.requires.nowhere c.requires.sides

pub returns-in_err-region-clause-refused : goal.returns-in_err-region-clause-refused
returns-in_err-region-clause-refused c =
    let about = system_of c.args.search.now in
    let budget = c.args.search.now.setting.now.budget.now in
    let last = c.args.search.now.last in
    let cases = c.variables-variables.ensures.limits.cases in
    let sides : Sides = record { path = Any; shape = Release; first = c.args.none; second = c.args.goes } in
    passed_on (IsRefusedFor about budget last statements.never_ends) c.from_residual.result c.from_residual.ensures.1
    (λ r is. release_refused about cases last c.requires.search.last sides refl refl c.requires.nowhere c.requires.sides budget c.in_err-region.field-0.0 r is c.in_err-region.ensures.refused)

pub returns-in_err-region-clause-counted : goal.returns-in_err-region-clause-counted
returns-in_err-region-clause-counted c =
    let about = system_of c.args.search.now in
    let budget = c.args.search.now.setting.now.budget.now in
    let last = c.args.search.now.last in
    let cases = c.variables-variables.ensures.limits.cases in
    passed_on (IsCountedFor about budget last statements.never_ends) c.from_residual.result c.from_residual.ensures.1
    (λ r is. release_counted about cases last c.requires.search.last _ refl refl c.requires.nowhere c.requires.sides budget c.in_err-region.field-0.0 r is c.in_err-region.ensures.counted)

pub never_ends-requires-clause-over : goal.never_ends-requires-clause-over
never_ends-requires-clause-over c =
    let told = settled_round (system_of c.args.search.now) c.args.search.now.last _ c.args.none.now c.in_ok-region.field-0 c.in-Settled.region c.in-Settled.at c.in-Settled.layers c.in-Settled.is refl c.in_ok-region.ensures.rounds in
    told.round.set.fits

pub never_ends-requires-clause-leads : goal.never_ends-requires-clause-leads
never_ends-requires-clause-leads c =
    let about = system_of c.args.search.now in
    let last = c.args.search.now.last in
    let cases = c.variables-variables.ensures.limits.cases in
    let answer = c.in_ok-region.field-0 in
    let round = c.in-Settled.region in
    let rounds = c.in_ok-region.ensures.rounds in
    let told = settled_round about last _ c.args.none.now answer round c.in-Settled.at c.in-Settled.layers c.in-Settled.is refl rounds in
    round_goes about cases last c.requires.search.last _ refl refl c.requires.nowhere c.requires.sides answer rounds c.in-Settled.at round told.early told.round told.settled

pub returns-in_err-part-in-Settled-clause-refused : goal.returns-in_err-part-in-Settled-clause-refused
returns-in_err-part-in-Settled-clause-refused c =
    let about = system_of c.args.search.now in
    let budget = c.args.search.now.setting.now.budget.now in
    let last = c.args.search.now.last in
    let cases = c.variables-variables.ensures.limits.cases in
    let answer = c.in_ok-region.field-0 in
    let round = c.in-Settled.region in
    let rounds = c.in_ok-region.ensures.rounds in
    let told = settled_round about last _ c.args.none.now answer round c.in-Settled.at c.in-Settled.layers c.in-Settled.is refl rounds in
    passed_on (IsRefusedFor about budget last statements.never_ends) c.from_residual-in_err-part-in-Settled.result c.from_residual-in_err-part-in-Settled.ensures.1
    (λ r is. round_refused about cases last c.requires.search.last _ refl refl c.requires.nowhere c.requires.sides answer rounds c.in-Settled.at round told.early told.round budget c.in_err-part-in-Settled.field-0.0 r is c.in_err-part-in-Settled.ensures.refusals)

pub returns-in_err-part-in-Settled-clause-counted : goal.returns-in_err-part-in-Settled-clause-counted
returns-in_err-part-in-Settled-clause-counted c =
    let about = system_of c.args.search.now in
    let budget = c.args.search.now.setting.now.budget.now in
    let last = c.args.search.now.last in
    let cases = c.variables-variables.ensures.limits.cases in
    let answer = c.in_ok-region.field-0 in
    let round = c.in-Settled.region in
    let rounds = c.in_ok-region.ensures.rounds in
    let told = settled_round about last _ c.args.none.now answer round c.in-Settled.at c.in-Settled.layers c.in-Settled.is refl rounds in
    passed_on (IsCountedFor about budget last statements.never_ends) c.from_residual-in_err-part-in-Settled.result c.from_residual-in_err-part-in-Settled.ensures.1
    (λ r is. round_counted about cases last c.requires.search.last _ refl refl c.requires.nowhere c.requires.sides answer rounds c.in-Settled.at round told.early told.round budget c.in_err-part-in-Settled.field-0.0 r is c.in_err-part-in-Settled.ensures.refusals)

pub returns-in-Settled-clause-found : goal.returns-in-Settled-clause-found
returns-in-Settled-clause-found c lacks =
    let about = system_of c.args.search.now in
    let last = c.args.search.now.last in
    let cases = c.variables-variables.ensures.limits.cases in
    let sides : Sides = record { path = Any; shape = Release; first = c.args.none; second = c.args.goes } in
    let answer = c.in_ok-region.field-0 in
    let round = c.in-Settled.region in
    let rounds = c.in_ok-region.ensures.rounds in
    let part = c.in_ok-part-in-Settled.part in
    let same = sym c.in_ok-part-in-Settled.ensures.region in
    let told = settled_round about last _ c.args.none.now answer round c.in-Settled.at c.in-Settled.layers c.in-Settled.is refl rounds in
    round_found about cases last c.requires.search.last _ refl refl c.requires.nowhere c.requires.sides answer rounds c.in-Settled.at round told.early told.round _ same
    (subst (λ (r : Region). IsPart about (negated term) r part.node) same c.in_ok-part-in-Settled.ensures.part) refl tt
    (λ none. along_full about cases _ c.args.none.now rounds.point rounds.of (both_over about cases last c.requires.search.last _ refl refl c.requires.nowhere c.requires.sides)
    (at_none about cases last c.requires.search.last sides refl refl c.requires.nowhere c.requires.sides) round round (subst (IsFullBy false about rounds.point) c.in-Settled.is rounds.full) (λ s p m. m))

pub returns-clause-found : goal.returns-clause-found
returns-clause-found c lacks =
    let about = system_of c.args.search.now in
    let last = c.args.search.now.last in
    let cases = c.variables-variables.ensures.limits.cases in
    let sides : Sides = record { path = Any; shape = Release; first = c.args.none; second = c.args.goes } in
    let rounds = c.in_ok-region.ensures.rounds in
    nowhere_found about last _ c.in_ok-part-in-Open.ensures.nowhere c.in_ok-part-in-Open.ensures.part refl
    (open_gap about cases last c.requires.search.last sides refl refl c.requires.nowhere c.requires.sides
    (open_sides about cases _ c.args.none.now rounds.point rounds.of (at_none about cases last c.requires.search.last sides refl refl c.requires.nowhere c.requires.sides) last
    (open_rounds about last _ c.args.none.now c.in_ok-region.field-0 c.in-Open.region c.in-Open.layers c.in-Open.is rounds)) lacks)
    (λ none. absurd cc)

pub returns-in-Settled-clause-known : goal.returns-in-Settled-clause-known
returns-in-Settled-clause-known c lacks =
    let about = system_of c.args.search.now in
    let last = c.args.search.now.last in
    let alone = c.args.search.now.alone in
    let cases = c.variables-variables.ensures.limits.cases in
    let sides : Sides = record { path = Any; shape = Release; first = c.args.none; second = c.args.goes } in
    let round = c.in-Settled.region in
    let rounds = c.in_ok-region.ensures.rounds in
    let told = settled_round about last _ c.args.none.now c.in_ok-region.field-0 round c.in-Settled.at c.in-Settled.layers c.in-Settled.is refl rounds in
    subst (λ (r : Region). IsKnownFor about last alone statements.never_ends r) (sym c.in_ok-part-in-Settled.ensures.region)
    (never_along about cases last alone round sides refl refl c.requires.sides
    (round_known about cases sides c.args.none.now rounds.point rounds.of (at_none about cases last c.requires.search.last sides refl refl c.requires.nowhere c.requires.sides) refl alone last c.in-Settled.at round c.in-Settled.layers.items told))

pub returns-clause-known : goal.returns-clause-known
returns-clause-known c lacks =
    let about = system_of c.args.search.now in
    let last = c.args.search.now.last in
    let alone = c.args.search.now.alone in
    let cases = c.variables-variables.ensures.limits.cases in
    let sides : Sides = record { path = Any; shape = Release; first = c.args.none; second = c.args.goes } in
    let rounds = c.in_ok-region.ensures.rounds in
    let region = c.in_ok-part-in-Open.part.region in
    let told = open_round about last _ c.args.none.now c.in_ok-region.field-0 c.in-Open.region c.in-Open.layers c.in-Open.is refl rounds in
    never_along about cases last alone region sides refl refl c.requires.sides
    (none_known about cases sides c.args.none.now rounds.point rounds.of (at_none about cases last c.requires.search.last sides refl refl c.requires.nowhere c.requires.sides) refl alone last c.in-Open.region region c.in-Open.layers.items told
    (λ e. c.in_ok-part-in-Open.ensures.nowhere.none))

pub rounds_of-requires-clause-built : goal.rounds_of-requires-clause-built
rounds_of-requires-clause-built c = λ s h m. first_of_two (system_of c.args.search.now) s h c.args.none.now c.args.goes.now m
