use Rattle.std.proofs.Common.{◌≤◌, length, refl, subst, arith, true}
use Rattle.tv_formula.specs.declared.tree.Path.TheVariants.{Every}
use Rattle.tv_formula.specs.declared.tree.Shape.TheVariants.{Until}
use Rattle.tv_cert.specs.Statements as statements
use Rattle.tv_rounds.specs.Answers.{IsFullBy}
use Rattle.tv_pre.specs.declared.sides.Sides.{Sides}
use Rattle.tv_pre.specs.Counted.{IsCountedFor}
use Rattle.tv_pre.specs.Finding.{IsRefusedFor}
use Rattle.tv_pre.specs.Search.{system_of}
use Rattle.tv_pre.proofs.AlongLemmas.{settled_layers, open_layers, open_rounds}
use Rattle.tv_pre.proofs.EndsByRounds.{both_over, at_stops, open_gap, until_refused, until_counted, layers_end, layers_refused, layers_counted, layers_found}
use Rattle.tv_pre.proofs.ExactLemmas.{open_sides}
use Rattle.tv_pre.proofs.FullAlongLemmas.{grown_full}
use Rattle.tv_pre.proofs.KnownAlongLemmas.{settled_known, open_known, unranked_none}
use Rattle.tv_pre.proofs.KnownTermination.{ends_along}
use Rattle.tv_pre.proofs.PassedLemmas.{passed_on}
use Rattle.tv_pre.proofs.BuiltLemmas.{second_of_two}
use Rattle.tv_pre.proofs.termination.ends_in_rounds.Goals as goal

pub returns-in_err-layers-clause-refused : goal.returns-in_err-layers-clause-refused
returns-in_err-layers-clause-refused c =
    let about = system_of c.args.search.now in
    let budget = c.args.search.now.setting.now.budget.now in
    let last = c.args.search.now.last in
    let cases = c.variables-variables.ensures.limits.cases in
    let sides : Sides = record { path = Every; shape = Until; first = c.args.anywhere; second = record { ref_ptr = c.args.anywhere.ref_ptr; now = c.args.stops } } in
    passed_on (IsRefusedFor about budget last statements.ends) c.from_residual.result c.from_residual.ensures.1
    (λ r is. until_refused about cases last c.requires.search.last sides refl refl c.requires.sides budget c.in_err-layers.field-0.0 r is c.in_err-layers.ensures.refused)

pub returns-in_err-layers-clause-counted : goal.returns-in_err-layers-clause-counted
returns-in_err-layers-clause-counted c =
    let about = system_of c.args.search.now in
    let budget = c.args.search.now.setting.now.budget.now in
    let last = c.args.search.now.last in
    let cases = c.variables-variables.ensures.limits.cases in
    passed_on (IsCountedFor about budget last statements.ends) c.from_residual.result c.from_residual.ensures.1
    (λ r is. until_counted about cases last c.requires.search.last _ refl refl c.requires.sides budget c.in_err-layers.field-0.0 r is c.in_err-layers.ensures.counted)

pub ended_after-requires-clause-layers : goal.ended_after-requires-clause-layers
ended_after-requires-clause-layers c =
    let about = system_of c.args.search.now in
    let last = c.args.search.now.last in
    let cases = c.variables-variables.ensures.limits.cases in
    let answer = c.in_ok-layers.field-0 in
    let layers = c.in-Settled.layers.items in
    let rounds = c.in_ok-layers.ensures.rounds in
    let told = settled_layers about last _ c.args.stops answer c.in-Settled.region c.in-Settled.at c.in-Settled.layers c.in-Settled.is refl rounds in
    let count = told.layers.many in
    let early = told.early in
    let short : length layers ≤ last = omega (arith, count, early) in
    layers_end about cases last c.requires.search.last _ refl refl c.requires.sides answer rounds layers told.layers.each short

pub returns-in_err-part-in-Settled-clause-refused : goal.returns-in_err-part-in-Settled-clause-refused
returns-in_err-part-in-Settled-clause-refused c =
    let about = system_of c.args.search.now in
    let budget = c.args.search.now.setting.now.budget.now in
    let last = c.args.search.now.last in
    let cases = c.variables-variables.ensures.limits.cases in
    let answer = c.in_ok-layers.field-0 in
    let layers = c.in-Settled.layers.items in
    let rounds = c.in_ok-layers.ensures.rounds in
    let told = settled_layers about last _ c.args.stops answer c.in-Settled.region c.in-Settled.at c.in-Settled.layers c.in-Settled.is refl rounds in
    let count = told.layers.many in
    let early = told.early in
    let short : length layers ≤ last = omega (arith, count, early) in
    passed_on (IsRefusedFor about budget last statements.ends) c.from_residual-in_err-part-in-Settled.result c.from_residual-in_err-part-in-Settled.ensures.1
    (λ r is. layers_refused about cases last c.requires.search.last _ refl refl c.requires.sides answer rounds layers told.layers.each short budget c.in_err-part-in-Settled.field-0.0 r is c.in_err-part-in-Settled.ensures.refusals)

pub returns-in_err-part-in-Settled-clause-counted : goal.returns-in_err-part-in-Settled-clause-counted
returns-in_err-part-in-Settled-clause-counted c =
    let about = system_of c.args.search.now in
    let budget = c.args.search.now.setting.now.budget.now in
    let last = c.args.search.now.last in
    let cases = c.variables-variables.ensures.limits.cases in
    let answer = c.in_ok-layers.field-0 in
    let layers = c.in-Settled.layers.items in
    let rounds = c.in_ok-layers.ensures.rounds in
    let told = settled_layers about last _ c.args.stops answer c.in-Settled.region c.in-Settled.at c.in-Settled.layers c.in-Settled.is refl rounds in
    let count = told.layers.many in
    let early = told.early in
    let short : length layers ≤ last = omega (arith, count, early) in
    passed_on (IsCountedFor about budget last statements.ends) c.from_residual-in_err-part-in-Settled.result c.from_residual-in_err-part-in-Settled.ensures.1
    (λ r is. layers_counted about cases last c.requires.search.last _ refl refl c.requires.sides answer rounds layers told.layers.each short budget c.in_err-part-in-Settled.field-0.0 r is c.in_err-part-in-Settled.ensures.refusals)

pub returns-in-Settled-clause-found : goal.returns-in-Settled-clause-found
returns-in-Settled-clause-found c lacks =
    let about = system_of c.args.search.now in
    let last = c.args.search.now.last in
    let cases = c.variables-variables.ensures.limits.cases in
    let sides : Sides = record { path = Every; shape = Until; first = c.args.anywhere; second = record { ref_ptr = c.args.anywhere.ref_ptr; now = c.args.stops } } in
    let answer = c.in_ok-layers.field-0 in
    let round = c.in-Settled.region in
    let layers = c.in-Settled.layers.items in
    let rounds = c.in_ok-layers.ensures.rounds in
    let part = c.in_ok-part-in-Settled.part in
    let joined = c.in_ok-part-in-Settled.ensures.region in
    let told = settled_layers about last _ c.args.stops answer round c.in-Settled.at c.in-Settled.layers c.in-Settled.is refl rounds in
    let count = told.layers.many in
    let early = told.early in
    let short : length layers ≤ last = omega (arith, count, early) in
    layers_found about cases last c.requires.search.last _ refl refl c.requires.sides answer rounds layers told.layers.each short _ joined c.in_ok-part-in-Settled.ensures.part refl tt
    (λ none. grown_full about cases _ c.args.stops rounds.point rounds.of (both_over about cases last c.requires.search.last _ refl refl c.requires.sides) (at_stops about cases last c.requires.search.last sides refl refl c.requires.sides)
    last round part.region c.in-Settled.at layers refl told (subst (IsFullBy true about rounds.point) c.in-Settled.is rounds.full) joined)

pub ended_after-requires-in-Open-clause-layers : goal.ended_after-requires-in-Open-clause-layers
ended_after-requires-in-Open-clause-layers c =
    let about = system_of c.args.search.now in
    let last = c.args.search.now.last in
    let cases = c.variables-variables.ensures.limits.cases in
    let answer = c.in_ok-layers.field-0 in
    let layers = c.in-Open.layers.items in
    let rounds = c.in_ok-layers.ensures.rounds in
    let told = open_layers about last _ c.args.stops answer c.in-Open.region c.in-Open.layers c.in-Open.is refl rounds in
    let count = told.layers.many in
    let short : length layers ≤ last = omega (arith, count) in
    layers_end about cases last c.requires.search.last _ refl refl c.requires.sides answer rounds layers told.layers.each short

pub returns-in_err-part-in-Open-clause-refused : goal.returns-in_err-part-in-Open-clause-refused
returns-in_err-part-in-Open-clause-refused c =
    let about = system_of c.args.search.now in
    let budget = c.args.search.now.setting.now.budget.now in
    let last = c.args.search.now.last in
    let cases = c.variables-variables.ensures.limits.cases in
    let answer = c.in_ok-layers.field-0 in
    let layers = c.in-Open.layers.items in
    let rounds = c.in_ok-layers.ensures.rounds in
    let told = open_layers about last _ c.args.stops answer c.in-Open.region c.in-Open.layers c.in-Open.is refl rounds in
    let count = told.layers.many in
    let short : length layers ≤ last = omega (arith, count) in
    passed_on (IsRefusedFor about budget last statements.ends) c.from_residual-in_err-part-in-Open.result c.from_residual-in_err-part-in-Open.ensures.1
    (λ r is. layers_refused about cases last c.requires.search.last _ refl refl c.requires.sides answer rounds layers told.layers.each short budget c.in_err-part-in-Open.field-0.0 r is c.in_err-part-in-Open.ensures.refusals)

pub returns-in_err-part-in-Open-clause-counted : goal.returns-in_err-part-in-Open-clause-counted
returns-in_err-part-in-Open-clause-counted c =
    let about = system_of c.args.search.now in
    let budget = c.args.search.now.setting.now.budget.now in
    let last = c.args.search.now.last in
    let cases = c.variables-variables.ensures.limits.cases in
    let answer = c.in_ok-layers.field-0 in
    let layers = c.in-Open.layers.items in
    let rounds = c.in_ok-layers.ensures.rounds in
    let told = open_layers about last _ c.args.stops answer c.in-Open.region c.in-Open.layers c.in-Open.is refl rounds in
    let count = told.layers.many in
    let short : length layers ≤ last = omega (arith, count) in
    passed_on (IsCountedFor about budget last statements.ends) c.from_residual-in_err-part-in-Open.result c.from_residual-in_err-part-in-Open.ensures.1
    (λ r is. layers_counted about cases last c.requires.search.last _ refl refl c.requires.sides answer rounds layers told.layers.each short budget c.in_err-part-in-Open.field-0.0 r is c.in_err-part-in-Open.ensures.refusals)

pub returns-clause-found : goal.returns-clause-found
returns-clause-found c lacks =
    let about = system_of c.args.search.now in
    let last = c.args.search.now.last in
    let cases = c.variables-variables.ensures.limits.cases in
    let sides : Sides = record { path = Every; shape = Until; first = c.args.anywhere; second = record { ref_ptr = c.args.anywhere.ref_ptr; now = c.args.stops } } in
    let answer = c.in_ok-layers.field-0 in
    let layers = c.in-Open.layers.items in
    let rounds = c.in_ok-layers.ensures.rounds in
    let told = open_layers about last _ c.args.stops answer c.in-Open.region c.in-Open.layers c.in-Open.is refl rounds in
    let count = told.layers.many in
    let short : length layers ≤ last = omega (arith, count) in
    layers_found about cases last c.requires.search.last _ refl refl c.requires.sides answer rounds layers told.layers.each short _ c.in_ok-part-in-Open.ensures.region c.in_ok-part-in-Open.ensures.part refl
    (open_gap about cases last c.requires.search.last sides refl refl c.requires.sides
    (open_sides about cases _ c.args.stops rounds.point rounds.of (at_stops about cases last c.requires.search.last sides refl refl c.requires.sides) last
    (open_rounds about last _ c.args.stops answer c.in-Open.region c.in-Open.layers c.in-Open.is rounds)) lacks)
    (λ none. absurd cc)

pub returns-in-Settled-clause-known : goal.returns-in-Settled-clause-known
returns-in-Settled-clause-known c lacks =
    let about = system_of c.args.search.now in
    let last = c.args.search.now.last in
    let alone = c.args.search.now.alone in
    let cases = c.variables-variables.ensures.limits.cases in
    let sides : Sides = record { path = Every; shape = Until; first = c.args.anywhere; second = record { ref_ptr = c.args.anywhere.ref_ptr; now = c.args.stops } } in
    let round = c.in-Settled.region in
    let rounds = c.in_ok-layers.ensures.rounds in
    let region = c.in_ok-part-in-Settled.part.region in
    let told = settled_layers about last _ c.args.stops c.in_ok-layers.field-0 round c.in-Settled.at c.in-Settled.layers c.in-Settled.is refl rounds in
    ends_along about cases last alone region sides refl refl c.requires.sides
    (settled_known about cases _ c.args.stops rounds.point rounds.of (at_stops about cases last c.requires.search.last sides refl refl c.requires.sides) refl c.in-Settled.layers.items told.layers.each region c.in_ok-part-in-Settled.ensures.region
    alone last c.in-Settled.at round told)

pub returns-clause-known : goal.returns-clause-known
returns-clause-known c lacks =
    let about = system_of c.args.search.now in
    let last = c.args.search.now.last in
    let alone = c.args.search.now.alone in
    let cases = c.variables-variables.ensures.limits.cases in
    let sides : Sides = record { path = Every; shape = Until; first = c.args.anywhere; second = record { ref_ptr = c.args.anywhere.ref_ptr; now = c.args.stops } } in
    let rounds = c.in_ok-layers.ensures.rounds in
    let region = c.in_ok-part-in-Open.part.region in
    let told = open_layers about last _ c.args.stops c.in_ok-layers.field-0 c.in-Open.region c.in-Open.layers c.in-Open.is refl rounds in
    ends_along about cases last alone region sides refl refl c.requires.sides
    (open_known about cases _ c.args.stops rounds.point rounds.of (at_stops about cases last c.requires.search.last sides refl refl c.requires.sides) refl c.in-Open.layers.items told.layers.each region c.in_ok-part-in-Open.ensures.region
    alone last c.in-Open.region told (unranked_none about sides refl lacks))

pub rounds_of-requires-clause-built : goal.rounds_of-requires-clause-built
rounds_of-requires-clause-built c = λ s h m. second_of_two (system_of c.args.search.now) s h c.args.anywhere.now c.args.stops m
