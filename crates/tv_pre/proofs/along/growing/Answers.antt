use Rattle.std.proofs.Common.{refl, ◌⊎◌, ◌≤◌, ◌+◌, ◌∷◌, length, subst, arith}
use Rattle.tv_pre.specs.Search.{system_of}
use Rattle.tv_pre.specs.Questions.{Question}
use Rattle.tv_pre.specs.Along.{arguments}
use Rattle.tv_pre.specs.Fixed.{AsksEnds}
use Rattle.tv_pre.specs.Growing.{AsksLayers}
use Rattle.tv_pre.specs.Built.{IsFaultOf}
use Rattle.tv_pre.proofs.PassedLemmas.{passed_on, cover_fault, fault_again}
use Rattle.tv_pre.proofs.ExactLemmas.{open_sides}
use Rattle.tv_pre.proofs.AlongLemmas.{asked_less, open_rounds, first_layers, settled_layers, open_layers, until_asked, until_built, answer_built, is_along}
use Rattle.tv_rounds.specs.Answers.{IsFullBy}
use Rattle.tv_known.specs.Rounds.{must_end}
use Rattle.tv_pre.proofs.FullAlongLemmas.{grown_full}
use Rattle.tv_pre.proofs.KnownAlongLemmas.{settled_known, open_known}
use Rattle.tv_pre.proofs.SizedLemmas.{grown_joined, grown_few, last_before}
use Rattle.tv_pre.specs.Counted.{IsCountedAlong}
use Rattle.tv_pre.proofs.CountedLemmas.{cover_along}
use Rattle.tv_pre.proofs.FewTargets.{until_targets}
use Rattle.tv_pre.proofs.along.growing.Goals as goal

pub returns-in_err-layers-clause-refused : goal.returns-in_err-layers-clause-refused
returns-in_err-layers-clause-refused c =
    let about = system_of c.args.search.now in
    let budget = c.args.search.now.setting.now.budget.now in
    let last = c.args.search.now.last in
    let given = c.args.end ∷ arguments c.args.sides.now in
    passed_on (IsFaultOf about budget (last + 2) given) c.from_residual.result c.from_residual.ensures.1
    (λ r is. fault_again about budget (last + 1) (last + 2) given c.in_err-layers.field-0.0 r (omega arith) is c.in_err-layers.ensures.refused)

pub until-requires-clause-layers : goal.until-requires-clause-layers
until-requires-clause-layers c =
    let about = system_of c.args.search.now in
    let last = c.args.search.now.last in
    let sides = c.args.sides.now in
    let rounds = c.in_ok-layers.ensures.rounds in
    let told = settled_layers about last sides c.args.end c.in_ok-layers.field-0 c.in-Settled.region c.in-Settled.at c.in-Settled.layers c.in-Settled.is c.requires.shape rounds in
    first_layers about c.variables-variables.ensures.limits.cases sides c.args.end rounds.point rounds.of c.in-Settled.layers.items told.layers.each

pub returns-in_err-part-in-Settled-clause-refused : goal.returns-in_err-part-in-Settled-clause-refused
returns-in_err-part-in-Settled-clause-refused c =
    let about = system_of c.args.search.now in
    let budget = c.args.search.now.setting.now.budget.now in
    let last = c.args.search.now.last in
    let sides = c.args.sides.now in
    let end = c.args.end in
    let layers = c.in-Settled.layers.items in
    let rounds = c.in_ok-layers.ensures.rounds in
    let told = settled_layers about last sides end c.in_ok-layers.field-0 c.in-Settled.region c.in-Settled.at c.in-Settled.layers c.in-Settled.is c.requires.shape rounds in
    let count = told.layers.many in
    let early = told.early in
    let bounded : length layers ≤ last = omega (arith, count, early) in
    let asks = λ (a : Question). (AsksEnds sides end.pieces.items a ⊎ AsksLayers about sides end.pieces.items layers a) in
    passed_on (IsFaultOf about budget (last + 2) (end ∷ arguments sides)) c.from_residual-in_err-part-in-Settled.result c.from_residual-in_err-part-in-Settled.ensures.1
    (λ r is s h m. cover_fault about budget s ((last + 2) + h) asks (until_asked about last sides end s h m layers (answer_built about last sides end s h m c.in_ok-layers.field-0 rounds layers bounded told.layers.each c.variables-variables.ensures.limits.cases)) c.in_err-part-in-Settled.field-0.0 r is c.in_err-part-in-Settled.ensures.refusals)

pub returns-in-Settled-clause-along : goal.returns-in-Settled-clause-along
returns-in-Settled-clause-along c =
    let about = system_of c.args.search.now in
    let last = c.args.search.now.last in
    let sides = c.args.sides.now in
    let end = c.args.end in
    let layers = c.in-Settled.layers.items in
    let rounds = c.in_ok-layers.ensures.rounds in
    let told = settled_layers about last sides end c.in_ok-layers.field-0 c.in-Settled.region c.in-Settled.at c.in-Settled.layers c.in-Settled.is c.requires.shape rounds in
    let count = told.layers.many in
    let early = told.early in
    let bounded : length layers ≤ last = omega (arith, count, early) in
    is_along about (last + 1) (last + 2) sides c.args.children.items c.in_ok-part-in-Settled.part (end ∷ layers) (end ∷ arguments sides) (omega arith) (omega (arith, bounded)) c.in_ok-part-in-Settled.ensures.region
    (λ f g w. c.in_ok-part-in-Settled.ensures.part f g w)
    (λ s h m. until_built about last sides end s h m layers (answer_built about last sides end s h m c.in_ok-layers.field-0 rounds layers bounded told.layers.each c.variables-variables.ensures.limits.cases))

pub returns-in-Settled-clause-full : goal.returns-in-Settled-clause-full
returns-in-Settled-clause-full c none =
    let about = system_of c.args.search.now in
    let last = c.args.search.now.last in
    let sides = c.args.sides.now in
    let end = c.args.end in
    let round = c.in-Settled.region in
    let rounds = c.in_ok-layers.ensures.rounds in
    let told = settled_layers about last sides end c.in_ok-layers.field-0 round c.in-Settled.at c.in-Settled.layers c.in-Settled.is c.requires.shape rounds in
    grown_full about c.variables-variables.ensures.limits.cases sides end rounds.point rounds.of c.requires.sides c.requires.end last round c.in_ok-part-in-Settled.part.region c.in-Settled.at c.in-Settled.layers.items c.requires.shape told
    (subst (IsFullBy (must_end sides.shape) about rounds.point) c.in-Settled.is rounds.full) c.in_ok-part-in-Settled.ensures.region

pub until-requires-in-Open-clause-layers : goal.until-requires-in-Open-clause-layers
until-requires-in-Open-clause-layers c =
    let about = system_of c.args.search.now in
    let last = c.args.search.now.last in
    let sides = c.args.sides.now in
    let rounds = c.in_ok-layers.ensures.rounds in
    let told = open_layers about last sides c.args.end c.in_ok-layers.field-0 c.in-Open.region c.in-Open.layers c.in-Open.is c.requires.shape rounds in
    first_layers about c.variables-variables.ensures.limits.cases sides c.args.end rounds.point rounds.of c.in-Open.layers.items told.layers.each

pub returns-in_err-part-in-Open-clause-refused : goal.returns-in_err-part-in-Open-clause-refused
returns-in_err-part-in-Open-clause-refused c =
    let about = system_of c.args.search.now in
    let budget = c.args.search.now.setting.now.budget.now in
    let last = c.args.search.now.last in
    let sides = c.args.sides.now in
    let end = c.args.end in
    let layers = c.in-Open.layers.items in
    let rounds = c.in_ok-layers.ensures.rounds in
    let told = open_layers about last sides end c.in_ok-layers.field-0 c.in-Open.region c.in-Open.layers c.in-Open.is c.requires.shape rounds in
    let count = told.layers.many in
    let early : last ≤ last = omega arith in
    let bounded : length layers ≤ last = omega (arith, count, early) in
    let asks = λ (a : Question). (AsksEnds sides end.pieces.items a ⊎ AsksLayers about sides end.pieces.items layers a) in
    passed_on (IsFaultOf about budget (last + 2) (end ∷ arguments sides)) c.from_residual-in_err-part-in-Open.result c.from_residual-in_err-part-in-Open.ensures.1
    (λ r is s h m. cover_fault about budget s ((last + 2) + h) asks (until_asked about last sides end s h m layers (answer_built about last sides end s h m c.in_ok-layers.field-0 rounds layers bounded told.layers.each c.variables-variables.ensures.limits.cases)) c.in_err-part-in-Open.field-0.0 r is c.in_err-part-in-Open.ensures.refusals)

pub returns-clause-along : goal.returns-clause-along
returns-clause-along c =
    let about = system_of c.args.search.now in
    let last = c.args.search.now.last in
    let sides = c.args.sides.now in
    let end = c.args.end in
    let layers = c.in-Open.layers.items in
    let rounds = c.in_ok-layers.ensures.rounds in
    let told = open_layers about last sides end c.in_ok-layers.field-0 c.in-Open.region c.in-Open.layers c.in-Open.is c.requires.shape rounds in
    let count = told.layers.many in
    let early : last ≤ last = omega arith in
    let bounded : length layers ≤ last = omega (arith, count, early) in
    is_along about (last + 1) (last + 2) sides c.args.children.items c.in_ok-part-in-Open.part (end ∷ layers) (end ∷ arguments sides) (omega arith) (omega (arith, bounded)) c.in_ok-part-in-Open.ensures.region
    (λ f g w. c.in_ok-part-in-Open.ensures.part f g w)
    (λ s h m. until_built about last sides end s h m layers (answer_built about last sides end s h m c.in_ok-layers.field-0 rounds layers bounded told.layers.each c.variables-variables.ensures.limits.cases))

pub returns-clause-gap : goal.returns-clause-gap
returns-clause-gap c =
    let rounds = c.in_ok-layers.ensures.rounds in
    let about = system_of c.args.search.now in (
      refl,
      open_sides about c.variables-variables.ensures.limits.cases c.args.sides.now c.args.end rounds.point rounds.of c.requires.end c.args.search.now.last
          (open_rounds about c.args.search.now.last c.args.sides.now c.args.end c.in_ok-layers.field-0 c.in-Open.region c.in-Open.layers c.in-Open.is rounds),
    )

pub returns-in-Settled-clause-bounded : goal.returns-in-Settled-clause-bounded
returns-in-Settled-clause-bounded c =
    let about = system_of c.args.search.now in
    let last = c.args.search.now.last in
    let sides = c.args.sides.now in
    let end = c.args.end in
    let layers = c.in-Settled.layers.items in
    let rounds = c.in_ok-layers.ensures.rounds in
    let told = settled_layers about last sides end c.in_ok-layers.field-0 c.in-Settled.region c.in-Settled.at c.in-Settled.layers c.in-Settled.is c.requires.shape rounds in
    let count = told.layers.many in
    let early = told.early in
    let bounded : length layers ≤ last = omega (arith, count, early) in
    grown_few about sides end c.in_ok-part-in-Settled.part.region c.requires.end_few c.requires.shape rounds.point rounds.of layers told.layers.each
    (λ m is. last_before about last m (length layers) c.requires.search.last is bounded) c.in_ok-part-in-Settled.ensures.region

pub returns-clause-bounded : goal.returns-clause-bounded
returns-clause-bounded c =
    let about = system_of c.args.search.now in
    let last = c.args.search.now.last in
    let sides = c.args.sides.now in
    let end = c.args.end in
    let layers = c.in-Open.layers.items in
    let rounds = c.in_ok-layers.ensures.rounds in
    let told = open_layers about last sides end c.in_ok-layers.field-0 c.in-Open.region c.in-Open.layers c.in-Open.is c.requires.shape rounds in
    let count = told.layers.many in
    let early : last ≤ last = omega arith in
    let bounded : length layers ≤ last = omega (arith, count, early) in
    grown_few about sides end c.in_ok-part-in-Open.part.region c.requires.end_few c.requires.shape rounds.point rounds.of layers told.layers.each
    (λ m is. last_before about last m (length layers) c.requires.search.last is bounded) c.in_ok-part-in-Open.ensures.region

pub returns-in_err-part-in-Settled-clause-counted : goal.returns-in_err-part-in-Settled-clause-counted
returns-in_err-part-in-Settled-clause-counted c =
    let about = system_of c.args.search.now in
    let budget = c.args.search.now.setting.now.budget.now in
    let last = c.args.search.now.last in
    let sides = c.args.sides.now in
    let end = c.args.end in
    let layers = c.in-Settled.layers.items in
    let limits = c.variables-variables.ensures.limits in
    let rounds = c.in_ok-layers.ensures.rounds in
    let told = settled_layers about last sides end c.in_ok-layers.field-0 c.in-Settled.region c.in-Settled.at c.in-Settled.layers c.in-Settled.is c.requires.shape rounds in
    let count = told.layers.many in
    let early = told.early in
    let bounded : length layers ≤ last = omega (arith, count, early) in
    let asks = λ (a : Question). (AsksEnds sides end.pieces.items a ⊎ AsksLayers about sides end.pieces.items layers a) in
    passed_on (IsCountedAlong about budget (last + 2) sides) c.from_residual-in_err-part-in-Settled.result c.from_residual-in_err-part-in-Settled.ensures.1
    (λ r is. cover_along about sides budget (last + 2) asks
    (λ a w. asked_less about (last + 2) (last + 2) end (arguments sides) a (omega arith) c.requires.built
    (λ s h m. until_asked about last sides end s h m layers (answer_built about last sides end s h m c.in_ok-layers.field-0 rounds layers bounded told.layers.each limits.cases) a w))
    (until_targets about sides c.requires.shape limits.starts end layers
    (grown_joined about sides end c.requires.end_few c.requires.shape rounds.point rounds.of layers told.layers.each (λ m o. last_before about last m (length layers) c.requires.search.last o bounded)))
    c.in_err-part-in-Settled.field-0.0 r is c.in_err-part-in-Settled.ensures.refusals)

pub returns-in_err-part-in-Open-clause-counted : goal.returns-in_err-part-in-Open-clause-counted
returns-in_err-part-in-Open-clause-counted c =
    let about = system_of c.args.search.now in
    let budget = c.args.search.now.setting.now.budget.now in
    let last = c.args.search.now.last in
    let sides = c.args.sides.now in
    let end = c.args.end in
    let layers = c.in-Open.layers.items in
    let limits = c.variables-variables.ensures.limits in
    let rounds = c.in_ok-layers.ensures.rounds in
    let told = open_layers about last sides end c.in_ok-layers.field-0 c.in-Open.region c.in-Open.layers c.in-Open.is c.requires.shape rounds in
    let count = told.layers.many in
    let early : last ≤ last = omega arith in
    let bounded : length layers ≤ last = omega (arith, count, early) in
    let asks = λ (a : Question). (AsksEnds sides end.pieces.items a ⊎ AsksLayers about sides end.pieces.items layers a) in
    passed_on (IsCountedAlong about budget (last + 2) sides) c.from_residual-in_err-part-in-Open.result c.from_residual-in_err-part-in-Open.ensures.1
    (λ r is. cover_along about sides budget (last + 2) asks
    (λ a w. asked_less about (last + 2) (last + 2) end (arguments sides) a (omega arith) c.requires.built
    (λ s h m. until_asked about last sides end s h m layers (answer_built about last sides end s h m c.in_ok-layers.field-0 rounds layers bounded told.layers.each limits.cases) a w))
    (until_targets about sides c.requires.shape limits.starts end layers
    (grown_joined about sides end c.requires.end_few c.requires.shape rounds.point rounds.of layers told.layers.each (λ m o. last_before about last m (length layers) c.requires.search.last o bounded)))
    c.in_err-part-in-Open.field-0.0 r is c.in_err-part-in-Open.ensures.refusals)

pub returns-in-Settled-clause-known : goal.returns-in-Settled-clause-known
returns-in-Settled-clause-known c none =
    let about = system_of c.args.search.now in
    let last = c.args.search.now.last in
    let sides = c.args.sides.now in
    let end = c.args.end in
    let round = c.in-Settled.region in
    let at = c.in-Settled.at in
    let layers = c.in-Settled.layers.items in
    let rounds = c.in_ok-layers.ensures.rounds in
    let told = settled_layers about last sides end c.in_ok-layers.field-0 round at c.in-Settled.layers c.in-Settled.is c.requires.shape rounds in
    settled_known about c.variables-variables.ensures.limits.cases sides end rounds.point rounds.of c.requires.end c.requires.shape layers told.layers.each c.in_ok-part-in-Settled.part.region c.in_ok-part-in-Settled.ensures.region
    c.args.search.now.alone last at round told

pub returns-clause-known : goal.returns-clause-known
returns-clause-known c none =
    let about = system_of c.args.search.now in
    let last = c.args.search.now.last in
    let sides = c.args.sides.now in
    let end = c.args.end in
    let round = c.in-Open.region in
    let layers = c.in-Open.layers.items in
    let rounds = c.in_ok-layers.ensures.rounds in
    let told = open_layers about last sides end c.in_ok-layers.field-0 round c.in-Open.layers c.in-Open.is c.requires.shape rounds in
    open_known about c.variables-variables.ensures.limits.cases sides end rounds.point rounds.of c.requires.end c.requires.shape layers told.layers.each c.in_ok-part-in-Open.part.region c.in_ok-part-in-Open.ensures.region
    c.args.search.now.alone last round told none
