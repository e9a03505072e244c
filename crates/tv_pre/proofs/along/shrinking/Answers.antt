use Rattle.std.proofs.Common.{refl, ◌+◌, ◌∷◌, [], false, sym, subst, arith}
use Rattle.tv_pre.specs.Search.{system_of}
use Rattle.tv_pre.specs.Along.{arguments}
use Rattle.tv_pre.specs.Fixed.{AsksStaying}
use Rattle.tv_pre.specs.Parts.{joined_pieces}
use Rattle.tv_pre.specs.Built.{IsFaultOf, IsPreFault}
use Rattle.tv_pre.proofs.BuiltLemmas.{all_built_to, fault_to}
use Rattle.tv_pre.proofs.PassedLemmas.{passed_on, cover_fault, fault_again}
use Rattle.tv_pre.proofs.ExactLemmas.{open_sides}
use Rattle.tv_pre.proofs.AlongLemmas.{asked_less, open_rounds, open_round, settled_stays, settled_round, round_sides, round_built, weak_built, weak_asked, is_along, along_more}
use Rattle.tv_rounds.specs.Answers.{IsExactBy, IsFullBy}
use Rattle.tv_known.specs.Rounds.{must_end}
use Rattle.tv_pre.proofs.FullAlongLemmas.{shrunk_full}
use Rattle.tv_pre.proofs.KnownAlongLemmas.{shrunk_known, shrunk_holding, none_known}
use Rattle.tv_pre.proofs.SizedLemmas.{shrunk_joined, shrunk_few, one_later}
use Rattle.tv_pre.specs.Counted.{IsCountedAlong}
use Rattle.tv_pre.proofs.CountedLemmas.{cover_along, onward_along}
use Rattle.tv_pre.proofs.FewTargets.{weak_targets}
use Rattle.tv_pre.proofs.along.shrinking.Goals as goal

pub returns-in_err-region-clause-refused : goal.returns-in_err-region-clause-refused
returns-in_err-region-clause-refused c =
    let about = system_of c.args.search.now in
    let budget = c.args.search.now.setting.now.budget.now in
    let last = c.args.search.now.last in
    let given = c.args.end ∷ arguments c.args.sides.now in
    passed_on (IsFaultOf about budget (last + 2) given) c.from_residual.result c.from_residual.ensures.1
    (λ r is. fault_again about budget (last + 1) (last + 2) given c.in_err-region.field-0.0 r (omega arith) is c.in_err-region.ensures.refused)

pub onward-requires-clause-over : goal.onward-requires-clause-over
onward-requires-clause-over c =
    let about = system_of c.args.search.now in
    let rounds = c.in_ok-region.ensures.rounds in
    let told = settled_round about c.args.search.now.last c.args.sides.now c.args.end c.in_ok-region.field-0 c.in-Settled.region c.in-Settled.at c.in-Settled.layers c.in-Settled.is c.requires.shape rounds in
    told.round.set.fits

pub returns-in_err-more-in-Settled-clause-refused : goal.returns-in_err-more-in-Settled-clause-refused
returns-in_err-more-in-Settled-clause-refused c =
    let about = system_of c.args.search.now in
    let budget = c.args.search.now.setting.now.budget.now in
    let last = c.args.search.now.last in
    let sides = c.args.sides.now in
    let end = c.args.end in
    let round = c.in-Settled.region in
    let rounds = c.in_ok-region.ensures.rounds in
    let told = settled_round about last sides end c.in_ok-region.field-0 round c.in-Settled.at c.in-Settled.layers c.in-Settled.is c.requires.shape rounds in
    let fault = c.in_err-more-in-Settled.field-0.0 in
    passed_on (IsFaultOf about budget (last + 2) (end ∷ arguments sides)) c.from_residual-in_err-more-in-Settled.result c.from_residual-in_err-more-in-Settled.ensures.1
    (λ r is s h m. subst (IsPreFault about s budget ((last + 2) + h)) (sym is) (fault_to about s budget (1 + (last + h)) ((last + 2) + h) fault (omega arith)
    (c.in_err-more-in-Settled.ensures.refused s (last + h) (round_sides about last sides end s h m round (round_built about last sides end s h m c.in_ok-region.field-0 rounds c.in-Settled.at round told.early told.round)))))

pub weak-requires-clause-staying : goal.weak-requires-clause-staying
weak-requires-clause-staying c =
    let about = system_of c.args.search.now in
    let sides = c.args.sides.now in
    let end = c.args.end in
    let round = c.in-Settled.region in
    let rounds = c.in_ok-region.ensures.rounds in
    let told = settled_round about c.args.search.now.last sides end c.in_ok-region.field-0 round c.in-Settled.at c.in-Settled.layers c.in-Settled.is c.requires.shape rounds in
    settled_stays about c.variables-variables.ensures.limits.cases sides end rounds.point rounds.of c.in-Settled.at round c.in_ok-more-in-Settled.more told.round told.settled rounds.tame c.requires.end c.in_ok-more-in-Settled.ensures.onward

pub returns-in_err-part-in-Settled-clause-refused : goal.returns-in_err-part-in-Settled-clause-refused
returns-in_err-part-in-Settled-clause-refused c =
    let about = system_of c.args.search.now in
    let budget = c.args.search.now.setting.now.budget.now in
    let last = c.args.search.now.last in
    let sides = c.args.sides.now in
    let end = c.args.end in
    let round = c.in-Settled.region in
    let onward = c.in_ok-more-in-Settled.more in
    let rounds = c.in_ok-region.ensures.rounds in
    let told = settled_round about last sides end c.in_ok-region.field-0 round c.in-Settled.at c.in-Settled.layers c.in-Settled.is c.requires.shape rounds in
    let asks = AsksStaying about sides end.pieces.items onward.pieces.items (joined_pieces (end ∷ onward ∷ [])) in
    passed_on (IsFaultOf about budget (last + 2) (end ∷ arguments sides)) c.from_residual-in_err-part-in-Settled.result c.from_residual-in_err-part-in-Settled.ensures.1
    (λ r is s h m. cover_fault about budget s ((last + 2) + h) asks
    (weak_asked about last sides end s h m onward (c.in_ok-more-in-Settled.ensures.built s (last + h) (round_sides about last sides end s h m round (round_built about last sides end s h m c.in_ok-region.field-0 rounds c.in-Settled.at round told.early told.round))))
    c.in_err-part-in-Settled.field-0.0 r is c.in_err-part-in-Settled.ensures.refusals)

pub returns-in-Settled-clause-along : goal.returns-in-Settled-clause-along
returns-in-Settled-clause-along c =
    let about = system_of c.args.search.now in
    let last = c.args.search.now.last in
    let sides = c.args.sides.now in
    let end = c.args.end in
    let round = c.in-Settled.region in
    let onward = c.in_ok-more-in-Settled.more in
    let rounds = c.in_ok-region.ensures.rounds in
    let told = settled_round about last sides end c.in_ok-region.field-0 round c.in-Settled.at c.in-Settled.layers c.in-Settled.is c.requires.shape rounds in
    is_along about (last + 1) (last + 2) sides c.args.children.items c.in_ok-part-in-Settled.part (end ∷ onward ∷ []) (end ∷ arguments sides) (omega arith) (omega arith) c.in_ok-part-in-Settled.ensures.region
    (λ f g w. c.in_ok-part-in-Settled.ensures.part f g w)
    (λ s h m. weak_built about last sides end s h m onward (c.in_ok-more-in-Settled.ensures.built s (last + h) (round_sides about last sides end s h m round (round_built about last sides end s h m c.in_ok-region.field-0 rounds c.in-Settled.at round told.early told.round))))

pub returns-in-Settled-clause-full : goal.returns-in-Settled-clause-full
returns-in-Settled-clause-full c none =
    let about = system_of c.args.search.now in
    let sides = c.args.sides.now in
    let end = c.args.end in
    let round = c.in-Settled.region in
    let rounds = c.in_ok-region.ensures.rounds in
    let told = settled_round about c.args.search.now.last sides end c.in_ok-region.field-0 round c.in-Settled.at c.in-Settled.layers c.in-Settled.is c.requires.shape rounds in
    shrunk_full about c.variables-variables.ensures.limits.cases sides end rounds.point rounds.of c.requires.sides c.requires.end c.in-Settled.at round c.in_ok-more-in-Settled.more c.in_ok-part-in-Settled.part.region told.round told.settled rounds.tame c.in_ok-more-in-Settled.ensures.onward
    (subst (IsFullBy (must_end sides.shape) about rounds.point) c.in-Settled.is rounds.full) c.in_ok-part-in-Settled.ensures.region

pub returns-in_err-part-in-Open-clause-refused : goal.returns-in_err-part-in-Open-clause-refused
returns-in_err-part-in-Open-clause-refused c =
    let about = system_of c.args.search.now in
    let budget = c.args.search.now.setting.now.budget.now in
    let last = c.args.search.now.last in
    let given = c.args.end ∷ arguments c.args.sides.now in
    passed_on (IsFaultOf about budget (last + 2) given) c.from_residual-in_err-part-in-Open.result c.from_residual-in_err-part-in-Open.ensures.1
    (λ r is. fault_again about budget 1 (last + 2) given c.in_err-part-in-Open.field-0.0 r (omega arith) is c.in_err-part-in-Open.ensures.refused)

pub returns-clause-along : goal.returns-clause-along
returns-clause-along c = along_more (system_of c.args.search.now) 1 (c.args.search.now.last + 2) (c.args.end ∷ arguments c.args.sides.now) (c.args.end ∷ arguments c.args.sides.now) c.args.sides.now c.args.children.items c.in_ok-part-in-Open.part (omega arith) (λ s h m. all_built_to (system_of c.args.search.now) s h (0 + h) (c.args.end ∷ arguments c.args.sides.now) (omega arith) m) c.in_ok-part-in-Open.ensures.along

pub returns-clause-gap : goal.returns-clause-gap
returns-clause-gap c =
    let rounds = c.in_ok-region.ensures.rounds in
    let about = system_of c.args.search.now in (
      refl,
      open_sides about c.variables-variables.ensures.limits.cases c.args.sides.now c.args.end rounds.point rounds.of c.requires.end c.args.search.now.last
          (open_rounds about c.args.search.now.last c.args.sides.now c.args.end c.in_ok-region.field-0 c.in-Open.region c.in-Open.layers c.in-Open.is rounds),
    )

pub returns-in-Settled-clause-bounded : goal.returns-in-Settled-clause-bounded
returns-in-Settled-clause-bounded c =
    let about = system_of c.args.search.now in
    let last = c.args.search.now.last in
    let sides = c.args.sides.now in
    let end = c.args.end in
    let round = c.in-Settled.region in
    let at = c.in-Settled.at in
    let rounds = c.in_ok-region.ensures.rounds in
    let limits = c.variables-variables.ensures.limits in
    let told = settled_round about last sides end c.in_ok-region.field-0 round at c.in-Settled.layers c.in-Settled.is c.requires.shape rounds in
    shrunk_few about sides end c.in_ok-part-in-Settled.part.region c.requires.end_few c.requires.shape rounds.point rounds.of at round c.in_ok-more-in-Settled.more told.round c.in_ok-more-in-Settled.ensures.bounded
    (λ m is. one_later about limits.cases last m at limits.starts c.requires.search.last is told.early false rounds.point told.open_before) c.in_ok-part-in-Settled.ensures.region

pub returns-in_err-more-in-Settled-clause-counted : goal.returns-in_err-more-in-Settled-clause-counted
returns-in_err-more-in-Settled-clause-counted c =
    let about = system_of c.args.search.now in
    let budget = c.args.search.now.setting.now.budget.now in
    let last = c.args.search.now.last in
    let sides = c.args.sides.now in
    let end = c.args.end in
    let round = c.in-Settled.region in
    let at = c.in-Settled.at in
    let rounds = c.in_ok-region.ensures.rounds in
    let limits = c.variables-variables.ensures.limits in
    let told = settled_round about last sides end c.in_ok-region.field-0 round at c.in-Settled.layers c.in-Settled.is c.requires.shape rounds in
    let fault = c.in_err-more-in-Settled.field-0.0 in
    let P = IsCountedAlong about budget (last + 2) sides in
    passed_on P c.from_residual-in_err-more-in-Settled.result c.from_residual-in_err-more-in-Settled.ensures.1
    (λ r is. subst P (sym is)
    (onward_along about sides end c.requires.end_few rounds.point rounds.of budget (last + 2) c.requires.shape at round told.round
    (λ m o. one_later about limits.cases last m at limits.starts c.requires.search.last o told.early false rounds.point told.open_before) fault c.in_err-more-in-Settled.ensures.counted))

pub returns-in_err-part-in-Settled-clause-counted : goal.returns-in_err-part-in-Settled-clause-counted
returns-in_err-part-in-Settled-clause-counted c =
    let about = system_of c.args.search.now in
    let budget = c.args.search.now.setting.now.budget.now in
    let last = c.args.search.now.last in
    let sides = c.args.sides.now in
    let end = c.args.end in
    let round = c.in-Settled.region in
    let at = c.in-Settled.at in
    let more = c.in_ok-more-in-Settled.more in
    let rounds = c.in_ok-region.ensures.rounds in
    let limits = c.variables-variables.ensures.limits in
    let told = settled_round about last sides end c.in_ok-region.field-0 round at c.in-Settled.layers c.in-Settled.is c.requires.shape rounds in
    let asks = AsksStaying about sides end.pieces.items more.pieces.items (joined_pieces (end ∷ more ∷ [])) in
    passed_on (IsCountedAlong about budget (last + 2) sides) c.from_residual-in_err-part-in-Settled.result c.from_residual-in_err-part-in-Settled.ensures.1
    (λ r is. cover_along about sides budget (last + 2) asks
    (λ a w. asked_less about (last + 2) (last + 2) end (arguments sides) a (omega arith) c.requires.built
    (λ s h m. weak_asked about last sides end s h m more
    (c.in_ok-more-in-Settled.ensures.built s (last + h) (round_sides about last sides end s h m round (round_built about last sides end s h m c.in_ok-region.field-0 rounds at round told.early told.round))) a w))
    (weak_targets about sides c.requires.shape end more
    (shrunk_joined about sides end c.requires.end_few c.requires.shape rounds.point rounds.of at round more told.round c.in_ok-more-in-Settled.ensures.bounded
    (λ m o. one_later about limits.cases last m at limits.starts c.requires.search.last o told.early false rounds.point told.open_before)))
    c.in_err-part-in-Settled.field-0.0 r is c.in_err-part-in-Settled.ensures.refusals)

pub returns-in-Settled-clause-known : goal.returns-in-Settled-clause-known
returns-in-Settled-clause-known c none =
    let about = system_of c.args.search.now in
    let last = c.args.search.now.last in
    let sides = c.args.sides.now in
    let end = c.args.end in
    let round = c.in-Settled.region in
    let at = c.in-Settled.at in
    let rounds = c.in_ok-region.ensures.rounds in
    let told = settled_round about last sides end c.in_ok-region.field-0 round at c.in-Settled.layers c.in-Settled.is c.requires.shape rounds in
    shrunk_known about c.variables-variables.ensures.limits.cases sides end rounds.point rounds.of c.requires.end c.requires.shape c.args.search.now.alone last at round c.in_ok-more-in-Settled.more c.in_ok-part-in-Settled.part.region
    c.in-Settled.layers.items told rounds.tame c.in_ok-more-in-Settled.ensures.onward c.in_ok-part-in-Settled.ensures.region

pub returns-clause-known : goal.returns-clause-known
returns-clause-known c none =
    let about = system_of c.args.search.now in
    let last = c.args.search.now.last in
    let sides = c.args.sides.now in
    let end = c.args.end in
    let rounds = c.in_ok-region.ensures.rounds in
    let told = open_round about last sides end c.in_ok-region.field-0 c.in-Open.region c.in-Open.layers c.in-Open.is c.requires.shape rounds in
    none_known about c.variables-variables.ensures.limits.cases sides end rounds.point rounds.of c.requires.end c.requires.shape c.args.search.now.alone last c.in-Open.region c.in_ok-part-in-Open.part.region
    c.in-Open.layers.items told c.in_ok-part-in-Open.ensures.none

pub returns-in-Settled-clause-holding : goal.returns-in-Settled-clause-holding
returns-in-Settled-clause-holding c may none s is h =
    let about = system_of c.args.search.now in
    let sides = c.args.sides.now in
    let end = c.args.end in
    let round = c.in-Settled.region in
    let rounds = c.in_ok-region.ensures.rounds in
    let told = settled_round about c.args.search.now.last sides end c.in_ok-region.field-0 round c.in-Settled.at c.in-Settled.layers c.in-Settled.is c.requires.shape rounds in
    shrunk_holding about c.variables-variables.ensures.limits.cases sides end rounds.point rounds.of c.requires.end c.requires.shape c.in-Settled.at round c.in_ok-more-in-Settled.more c.in_ok-part-in-Settled.part.region
    told.round rounds.tame c.in_ok-more-in-Settled.ensures.onward told.settled (subst (IsExactBy (must_end sides.shape) about rounds.point) c.in-Settled.is rounds.exact) c.in_ok-part-in-Settled.ensures.region s is h
