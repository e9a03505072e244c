use Rattle.std.proofs.Common.{refl, sym, ◌+◌, subst, arith}
use Rattle.tv_pre.specs.Along.{arguments}
use Rattle.tv_pre.specs.Built.{IsFaultOf}
use Rattle.tv_pre.specs.KnownStates.{IsNotRanked}
use Rattle.tv_pre.specs.RankedAlong.{IsRankedAlong, IsUntoldAlong}
use Rattle.tv_pre.specs.Search.{system_of}
use Rattle.tv_pre.specs.Sized.{IsFewRanked}
use Rattle.tv_pre.proofs.AlongLemmas.{along_less, given_less}
use Rattle.tv_pre.proofs.PassedLemmas.{passed_on}
use Rattle.tv_formula.specs.Properties.{fix}
use Rattle.tv_pre.proofs.FullAlongLemmas.{all_full}
use Rattle.tv_pre.proofs.KnownAlongLemmas.{everywhere_known, beside_none, tame_cases, whatever_gap, without_gap}
use Rattle.tv_pre.specs.Counted.{IsCountedAlong, IsUntoldCount}
use Rattle.tv_pre.proofs.along.by_ranks.Goals as goal

pub returns-in_err-part-clause-refused : goal.returns-in_err-part-clause-refused
returns-in_err-part-clause-refused c =
    let about = system_of c.args.search.now in
    let budget = c.args.search.now.setting.now.budget.now in
    let last = c.args.search.now.last in
    let given = arguments c.args.sides.now in
    passed_on (IsFaultOf about budget (last + 2) given) c.from_residual.result c.from_residual.ensures.1
    (λ r is. given_less about budget 2 (last + 2) c.args.end given c.in_err-part.field-0.0 r (omega arith) is c.requires.built c.in_err-part.ensures.refused)

pub returns-in-Everywhere-clause-along : goal.returns-in-Everywhere-clause-along
returns-in-Everywhere-clause-along c =
    let about = system_of c.args.search.now in
    let last = c.args.search.now.last in
    let sides = c.args.sides.now in
    let children = c.args.children.items in
    let end = c.args.end in
    let told = subst (IsRankedAlong about sides children end) c.in-Everywhere.is c.in_ok-part.ensures.along in
    along_less about 2 (last + 2) end (arguments sides) sides children c.in-Everywhere.part (omega arith) c.requires.built told.0

pub returns-in-Everywhere-clause-full : goal.returns-in-Everywhere-clause-full
returns-in-Everywhere-clause-full c none f g x y =
    let about = system_of c.args.search.now in
    let sides = c.args.sides.now in
    let told = subst (IsRankedAlong about sides c.args.children.items c.args.end) c.in-Everywhere.is c.in_ok-part.ensures.along in
    all_full about (fix sides.path sides.shape f g) c.in-Everywhere.part.region told.1

pub returns-in-Some-clause-refused : goal.returns-in-Some-clause-refused
returns-in-Some-clause-refused c =
    let about = system_of c.args.search.now in
    let budget = c.args.search.now.setting.now.budget.now in
    let last = c.args.search.now.last in
    let sides = c.args.sides.now in
    let given = arguments sides in
    let told = subst (IsUntoldAlong about budget sides c.args.end) c.in-Untold.is c.in_ok-part.ensures.untold in
    given_less about budget 2 (last + 2) c.args.end given c.in-Untold.fault c.in-Untold.fault (omega arith) refl c.requires.built told

pub returns-in-Everywhere-clause-bounded : goal.returns-in-Everywhere-clause-bounded
returns-in-Everywhere-clause-bounded c = subst (IsFewRanked (system_of c.args.search.now) c.args.sides.now) c.in-Everywhere.is c.in_ok-part.ensures.bounded

pub returns-in_err-part-clause-counted : goal.returns-in_err-part-clause-counted
returns-in_err-part-clause-counted c =
    let P = IsCountedAlong (system_of c.args.search.now) c.args.search.now.setting.now.budget.now (c.args.search.now.last + 2) c.args.sides.now in
    passed_on P c.from_residual.result c.from_residual.ensures.1 (λ r is. subst P (sym is) (c.in_err-part.ensures.counted c.args.search.now.last))

pub returns-in-Some-clause-counted : goal.returns-in-Some-clause-counted
returns-in-Some-clause-counted c =
    let told = subst (IsUntoldCount (system_of c.args.search.now) c.args.search.now.setting.now.budget.now c.args.sides.now) c.in-Untold.is c.in_ok-part.ensures.untold_count in
    told c.args.search.now.last

pub returns-in-Everywhere-clause-known : goal.returns-in-Everywhere-clause-known
returns-in-Everywhere-clause-known c s h m tame =
    let about = system_of c.args.search.now in
    let sides = c.args.sides.now in
    let told = subst (IsRankedAlong about sides c.args.children.items c.args.end) c.in-Everywhere.is c.in_ok-part.ensures.along in
    everywhere_known about sides c.requires.path c.args.search.now.alone c.args.search.now.last c.in-Everywhere.part.region c.requires.shape c.requires.ranking.lexicographic told.2 told.1

pub returns-in_ok-by_rounds-in-Unsettled-clause-known : goal.returns-in_ok-by_rounds-in-Unsettled-clause-known
returns-in_ok-by_rounds-in-Unsettled-clause-known c s h m tame =
    let about = system_of c.args.search.now in
    let sides = c.args.sides.now in
    let told = subst (IsRankedAlong about sides c.args.children.items c.args.end) c.in-Unsettled.is c.in_ok-part.ensures.along in
    c.in_ok-by_rounds-in-Unsettled.ensures.known s h m tame
    (whatever_gap (IsNotRanked about sides) c.in_ok-by_rounds-in-Unsettled.field-0.gap (beside_none about sides c.requires.path (tame_cases about s tame) told.2))

pub returns-in-None-clause-known : goal.returns-in-None-clause-known
returns-in-None-clause-known c s h m tame =
    let none = without_gap (IsNotRanked (system_of c.args.search.now) c.args.sides.now) c.in_ok-along-in-Untold.along.gap c.in-None.is in
    c.in_ok-along-in-Untold.ensures.known s h m tame none
