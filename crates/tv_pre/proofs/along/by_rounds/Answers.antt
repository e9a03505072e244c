use Rattle.std.proofs.Common.{◌+◌, sym, subst, arith}
use Rattle.tv_pre.specs.Search.{system_of}
use Rattle.tv_pre.specs.Along.{arguments}
use Rattle.tv_pre.specs.Finding.{IsTameFor}
use Rattle.tv_pre.specs.Built.{IsFaultOf}
use Rattle.tv_pre.proofs.PassedLemmas.{passed_on}
use Rattle.tv_pre.proofs.AlongLemmas.{along_less, given_less}
use Rattle.tv_pre.proofs.KnownAlongLemmas.{sides_tame}
use Rattle.tv_pre.specs.Counted.{IsCountedAlong}
use Rattle.tv_pre.proofs.along.by_rounds.Goals as goal

pub returns-in_err-part-clause-refused : goal.returns-in_err-part-clause-refused
returns-in_err-part-clause-refused c =
    let about = system_of c.args.search.now in
    let budget = c.args.search.now.setting.now.budget.now in
    let last = c.args.search.now.last in
    let given = arguments c.args.sides.now in
    passed_on (IsFaultOf about budget (last + 2) given) c.from_residual.result c.from_residual.ensures.1
    (λ r is. given_less about budget 1 (last + 2) c.args.end given c.in_err-part.field-0.0 r (omega arith) is c.requires.built c.in_err-part.ensures.refused)

pub returns-then-not-is_tame-clause-along : goal.returns-then-not-is_tame-clause-along
returns-then-not-is_tame-clause-along c =
    let about = system_of c.args.search.now in
    along_less about 1 (c.args.search.now.last + 2) c.args.end (arguments c.args.sides.now) c.args.sides.now c.args.children.items c.in_ok-part.part (omega arith) c.requires.built c.in_ok-part.ensures.along

pub returns-then-not-is_tame-clause-gap : goal.returns-then-not-is_tame-clause-gap
returns-then-not-is_tame-clause-gap c s h m tame =
    let about = system_of c.args.search.now in
    c.is_tame.ensures.wild c.if-not-is_tame.true (sides_tame about c.args.sides.now c.args.end c.hold_of.result.now c.hold_of.ensures c.requires.built s h m tame)

pub growing-requires-clause-tame : goal.growing-requires-clause-tame
growing-requires-clause-tame c =
    let about = system_of c.args.search.now in
    subst (λ hold. IsTameFor about hold c.args.end) c.hold_of.ensures (c.is_tame.ensures.tame c.if-not-is_tame.false)

pub shrinking-requires-clause-tame : goal.shrinking-requires-clause-tame
shrinking-requires-clause-tame c =
    let about = system_of c.args.search.now in
    subst (λ hold. IsTameFor about hold c.args.end) c.hold_of.ensures (c.is_tame.ensures.tame c.if-not-is_tame.false)

pub returns-in_err-growing-clause-refused : goal.returns-in_err-growing-clause-refused
returns-in_err-growing-clause-refused c =
    let about = system_of c.args.search.now in
    let budget = c.args.search.now.setting.now.budget.now in
    let last = c.args.search.now.last in
    let given = arguments c.args.sides.now in
    passed_on (IsFaultOf about budget (last + 2) given) c.from_residual-in_err-growing.result c.from_residual-in_err-growing.ensures.1
    (λ r is. given_less about budget (last + 2) (last + 2) c.args.end given c.in_err-growing.field-0.0 r (omega arith) is c.requires.built c.in_err-growing.ensures.refused)

pub returns-in_ok-growing-clause-along : goal.returns-in_ok-growing-clause-along
returns-in_ok-growing-clause-along c =
    let about = system_of c.args.search.now in
    let last = c.args.search.now.last in
    along_less about (last + 2) (last + 2) c.args.end (arguments c.args.sides.now) c.args.sides.now c.args.children.items c.in_ok-growing.field-0.part (omega arith) c.requires.built c.in_ok-growing.ensures.along

pub returns-in_err-shrinking-clause-refused : goal.returns-in_err-shrinking-clause-refused
returns-in_err-shrinking-clause-refused c =
    let about = system_of c.args.search.now in
    let budget = c.args.search.now.setting.now.budget.now in
    let last = c.args.search.now.last in
    let given = arguments c.args.sides.now in
    passed_on (IsFaultOf about budget (last + 2) given) c.from_residual-in_err-shrinking.result c.from_residual-in_err-shrinking.ensures.1
    (λ r is. given_less about budget (last + 2) (last + 2) c.args.end given c.in_err-shrinking.field-0.0 r (omega arith) is c.requires.built c.in_err-shrinking.ensures.refused)

pub returns-in_ok-shrinking-clause-along : goal.returns-in_ok-shrinking-clause-along
returns-in_ok-shrinking-clause-along c =
    let about = system_of c.args.search.now in
    let last = c.args.search.now.last in
    along_less about (last + 2) (last + 2) c.args.end (arguments c.args.sides.now) c.args.sides.now c.args.children.items c.in_ok-shrinking.field-0.part (omega arith) c.requires.built c.in_ok-shrinking.ensures.along

pub returns-then-not-is_tame-clause-known : goal.returns-then-not-is_tame-clause-known
returns-then-not-is_tame-clause-known c s h m tame =
    let about = system_of c.args.search.now in
    absurd (c.is_tame.ensures.wild c.if-not-is_tame.true (sides_tame about c.args.sides.now c.args.end c.hold_of.result.now c.hold_of.ensures c.requires.built s h m tame))

pub returns-in_err-part-clause-counted : goal.returns-in_err-part-clause-counted
returns-in_err-part-clause-counted c =
    let P = IsCountedAlong (system_of c.args.search.now) c.args.search.now.setting.now.budget.now (c.args.search.now.last + 2) c.args.sides.now in
    passed_on P c.from_residual.result c.from_residual.ensures.1 (λ r is. subst P (sym is) (c.in_err-part.ensures.counted c.args.search.now.last))
