use Rattle.std.proofs.Common.{◌+◌, arith, sym, subst, rules}
use Rattle.tv_pre.specs.Search.{system_of}
use Rattle.tv_pre.specs.Along.{arguments}
use Rattle.tv_pre.specs.Built.{IsFaultOf}
use Rattle.tv_pre.specs.KnownStates.{IsNotRanked}
use Rattle.tv_pre.specs.Unserved.{IsUnranked}
use Rattle.tv_pre.proofs.KnownAlongLemmas.{any_none, unranked_none, whatever_gap}
use Rattle.tv_pre.proofs.PassedLemmas.{passed_on, fault_again}
use Rattle.tv_pre.specs.Counted.{IsCountedAlong}
use Rattle.tv_pre.proofs.CountedLemmas.{end_along}
use Rattle.tv_pre.proofs.along.part_along.Goals as goal

pub returns-in_err-end-clause-refused : goal.returns-in_err-end-clause-refused
returns-in_err-end-clause-refused c =
    let about = system_of c.args.search.now in
    let budget = c.args.search.now.setting.now.budget.now in
    let last = c.args.search.now.last in
    let given = arguments c.args.sides.now in
    passed_on (IsFaultOf about budget (last + 2) given) c.from_residual.result c.from_residual.ensures.1
    (λ r is. fault_again about budget 0 (last + 2) given c.in_err-end.field-0.0 r (omega arith) is c.in_err-end.ensures.refused)

pub returns-in_err-end-clause-counted : goal.returns-in_err-end-clause-counted
returns-in_err-end-clause-counted c =
    let about = system_of c.args.search.now in
    let budget = c.args.search.now.setting.now.budget.now in
    let last = c.args.search.now.last in
    let sides = c.args.sides.now in
    let P = IsCountedAlong about budget (last + 2) sides in
    passed_on P c.from_residual.result c.from_residual.ensures.1
    (λ r is. subst P (sym is) (end_along about sides budget (last + 2) c.in_err-end.field-0.0 c.in_err-end.ensures.counted))

pub returns-then-not-must_come-clause-known : goal.returns-then-not-must_come-clause-known
returns-then-not-must_come-clause-known c s h m tame =
    let about = system_of c.args.search.now in
    let sides = c.args.sides.now in
    c.in_ok-by_rounds.ensures.known s h m tame (whatever_gap (IsNotRanked about sides) c.in_ok-by_rounds.field-0.gap (any_none about sides (c.must_come.ensures.other c.if-not-must_come.true)))

pub returns-in_ok-by_rounds-in-Some-Lacking-clause-known : goal.returns-in_ok-by_rounds-in-Some-Lacking-clause-known
returns-in_ok-by_rounds-in-Some-Lacking-clause-known c s h m tame =
    let about = system_of c.args.search.now in
    let sides = c.args.sides.now in
    let comes = c.must_come.ensures.comes c.if-not-must_come.false in
    let lacks : IsUnranked about = search rules in
    c.in_ok-by_rounds-in-Some-Lacking.ensures.known s h m tame (whatever_gap (IsNotRanked about sides) c.in_ok-by_rounds-in-Some-Lacking.field-0.gap (unranked_none about sides comes.0 lacks))
