use Rattle.std.proofs.Common.{sym, subst, ◌+◌}
use Rattle.tv_cases.specs.Systems.{cases_of}
use Rattle.tv_pre.specs.Along.{arguments}
use Rattle.tv_pre.specs.Built.{IsPreFault, in_both, of_both, of_everywhere, IsFaultOf}
use Rattle.tv_pre.proofs.BuiltLemmas.{one_built}
use Rattle.tv_pre.proofs.PassedLemmas.{passed_on, region_fault}
use Rattle.tv_pre.proofs.RankedAlongLemmas.{going_is, hold_side_at}
use Rattle.tv_pre.proofs.SetLemmas.{hold_over}
use Rattle.tv_pre.proofs.SizedLemmas.{going_few}
use Rattle.tv_pre.specs.Counted.{IsCountedGoing}
use Rattle.tv_pre.proofs.CountedLemmas.{goes_going, going_counted}
use Rattle.tv_pre.proofs.ranked_along.going.Goals as goal

pub returns-in_err-goes-clause-refused : goal.returns-in_err-goes-clause-refused
returns-in_err-goes-clause-refused c =
    let about = cases_of c.args.setting.now.about.now in
    let budget = c.args.setting.now.budget.now in
    let all = c.in_ok-anywhere.anywhere in
    passed_on (IsFaultOf about budget 1 (arguments c.args.sides.now)) c.from_residual-in_err-goes.result c.from_residual-in_err-goes.ensures.1
    (λ r is s h m. subst (IsPreFault about s budget (1 + h)) (sym is) (c.in_err-goes.ensures.refused s h (one_built about s h all (of_everywhere h all c.in_ok-anywhere.ensures))))

pub returns-in_err-both-clause-refused : goal.returns-in_err-both-clause-refused
returns-in_err-both-clause-refused c =
    let about = cases_of c.args.setting.now.about.now in
    let budget = c.args.setting.now.budget.now in
    let sides = c.args.sides.now in
    let all = c.in_ok-anywhere.anywhere in
    let hold = c.hold_of.result.now in
    let fault = c.in_err-both.field-0.0 in
    passed_on (IsFaultOf about budget 1 (arguments sides)) c.from_residual-in_err-both.result c.from_residual-in_err-both.ensures.1
    (λ r is s h m. region_fault about budget s (1 + h) fault r is
    (in_both (1 + h) hold c.in_ok-goes.goes fault (hold_side_at about sides hold c.hold_of.ensures s h m)
    (c.in_ok-goes.ensures.built s h (one_built about s h all (of_everywhere h all c.in_ok-anywhere.ensures))) c.in_err-both.ensures.refused))

pub returns-clause-going : goal.returns-clause-going
returns-clause-going c =
    let about = cases_of c.args.setting.now.about.now in
    let sides = c.args.sides.now in
    let hold = c.hold_of.result.now in
    going_is about c.variables-variables.ensures.limits.cases sides c.in_ok-anywhere.anywhere c.in_ok-goes.goes hold c.in_ok-both.field-0 c.in_ok-anywhere.ensures c.hold_of.ensures (hold_over about sides hold c.hold_of.ensures c.requires.sides) c.in_ok-goes.ensures.before c.in_ok-both.ensures.both

pub returns-clause-built : goal.returns-clause-built
returns-clause-built c =
    let about = cases_of c.args.setting.now.about.now in
    let sides = c.args.sides.now in
    let all = c.in_ok-anywhere.anywhere in
    let hold = c.hold_of.result.now in
    (λ s h m. of_both (1 + h) hold c.in_ok-goes.goes c.in_ok-both.field-0 (hold_side_at about sides hold c.hold_of.ensures s h m)
    (c.in_ok-goes.ensures.built s h (one_built about s h all (of_everywhere h all c.in_ok-anywhere.ensures))) c.in_ok-both.ensures.both)

pub returns-clause-bounded : goal.returns-clause-bounded
returns-clause-bounded c = going_few (cases_of c.args.setting.now.about.now) c.args.sides.now c.in_ok-anywhere.anywhere c.in_ok-goes.goes c.hold_of.result.now c.in_ok-both.field-0 c.in_ok-anywhere.ensures c.hold_of.ensures c.in_ok-goes.ensures.bounded c.in_ok-both.ensures.both

pub returns-in_err-goes-clause-counted : goal.returns-in_err-goes-clause-counted
returns-in_err-goes-clause-counted c =
    let about = cases_of c.args.setting.now.about.now in
    let sides = c.args.sides.now in
    let P = IsCountedGoing about sides in
    passed_on P c.from_residual-in_err-goes.result c.from_residual-in_err-goes.ensures.1
    (λ r is. subst P (sym is) (goes_going about sides c.in_ok-anywhere.anywhere c.in_err-goes.field-0.0 c.in_ok-anywhere.ensures c.in_err-goes.ensures.counted))

pub returns-in_err-both-clause-counted : goal.returns-in_err-both-clause-counted
returns-in_err-both-clause-counted c =
    let about = cases_of c.args.setting.now.about.now in
    let sides = c.args.sides.now in
    passed_on (IsCountedGoing about sides) c.from_residual-in_err-both.result c.from_residual-in_err-both.ensures.1
    (λ r is. going_counted about sides c.in_ok-anywhere.anywhere c.in_ok-goes.goes c.hold_of.result.now c.args.setting.now.budget.now c.in_err-both.field-0.0 r c.in_ok-anywhere.ensures c.hold_of.ensures c.in_ok-goes.ensures.bounded is c.in_err-both.ensures.refused)
