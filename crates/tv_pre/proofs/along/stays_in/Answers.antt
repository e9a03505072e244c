use Rattle.std.proofs.Common.{sym, subst, ◌+◌, ◌∷◌, []}
use Rattle.tv_cases.specs.Systems.{cases_of}
use Rattle.tv_pre.specs.Built.{IsPreFault, in_either, of_either, of_nowhere, IsFaultOf}
use Rattle.tv_pre.proofs.BuiltLemmas.{one_built}
use Rattle.tv_pre.proofs.PassedLemmas.{passed_on, region_fault}
use Rattle.tv_pre.proofs.SetLemmas.{every_stays_at, any_stays_at}
use Rattle.tv_pre.proofs.SizedLemmas.{every_few, any_few}
use Rattle.tv_pre.specs.Counted.{IsCountedStaying}
use Rattle.tv_pre.proofs.CountedLemmas.{before_staying, stops_staying, stay_counted}
use Rattle.tv_pre.proofs.along.stays_in.Goals as goal

pub returns-in_err-stops-in-Any-clause-refused : goal.returns-in_err-stops-in-Any-clause-refused
returns-in_err-stops-in-Any-clause-refused c =
    let about = cases_of c.args.setting.now.about.now in
    let budget = c.args.setting.now.budget.now in
    let none = c.nowhere.result in
    passed_on (IsFaultOf about budget 1 (c.args.region.now ∷ [])) c.from_residual-in_err-stops-in-Any.result c.from_residual-in_err-stops-in-Any.ensures.1
    (λ r is s h m. subst (IsPreFault about s budget (1 + h)) (sym is) (c.in_err-stops-in-Any.ensures.refused s h (one_built about s h none (of_nowhere h none c.nowhere.ensures))))

pub returns-in_err-either-in-Any-clause-refused : goal.returns-in_err-either-in-Any-clause-refused
returns-in_err-either-in-Any-clause-refused c =
    let about = cases_of c.args.setting.now.about.now in
    let budget = c.args.setting.now.budget.now in
    let none = c.nowhere.result in
    let fault = c.in_err-either-in-Any.field-0.0 in
    passed_on (IsFaultOf about budget 1 (c.args.region.now ∷ [])) c.from_residual-in_err-either-in-Any.result c.from_residual-in_err-either-in-Any.ensures.1
    (λ r is s h m. region_fault about budget s (1 + h) fault r is
    (in_either (1 + h) c.in_ok-back.back c.in_ok-stops-in-Any.stops fault (c.in_ok-back.ensures.built s h m) (c.in_ok-stops-in-Any.ensures.built s h (one_built about s h none (of_nowhere h none c.nowhere.ensures))) c.in_err-either-in-Any.ensures.refused))

pub returns-in-Every-clause-stays : goal.returns-in-Every-clause-stays
returns-in-Every-clause-stays c =
    let about = cases_of c.args.setting.now.about.now in
    let region = c.args.region.now in
    let back = c.in_ok-back.back in
    every_stays_at about c.args.path region back c.in-Every.is c.in_ok-back.ensures.before

pub returns-in_ok-either-in-Any-clause-stays : goal.returns-in_ok-either-in-Any-clause-stays
returns-in_ok-either-in-Any-clause-stays c =
    let about = cases_of c.args.setting.now.about.now in
    let region = c.args.region.now in
    any_stays_at about c.args.path region c.in_ok-back.back c.nowhere.result c.in_ok-stops-in-Any.stops c.in_ok-either-in-Any.field-0 c.in-Any.is c.nowhere.ensures c.in_ok-back.ensures.before c.in_ok-stops-in-Any.ensures.before c.in_ok-either-in-Any.ensures.either

pub returns-in_ok-either-in-Any-clause-built : goal.returns-in_ok-either-in-Any-clause-built
returns-in_ok-either-in-Any-clause-built c =
    let about = cases_of c.args.setting.now.about.now in
    let none = c.nowhere.result in
    (λ s h m. of_either (1 + h) c.in_ok-back.back c.in_ok-stops-in-Any.stops c.in_ok-either-in-Any.field-0 (c.in_ok-back.ensures.built s h m) (c.in_ok-stops-in-Any.ensures.built s h (one_built about s h none (of_nowhere h none c.nowhere.ensures))) c.in_ok-either-in-Any.ensures.either)

pub returns-in-Every-clause-bounded : goal.returns-in-Every-clause-bounded
returns-in-Every-clause-bounded c = every_few (cases_of c.args.setting.now.about.now) c.args.path c.args.region.now c.in_ok-back.back c.in-Every.is c.in_ok-back.ensures.bounded

pub returns-in_ok-either-in-Any-clause-bounded : goal.returns-in_ok-either-in-Any-clause-bounded
returns-in_ok-either-in-Any-clause-bounded c =
    let about = cases_of c.args.setting.now.about.now in
    any_few about c.args.path c.args.region.now c.in_ok-back.back c.nowhere.result c.in_ok-stops-in-Any.stops c.in_ok-either-in-Any.field-0 c.in-Any.is c.nowhere.ensures c.in_ok-back.ensures.bounded c.in_ok-stops-in-Any.ensures.bounded c.in_ok-either-in-Any.ensures.either

pub returns-in_err-back-clause-counted : goal.returns-in_err-back-clause-counted
returns-in_err-back-clause-counted c =
    let about = cases_of c.args.setting.now.about.now in
    let region = c.args.region.now in
    let P = IsCountedStaying about c.args.path region in
    passed_on P c.from_residual.result c.from_residual.ensures.1
    (λ r is. subst P (sym is) (before_staying about c.args.path region c.in_err-back.field-0.0 c.in_err-back.ensures.counted))

pub returns-in_err-stops-in-Any-clause-counted : goal.returns-in_err-stops-in-Any-clause-counted
returns-in_err-stops-in-Any-clause-counted c =
    let about = cases_of c.args.setting.now.about.now in
    let region = c.args.region.now in
    let P = IsCountedStaying about c.args.path region in
    passed_on P c.from_residual-in_err-stops-in-Any.result c.from_residual-in_err-stops-in-Any.ensures.1
    (λ r is. subst P (sym is) (stops_staying about c.args.path region c.nowhere.result c.in_err-stops-in-Any.field-0.0 c.in-Any.is c.nowhere.ensures c.in_err-stops-in-Any.ensures.counted))

pub returns-in_err-either-in-Any-clause-counted : goal.returns-in_err-either-in-Any-clause-counted
returns-in_err-either-in-Any-clause-counted c =
    let about = cases_of c.args.setting.now.about.now in
    let region = c.args.region.now in
    passed_on (IsCountedStaying about c.args.path region) c.from_residual-in_err-either-in-Any.result c.from_residual-in_err-either-in-Any.ensures.1
    (λ r is. stay_counted about c.args.path region c.in_ok-back.back c.nowhere.result c.in_ok-stops-in-Any.stops c.args.setting.now.budget.now c.in_err-either-in-Any.field-0.0 r c.in-Any.is c.nowhere.ensures c.in_ok-back.ensures.bounded c.in_ok-stops-in-Any.ensures.bounded is c.in_err-either-in-Any.ensures.refused)
