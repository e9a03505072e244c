use Rattle.std.proofs.Common.{◌≤◌, sym, subst, ◌+◌, ◌∷◌, arith}
use Rattle.tv_cases.specs.Systems.{cases_of}
use Rattle.tv_region.specs.Regions.{IsRegion}
use Rattle.tv_rounds.proofs.SetLemmas.{as_first}
use Rattle.tv_pre.specs.Along.{arguments}
use Rattle.tv_pre.specs.Built.{IsPreFault, IsBuilt, in_both, of_both, IsFaultOf}
use Rattle.tv_pre.proofs.BuiltLemmas.{first_alone, rest_built, hold_built, built_to}
use Rattle.tv_pre.proofs.PassedLemmas.{passed_on, region_fault}
use Rattle.tv_pre.proofs.SetLemmas.{onward_is, hold_over}
use Rattle.tv_pre.proofs.SizedLemmas.{onward_few}
use Rattle.tv_pre.specs.Counted.{IsCountedOnward}
use Rattle.tv_pre.proofs.CountedLemmas.{staying_onward, onward_counted}
use Rattle.tv_pre.proofs.along.onward.Goals as goal

pub returns-in_err-stays-clause-refused : goal.returns-in_err-stays-clause-refused
returns-in_err-stays-clause-refused c =
    let about = cases_of c.args.setting.now.about.now in
    let budget = c.args.setting.now.budget.now in
    let sides = c.args.sides.now in
    passed_on (IsFaultOf about budget 1 (c.args.region.now ∷ arguments sides)) c.from_residual.result c.from_residual.ensures.1
    (λ r is s h m. subst (IsPreFault about s budget (1 + h)) (sym is) (c.in_err-stays.ensures.refused s h (first_alone about s h c.args.region.now (arguments sides) m)))

pub both-requires : goal.both-requires
both-requires c =
    let about = cases_of c.args.setting.now.about.now in
    let sides = c.args.sides.now in
    let over : IsRegion about.variables about.locations c.hold_of.result.now = hold_over about sides c.hold_of.result.now c.hold_of.ensures c.requires.sides in
    let e = over.variables in
    let bounded = c.variables-variables.ensures.limits.few_variables in record {
      bounded = omega (arith, e, bounded);
      first = as_first about c.hold_of.result.now c.hold_of.result.now over over;
      second = as_first about c.hold_of.result.now c.in_ok-stays.stays over c.in_ok-stays.ensures.stays.over;
    }

pub returns-in_err-both-clause-refused : goal.returns-in_err-both-clause-refused
returns-in_err-both-clause-refused c =
    let about = cases_of c.args.setting.now.about.now in
    let budget = c.args.setting.now.budget.now in
    let sides = c.args.sides.now in
    let region = c.args.region.now in
    let hold = c.hold_of.result.now in
    let fault = c.in_err-both.field-0.0 in
    passed_on (IsFaultOf about budget 1 (region ∷ arguments sides)) c.from_residual-in_err-both.result c.from_residual-in_err-both.ensures.1
    (λ r is s h m. region_fault about budget s (1 + h) fault r is
    (in_both (1 + h) hold c.in_ok-stays.stays fault
    (let l : h ≤ 1 + h = omega arith in
    built_to about s h (1 + h) hold l (subst (IsBuilt about s h) (sym c.hold_of.ensures) (hold_built about s h sides.shape sides.first.now sides.second.now (rest_built about s h region (arguments sides) m))))
    (c.in_ok-stays.ensures.built s h (first_alone about s h region (arguments sides) m)) c.in_err-both.ensures.refused))

pub returns-clause-onward : goal.returns-clause-onward
returns-clause-onward c =
    let about = cases_of c.args.setting.now.about.now in
    let sides = c.args.sides.now in
    let hold = c.hold_of.result.now in
    onward_is about sides c.args.region.now c.in_ok-stays.stays hold c.in_ok-both.field-0 c.hold_of.ensures (hold_over about sides hold c.hold_of.ensures c.requires.sides) c.in_ok-stays.ensures.stays c.in_ok-both.ensures.both

pub returns-clause-built : goal.returns-clause-built
returns-clause-built c =
    let about = cases_of c.args.setting.now.about.now in
    let sides = c.args.sides.now in
    let region = c.args.region.now in
    let hold = c.hold_of.result.now in
    (λ s h m. of_both (1 + h) hold c.in_ok-stays.stays c.in_ok-both.field-0
    (let l : h ≤ 1 + h = omega arith in
    built_to about s h (1 + h) hold l (subst (IsBuilt about s h) (sym c.hold_of.ensures) (hold_built about s h sides.shape sides.first.now sides.second.now (rest_built about s h region (arguments sides) m))))
    (c.in_ok-stays.ensures.built s h (first_alone about s h region (arguments sides) m)) c.in_ok-both.ensures.both)

pub returns-clause-bounded : goal.returns-clause-bounded
returns-clause-bounded c = onward_few (cases_of c.args.setting.now.about.now) c.args.sides.now c.args.region.now c.in_ok-stays.stays c.hold_of.result.now c.in_ok-both.field-0 c.hold_of.ensures c.in_ok-stays.ensures.bounded c.in_ok-both.ensures.both

pub returns-in_err-stays-clause-counted : goal.returns-in_err-stays-clause-counted
returns-in_err-stays-clause-counted c =
    let about = cases_of c.args.setting.now.about.now in
    let sides = c.args.sides.now in
    let region = c.args.region.now in
    let P = IsCountedOnward about sides region in
    passed_on P c.from_residual.result c.from_residual.ensures.1
    (λ r is. subst P (sym is) (staying_onward about sides region c.in_err-stays.field-0.0 c.in_err-stays.ensures.counted))

pub returns-in_err-both-clause-counted : goal.returns-in_err-both-clause-counted
returns-in_err-both-clause-counted c =
    let about = cases_of c.args.setting.now.about.now in
    let sides = c.args.sides.now in
    let region = c.args.region.now in
    passed_on (IsCountedOnward about sides region) c.from_residual-in_err-both.result c.from_residual-in_err-both.ensures.1
    (λ r is. onward_counted about sides region c.in_ok-stays.stays c.hold_of.result.now c.args.setting.now.budget.now c.in_err-both.field-0.0 r c.hold_of.ensures c.in_ok-stays.ensures.bounded is c.in_err-both.ensures.refused)
