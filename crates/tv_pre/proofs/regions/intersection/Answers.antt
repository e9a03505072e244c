use Rattle.std.proofs.Common.{◌+◌, arith, ℕ}
use Rattle.tv_cases.specs.Systems.{cases_of}
use Rattle.tv_rounds.proofs.SetLemmas.{as_first}
use Rattle.tv_pre.specs.Built.{in_both, IsFaultOf}
use Rattle.tv_pre.proofs.BuiltLemmas.{member_built}
use Rattle.tv_pre.proofs.PassedLemmas.{passed_on, region_fault}
use Rattle.tv_pre.proofs.SetLemmas.{common_first, common_more, common_all, common_few, item_over}
use Rattle.tv_known.specs.Sizes.{product}
use Rattle.tv_pre.specs.Counted.{IsWithin, some_counts_at}
use Rattle.tv_pre.proofs.CountedLemmas.{region_within, common_counted}
use Rattle.tv_pre.proofs.regions.intersection.Goals as goal

pub regions-init : goal.regions-init
regions-init c = common_first (cases_of c.args.setting.now.about.now) c.args.regions.now c.in_ok-common.common c.in_ok-common.ensures

pub both-requires : goal.both-requires
both-requires c =
    let about = cases_of c.args.setting.now.about.now in
    let over = c.regions.invariant.over in
    let item = item_over about c.args.regions.now c.regions.region-index c.region-item.result c.regions-test.true c.region-item.is c.requires.regions in
    let e = over.variables in
    let bounded = c.variables-variables.ensures.limits.few_variables in record {
      bounded = omega (arith, e, bounded);
      first = as_first about c.regions.common c.regions.common over over;
      second = as_first about c.regions.common c.region-item.result over item;
    }

pub returns-in_err-common-2-clause-refused : goal.returns-in_err-common-2-clause-refused
returns-in_err-common-2-clause-refused c =
    let about = cases_of c.args.setting.now.about.now in
    let budget = c.args.setting.now.budget.now in
    let regions = c.args.regions.now in
    passed_on (IsFaultOf about budget 0 regions) c.from_residual-in_err-common-2.result c.from_residual-in_err-common-2.ensures.1
    (λ r is s h m. region_fault about budget s (0 + h) c.in_err-common-2.field-0.0 r is
    (in_both (0 + h) c.regions.common c.region-item.result c.in_err-common-2.field-0.0 (c.regions.invariant.built s h m)
    (member_built about s h regions c.regions.region-index c.region-item.result c.regions-test.true c.region-item.is m) c.in_err-common-2.ensures.refused))

pub regions-preserved : goal.regions-preserved
regions-preserved c =
    let about = cases_of c.args.setting.now.about.now in
    let regions = c.args.regions.now in
    let item = item_over about regions c.regions.region-index c.region-item.result c.regions-test.true c.region-item.is c.requires.regions in
    common_more about regions c.regions.region-index c.regions.common c.region-item.result c.in_ok-common-2.common c.regions-test.true c.region-item.is item c.regions.invariant c.in_ok-common-2.ensures.both

pub returns-clause-inside : goal.returns-clause-inside
returns-clause-inside c = common_all (cases_of c.args.setting.now.about.now) c.args.regions.now c.regions.region-index c.regions.common c.regions-test.false c.regions.invariant

pub returns-clause-bounded : goal.returns-clause-bounded
returns-clause-bounded c = common_few (cases_of c.args.setting.now.about.now) c.args.regions.now c.regions.region-index c.regions.common c.regions-test.false c.regions.invariant

pub returns-in_err-common-2-clause-counted : goal.returns-in_err-common-2-clause-counted
returns-in_err-common-2-clause-counted c =
    let regions = c.args.regions.now in
    let fault = c.in_err-common-2.field-0.0 in
    let bound = λ (l : ℕ). product (some_counts_at l regions) in
    passed_on (IsWithin bound) c.from_residual-in_err-common-2.result c.from_residual-in_err-common-2.ensures.1
    (λ r is. region_within bound fault r is
    (common_counted regions c.regions.region-index c.regions.common c.region-item.result c.args.setting.now.budget.now fault c.regions-test.true c.region-item.is c.regions.invariant.bounded c.in_err-common-2.ensures.refused))
