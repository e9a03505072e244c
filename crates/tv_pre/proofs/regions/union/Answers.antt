use Rattle.std.proofs.Common.{◌+◌, arith, ℕ}
use Rattle.tv_cases.specs.Systems.{cases_of}
use Rattle.tv_rounds.proofs.SetLemmas.{as_first}
use Rattle.tv_pre.specs.Built.{in_either, IsFaultOf}
use Rattle.tv_pre.proofs.BuiltLemmas.{member_built}
use Rattle.tv_pre.proofs.PassedLemmas.{passed_on, region_fault}
use Rattle.tv_pre.proofs.SetLemmas.{whole_first, whole_more, whole_all, whole_few, item_over}
use Rattle.std.specs.Prelude.{sum}
use Rattle.tv_pre.specs.Sized.{counts_at}
use Rattle.tv_pre.specs.Counted.{IsWithin}
use Rattle.tv_pre.proofs.CountedLemmas.{region_within, whole_counted}
use Rattle.tv_pre.proofs.regions.union.Goals as goal

pub regions-init : goal.regions-init
regions-init c = whole_first (cases_of c.args.setting.now.about.now) c.args.regions.now c.nowhere-whole.result c.nowhere-whole.ensures

pub either-requires : goal.either-requires
either-requires c =
    let about = cases_of c.args.setting.now.about.now in
    let over = c.regions.invariant.over in
    let item = item_over about c.args.regions.now c.regions.region-index c.region-item.result c.regions-test.true c.region-item.is c.requires.regions in
    let e = over.variables in
    let bounded = c.variables-variables.ensures.limits.few_variables in record {
      bounded = omega (arith, e, bounded);
      first = as_first about c.regions.whole c.regions.whole over over;
      second = as_first about c.regions.whole c.region-item.result over item;
    }

pub returns-in_err-whole-clause-refused : goal.returns-in_err-whole-clause-refused
returns-in_err-whole-clause-refused c =
    let about = cases_of c.args.setting.now.about.now in
    let budget = c.args.setting.now.budget.now in
    let regions = c.args.regions.now in
    passed_on (IsFaultOf about budget 0 regions) c.from_residual.result c.from_residual.ensures.1
    (λ r is s h m. region_fault about budget s (0 + h) c.in_err-whole.field-0.0 r is
    (in_either (0 + h) c.regions.whole c.region-item.result c.in_err-whole.field-0.0 (c.regions.invariant.built s h m)
    (member_built about s h regions c.regions.region-index c.region-item.result c.regions-test.true c.region-item.is m) c.in_err-whole.ensures.refused))

pub regions-preserved : goal.regions-preserved
regions-preserved c =
    let about = cases_of c.args.setting.now.about.now in
    let regions = c.args.regions.now in
    let item = item_over about regions c.regions.region-index c.region-item.result c.regions-test.true c.region-item.is c.requires.regions in
    whole_more about regions c.regions.region-index c.regions.whole c.region-item.result c.in_ok-whole.whole c.regions-test.true c.region-item.is item c.regions.invariant c.in_ok-whole.ensures.either

pub returns-clause-all : goal.returns-clause-all
returns-clause-all c = whole_all (cases_of c.args.setting.now.about.now) c.args.regions.now c.regions.region-index c.regions.whole c.regions-test.false c.regions.invariant

pub returns-clause-bounded : goal.returns-clause-bounded
returns-clause-bounded c = whole_few (cases_of c.args.setting.now.about.now) c.args.regions.now c.regions.region-index c.regions.whole c.regions-test.false c.regions.invariant

pub returns-in_err-whole-clause-counted : goal.returns-in_err-whole-clause-counted
returns-in_err-whole-clause-counted c =
    let regions = c.args.regions.now in
    let fault = c.in_err-whole.field-0.0 in
    let bound = λ (l : ℕ). sum (counts_at l regions) in
    passed_on (IsWithin bound) c.from_residual.result c.from_residual.ensures.1
    (λ r is. region_within bound fault r is
    (whole_counted regions c.regions.region-index c.regions.whole c.region-item.result c.args.setting.now.budget.now fault c.regions-test.true c.region-item.is c.regions.invariant.bounded c.in_err-whole.ensures.refused))
