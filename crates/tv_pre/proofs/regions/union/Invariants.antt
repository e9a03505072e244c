use Rattle.tv_cases.specs.Systems.{cases_of}
use Rattle.tv_pre.proofs.SetLemmas.{IsWhole}
use Rattle.tv_pre.proofs.regions.union.Given as goal

abbrev pub invariant-regions : goal.invariant-regions
invariant-regions l = IsWhole (cases_of l.setting.about.now) l.regions l.region-index l.whole
