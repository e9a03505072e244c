use Rattle.tv_cases.specs.Systems.{cases_of}
use Rattle.tv_pre.proofs.SetLemmas.{IsCommon}
use Rattle.tv_pre.proofs.regions.intersection.Given as goal

abbrev pub invariant-regions : goal.invariant-regions
invariant-regions l = IsCommon (cases_of l.setting.about.now) l.regions l.region-index l.common
