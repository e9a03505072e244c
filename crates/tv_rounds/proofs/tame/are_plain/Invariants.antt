use Rattle.std.proofs.Common.{◌≡◌, take}
use Rattle.tv_cases.specs.LinearCases.{LinearCase}
use Rattle.tv_cases.specs.Views.{case_views}
use Rattle.tv_region.specs.Met.{Has}
use Rattle.tv_rounds.proofs.tame.are_plain.Given as goal

abbrev pub invariant-cases : goal.invariant-cases
invariant-cases l = (c : LinearCase) → Has (case_views (take l.case-index l.cases)) c → c.draws ≡ 0
