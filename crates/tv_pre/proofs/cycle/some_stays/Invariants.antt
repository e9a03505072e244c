use Rattle.std.proofs.Common.{◌≡◌, All, take}
use Rattle.std.specs.Prelude.{slice_index}
use Rattle.tv_cases.specs.declared.case.Case.{Case}
use Rattle.tv_pre.proofs.cycle.some_stays.Given as goal

abbrev pub invariant-cases : goal.invariant-cases
invariant-cases l = All (λ (c : Case). slice_index l.numbers c.from ≡ slice_index l.numbers c.to → ⊥) (take l.case-index l.list)
