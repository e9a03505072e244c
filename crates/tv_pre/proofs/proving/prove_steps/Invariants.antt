use Rattle.std.proofs.Common.{◌-◌, ℕ, List, length, map, take}
use Rattle.tv_cases.specs.LinearCases.{leaving}
use Rattle.tv_cases.specs.Systems.{cases_of}
use Rattle.tv_cert.specs.declared.node.Marked.{Marked}
use Rattle.tv_cert.specs.Obligations.{step_of}
use Rattle.tv_cert.specs.Targets.{no_fall}
use Rattle.tv_cert.specs.Claims.{about_with}
use Rattle.tv_pre.specs.Pieces.{IsMarked, AreMarked}
use Rattle.tv_pre.specs.Offers.{Adds}
use Rattle.tv_pre.proofs.proving.prove_steps.Given as goal

abbrev pub invariant-cases : goal.invariant-cases
invariant-cases l =
    (number : ℕ) (p : Marked) (ps : List Marked) → IsMarked p l.piece → AreMarked ps l.into →
    Adds (map (step_of number (about_with (cases_of l.setting.about.now)) p ps (λ c. no_fall)) (take l.k (leaving l.piece.location (cases_of l.setting.about.now).cases))) l.fn.proofs.items l.proofs.items

abbrev pub decreases-cases : goal.decreases-cases
decreases-cases l = length (leaving l.piece.location (cases_of l.setting.about.now).cases) - l.k
