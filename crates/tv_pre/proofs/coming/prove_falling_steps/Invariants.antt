use Rattle.std.proofs.Common.{◌-◌, ℕ, List, length, map, take}
use Rattle.tv_cases.specs.LinearCases.{leaving}
use Rattle.tv_cases.specs.Systems.{cases_of}
use Rattle.tv_cert.specs.declared.node.Marked.{Marked}
use Rattle.tv_cert.specs.Obligations.{step_of, step_fall}
use Rattle.tv_cert.specs.Claims.{about_with}
use Rattle.tv_pre.specs.Ranked.{IsLayered}
use Rattle.tv_pre.specs.Offers.{Adds}
use Rattle.tv_pre.proofs.coming.prove_falling_steps.Given as goal

abbrev pub invariant-cases : goal.invariant-cases
invariant-cases l =
    (number : ℕ) (p : Marked) (all : List Marked) → IsLayered (cases_of l.setting.about.now).variables l.piece l.done l.into p all →
    Adds (map (step_of number (about_with (cases_of l.setting.about.now)) p all (step_fall (about_with (cases_of l.setting.about.now)) p)) (take l.k (leaving l.piece.location (cases_of l.setting.about.now).cases))) l.fn.proofs.items l.proofs.items

abbrev pub decreases-cases : goal.decreases-cases
decreases-cases l = length (leaving l.piece.location (cases_of l.setting.about.now).cases) - l.k
