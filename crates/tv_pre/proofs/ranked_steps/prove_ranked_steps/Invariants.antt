use Rattle.std.proofs.Common.{ℕ, List, map, take}
use Rattle.tv_cases.specs.LinearCases.{leaving}
use Rattle.tv_cases.specs.Systems.{cases_of}
use Rattle.tv_cert.specs.declared.node.Marked.{Marked}
use Rattle.tv_cert.specs.Claims.{about_with}
use Rattle.tv_cert.specs.Nodes.{pieces_of}
use Rattle.tv_cert.specs.Obligations.{step_of, step_fall}
use Rattle.tv_pre.specs.Lowering.{IsPlaced}
use Rattle.tv_pre.specs.Offers.{Adds}
use Rattle.tv_pre.proofs.ranked_steps.prove_ranked_steps.Given as goal

abbrev pub invariant-cases : goal.invariant-cases
invariant-cases l =
    (k : ℕ) (p : Marked) (all : List Marked) → IsPlaced (pieces_of l.ranking.node.now) l.piece l.done l.into p all →
    Adds (map (step_of k (about_with (cases_of l.setting.about.now)) p all (step_fall (about_with (cases_of l.setting.about.now)) p)) (leaving l.piece.location (take l.number (cases_of l.setting.about.now).cases))) l.fn.proofs.items l.proofs.items
