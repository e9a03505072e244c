use Rattle.std.proofs.Common.{List, take}
use Rattle.std.specs.List.{flat_map, AllZip}
use Rattle.tv_cases.specs.Systems.{cases_of}
use Rattle.tv_cert.specs.declared.node.Marked.{Marked}
use Rattle.tv_pre.specs.Offers.{Adds}
use Rattle.tv_pre.specs.Around.{Around}
use Rattle.tv_pre.proofs.proving.prove_all.Given as goal

abbrev pub invariant-pieces : goal.invariant-pieces
invariant-pieces g l =
    (a : Around) (ps : List Marked) → AllZip (g.O.PieceProver.fits l.prover (cases_of l.setting.about.now) a) ps l.pieces →
    Adds (flat_map (g.O.PieceProver.owes l.prover (cases_of l.setting.about.now) a) (take l.piece-index ps)) l.fn.proofs.items l.proofs.items
