use Rattle.std.proofs.Common.{sym}
use Rattle.tv_cases.specs.Systems.{cases_of}
use Rattle.tv_pre.specs.Questions.{AsksOf}
use Rattle.tv_pre.proofs.AddLemmas.{pieces_more, pieces_all}
use Rattle.tv_pre.proofs.RefusalLemmas.{refusal_weaker}
use Rattle.tv_pre.proofs.proving.prove_all.Goals as goal

pub returns-in-Err-clause-refusals : goal.returns-in-Err-clause-refusals
returns-in-Err-clause-refusals g c =
    let about = cases_of c.args.setting.now.about.now in
    let q = c.piece-item.result in
    refusal_weaker about c.args.setting.now.budget.now (g.O.PieceProver.asks c.args.prover.now about q) (AsksOf (g.O.PieceProver.asks c.args.prover.now about) c.args.pieces.now) c.in-Err.fault
    (λ a h. (q, (c.pieces.piece-index, c.pieces-test.true, sym c.piece-item.is), h)) c.in-Err.ensures.refusals

pub pieces-preserved : goal.pieces-preserved
pieces-preserved g c a ps z =
    let about = cases_of c.args.setting.now.about.now in
    pieces_more (g.O.PieceProver.fits c.args.prover.now about a) (g.O.PieceProver.owes c.args.prover.now about a) ps c.args.pieces.now c.pieces.piece-index c.piece-item.result c.args.proofs.now.items c.pieces.proofs.items c.prove.new.proofs.items z c.pieces-test.true c.piece-item.is
    (λ p f. c.in-Ok.ensures.adds a p f) (c.pieces.invariant a ps z)

pub returns-clause-adds : goal.returns-clause-adds
returns-clause-adds g c a ps z =
    let about = cases_of c.args.setting.now.about.now in
    pieces_all (g.O.PieceProver.fits c.args.prover.now about a) (g.O.PieceProver.owes c.args.prover.now about a) ps c.args.pieces.now c.pieces.piece-index c.args.proofs.now.items c.pieces.proofs.items z c.pieces-test.false (c.pieces.invariant a ps z)
