use Rattle.std.proofs.Common.{arith}
use Rattle.tv_cases.specs.Systems.{cases_of}
use Rattle.tv_cert_reader.specs.Regions.{ReadsPieces}
use Rattle.tv_cert.specs.Shapes.{PieceShape}
use Rattle.tv_cert_reader.specs.CertificateLines.{piece_lines}
use Rattle.tv_cert_reader.proofs.ReadingLemmas.{at_exit, gathered_next}
use Rattle.tv_cert_reader.proofs.RegionLemmas.{pieces_fail, pieces_end}
use Rattle.tv_cert_reader.proofs.context.Context.pieces.Goals as goal

pub returns-in_err-piece : goal.returns-in_err-piece
returns-in_err-piece c =
    let system = cases_of c.args.self.now.about.now in
    at_exit (ReadsPieces system c.args.ranks c.args.done c.args.count c.args.cursor.now c.piece.new.cursor) c.from_residual-in_err-piece.result c.in_err-piece.field-0.0 c.from_residual-in_err-piece.ensures.1
    (pieces_fail system c.args.ranks c.args.done c.args.count c.pieces.counter c.args.cursor.now c.pieces.cursor c.pieces.pieces.items c.in_err-piece.field-0.0 c.pieces.invariant.0 c.pieces-test.true c.in_err-piece.ensures)

pub returns : goal.returns
returns c =
    let system = cases_of c.args.self.now.about.now in
    pieces_end system c.args.ranks c.args.done c.args.count c.pieces.counter c.args.cursor.now c.pieces.cursor c.pieces.pieces.items c.pieces.invariant.0 (let e = c.pieces.invariant.1 in let f = c.pieces-test.false in omega (arith, e, f))

pub pieces-preserved : goal.pieces-preserved
pieces-preserved c = (
  gathered_next (PieceShape (cases_of c.args.self.now.about.now) c.args.ranks c.args.done) piece_lines c.args.cursor.now c.pieces.counter c.pieces.cursor c.piece.new.cursor c.pieces.pieces.items c.push.new.self.items c.in_ok-piece.piece c.pieces.invariant.0 c.in_ok-piece.ensures.0 c.in_ok-piece.ensures.1 c.in_ok-push.ensures.items,
  (let t = c.pieces-test.true in omega (arith, t)),
)
