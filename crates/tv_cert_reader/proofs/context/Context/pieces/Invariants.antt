use Rattle.std.proofs.Common.{◌≤◌}
use Rattle.tv_cases.specs.Systems.{cases_of}
use Rattle.tv_cert.specs.Shapes.{PieceShape}
use Rattle.tv_cert_reader.specs.CertificateLines.{piece_lines}
use Rattle.tv_cert_reader.proofs.ReadingLemmas.{Gathered}
use Rattle.tv_cert_reader.proofs.context.Context.pieces.Given as goal

abbrev pub invariant-pieces : goal.invariant-pieces
invariant-pieces l = Gathered (PieceShape (cases_of l.self.about.now) l.ranks l.done) piece_lines l.fn.cursor l.counter l.cursor l.pieces.items × (l.counter ≤ l.count)
