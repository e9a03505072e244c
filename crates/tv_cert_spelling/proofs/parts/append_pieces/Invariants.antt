use Rattle.std.proofs.Common.{◌≡◌, ◌++◌, drop}
use Rattle.std.specs.List.{flat_map}
use Rattle.tv_cert_reader.specs.CertificateLines.{piece_lines}
use Rattle.tv_cert_spelling.specs.Spelling.{all_spelled}
use Rattle.tv_cert_spelling.proofs.parts.append_pieces.Given as goal

abbrev pub invariant-loop-piece : goal.invariant-loop-piece
invariant-loop-piece l = l.out.items ++ all_spelled (flat_map piece_lines (drop l.piece-index l.pieces)) ≡ l.fn.out.items ++ all_spelled (flat_map piece_lines l.pieces)
