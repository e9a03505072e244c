use Rattle.std.proofs.Common.{◌≡◌, ◌++◌, drop}
use Rattle.std.specs.List.{flat_map}
use Rattle.tv_cert_reader.specs.CertificateLines.{cover_lines}
use Rattle.tv_cert_spelling.specs.Spelling.{all_spelled}
use Rattle.tv_cert_spelling.proofs.parts.append_covers.Given as goal

abbrev pub invariant-loop-cover : goal.invariant-loop-cover
invariant-loop-cover l = l.out.items ++ all_spelled (flat_map cover_lines (drop l.cover-index l.covers)) ≡ l.fn.out.items ++ all_spelled (flat_map cover_lines l.covers)
