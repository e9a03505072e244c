use Rattle.std.proofs.Common.{◌≡◌, ◌++◌, drop}
use Rattle.tv_linear.specs.Views.{rows_seen}
use Rattle.tv_cert_reader.specs.CertificateLines.{row_lines}
use Rattle.tv_cert_spelling.specs.Spelling.{all_spelled}
use Rattle.tv_cert_spelling.proofs.parts.append_rows.Given as goal

abbrev pub invariant-loop-i : goal.invariant-loop-i
invariant-loop-i l = l.out.items ++ all_spelled (row_lines l.head (drop l.i (rows_seen l.rows))) ≡ l.fn.out.items ++ all_spelled (row_lines l.head (rows_seen l.rows))
