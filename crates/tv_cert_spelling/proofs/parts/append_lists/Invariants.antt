use Rattle.std.proofs.Common.{◌≡◌, ◌++◌, drop, map}
use Rattle.tv_cert_reader.specs.CertificateLines.{by_lines}
use Rattle.tv_cert_spelling.specs.Spelling.{all_spelled}
use Rattle.tv_cert_spelling.proofs.parts.append_lists.Given as goal

abbrev pub invariant-loop-list : goal.invariant-loop-list
invariant-loop-list l = l.out.items ++ all_spelled (by_lines (map (λ l. l.items) (drop l.list-index l.lists))) ≡ l.fn.out.items ++ all_spelled (by_lines (map (λ l. l.items) l.lists))
