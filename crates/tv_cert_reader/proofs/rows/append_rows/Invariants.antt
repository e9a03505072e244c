use Rattle.std.proofs.Common.{◌≤◌}
use Rattle.tv_cert_reader.proofs.AppendedLemmas.{Appended}
use Rattle.tv_cert_reader.proofs.rows.append_rows.Given as goal

abbrev pub invariant-rows : goal.invariant-rows
invariant-rows l = Appended l.kind l.width l.fn.packed.items l.packed.items l.fn.cursor l.counter l.cursor × (l.counter ≤ l.count)
