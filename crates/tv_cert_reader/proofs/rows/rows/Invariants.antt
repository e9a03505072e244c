use Rattle.std.proofs.Common.{◌≤◌}
use Rattle.tv_cert_reader.specs.Parts.{IsWide, one_row}
use Rattle.tv_cert_reader.proofs.ReadingLemmas.{Gathered}
use Rattle.tv_cert_reader.proofs.rows.rows.Given as goal

abbrev pub invariant-rows : goal.invariant-rows
invariant-rows l = Gathered (IsWide l.width) (one_row l.kind) l.fn.cursor l.counter l.cursor l.rows.items × (l.counter ≤ l.count)
