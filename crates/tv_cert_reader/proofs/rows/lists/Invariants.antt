use Rattle.std.proofs.Common.{◌≤◌}
use Rattle.tv_cert_reader.proofs.ReadingLemmas.{Gathered}
use Rattle.tv_cert_reader.proofs.PartLemmas.{AreListed, by_line}
use Rattle.tv_cert_reader.proofs.rows.lists.Given as goal

abbrev pub invariant-lists : goal.invariant-lists
invariant-lists l = Gathered (AreListed l.wide) by_line l.fn.cursor l.counter l.cursor l.lists.items × (l.counter ≤ l.count)
