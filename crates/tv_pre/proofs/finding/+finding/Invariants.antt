use Rattle.std.proofs.Common.{◌≡◌, length, map, drop}
use Rattle.tv_cert.specs.AimViews.{aim_states, aims_state}
use Rattle.tv_pre.specs.Finding.{AreEvenStatements}
use Rattle.tv_pre.specs.Search.{system_of}
use Rattle.tv_pre.specs.Arguments.{AreFoundFirst, AreKnownFirst}
use Rattle.tv_pre.proofs.finding.+finding.Given as goal

abbrev pub invariant-all_found-aims : goal.invariant-all_found-aims
invariant-all_found-aims l =
    AreFoundFirst (system_of l.search) l.search.last (map aim_states l.aims) l.founds.items
    × (length l.founds.items ≡ l.aim-index)
    × AreEvenStatements (system_of l.search).variables (aims_state (drop l.aim-index l.aims))
    × AreKnownFirst (system_of l.search) l.search.last l.search.alone (map aim_states l.aims) l.founds.items
