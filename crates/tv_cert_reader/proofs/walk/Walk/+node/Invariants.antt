use Rattle.std.proofs.Common.{◌≡◌, ◌≤◌, length}
use Rattle.tv_cases.specs.Systems.{cases_of}
use Rattle.tv_cert.specs.AimViews.{aim_states}
use Rattle.tv_cert.specs.Statements.{parts_of, count}
use Rattle.tv_cert_reader.proofs.NodeLemmas.{weight}
use Rattle.tv_cert_reader.proofs.WalkLemmas.{Stands}
use Rattle.tv_cert_reader.proofs.walk.Walk.+node.Given as goal

abbrev pub decreases-node : goal.decreases-node
decreases-node g l = weight (aim_states l.aim.now)

abbrev pub invariant-children : goal.invariant-children
invariant-children g l =
    Stands g.T.Taker.takes g.T.Taker.room g.T.Taker.whole (cases_of l.about) (aim_states l.aim) l.fn.self l.self l.pieces-inside.list.items l.ranks l.children.items
    × (length l.children.items ≡ l.i) × (l.i ≤ count (parts_of (aim_states l.aim)))
