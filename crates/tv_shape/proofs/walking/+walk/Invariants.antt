use Rattle.std.proofs.Common.{◌+◌}
use Rattle.tv_cases.specs.Systems.{cases_of}
use Rattle.tv_cert.specs.AimViews.{aim_states}
use Rattle.tv_cert.specs.Nodes.{size}
use Rattle.tv_cert.specs.Statements.{parts_of}
use Rattle.tv_cert.proofs.NodeLemmas.{kids_of}
use Rattle.tv_shape.proofs.StationLemmas.{Stands}
use Rattle.tv_shape.proofs.walking.+walk.Given as goal

abbrev pub decreases-walk : goal.decreases-walk
decreases-walk l = size l.node.now

abbrev pub invariant-loop-i : goal.invariant-loop-i
invariant-loop-i l = Stands (cases_of l.about) (parts_of (aim_states l.aim)) (kids_of l.node) (l.number + 1) (l.depth + 1) l.next l.i
