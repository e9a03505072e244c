use Rattle.std.proofs.Common.{◌≡◌, ◌++◌, drop}
use Rattle.tv_cert.specs.AimViews.{aims_state}
use Rattle.tv_shape.specs.Kinds.{all_kinds}
use Rattle.tv_shape.proofs.kinds.+kinds.Given as goal

abbrev pub invariant-push_all_kinds-loop-aim : goal.invariant-push_all_kinds-loop-aim
invariant-push_all_kinds-loop-aim l = l.fn.kinds.items ++ all_kinds (aims_state l.aims) ≡ l.kinds.items ++ all_kinds (aims_state (drop l.aim-index l.aims))
