use Rattle.std.proofs.Common.{◌≡◌, length, map, take}
use Rattle.tv_cert.specs.AimViews.{aim_states}
use Rattle.tv_pre.proofs.equality.+equality.Given as goal

abbrev pub invariant-all_are_equal-aims : goal.invariant-all_are_equal-aims
invariant-all_are_equal-aims l = (length l.first ≡ length l.second) × (map aim_states (take l.place l.first) ≡ map aim_states (take l.place l.second))
