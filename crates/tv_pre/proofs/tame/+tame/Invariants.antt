use Rattle.std.proofs.Common.{All, take}
use Rattle.tv_cert.specs.declared.aim.Aim.{Aim}
use Rattle.tv_cert.specs.AimViews.{aim_states}
use Rattle.tv_pre.specs.Tame.{IsOfDifferencesIn}
use Rattle.tv_pre.proofs.tame.+tame.Given as goal

abbrev pub invariant-are_aims_of_differences-aims : goal.invariant-are_aims_of_differences-aims
invariant-are_aims_of_differences-aims l = All (λ (a : Aim). IsOfDifferencesIn (aim_states a)) (take l.aim-index l.aims)
