use Rattle.std.proofs.Common.{◌≡◌, map, take}
use Rattle.tv_invariant.specs.Thinning.{picked}
use Rattle.tv_invariant.proofs.thinning.thin_lists.Given as goal

abbrev pub invariant-lists : goal.invariant-lists
invariant-lists l = map (λ v. v.items) l.kept.items ≡ map (λ v. picked l.marks v.items) (take l.multipliers-index l.lists)
