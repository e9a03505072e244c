use Rattle.std.proofs.Common.{take}
use Rattle.std.specs.List.{All}
use Rattle.tv_cover.specs.Targets.{AreEven}
use Rattle.tv_cover.proofs.targets.are_even.Given as goal

abbrev pub invariant-polys : goal.invariant-polys
invariant-polys l = All (λ p. AreEven l.columns p.rows.items) (take l.poly-index l.polys)
