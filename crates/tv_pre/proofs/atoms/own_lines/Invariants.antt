use Rattle.std.proofs.Common.{◌≡◌, map}
use Rattle.tv_pre.specs.Atoms.{own_lines}
use Rattle.tv_pre.proofs.atoms.own_lines.Given as goal

abbrev pub invariant-rows : goal.invariant-rows
invariant-rows l = map (λ v. v.items) l.lines.items ≡ own_lines l.count 0 l.place
