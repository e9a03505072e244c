use Rattle.std.proofs.Common.{◌≡◌, ◌++◌, drop}
use Rattle.std.specs.List.{flat_map}
use Rattle.tv_program.specs.Views.{transitions}
use Rattle.tv_formula.specs.Views.{property}
use Rattle.tv_finitely.specs.Doubling.{copies}
use Rattle.tv_finitely.proofs.doubling.all_copies.Given as goal

abbrev pub invariant-loop-edge : goal.invariant-loop-edge
invariant-loop-edge l = transitions l.made.items ++ flat_map (copies (property l.tree)) (transitions (drop l.edge-index l.edges)) ≡ flat_map (copies (property l.tree)) (transitions l.edges)
