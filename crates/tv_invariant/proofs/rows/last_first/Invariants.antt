use Rattle.std.proofs.Common.{List, ℤ, length}
use Rattle.std.specs.Prelude.{All}
use Rattle.std.specs.List.{Contains}
use Rattle.tv_linear.specs.Linear.{Linear, IsMet}
use Rattle.tv_invariant.proofs.rows.last_first.Given as goal

abbrev pub invariant-rows : goal.invariant-rows
invariant-rows l = record {
  rest : (r : Linear) → Contains l.rows.items r → Contains l.fn.rows.items r;
  from : (r : Linear) → Contains l.kept.items r → Contains l.fn.rows.items r;
  met : (xs : List ℤ) → All (IsMet xs) l.rows.items → All (IsMet xs) l.kept.items → All (IsMet xs) l.fn.rows.items;
}

abbrev pub decreases-rows : goal.decreases-rows
decreases-rows l = length l.rows.items
