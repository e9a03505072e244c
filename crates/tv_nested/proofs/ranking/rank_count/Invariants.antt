use Rattle.std.proofs.Common.{ℕ, ◌+◌, ◌<◌, ◌≤◌}
use Rattle.tv_nested.specs.Amounts.{amount_in}
use Rattle.tv_nested.proofs.ranking.rank_count.Given as goal

abbrev pub invariant-parts : goal.invariant-parts
invariant-parts l = record {
  some : 1 ≤ l.count;
  bounded : l.count ≤ 8197;
  enough : (number : ℕ) → number < l.part-index → amount_in l.parts number + 1 ≤ l.count;
}
