use Rattle.std.proofs.Common.{ℕ, ◌+◌, ◌<◌, ◌≤◌, length}
use Rattle.tv_finitely.specs.Parts.{rounds_in}
use Rattle.tv_finitely.proofs.ranking.rank_count.Given as goal

abbrev pub invariant-parts : goal.invariant-parts
invariant-parts l = record {
  some : 1 ≤ l.count;
  bounded : l.count ≤ 8193;
  enough : (number : ℕ) → number < l.part-index → length (rounds_in l.parts number) + 1 ≤ l.count;
}
