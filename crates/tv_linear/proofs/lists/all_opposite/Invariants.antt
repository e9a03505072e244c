use Rattle.std.proofs.Common.{◌≡◌, map, take, neg_ℤ, All, vec_len}
use Rattle.tv_linear.specs.Linear.{IsWithin}
use Rattle.tv_linear.proofs.lists.all_opposite.Given as goal

abbrev pub invariant-loop-number : goal.invariant-loop-number
invariant-loop-number l = record {
  exact : l.turned.items ≡ map neg_ℤ (take l.number-index l.numbers);
  counted : vec_len l.turned ≡ l.number-index;
  narrow : All (IsWithin 62) l.turned.items;
}
