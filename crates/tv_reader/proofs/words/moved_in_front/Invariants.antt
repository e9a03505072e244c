use Rattle.std.proofs.Common.{◌≡◌, ◌≤◌, ◌+◌, ◌∷◌, [], length, take}
use Rattle.tv_language.specs.Symbols.{by_first_place}
use Rattle.tv_reader.proofs.words.moved_in_front.Given as goal

abbrev pub invariant-loop-number : goal.invariant-loop-number
invariant-loop-number l = record {
  placed : l.names ≡ by_first_place (l.word ∷ []) (take l.number l.labels);
  bounded : length l.names ≤ l.number + 1;
}
