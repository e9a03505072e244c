use Rattle.std.proofs.Common.{◌≡◌, ◌≤◌, length, take, drop, [], false}
use Rattle.tv_language.specs.Symbols.{lexemes, variable_words, label_words, by_first_place}
use Rattle.tv_reader.proofs.words.first_words.Given as goal

abbrev pub invariant-loop-token : goal.invariant-loop-token
invariant-loop-token l = record {
  variables : length l.known.variables ≤ 512;
  labels : length l.known.labels ≤ 1024;
  names : take 512 (by_first_place l.known.variables (variable_words l.behind_colon (lexemes l.text (drop l.token-index l.list)))) ≡ take 512 (by_first_place [] (variable_words false (lexemes l.text l.list)));
  places : take 1024 (by_first_place l.known.labels (label_words l.behind_colon (lexemes l.text (drop l.token-index l.list)))) ≡ take 1024 (by_first_place [] (label_words false (lexemes l.text l.list)));
}
