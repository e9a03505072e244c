use Rattle.std.proofs.Common.{◌≡◌, length}
use Rattle.tv_language.specs.Symbols.{lexemes}
use Rattle.tv_reader.specs.ProgramMarks.{start_word}
use Rattle.tv_reader.proofs.words.start_word.Given as goal

abbrev pub invariant-loop-rest : goal.invariant-loop-rest
invariant-loop-rest l = start_word (lexemes l.text l.rest) ≡ start_word (lexemes l.text l.list)

abbrev pub decreases-loop-rest : goal.decreases-loop-rest
decreases-loop-rest l = length l.rest
