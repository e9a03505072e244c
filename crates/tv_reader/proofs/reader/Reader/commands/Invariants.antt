use Rattle.std.proofs.Common.{◌≡◌, [], length, false}
use Rattle.tv_grammar.specs.Langs.{turns}
use Rattle.tv_reading.specs.SumGrammar.{every}
use Rattle.tv_reader.specs.ProgramGrammar.{command_cases}
use Rattle.tv_reader.specs.Readers.{left, IsKept, IsSteady, instructions, CommandsFit}
use Rattle.tv_reader.proofs.reader.Reader.commands.Given as goal

abbrev pub invariant-turns : goal.invariant-turns
invariant-turns l = record {
  reads : (turns (command_cases every 63) (instructions l.commands)).read (left l.self) ≡ (turns (command_cases every 63) []).read (left l.fn.self);
  kept : IsKept l.fn.self l.self;
  steady : IsSteady l.self;
  colon : l.self.behind_colon ≡ false;
  fits : CommandsFit l.self l.commands;
}

abbrev pub decreases-turns : goal.decreases-turns
decreases-turns l = length (left l.self)
