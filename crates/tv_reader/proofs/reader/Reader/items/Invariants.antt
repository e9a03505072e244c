use Rattle.std.proofs.Common.{◌≡◌, length, false}
use Rattle.tv_grammar.specs.Langs.{turns}
use Rattle.tv_reading.specs.SumGrammar.{every}
use Rattle.tv_reader.specs.ProgramGrammar.{item_cases, no_items}
use Rattle.tv_reader.specs.Readers.{left, IsKept, IsSteady, items_view, ItemsFit}
use Rattle.tv_reader.proofs.reader.Reader.items.Given as goal

abbrev pub invariant-turns : goal.invariant-turns
invariant-turns l = record {
  reads : (turns (item_cases every 63) (items_view l.items)).read (left l.self) ≡ (turns (item_cases every 63) no_items).read (left l.fn.self);
  kept : IsKept l.fn.self l.self;
  steady : IsSteady l.self;
  colon : l.self.behind_colon ≡ false;
  fits : ItemsFit l.self l.items;
}

abbrev pub decreases-turns : goal.decreases-turns
decreases-turns l = length (left l.self)
