use Rattle.std.proofs.lemmas.Result.{err_from_is_err_and}
use Rattle.tv_reading.specs.SumGrammar.{every}
use Rattle.tv_reader.specs.ProgramGrammar.{item_cases}
use Rattle.tv_reader.specs.Readers.{left, items_view}
use Rattle.tv_reader.proofs.ProgramExact.{item_branch}
use Rattle.tv_reading.proofs.AnswerLemmas.{turn_failed, turn_on, turn_less, turn_off}
use Rattle.tv_reader.proofs.reader.Reader.items.Goals as goal

pub returns-in_err-more-clause-reads : goal.returns-in_err-more-clause-reads
returns-in_err-more-clause-reads c =
    let p = err_from_is_err_and c.from_residual.result c.from_residual.ensures.1 in
    rw (p.1, p.2) (turn_failed items_view (item_cases every 63) (item_branch every 63) _ (items_view c.turns.items) (left c.turns.self) (left c.item.new.self) c.turns.invariant.reads c.in_err-more.field-0.0 c.in_err-more.ensures.reads)

pub turns-smaller : goal.turns-smaller
turns-smaller c = turn_less items_view (item_cases every 63) (item_branch every 63) _ (items_view c.turns.items) (left c.turns.self) (left c.item.new.self) c.turns.invariant.reads c.in-On.more (rw c.in-On.is at c.in_ok-more.ensures.reads)

pub turns-preserved : goal.turns-preserved
turns-preserved c = record {
  reads = turn_on items_view (item_cases every 63) (item_branch every 63) _ (items_view c.turns.items) (left c.turns.self) (left c.item.new.self) c.turns.invariant.reads c.in-On.more (rw c.in-On.is at c.in_ok-more.ensures.reads);
  kept = λ x is. c.in_ok-more.ensures.kept x (c.turns.invariant.kept x is);
  steady = c.in_ok-more.ensures.steady;
  colon = c.in_ok-more.ensures.colon;
  fits = rw c.in-On.is at c.in_ok-more.ensures.fits;
}

pub returns-in-Off-clause-reads : goal.returns-in-Off-clause-reads
returns-in-Off-clause-reads c = turn_off items_view (item_cases every 63) (item_branch every 63) _ (items_view c.turns.items) (left c.turns.self) (left c.item.new.self) c.turns.invariant.reads c.in-Off.all (rw c.in-Off.is at c.in_ok-more.ensures.reads)
