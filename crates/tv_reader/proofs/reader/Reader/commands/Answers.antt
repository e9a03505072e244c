use Rattle.std.proofs.lemmas.Result.{err_from_is_err_and}
use Rattle.tv_reading.specs.SumGrammar.{every}
use Rattle.tv_reader.specs.ProgramGrammar.{command_cases}
use Rattle.tv_reader.specs.Readers.{left, instructions}
use Rattle.tv_reader.proofs.ProgramExact.{command_branch}
use Rattle.tv_reading.proofs.AnswerLemmas.{turn_failed, turn_on, turn_less, turn_off}
use Rattle.tv_reader.proofs.reader.Reader.commands.Goals as goal

pub returns-in_err-more-clause-reads : goal.returns-in_err-more-clause-reads
returns-in_err-more-clause-reads c =
    let p = err_from_is_err_and c.from_residual-in_err-more.result c.from_residual-in_err-more.ensures.1 in
    rw (p.1, p.2) (turn_failed instructions (command_cases every 63) (command_branch every 63) _ (instructions c.turns.commands) (left c.turns.self) (left c.command.new.self) c.turns.invariant.reads c.in_err-more.field-0.0 c.in_err-more.ensures.reads)

pub turns-smaller : goal.turns-smaller
turns-smaller c = turn_less instructions (command_cases every 63) (command_branch every 63) _ (instructions c.turns.commands) (left c.turns.self) (left c.command.new.self) c.turns.invariant.reads c.in-On.more (rw c.in-On.is at c.in_ok-more.ensures.reads)

pub turns-preserved : goal.turns-preserved
turns-preserved c = record {
  reads = turn_on instructions (command_cases every 63) (command_branch every 63) _ (instructions c.turns.commands) (left c.turns.self) (left c.command.new.self) c.turns.invariant.reads c.in-On.more (rw c.in-On.is at c.in_ok-more.ensures.reads);
  kept = λ x is. c.in_ok-more.ensures.kept x (c.turns.invariant.kept x is);
  steady = c.in_ok-more.ensures.steady;
  colon = c.in_ok-more.ensures.colon;
  fits = rw c.in-On.is at c.in_ok-more.ensures.fits;
}

pub returns-in-Off-clause-reads : goal.returns-in-Off-clause-reads
returns-in-Off-clause-reads c = turn_off instructions (command_cases every 63) (command_branch every 63) _ (instructions c.turns.commands) (left c.turns.self) (left c.command.new.self) c.turns.invariant.reads c.in-Off.all (rw c.in-Off.is at c.in_ok-more.ensures.reads)
