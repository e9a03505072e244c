use Rattle.std.proofs.Common.{refl, ap}
use Rattle.tv_program.specs.Views.{instruction}
use Rattle.std.proofs.lemmas.Result.{err_from_is_err_and}
use Rattle.tv_reader.specs.Readers.{instructions, Fixture, fixture}
use Rattle.tv_reader.proofs.FitSteps.{more_fit}
use Rattle.tv_reader.proofs.reader.Reader.assigned.Goals as goal

pub returns-in_err-command-clause-reads : goal.returns-in_err-command-clause-reads
returns-in_err-command-clause-reads c =
    let p = err_from_is_err_and c.from_residual.result c.from_residual.ensures.1 in
    rw (p.1, p.2) (c.in_err-command.ensures.reads (instructions c.args.commands))

pub returns-clause-fits : goal.returns-clause-fits
returns-clause-fits c =
    let kept = c.in_ok-command.ensures.kept (fixture c.args.self.now) refl in
    more_fit c.args.self.now c.assignment.new.self c.args.commands c.in_ok-with_command.field-0 (instruction c.in_ok-command.command) (ap (λ (x : Fixture). x.names) kept) c.requires.fits c.in_ok-command.ensures.draws c.in_ok-command.ensures.fits c.in_ok-with_command.ensures
