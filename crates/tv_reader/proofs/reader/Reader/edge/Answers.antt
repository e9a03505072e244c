use Rattle.std.proofs.Common.{IsTrue, length, subst, sym, rules}
use Rattle.std.proofs.lemmas.Result.{err_from_is_err_and}
use Rattle.tv_program.specs.Trees.{Transition}
use Rattle.tv_program.specs.Limits.{transition_fits}
use Rattle.tv_reader.specs.Readers.{instructions}
use Rattle.tv_reader.proofs.reader.Reader.edge.Goals as goal

pub returns-in_err-to-clause-reads : goal.returns-in_err-to-clause-reads
returns-in_err-to-clause-reads c = λ s.
    let p = err_from_is_err_and c.from_residual-in_err-to.result c.from_residual-in_err-to.ensures.1 in
    rw (p.1, p.2, c.in_ok-from.ensures.reads, c.in_ok-commands.ensures.reads) (c.in_err-to.ensures.reads s c.in_ok-from.from (instructions c.in_ok-commands.commands))

pub returns-clause-fits : goal.returns-clause-fits
returns-clause-fits c = subst (λ (t : Transition). IsTrue (transition_fits (length c.to.new.self.reading.names) (length c.to.new.self.labels) t)) (sym c.fitted.ensures) (search rules)
