use Rattle.std.proofs.lemmas.Result.{err_from_is_err_and}
use Rattle.tv_reader.specs.Readers.{items_view}
use Rattle.tv_reader.proofs.reader.Reader.program.Goals as goal

pub returns-in_err-end-clause-reads : goal.returns-in_err-end-clause-reads
returns-in_err-end-clause-reads c =
    let p = err_from_is_err_and c.from_residual-in_err-end.result c.from_residual-in_err-end.ensures.1 in
    rw (p.1, p.2, c.in_ok-items.ensures.reads) (c.in_err-end.ensures (items_view c.in_ok-items.items))

pub returns-clause-reads : goal.returns-clause-reads
returns-clause-reads c = rw c.in_ok-items.ensures.reads (c.in_ok-end.ensures (items_view c.in_ok-items.items))
