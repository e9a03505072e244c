use Rattle.std.proofs.Common.{sym, ap, Some, ◌∙◌, drop}
use Rattle.tv_grammar.specs.Reads.{next}
use Rattle.tv_reading.proofs.MarkLemmas.{next_is, none_is}
use Rattle.tv_reading.proofs.cursor.peek.Goals as goal

pub returns-in-Some : goal.returns-in-Some
returns-in-Some c = ap Some c.see.ensures ∙ sym (next_is c.args.source.now.text.now c.args.source.now.grows c.args.cursor.now.names c.args.cursor.now.draws (drop c.args.cursor.now.at c.args.source.now.list.now) c.in-Some.token (sym c.in-Some.ensures))

pub returns-in-None : goal.returns-in-None
returns-in-None c = sym (ap next (none_is c.args.source.now.text.now c.args.source.now.grows c.args.cursor.now.names c.args.cursor.now.draws (drop c.args.cursor.now.at c.args.source.now.list.now) (sym c.in-None.ensures)))
