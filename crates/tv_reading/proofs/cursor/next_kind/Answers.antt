use Rattle.std.proofs.Common.{sym, ap, ◌∙◌, drop}
use Rattle.tv_grammar.specs.Reads.{next}
use Rattle.tv_reading.specs.Views.{kind_at}
use Rattle.tv_reading.proofs.MarkLemmas.{next_is, none_is}
use Rattle.tv_reading.proofs.cursor.next_kind.Goals as goal

pub returns-in-Some : goal.returns-in-Some
returns-in-Some c = c.kind_seen.ensures ∙ sym (ap kind_at (next_is c.args.source.now.text.now c.args.source.now.grows c.args.cursor.now.names c.args.cursor.now.draws (drop c.args.cursor.now.at c.args.source.now.list.now) c.in-Some.token (sym c.in-Some.ensures)))

pub returns-in-None : goal.returns-in-None
returns-in-None c = sym (ap (λ ms. kind_at (next ms)) (none_is c.args.source.now.text.now c.args.source.now.grows c.args.cursor.now.names c.args.cursor.now.draws (drop c.args.cursor.now.at c.args.source.now.list.now) (sym c.in-None.ensures)))
