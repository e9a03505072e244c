use Rattle.std.proofs.Common.{◌≡◌, refl, ap, sym, ◌∙◌, rules}
use Rattle.tv_language.specs.Symbols.{lexeme}
use Rattle.tv_reading.specs.Readings.{token_at}
use Rattle.tv_reading.specs.Views.{kind_at}
use Rattle.tv_reader.specs.Readers.{words_of}
use Rattle.tv_reader.proofs.StepLemmas.{next_is}
use Rattle.tv_reader.proofs.TokenSteps.{kind_of_mark}
use Rattle.tv_reader.proofs.reader.Reader.expect.Goals as goal

pub returns-then-ne-clause-taken : goal.returns-then-ne-clause-taken
returns-then-ne-clause-taken c =
    let r = c.args.self.now in
    let next = next_is r.labels r.behind_colon r.reading c.requires.steady.reads.closed in
    (refl, refl, λ e. let same : c.kind.result ≡ c.args.kind = c.kind.ensures ∙ kind_of_mark (words_of r) r.behind_colon r.reading.draws (token_at r.reading).kind (lexeme r.reading.text (token_at r.reading)).word c.args.kind c.requires.constant (sym (ap kind_at next) ∙ e) in search (same, c.if-ne.true, c.ne.ensures, rules))
