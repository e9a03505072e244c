use Rattle.std.proofs.Common.{◌≡◌, Bool, false, Some, ap, sym, ◌∙◌}
use Rattle.tv_language.specs.declared.token.TokenKind.TheVariants as kinds
use Rattle.tv_language.specs.declared.token.Token.{Token}
use Rattle.tv_program.specs.Words.{number_of}
use Rattle.tv_language.specs.Symbols.{lexeme, name}
use Rattle.tv_grammar.specs.Reads.{next}
use Rattle.tv_reading.specs.Readings.{token_at}
use Rattle.tv_reader.specs.ProgramMarks.{mark_by, numbered}
use Rattle.tv_reader.specs.Readers.{left, words_of}
use Rattle.tv_reader.proofs.StepLemmas.{next_is}
use Rattle.tv_reader.proofs.TurnSteps.{name_marked}
use Rattle.tv_reader.proofs.reader.Reader.variable.Goals as goal

pub returns-clause-marked : goal.returns-clause-marked
returns-clause-marked c =
    let r = c.args.self.now in
    let t = c.peek.result in
    let next_mark : next (left r) ≡ Some (numbered kinds.Name name (number_of (lexeme r.reading.text t).word r.reading.names)) =
    next_is r.labels r.behind_colon r.reading c.requires.steady.reads.closed
    ∙ ap (λ (b : Bool). Some (mark_by (words_of r) b r.reading.draws (token_at r.reading).kind (lexeme r.reading.text (token_at r.reading)).word)) c.requires.behind
    ∙ ap (λ k. Some (mark_by (words_of r) false r.reading.draws k (lexeme r.reading.text (token_at r.reading)).word)) c.requires.named
    ∙ ap (λ (x : Token). Some (numbered kinds.Name name (number_of (lexeme r.reading.text x).word r.reading.names))) (sym c.peek.ensures) in
    let word : c.word_of-word.result.now ≡ (lexeme r.reading.text t).word = c.word_of-word.ensures ∙ ap (λ text. (lexeme text t).word) c.requires.steady.text in
    let found : c.find.result ≡ number_of (lexeme r.reading.text t).word r.reading.names = c.find.ensures.number ∙ ap (λ w. number_of w c.names.result.now) word ∙ ap (λ ns. number_of (lexeme r.reading.text t).word ns) c.names.ensures in
    name_marked c.find.result (left r) (next_mark ∙ ap (λ o. Some (numbered kinds.Name name o)) (sym found))
