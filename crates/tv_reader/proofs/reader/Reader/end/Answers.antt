use Rattle.std.proofs.Common.{◌≡◌, ◌∷◌, [], Bool, false, Some, ap, sym, ◌∙◌}
use Rattle.tv_language.specs.declared.token.TokenKind.TheVariants as kinds
use Rattle.tv_language.specs.Symbols.{lexeme, fixed}
use Rattle.tv_grammar.specs.Langs.{headed_read}
use Rattle.tv_reading.specs.Marks.{Syntax, plain}
use Rattle.tv_reading.specs.Readings.{token_at}
use Rattle.tv_reader.specs.ProgramMarks.{mark_by}
use Rattle.tv_reader.specs.ProgramGrammar.{last_of_program}
use Rattle.tv_reading.specs.Views.{is_last}
use Rattle.tv_reader.specs.Readers.{left, words_of}
use Rattle.tv_reader.proofs.StepLemmas.{next_is, last_alone}
use Rattle.tv_reader.proofs.TurnSteps.{end_starts, end_many, end_syntax}
use Rattle.tv_reader.proofs.reader.Reader.end.Goals as goal

pub returns-in-End : goal.returns-in-End
returns-in-End c = λ s.
    let r = c.args.self.now in
    let kind : (token_at r.reading).kind ≡ kinds.End = sym c.kind.ensures ∙ c.in-End.is in
    let word = (lexeme r.reading.text (token_at r.reading)).word in
    let alone : left r ≡ plain (fixed kinds.End) ∷ [] =
    last_alone r.labels r.behind_colon r.reading c.requires.steady.reads.closed (ap is_last kind)
    ∙ ap (λ (b : Bool). mark_by (words_of r) b r.reading.draws (token_at r.reading).kind word ∷ []) c.requires.behind
    ∙ ap (λ k. mark_by (words_of r) false r.reading.draws k word ∷ []) kind in
    ap (headed_read Syntax (last_of_program s)) alone

pub returns-in-Start : goal.returns-in-Start
returns-in-Start c = λ s.
    let r = c.args.self.now in
    let word = (lexeme r.reading.text (token_at r.reading)).word in
    end_starts s (left r) (next_is r.labels r.behind_colon r.reading c.requires.steady.reads.closed
    ∙ ap (λ (b : Bool). Some (mark_by (words_of r) b r.reading.draws (token_at r.reading).kind word)) c.requires.behind
    ∙ ap (λ k. Some (mark_by (words_of r) false r.reading.draws k word)) (sym c.kind.ensures ∙ c.in-Start.is))

pub returns-in-From : goal.returns-in-From
returns-in-From c = λ s.
    let r = c.args.self.now in
    let word = (lexeme r.reading.text (token_at r.reading)).word in
    end_many s (left r) (next_is r.labels r.behind_colon r.reading c.requires.steady.reads.closed
    ∙ ap (λ (b : Bool). Some (mark_by (words_of r) b r.reading.draws (token_at r.reading).kind word)) c.requires.behind
    ∙ ap (λ k. Some (mark_by (words_of r) false r.reading.draws k word)) (sym c.kind.ensures ∙ c.in-From.is))

pub returns-in_default : goal.returns-in_default
returns-in_default c = λ s.
    let r = c.args.self.now in
    let kind = (token_at r.reading).kind in
    let word = (lexeme r.reading.text (token_at r.reading)).word in
    end_syntax (words_of r) r.reading.draws kind word s (λ e. c.in_default.not-End (c.kind.ensures ∙ e)) (λ e. c.in_default.not-Start (c.kind.ensures ∙ e)) (λ e. c.in_default.not-From (c.kind.ensures ∙ e)) (left r)
    (next_is r.labels r.behind_colon r.reading c.requires.steady.reads.closed ∙ ap (λ (b : Bool). Some (mark_by (words_of r) b r.reading.draws kind word)) c.requires.behind)
