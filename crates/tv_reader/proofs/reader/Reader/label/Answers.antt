use Rattle.std.proofs.Common.{◌≡◌, Bool, true, Some, None, refl, ap, sym, ◌∙◌}
use Rattle.tv_language.specs.declared.token.Token.{Token}
use Rattle.tv_program.specs.Words.{number_of}
use Rattle.tv_language.specs.Symbols.{lexeme}
use Rattle.tv_grammar.specs.Reads.{next}
use Rattle.tv_reader.specs.ProgramMarks.{mark_by}
use Rattle.tv_reader.specs.Readers.{left, words_of}
use Rattle.tv_reader.proofs.StepLemmas.{next_is}
use Rattle.tv_reader.proofs.TokenSteps.{label_many, label_refused, label_wide, label_syntax}
use Rattle.tv_reader.proofs.reader.Reader.label.Goals as goal

pub returns-in-None-clause-reads : goal.returns-in-None-clause-reads
returns-in-None-clause-reads c =
    let r = c.args.self.now in
    let t = c.peek-token.result in
    let next_mark : next (left r) ≡ Some (mark_by (words_of r) true r.reading.draws t.kind (lexeme r.reading.text t).word) =
    next_is r.labels r.behind_colon r.reading c.requires.steady.reads.closed
    ∙ ap (λ (x : Token). Some (mark_by (words_of r) r.behind_colon r.reading.draws x.kind (lexeme r.reading.text x).word)) (sym c.peek-token.ensures)
    ∙ ap (λ (b : Bool). Some (mark_by (words_of r) b r.reading.draws t.kind (lexeme r.reading.text t).word)) c.requires.behind in
    let word : c.word_of.result.now ≡ (lexeme r.reading.text t).word = c.word_of.ensures ∙ ap (λ text. (lexeme text t).word) c.requires.steady.text in
    let none : number_of (lexeme r.reading.text t).word r.labels ≡ None = ap (λ w. number_of w r.labels) (sym word) ∙ sym c.find.ensures.number ∙ c.in-None.is in
    label_refused (left r) (next_mark ∙ ap (λ m. Some m) (label_many (words_of r) r.reading.draws t.kind (lexeme r.reading.text t).word c.in-Name.is none))

pub returns-in-Wide-clause-reads : goal.returns-in-Wide-clause-reads
returns-in-Wide-clause-reads c =
    let r = c.args.self.now in
    let t = c.peek-token.result in
    let next_mark : next (left r) ≡ Some (mark_by (words_of r) true r.reading.draws t.kind (lexeme r.reading.text t).word) =
    next_is r.labels r.behind_colon r.reading c.requires.steady.reads.closed
    ∙ ap (λ (x : Token). Some (mark_by (words_of r) r.behind_colon r.reading.draws x.kind (lexeme r.reading.text x).word)) (sym c.peek-token.ensures)
    ∙ ap (λ (b : Bool). Some (mark_by (words_of r) b r.reading.draws t.kind (lexeme r.reading.text t).word)) c.requires.behind in
    label_wide (left r) (next_mark ∙ ap (λ k. Some (mark_by (words_of r) true r.reading.draws k (lexeme r.reading.text t).word)) c.in-Wide.is)

pub returns-in_default : goal.returns-in_default
returns-in_default c =
    let r = c.args.self.now in
    let t = c.peek-token.result in
    let next_mark : next (left r) ≡ Some (mark_by (words_of r) true r.reading.draws t.kind (lexeme r.reading.text t).word) =
    next_is r.labels r.behind_colon r.reading c.requires.steady.reads.closed
    ∙ ap (λ (x : Token). Some (mark_by (words_of r) r.behind_colon r.reading.draws x.kind (lexeme r.reading.text x).word)) (sym c.peek-token.ensures)
    ∙ ap (λ (b : Bool). Some (mark_by (words_of r) b r.reading.draws t.kind (lexeme r.reading.text t).word)) c.requires.behind in
    record {
      steady = c.requires.steady;
      kept = λ x is. is;
      reads = label_syntax (words_of r) r.reading.draws t.kind (lexeme r.reading.text t).word c.in_default.not-Name c.in_default.not-Number c.in_default.not-Wide (left r) next_mark;
      colon = tt;
      draws = refl;
      within = tt;
    }
