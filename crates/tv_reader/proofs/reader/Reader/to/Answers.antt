use Rattle.std.proofs.Common.{◌≡◌, Bool, false, Some, refl, ap, ◌∙◌}
use Rattle.tv_language.specs.Symbols.{lexeme}
use Rattle.tv_grammar.specs.Reads.{next}
use Rattle.tv_reading.specs.Readings.{token_at}
use Rattle.tv_reader.specs.ProgramMarks.{mark_by}
use Rattle.tv_reader.specs.Readers.{left, words_of}
use Rattle.tv_reader.proofs.StepLemmas.{next_is}
use Rattle.tv_reader.proofs.TurnSteps.{to_syntax}
use Rattle.tv_reader.proofs.reader.Reader.to.Goals as goal

pub returns-in_default : goal.returns-in_default
returns-in_default c =
    let r = c.args.self.now in
    let kind = (token_at r.reading).kind in
    let word = (lexeme r.reading.text (token_at r.reading)).word in
    let next_mark : next (left r) ≡ Some (mark_by (words_of r) false r.reading.draws kind word) =
    next_is r.labels r.behind_colon r.reading c.requires.steady.reads.closed ∙ ap (λ (b : Bool). Some (mark_by (words_of r) b r.reading.draws kind word)) c.requires.behind in
    record {
      steady = c.requires.steady;
      kept = λ x is. is;
      reads = λ s from cs. to_syntax (words_of r) r.reading.draws kind word s from cs (λ e. c.in_default.not-To (c.kind.ensures ∙ e)) (λ e. c.in_default.not-Name (c.kind.ensures ∙ e)) (left r) next_mark;
      colon = tt;
      draws = refl;
      within = tt;
    }
