use Rattle.std.proofs.Common.{◌≡◌, ◌∷◌, Bool, false, List, Some, Ok, refl, ap, sym, ◌∙◌, inl, inr}
use Rattle.tv_language.specs.declared.token.TokenKind.TheVariants as kinds
use Rattle.tv_language.specs.Symbols.{lexeme, fixed}
use Rattle.tv_grammar.specs.Reads.{next}
use Rattle.tv_grammar.specs.Langs.{goes_at}
use Rattle.tv_reading.specs.Marks.{Mark, plain}
use Rattle.tv_reading.specs.Readings.{token_at}
use Rattle.tv_reading.specs.SumGrammar.{every}
use Rattle.tv_reader.specs.ProgramMarks.{mark_by}
use Rattle.tv_reader.specs.ProgramGrammar.{command_cases}
use Rattle.tv_reader.specs.Readers.{left, words_of, instructions}
use Rattle.tv_reader.proofs.StepLemmas.{next_is}
use Rattle.tv_reader.proofs.TurnSteps.{turn_given, mark_begins, other_off, semicolon_came, no_semicolon, semicolon_off}
use Rattle.tv_reader.proofs.reader.Reader.command.Goals as goal

pub returns-in-Mark-clause-reads : goal.returns-in-Mark-clause-reads
returns-in-Mark-clause-reads c =
    let r = c.args.self.now in
    let cs = instructions c.args.commands in
    let kind : (token_at r.reading).kind ≡ kinds.Mark = sym c.kind.ensures ∙ c.in-Mark.is in
    let word = (lexeme r.reading.text (token_at r.reading)).word in
    let mark : left r ≡ plain (fixed kinds.Mark) ∷ left c.advance-in-Mark.new.self =
    c.advance-in-Mark.ensures.taken
    ∙ ap (λ (b : Bool). mark_by (words_of r) b r.reading.draws (token_at r.reading).kind word ∷ left c.advance-in-Mark.new.self) c.requires.behind
    ∙ ap (λ k. mark_by (words_of r) false r.reading.draws k word ∷ left c.advance-in-Mark.new.self) kind in
    turn_given instructions (command_cases every 63) cs (left r) (left c.perhaps_ended.new.self) c.args.commands _ (mark_begins cs (left r) (left c.advance-in-Mark.new.self) mark)
    (elim c.perhaps_ended.ensures.taken [
      | inl e ↦ semicolon_came cs (left c.advance-in-Mark.new.self) (left c.perhaps_ended.new.self) e
      | inr e ↦ no_semicolon cs (left c.advance-in-Mark.new.self) (semicolon_off (left c.advance-in-Mark.new.self) e.1) ∙ ap (λ (us : List Mark). Ok (cs, us)) (sym e.0)
    ])

pub returns-in_default : goal.returns-in_default
returns-in_default c =
    let r = c.args.self.now in
    let cs = instructions c.args.commands in
    let kind = (token_at r.reading).kind in
    let word = (lexeme r.reading.text (token_at r.reading)).word in
    let off : goes_at (command_cases every 63 cs) (next (left r)) ≡ false =
    ap (goes_at (command_cases every 63 cs)) (next_is r.labels r.behind_colon r.reading c.requires.steady.reads.closed)
    ∙ ap (λ (b : Bool). goes_at (command_cases every 63 cs) (Some (mark_by (words_of r) b r.reading.draws kind word))) c.requires.behind
    ∙ other_off (words_of r) r.reading.draws kind word cs (λ e. c.in_default.not-Assume (c.kind.ensures ∙ e)) (λ e. c.in_default.not-Name (c.kind.ensures ∙ e)) (λ e. c.in_default.not-Mark (c.kind.ensures ∙ e)) in
    record { steady = c.requires.steady; kept = λ x is. is; reads = (off, refl, refl); colon = c.requires.behind; fits = c.requires.fits }
