use Rattle.std.proofs.Common.{◌≡◌, ◌∷◌, ◌≤◌, length, Bool, false, List, Some, Ok, refl, ap, sym, ◌∙◌, inl, inr, rules}
use Rattle.tv_language.specs.declared.token.TokenKind.TheVariants as kinds
use Rattle.tv_language.specs.Symbols.{lexeme, fixed}
use Rattle.tv_grammar.specs.Reads.{next}
use Rattle.tv_grammar.specs.Langs.{goes_at}
use Rattle.tv_reading.specs.Marks.{Mark, plain}
use Rattle.tv_reading.specs.Readings.{token_at}
use Rattle.tv_reading.specs.SumGrammar.{every}
use Rattle.tv_reader.specs.ProgramMarks.{mark_by}
use Rattle.tv_reader.specs.ProgramGrammar.{item_cases}
use Rattle.tv_reader.specs.Readers.{left, words_of, items_view}
use Rattle.tv_reader.proofs.StepLemmas.{next_is}
use Rattle.tv_reader.proofs.FitSteps.{has_start_of, full}
use Rattle.tv_reader.proofs.TurnSteps.{turn_given, start_off, from_off, item_mark_begins, item_off, semicolon_came, no_semicolon, semicolon_off}
use Rattle.tv_reader.proofs.reader.Reader.item.Goals as goal

pub returns-then-is_some-clause-reads : goal.returns-then-is_some-clause-reads
returns-then-is_some-clause-reads c =
    let r = c.args.self.now in
    let word = (lexeme r.reading.text (token_at r.reading)).word in (
      start_off (items_view c.args.items) (left r) (has_start_of c.args.items.start (sym c.is_some.ensures ∙ c.if-is_some.true))
          (next_is r.labels r.behind_colon r.reading c.requires.steady.reads.closed
          ∙ ap (λ (b : Bool). Some (mark_by (words_of r) b r.reading.draws (token_at r.reading).kind word)) c.requires.behind
          ∙ ap (λ k. Some (mark_by (words_of r) false r.reading.draws k word)) (sym c.kind.ensures ∙ c.in-Start.is)),
      refl,
      refl,
    )

pub returns-then-len-ge-MOST_EDGES-clause-reads : goal.returns-then-len-ge-MOST_EDGES-clause-reads
returns-then-len-ge-MOST_EDGES-clause-reads c =
    let r = c.args.self.now in
    let word = (lexeme r.reading.text (token_at r.reading)).word in
    let many : 4096 ≤ length c.args.items.edges.items = search (c.if-len-ge-MOST_EDGES.true, c.len.ensures, rules) in (
      from_off (items_view c.args.items) (left r) (full c.args.items.edges many)
          (next_is r.labels r.behind_colon r.reading c.requires.steady.reads.closed
          ∙ ap (λ (b : Bool). Some (mark_by (words_of r) b r.reading.draws (token_at r.reading).kind word)) c.requires.behind
          ∙ ap (λ k. Some (mark_by (words_of r) false r.reading.draws k word)) (sym c.kind.ensures ∙ c.in-From.is)),
      refl,
      refl,
    )

pub returns-in-Mark-clause-reads : goal.returns-in-Mark-clause-reads
returns-in-Mark-clause-reads c =
    let r = c.args.self.now in
    let s = items_view c.args.items in
    let kind : (token_at r.reading).kind ≡ kinds.Mark = sym c.kind.ensures ∙ c.in-Mark.is in
    let word = (lexeme r.reading.text (token_at r.reading)).word in
    let mark : left r ≡ plain (fixed kinds.Mark) ∷ left c.advance-in-Mark.new.self =
    c.advance-in-Mark.ensures.taken
    ∙ ap (λ (b : Bool). mark_by (words_of r) b r.reading.draws (token_at r.reading).kind word ∷ left c.advance-in-Mark.new.self) c.requires.behind
    ∙ ap (λ k. mark_by (words_of r) false r.reading.draws k word ∷ left c.advance-in-Mark.new.self) kind in
    turn_given items_view (item_cases every 63) s (left r) (left c.perhaps_ended.new.self) c.args.items _ (item_mark_begins s (left r) (left c.advance-in-Mark.new.self) mark)
    (elim c.perhaps_ended.ensures.taken [
      | inl e ↦ semicolon_came s (left c.advance-in-Mark.new.self) (left c.perhaps_ended.new.self) e
      | inr e ↦ no_semicolon s (left c.advance-in-Mark.new.self) (semicolon_off (left c.advance-in-Mark.new.self) e.1) ∙ ap (λ (us : List Mark). Ok (s, us)) (sym e.0)
    ])

pub returns-in_default : goal.returns-in_default
returns-in_default c =
    let r = c.args.self.now in
    let s = items_view c.args.items in
    let kind = (token_at r.reading).kind in
    let word = (lexeme r.reading.text (token_at r.reading)).word in
    let off : goes_at (item_cases every 63 s) (next (left r)) ≡ false =
    ap (goes_at (item_cases every 63 s)) (next_is r.labels r.behind_colon r.reading c.requires.steady.reads.closed)
    ∙ ap (λ (b : Bool). goes_at (item_cases every 63 s) (Some (mark_by (words_of r) b r.reading.draws kind word))) c.requires.behind
    ∙ item_off (words_of r) r.reading.draws kind word s (λ e. c.in_default.not-Start (c.kind.ensures ∙ e)) (λ e. c.in_default.not-From (c.kind.ensures ∙ e)) (λ e. c.in_default.not-Passed (c.kind.ensures ∙ e)) (λ e. c.in_default.not-Mark (c.kind.ensures ∙ e)) in
    record { steady = c.requires.steady; kept = λ x is. is; reads = (off, refl, refl); colon = c.requires.behind; fits = c.requires.fits }
