use Rattle.std.proofs.Common.{◌≡◌, ◌∷◌, Bool, false, ap, sym, subst, ◌∙◌, arith}
use Rattle.tv_language.specs.declared.token.TokenKind.TheVariants as kinds
use Rattle.tv_language.specs.Symbols.{is_colon, fixed, lexeme}
use Rattle.tv_reading.specs.Marks.{Stand, plain}
use Rattle.tv_reading.specs.Readings.{taken, at_edge, token_at}
use Rattle.tv_reader.specs.ProgramMarks.{mark_by, draws_behind}
use Rattle.tv_reading.specs.Views.{is_last}
use Rattle.tv_reader.specs.Readers.{Steady}
use Rattle.tv_reader.proofs.StepLemmas.{left_of, steady_taken, left_taken}
use Rattle.tv_reader.proofs.TokenSteps.{from_mark}
use Rattle.tv_reader.proofs.reader.Reader.begin_edge.Goals as goal

pub returns-clause-steady : goal.returns-clause-steady
returns-clause-steady c =
    let r = c.args.self.now in
    let same : c.edge.new.self ≡ at_edge (taken r.reading) = c.edge.ensures ∙ ap at_edge c.take.ensures in
    let w : Steady (is_colon (token_at r.reading).kind) (taken r.reading) = steady_taken r.behind_colon r.reading c.requires.steady.reads (ap is_last c.requires.from) in
    let v : Steady false (taken r.reading) = subst (λ (b : Bool). Steady b (taken r.reading)) (ap is_colon c.requires.from) w in
    record {
      text = c.requires.steady.text ∙ sym (ap (λ (s : Stand). s.text) same);
      reads = subst (λ (s : Stand). Steady false s) (sym same) (record { grows = v.grows; level = v.level; within = (v.within.0, omega arith); known = v.known; closed = v.closed });
    }

pub returns-clause-taken : goal.returns-clause-taken
returns-clause-taken c =
    let r = c.args.self.now in
    let same : c.edge.new.self ≡ at_edge (taken r.reading) = c.edge.ensures ∙ ap at_edge c.take.ensures in
    left_taken r.labels r.behind_colon r.reading 0 c.requires.steady.reads (ap is_last c.requires.from) (ap (λ k. draws_behind k r.reading.draws) c.requires.from)
    ∙ ap (λ k. mark_by (record { variables = r.reading.names; labels = r.labels }) r.behind_colon r.reading.draws k (lexeme r.reading.text (token_at r.reading)).word ∷ left_of r.labels (is_colon k) (at_edge (taken r.reading))) c.requires.from
    ∙ ap (λ m. m ∷ left_of r.labels false (at_edge (taken r.reading))) (from_mark (record { variables = r.reading.names; labels = r.labels }) r.behind_colon r.reading.draws (lexeme r.reading.text (token_at r.reading)).word)
    ∙ ap (λ (s : Stand). plain (fixed kinds.From) ∷ left_of r.labels false s) (sym same)
