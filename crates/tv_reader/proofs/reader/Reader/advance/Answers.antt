use Rattle.std.proofs.Common.{◌≡◌, ◌∷◌, Bool, ap, sym, subst, ◌∙◌}
use Rattle.tv_language.specs.Symbols.{is_colon}
use Rattle.tv_reading.specs.Marks.{Stand}
use Rattle.tv_reading.specs.Readings.{taken, token_at}
use Rattle.tv_reader.specs.Readers.{Steady}
use Rattle.tv_reader.proofs.StepLemmas.{left_of, steady_passing, left_passing, mark_of}
use Rattle.tv_reader.proofs.reader.Reader.advance.Goals as goal

pub returns-clause-steady : goal.returns-clause-steady
returns-clause-steady c =
    let r = c.args.self.now in
    let colon : c.is_colon-self.result ≡ is_colon (token_at r.reading).kind = c.is_colon-self.ensures ∙ ap (λ t. is_colon t.kind) c.peek.ensures in
    record {
      text = c.requires.steady.text ∙ sym (ap (λ (s : Stand). s.text) c.take.ensures);
      reads = subst (λ (s : Stand). Steady c.is_colon-self.result s) (sym c.take.ensures) (subst (λ (b : Bool). Steady b (taken r.reading)) (sym colon) (steady_passing r.behind_colon r.reading c.requires.steady.reads c.requires.passing));
    }

pub returns-clause-taken : goal.returns-clause-taken
returns-clause-taken c =
    let r = c.args.self.now in
    let colon : c.is_colon-self.result ≡ is_colon (token_at r.reading).kind = c.is_colon-self.ensures ∙ ap (λ t. is_colon t.kind) c.peek.ensures in
    left_passing r.labels r.behind_colon r.reading c.requires.steady.reads c.requires.passing
    ∙ ap (λ (b : Bool). mark_of r.labels r.behind_colon r.reading ∷ left_of r.labels b (taken r.reading)) (sym colon)
    ∙ ap (λ (s : Stand). mark_of r.labels r.behind_colon r.reading ∷ left_of r.labels c.is_colon-self.result s) (sym c.take.ensures)
