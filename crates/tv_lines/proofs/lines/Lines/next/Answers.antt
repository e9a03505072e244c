use Rattle.std.proofs.Common.{◌∷◌, ◌-◌, List, ℕ, length, take, drop, sym, ap, ◌∙◌}
use Rattle.tv_lines.specs.Lines.{PlainLine, plain, line_of, lines_of}
use Rattle.tv_lines.proofs.PieceLemmas.{behind_piece-tail}
use Rattle.tv_lines.proofs.TextLemmas.{ended_line, last_line_of}
use Rattle.tv_lines.proofs.FitLemmas.{line_fit}
use Rattle.tv_lines.proofs.lines.Lines.next.Goals as goal

pub returns-in_ok-line-in-empty-clause-first : goal.returns-in_ok-line-in-empty-clause-first
returns-in_ok-line-in-empty-clause-first c =
    sym c.self.view_is ∙ last_line_of c.self.inside.rest.now c.cut.result.0.now c.cut.result.1.now c.cut.ensures.cut c.in-empty.len_below (sym c.is_empty.ensures ∙ c.if-is_empty.false)
    ∙ ap (λ (l : PlainLine). l ∷ lines_of c.cut.result.1.now) (sym c.in_ok-line-in-empty.ensures)

pub returns-in_ok-line-in-empty-clause-fit : goal.returns-in_ok-line-in-empty-clause-fit
returns-in_ok-line-in-empty-clause-fit c = line_fit c.cut.result.0.now (plain c.in_ok-line-in-empty.line) c.in_ok-line-in-empty.ensures

pub returns-in_ok-line-in-len1-up-clause-first : goal.returns-in_ok-line-in-len1-up-clause-first
returns-in_ok-line-in-len1-up-clause-first c =
    let after : List ℕ = c.cut.result.1.now in
    let next : List ℕ = take (length after - 1) (drop 1 after) in
    sym c.self.view_is ∙ ended_line c.self.inside.rest.now c.cut.result.0.now next (c.cut.ensures.cut ∙ ap (λ (ps : List (List ℕ)). c.cut.result.0.now ∷ ps) (behind_piece-tail 10 after c.in-len1-up.len_at_least))
    ∙ ap (λ (l : PlainLine). l ∷ lines_of next) (sym (c.in_ok-line-in-len1-up.ensures ∙ ap line_of c.without_return.ensures))

pub returns-in_ok-line-in-len1-up-clause-fit : goal.returns-in_ok-line-in-len1-up-clause-fit
returns-in_ok-line-in-len1-up-clause-fit c = line_fit c.without_return.result.now (plain c.in_ok-line-in-len1-up.line) c.in_ok-line-in-len1-up.ensures
