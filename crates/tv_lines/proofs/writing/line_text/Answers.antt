use Rattle.std.proofs.Common.{◌≡◌, List, ℕ, IfOk, subst, sym, ◌∙◌}
use Rattle.tv_lines.proofs.SpellingLemmas.{plain_spelling}
use Rattle.tv_lines.proofs.writing.line_text.Goals as goal

pub returns-in-None : goal.returns-in-None
returns-in-None c =
    subst (λ (bytes : List ℕ). IfOk c.plain_text.result (λ text. text.items ≡ bytes))
    (plain_spelling c.args.head c.args.numbers.now (sym c.piece_mark.ensures ∙ c.in-None.is)) c.plain_text.ensures
