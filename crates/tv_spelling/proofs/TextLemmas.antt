-- What is left of a list of parts, and its text.
use Rattle.std.proofs.Common.{◌≡◌, ℕ, ◌+◌, ◌<◌, List, ◌++◌, length, drop, get_or, sym, ap, ◌∙◌, append_assoc}
use Rattle.std.specs.Prelude.{codes}
use Rattle.tv_program.specs.declared.tree.Expr.{Expr}
use Rattle.tv_program.specs.Words.{Word}
use Rattle.tv_program.specs.Trees.{Expression, minus, Expressions, part}
use Rattle.tv_program.specs.Views.{expression, expressions}
use Rattle.tv_program.proofs.PartLemmas.{expressions-next}
use Rattle.tv_spelling.specs.Sums.{as_part, expression_text, further_parts_text, further_part_text}

further_is : (ws : List Word) (e : Expression) (es : Expressions) → further_parts_text ws (part e es) ≡ further_part_text ws e ++ further_parts_text ws es
further_is ws (minus e) es = sym (append_assoc (codes " - ") (as_part e (expression_text ws e)) (further_parts_text ws es))
further_is ws e es = sym (append_assoc (codes " + ") (as_part e (expression_text ws e)) (further_parts_text ws es))

-- one more part is written
pub part_written : (ws : List Word) (es : List Expr) (i : ℕ) (item : Expr) (old new : List ℕ) → i < length es → item ≡ get_or es i item → new ≡ old ++ further_part_text ws (expression item)
    → new ++ further_parts_text ws (expressions (drop (i + 1) es)) ≡ old ++ further_parts_text ws (expressions (drop i es))
part_written ws es i item old new h is written =
    let rest = further_parts_text ws (expressions (drop (i + 1) es)) in
    ap (λ (x : List ℕ). x ++ rest) written ∙ append_assoc old (further_part_text ws (expression item)) rest
    ∙ ap (λ (x : List ℕ). old ++ x) (sym (further_is ws (expression item) (expressions (drop (i + 1) es))) ∙ ap (further_parts_text ws) (sym (expressions-next es i item h is)))
