use Rattle.std.proofs.Common.{◌≡◌, ℕ, List, ◌++◌, ap, sym, subst, ◌∙◌}
use Rattle.tv_program.specs.Views.{expression}
use Rattle.tv_spelling.specs.Sums.{expression_text}
use Rattle.tv_spelling.specs.ReadAgain.{IsSumAgain, IsSumReadAgain}
use Rattle.tv_spelling.proofs.SumAgain.{read_sum_again}
use Rattle.tv_spelling.proofs.FoundAgain.{read_found_sum}
use Rattle.tv_spelling.proofs.sums.write_sum.Goals as goal

pub returns-clause-again : goal.returns-clause-again
returns-clause-again c =
    let words = c.args.names.now in
    let e = expression c.args.expr.now in
    let written : c.append_sum.new.out.items ≡ expression_text words e = c.in_ok-append_sum.ensures ∙ ap (λ (x : List ℕ). x ++ expression_text words e) c.new-text.ensures.items in
    subst (λ (text : List ℕ). IsSumAgain words e text) (sym written) (read_sum_again words e)

pub returns-clause-read : goal.returns-clause-read
returns-clause-read c =
    let words = c.args.names.now in
    let e = expression c.args.expr.now in
    let written : c.append_sum.new.out.items ≡ expression_text words e = c.in_ok-append_sum.ensures ∙ ap (λ (x : List ℕ). x ++ expression_text words e) c.new-text.ensures.items in
    subst (λ (text : List ℕ). IsSumReadAgain words e text) (sym written) (read_found_sum words e)
