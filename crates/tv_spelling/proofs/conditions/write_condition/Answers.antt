use Rattle.std.proofs.Common.{◌≡◌, ℕ, List, ◌++◌, ap, sym, subst, ◌∙◌}
use Rattle.tv_program.specs.Views.{condition}
use Rattle.tv_spelling.specs.Conditions.{condition_text}
use Rattle.tv_spelling.specs.ReadAgain.{IsConditionAgain, IsConditionReadAgain}
use Rattle.tv_spelling.proofs.ConditionAgain.{read_condition_again}
use Rattle.tv_spelling.proofs.FoundAgain.{read_found_condition}
use Rattle.tv_spelling.proofs.conditions.write_condition.Goals as goal

pub returns-clause-again : goal.returns-clause-again
returns-clause-again c =
    let words = c.args.names.now in
    let tested = condition c.args.written.now in
    let written : c.append_condition.new.out.items ≡ condition_text words tested = c.in_ok-append_condition.ensures ∙ ap (λ (x : List ℕ). x ++ condition_text words tested) c.new-text.ensures.items in
    subst (λ (text : List ℕ). IsConditionAgain words tested text) (sym written) (read_condition_again words tested)

pub returns-clause-read : goal.returns-clause-read
returns-clause-read c =
    let words = c.args.names.now in
    let tested = condition c.args.written.now in
    let written : c.append_condition.new.out.items ≡ condition_text words tested = c.in_ok-append_condition.ensures ∙ ap (λ (x : List ℕ). x ++ condition_text words tested) c.new-text.ensures.items in
    subst (λ (text : List ℕ). IsConditionReadAgain words tested text) (sym written) (read_found_condition words tested)
