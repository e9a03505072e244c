-- The text of a condition is read as that condition again.
use Rattle.std.proofs.Common.{◌≡◌, ℕ, ◌≤◌, false, List, [], ◌∷◌, length, sym, subst, ◌∙◌, arith}
use Rattle.std.proofs.lemmas.List.{append-nil}
use Rattle.std.specs.Prelude.{IsTrue}
use Rattle.tv_language.specs.declared.token.TokenKind.TheVariants.{End}
use Rattle.tv_language.specs.Tokens.{IsTokens}
use Rattle.tv_program.specs.Words.{Word}
use Rattle.tv_program.specs.Trees.{Condition}
use Rattle.tv_program.specs.Limits.{condition_fits}
use Rattle.tv_language.specs.Symbols.{Symbol, Vocabulary, fixed}
use Rattle.tv_language.specs.Conditions.{IsCondition}
use Rattle.tv_spelling.specs.Conditions.{condition_text}
use Rattle.tv_spelling.specs.ReadAgain.{AreNames, IsOrderedTest, IsConditionText, IsConditionAgain}
use Rattle.tv_spelling.proofs.Pieces.{bytes, laid, laid_tokens, laid_symbols}
use Rattle.tv_spelling.proofs.SumAgain.{ready_end}
use Rattle.tv_spelling.proofs.ConditionPieces.{condition_pieces, condition_bytes, condition_fronts}
use Rattle.tv_spelling.proofs.ConditionDerived.{condition_shown}
use Rattle.tv_spelling.proofs.ConditionLeast.{condition_least}
use Rattle.tv_spelling.proofs.ConditionLevels.{condition_levels}

-- the text that is written is one within as many levels as any other, and more
pub condition_written : (ws : List Word) (c : Condition) (draws n m : ℕ) (ts rest : List Symbol) → AreNames ws → IsTrue (condition_fits (length ws) draws c) → IsOrderedTest c 0 → IsCondition n c ts rest → n ≤ m → IsConditionText ws m c (condition_text ws c)
condition_written ws c draws n m ts rest names fits ordered derived more =
    let pieces = condition_pieces ws c [] in
    let least = condition_least n c ts rest derived in
    let within : condition_levels c ≤ n = least.1 in
    let written : bytes pieces ≡ condition_text ws c = condition_bytes ws c [] ∙ append-nil (condition_text ws c) in
    record {
      tokens = laid 0 pieces;
      scanned = subst (λ (text : List ℕ). IsTokens 0 text (laid 0 pieces)) written (laid_tokens 0 pieces (condition_fronts ws draws names c fits [] ready_end));
      derived = λ labels.
          let v : Vocabulary = record { variables = ws; labels = labels } in
          subst (λ (ss : List Symbol). IsCondition m c ss (fixed End ∷ [])) (sym (laid_symbols v (condition_text ws c) false 0 0 pieces (sym written)))
          ((condition_shown v draws names c fits least.0).as_condition m 0 [] ordered (omega arith));
    }

pub read_condition_again : (ws : List Word) (c : Condition) → IsConditionAgain ws c (condition_text ws c)
read_condition_again ws c draws n ts rest names fits ordered derived = condition_written ws c draws n n ts rest names fits ordered derived (omega arith)
