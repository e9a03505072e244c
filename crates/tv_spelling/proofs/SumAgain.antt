-- The text of a sum is read as that sum again.
use Rattle.std.proofs.Common.{◌≡◌, ℕ, ◌≤◌, false, List, [], ◌∷◌, length, refl, sym, subst, ◌∙◌, arith}
use Rattle.std.proofs.lemmas.List.{append-nil}
use Rattle.std.specs.Prelude.{IsTrue}
use Rattle.tv_language.specs.declared.token.TokenKind.TheVariants.{End}
use Rattle.tv_language.specs.Tokens.{IsTokens}
use Rattle.tv_program.specs.Words.{Word}
use Rattle.tv_program.specs.Trees.{Expression}
use Rattle.tv_program.specs.Limits.{expression_fits}
use Rattle.tv_language.specs.Symbols.{Symbol, Vocabulary, fixed}
use Rattle.tv_language.specs.Sums.{IsSum}
use Rattle.tv_spelling.specs.Sums.{expression_text}
use Rattle.tv_spelling.specs.ReadAgain.{AreNames, IsOrdered, IsSumText, IsSumAgain}
use Rattle.tv_spelling.proofs.Pieces.{bytes, laid, IsReady, laid_tokens, laid_symbols}
use Rattle.tv_spelling.proofs.SumPieces.{expression_pieces, expression_bytes, expression_fronts}
use Rattle.tv_spelling.proofs.SumDerived.{expression_shown}
use Rattle.tv_spelling.proofs.SumLeast.{sum_least}
use Rattle.tv_spelling.proofs.SumLevels.{sum_levels}

-- nothing follows
pub ready_end : IsReady []
ready_end = record { stops = refl; fronts = tt }

-- the text that is written is one within as many levels as any other, and more
pub sum_written : (ws : List Word) (e : Expression) (draws n m : ℕ) (ts rest : List Symbol) → AreNames ws → IsTrue (expression_fits (length ws) draws e) → IsOrdered e 0 → IsSum n e ts rest → n ≤ m → IsSumText ws m e (expression_text ws e)
sum_written ws e draws n m ts rest names fits ordered derived more =
    let pieces = expression_pieces ws e [] in
    let least = sum_least n e ts rest derived in
    let within : sum_levels e ≤ n = least.1 in
    let written : bytes pieces ≡ expression_text ws e = expression_bytes ws e [] ∙ append-nil (expression_text ws e) in
    record {
      tokens = laid 0 pieces;
      scanned = subst (λ (text : List ℕ). IsTokens 0 text (laid 0 pieces)) written (laid_tokens 0 pieces (expression_fronts ws draws names e fits [] ready_end));
      derived = λ labels.
          let v : Vocabulary = record { variables = ws; labels = labels } in
          subst (λ (ss : List Symbol). IsSum m e ss (fixed End ∷ [])) (sym (laid_symbols v (expression_text ws e) false 0 0 pieces (sym written)))
          ((expression_shown v draws names e fits least.0).as_sum m 0 [] ordered (omega arith));
    }

pub read_sum_again : (ws : List Word) (e : Expression) → IsSumAgain ws e (expression_text ws e)
read_sum_again ws e draws n ts rest names fits ordered derived = sum_written ws e draws n n ts rest names fits ordered derived (omega arith)
