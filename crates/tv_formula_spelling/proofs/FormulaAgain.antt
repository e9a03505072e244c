-- The spelling of a formula that has a text is a text of it, too.
use Rattle.std.proofs.Common.{◌≡◌, ℕ, ◌+◌, ◌≤◌, List, [], ◌∷◌, length, take, drop, refl, sym, ap, subst, ◌∙◌}
use Rattle.std.proofs.lemmas.List.{append-nil}
use Rattle.tv_language.specs.Tokens.{IsTokens}
use Rattle.tv_program.specs.Systems.{System}
use Rattle.tv_program.specs.Words.{Word}
use Rattle.tv_language.specs.Symbols.{Vocabulary, lexemes}
use Rattle.tv_formula.specs.Properties.{Property}
use Rattle.tv_formula_reader.specs.Signs.{Sign, signs}
use Rattle.tv_formula_reader.specs.FormulaTexts.{words_of, ended, IsFormula}
use Rattle.tv_spelling.proofs.Pieces.{Piece, blank, line_feed, word, bytes, laid, laid_tokens, taken, further}
use Rattle.tv_spelling.proofs.SumAgain.{ready_end}
use Rattle.tv_spelling.proofs.FrontWords.{words_read}
use Rattle.tv_formula_spelling.specs.Formulas.{text_of, IsFormulaAgain}
use Rattle.tv_formula_spelling.proofs.FormulaPieces.{formula_pieces, formula_bytes}
use Rattle.tv_formula_spelling.proofs.FormulaFronts.{formula_fronts}
use Rattle.tv_formula_spelling.proofs.FormulaReady.{signs_good, formula_shown, formula_levels}
use Rattle.tv_formula_spelling.proofs.FormulaDerived.{formula_derived}
use Rattle.tv_formula_spelling.proofs.SumSigns.{sign_of, signs_of}

laid_signs : (v : Vocabulary) (text : List ℕ) (at : ℕ) (bs : List Piece) → drop at text ≡ bytes bs → signs v (lexemes text (laid at bs)) ≡ signs_of v bs
laid_signs v text at [] h = refl
laid_signs v text at (blank ∷ bs) h = laid_signs v text (at + 1) bs (further text (32 ∷ []) (bytes bs) at h)
laid_signs v text at (line_feed ∷ bs) h = laid_signs v text (at + 1) bs (further text (10 ∷ []) (bytes bs) at h)
laid_signs v text at (word kind w ∷ bs) h =
    let here : take (length w) (drop at text) ≡ w = ap (take (length w)) h ∙ taken w (bytes bs) in
    ap (λ (u : Word). sign_of v kind u ∷ signs v (lexemes text (laid (at + length w) bs))) here
    ∙ ap (λ (ts : List Sign). sign_of v kind w ∷ ts) (laid_signs v text (at + length w) bs (further text w (bytes bs) at h))

pub read_formula_again : (p : System) (f : Property) → IsFormulaAgain p f (text_of p f)
read_formula_again p f t h =
    let v = words_of p in
    let shown = formula_shown v h.derived (signs_good v (lexemes t h.tokens) (words_read t 0 t h.tokens refl h.scanned)) in
    let within : formula_levels f ≤ 64 = shown.within in
    let pieces = formula_pieces p.variables p.locations f [] in
    let written : bytes pieces ≡ text_of p f = formula_bytes p.variables p.locations f [] ∙ append-nil (text_of p f) in
    record {
      tokens = laid 0 pieces;
      scanned = subst (λ (text : List ℕ). IsTokens 0 text (laid 0 pieces)) written (laid_tokens 0 pieces (formula_fronts v f shown.ready [] ready_end));
      derived = subst (λ (ts : List Sign). IsFormula 64 f ts (ended ∷ [])) (sym (laid_signs v (text_of p f) 0 pieces (sym written))) (formula_derived v f 64 shown.ready within);
    }
