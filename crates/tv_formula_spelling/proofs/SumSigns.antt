-- The signs of a sum that is written into a formula.
use Rattle.std.proofs.Common.{◌≡◌, ℕ, ◌≤◌, Bool, true, false, cond, not, List, [], ◌∷◌, ◌++◌, length, Option, None, Some, refl, sym, ap, subst, ◌∙◌}
use Rattle.std.proofs.lemmas.List.{append-nil, append_cancel_right}
use Rattle.std.specs.Prelude.{◌^◌, nat_lt, slice_index_or}
use Rattle.tv_language.specs.declared.token.TokenKind.{TokenKind}
use Rattle.tv_language.specs.declared.token.TokenKind.TheVariants as kinds
use Rattle.tv_language.specs.Numbers.{value_of_digits}
use Rattle.tv_program.specs.Words.{Word, number_of}
use Rattle.tv_program.specs.Trees.{Expression}
use Rattle.tv_program.specs.Limits.{expression_fits}
use Rattle.tv_language.specs.Symbols.{Symbol, number, name, label, drawn, fixed, numbered, Vocabulary, symbol_by, is_colon, draws_behind}
use Rattle.tv_language.specs.Sums.{IsSum}
use Rattle.tv_language.proofs.DrawLemmas.{none_in}
use Rattle.tv_language.proofs.PlaceOfWords.{found}
use Rattle.tv_reading.specs.Marks as marks
use Rattle.tv_reading.specs.Marks.{plain, is_formula_word}
use Rattle.tv_reading.proofs.FitLemmas.{all_fit, sum_fits}
use Rattle.tv_reading.proofs.LongestTexts.{plains}
use Rattle.tv_reading.proofs.PassedLemmas.{symbols-append}
use Rattle.tv_reading.proofs.SymbolLemmas.{sum_uses}
use Rattle.tv_formula_reader.specs.Signs.{Sign, symbol_in, sign, symbols_of}
use Rattle.tv_formula_reader.specs.FormulaTexts.{ended}
use Rattle.tv_spelling.proofs.Pieces as pieces
use Rattle.tv_spelling.proofs.Pieces.{Piece, blank, line_feed, word}
use Rattle.tv_spelling.proofs.SumPieces.{expression_pieces, expression_leads}
use Rattle.tv_spelling.proofs.SumLevels.{sum_levels, is_regular}
use Rattle.tv_spelling.proofs.SumLeast.{sum_least}
use Rattle.tv_spelling.proofs.SumDerived.{known_shown}
use Rattle.tv_spelling.proofs.Ordered.{ordered_without_draws}
use Rattle.tv_spelling.proofs.Mentioned.{variables_in, variables_of, sum_mentions}
use Rattle.tv_spelling.proofs.KnownNames.{AreKnownIn, EachKnown, known_in}
use Rattle.tv_spelling.proofs.SettledMarks.{AreFree, settled, all_settled, settled_before_end}
use Rattle.tv_spelling.proofs.FoundAgain.{sum_to_end}
use Rattle.tv_formula_spelling.proofs.FormulaReady.{AreGood, SumReady}
use Rattle.std.proofs.lemmas.Bool.{and_from, not-true, and_parts}

-- ---- the signs of words and spaces

abbrev pub sign_of : Vocabulary → TokenKind → Word → Sign
sign_of v kind w = sign v (record { kind = kind; word = w })

abbrev pub word_signs : Vocabulary → List Piece → List Sign
word_signs v [] = []
word_signs v (blank ∷ bs) = word_signs v bs
word_signs v (line_feed ∷ bs) = word_signs v bs
word_signs v (word kind w ∷ bs) = sign_of v kind w ∷ word_signs v bs

-- and that of the end
abbrev pub signs_of : Vocabulary → List Piece → List Sign
signs_of v [] = ended ∷ []
signs_of v (blank ∷ bs) = signs_of v bs
signs_of v (line_feed ∷ bs) = signs_of v bs
signs_of v (word kind w ∷ bs) = sign_of v kind w ∷ signs_of v bs

pub signs-append : (v : Vocabulary) (a b : List Piece) → signs_of v (a ++ b) ≡ word_signs v a ++ signs_of v b
signs-append v [] b = refl
signs-append v (blank ∷ a) b = signs-append v a b
signs-append v (line_feed ∷ a) b = signs-append v a b
signs-append v (word kind w ∷ a) b = ap (λ (ts : List Sign). sign_of v kind w ∷ ts) (signs-append v a b)

-- ---- what a sum has that is ready

good_fits : (ws : List Word) (ss : List Symbol) → AreGood ws ss → all_fit (length ws) 0 ss ≡ true
good_fits ws [] h = refl
good_fits ws (number k ∷ ss) h = and_from _ _ h.0 (good_fits ws ss h.1)
good_fits ws (name v ∷ ss) h = and_from _ _ h.0.1 (good_fits ws ss h.1)
good_fits ws (label l ∷ ss) h = good_fits ws ss h.1
good_fits ws (drawn d ∷ ss) h = absurd h.0
good_fits ws (fixed kind ∷ ss) h = good_fits ws ss h.1

good_known : (ws : List Word) (ss : List Symbol) → AreGood ws ss → EachKnown ws (variables_in ss)
good_known ws [] h = tt
good_known ws (number k ∷ ss) h = good_known ws ss h.1
good_known ws (name v ∷ ss) h = (h.0.0, good_known ws ss h.1)
good_known ws (label l ∷ ss) h = good_known ws ss h.1
good_known ws (drawn d ∷ ss) h = good_known ws ss h.1
good_known ws (fixed kind ∷ ss) h = good_known ws ss h.1

good_free : (ws : List Word) (ss : List Symbol) → AreGood ws ss → AreFree false ws (variables_in ss)
good_free ws [] h = tt
good_free ws (number k ∷ ss) h = good_free ws ss h.1
good_free ws (name v ∷ ss) h = (ap not h.0.2, good_free ws ss h.1)
good_free ws (label l ∷ ss) h = good_free ws ss h.1
good_free ws (drawn d ∷ ss) h = good_free ws ss h.1
good_free ws (fixed kind ∷ ss) h = good_free ws ss h.1

module _ (ws : List Word) (e : Expression) (h : SumReady ws e) where
  pub ready_fits : expression_fits (length ws) 0 e ≡ true
  ready_fits = (sum_fits (length ws) 0 h.derived (good_fits ws h.text h.good)).0

  mentioned : variables_in h.text ≡ variables_of e []
  mentioned = (sum_mentions h.levels e h.text [] h.derived).0

  pub ready_known : AreKnownIn ws e
  ready_known = (known_in ws e [] (subst (EachKnown ws) mentioned (good_known ws h.text h.good))).0

  ready_free : AreFree false ws (variables_of e [])
  ready_free = subst (AreFree false ws) mentioned (good_free ws h.text h.good)

  ready_regular : is_regular e ≡ true
  ready_regular = (sum_least h.levels e h.text [] h.derived).0

-- ---- the symbols of its words

name_as : (ws : List Word) (w : Word) (o : Option ℕ) → number_of w ws ≡ o → settled false ws (numbered name o) ≡ true → cond (is_formula_word w) (fixed kinds.Name) (numbered name o) ≡ numbered name o
name_as ws w None e h = absurd cc
name_as ws w (Some k) e h = ap (λ (b : Bool). cond b (fixed kinds.Name) (name k)) (ap is_formula_word (sym (found w ws k e)) ∙ not-true (is_formula_word (slice_index_or ws k [])) h)

number_as : (n : ℕ) → nat_lt n (2 ^ 62) ≡ true → cond (nat_lt n (2 ^ 62)) (number n) (fixed kinds.Wide) ≡ number n
number_as n h = ap (λ (b : Bool). cond b (number n) (fixed kinds.Wide)) h

record IsAs (v : Vocabulary) (d : ℕ) (kind : TokenKind) (w : Word) : Type 0 where
  symbol : symbol_by v false d kind w ≡ symbol_in v.variables kind w
  no_colon : is_colon kind ≡ false

one_as : (v : Vocabulary) (d : ℕ) (kind : TokenKind) (w : Word) → settled false v.variables (symbol_by v false d kind w) ≡ true → IsAs v d kind w
one_as v d kinds.Name w h = record { symbol = sym (name_as v.variables w (number_of w v.variables) refl h); no_colon = refl }
one_as v d kinds.Number w h = record { symbol = sym (number_as (value_of_digits w) h); no_colon = refl }
one_as v d kinds.Nondet w h = absurd cc
one_as v d kinds.Colon w h = absurd cc
one_as v d kind w h = record { symbol = refl; no_colon = refl }

symbols_as : (v : Vocabulary) (d : ℕ) (bs : List Piece) → all_settled false v.variables (pieces.symbols_of v false d bs) ≡ true → pieces.symbols_of v false d bs ≡ symbols_of (word_signs v bs) ++ fixed kinds.End ∷ []
symbols_as v d [] h = refl
symbols_as v d (blank ∷ bs) h = symbols_as v d bs h
symbols_as v d (line_feed ∷ bs) h = symbols_as v d bs h
symbols_as v d (word kind w ∷ bs) h =
    let one = one_as v d kind w ((and_parts _ _ h).0) in
    let behind : pieces.symbols_of v (is_colon kind) (draws_behind kind d) bs ≡ pieces.symbols_of v false (draws_behind kind d) bs = ap (λ (b : Bool). pieces.symbols_of v b (draws_behind kind d) bs) one.no_colon in
    let again = symbols_as v (draws_behind kind d) bs (ap (all_settled false v.variables) (sym behind) ∙ (and_parts _ _ h).1) in
    ap (λ (s : Symbol). s ∷ pieces.symbols_of v (is_colon kind) (draws_behind kind d) bs) one.symbol
    ∙ ap (λ (ss : List Symbol). symbol_in v.variables kind w ∷ ss) (behind ∙ again)

-- ---- the sum alone

-- the text up to the end, without what stands there
alone : (n : ℕ) (e : Expression) (ss : List Symbol) → IsSum n e (ss ++ fixed kinds.End ∷ []) (fixed kinds.End ∷ []) → IsSum n e ss []
alone n e ss d =
    let w = sum_to_end n e (ss ++ fixed kinds.End ∷ []) d in
    let parts : marks.symbols_of w.passed ++ fixed kinds.End ∷ [] ≡ ss ++ fixed kinds.End ∷ [] = sym (symbols-append w.passed (plain (fixed kinds.End) ∷ [])) ∙ ap marks.symbols_of (sym w.parts) ∙ plains (ss ++ fixed kinds.End ∷ []) in
    let same : marks.symbols_of w.passed ≡ ss = append_cancel_right (marks.symbols_of w.passed) ss (fixed kinds.End ∷ []) parts in
    subst (λ (us : List Symbol). IsSum n e us []) (append-nil (marks.symbols_of w.passed) ∙ same) (w.is [])

-- the signs of the sum, which stand before those of whatever is after it
pub record SumSigns (v : Vocabulary) (e : Expression) (n : ℕ) : Type 0 where
  pub front : List Sign
  pub parts : (rest : List Piece) → signs_of v (expression_pieces v.variables e rest) ≡ front ++ signs_of v rest
  pub is : IsSum n e (symbols_of front) []

pub sum_signs : (v : Vocabulary) (e : Expression) (n : ℕ) → SumReady v.variables e → sum_levels e ≤ n → SumSigns v e n
sum_signs v e n h l =
    let ws = v.variables in
    let bs : List Piece = expression_pieces ws e [] in
    let fits = ready_fits ws e h in
    let d = (known_shown v 0 e fits (ready_known ws e h) (ready_regular ws e h)).as_sum n 0 [] (ordered_without_draws (length ws) e 0 fits) l in
    let u = sum_uses d in
    let ss : List Symbol = pieces.symbols_of v false 0 bs in
    let same : variables_of e [] ≡ variables_in ss = sym (sum_mentions n e ss (fixed kinds.End ∷ []) d).0 in
    let free : AreFree false ws (variables_in (u.used ++ fixed kinds.End ∷ [])) = subst (AreFree false ws) (same ∙ ap variables_in u.parts) (ready_free ws e h) in
    let calm : all_settled false ws ss ≡ true = ap (all_settled false ws) u.parts ∙ settled_before_end false ws 0 u.used u.plainly (u.counted ∙ none_in (length ws) e fits) (u.soundly (length ws) 0 fits) free in
    let as_signs = symbols_as v 0 bs calm in
    record {
      front = word_signs v bs;
      parts = λ rest. ap (signs_of v) (expression_leads ws e rest) ∙ signs-append v bs rest;
      is = alone n e (symbols_of (word_signs v bs)) (subst (λ (us : List Symbol). IsSum n e us (fixed kinds.End ∷ [])) as_signs d);
    }
