-- The symbols of the spelling are a sum that stands for the expression.
use Rattle.std.proofs.Common.{◌≡◌, ℕ, zero, suc, ◌<◌, ◌≤◌, ◌^◌, pos, negsuc, Bool, true, false, List, [], ◌∷◌, length, max, refl, sym, ap, subst, arith, Some, Option}
use Rattle.std.specs.Prelude.{slice_index_or, ◌||◌, ◌&&◌, IsTrue}
use Rattle.tv_language.specs.declared.token.TokenKind.TheVariants.{LeftRound, RightRound, Plus, Minus, Star}
use Rattle.tv_program.specs.Words.{number_of}
use Rattle.tv_program.specs.Trees.{Expression, number, variable, draw, minus, sum, product, Expressions, no_part, part}
use Rattle.tv_program.specs.Views.{parts_of}
use Rattle.tv_program.specs.Limits.{expression_fits, expressions_fit, is_constant, is_linear_product}
use Rattle.tv_language.specs.Symbols as symbols
use Rattle.tv_language.specs.Symbols.{Symbol, Vocabulary, numbered, fixed}
use Rattle.tv_language.specs.Sums as grammar
use Rattle.tv_language.specs.Sums.{IsFactor, AreFactors, IsProduct, AreProducts, IsSum}
use Rattle.tv_spelling.specs.Sums.{is_sum, is_product}
use Rattle.tv_spelling.specs.ReadAgain.{AreNames, draws_after, draws_after_all, IsOrdered, AreOrdered}
use Rattle.tv_spelling.proofs.Pieces.{Piece, word, symbols_of, bracket_pieces}
use Rattle.tv_spelling.proofs.KnownNames.{AreKnownIn, AreKnownAmong}
use Rattle.tv_spelling.proofs.FrontLemmas.{decimal_value}
use Rattle.tv_spelling.proofs.SumPieces.{expression_pieces, further_parts_pieces, further_factors_pieces, both_hold, narrow, known_by_fits}
use Rattle.tv_spelling.proofs.SumLevels.{bracket_levels, sum_levels, parts_levels, further_levels, factors_levels, part_levels, factor_levels, is_regular, are_regular}

-- the expressions in a list
abbrev pub listed : Expressions → List Expression
listed no_part = []
listed (part e es) = e ∷ listed es

pub listed_parts : (es : Expressions) → parts_of (listed es) ≡ es
listed_parts no_part = refl
listed_parts (part e es) = ap (part e) (listed_parts es)

-- the symbols of some pieces are a factor, a product, a sum
abbrev pub ShowsFactor : Vocabulary → (List Piece → List Piece) → Expression → ℕ → Type 0
ShowsFactor v pieces e levels = (n draws : ℕ) (rest : List Piece) → IsOrdered e draws → levels ≤ n → IsFactor n e (symbols_of v false draws (pieces rest)) (symbols_of v false (draws_after e draws) rest)

abbrev pub ShowsProduct : Vocabulary → (List Piece → List Piece) → Expression → ℕ → Type 0
ShowsProduct v pieces e levels = (n draws : ℕ) (rest : List Piece) → IsOrdered e draws → levels ≤ n → IsProduct n e (symbols_of v false draws (pieces rest)) (symbols_of v false (draws_after e draws) rest)

abbrev pub ShowsSum : Vocabulary → (List Piece → List Piece) → Expression → ℕ → Type 0
ShowsSum v pieces e levels = (n draws : ℕ) (rest : List Piece) → IsOrdered e draws → levels ≤ n → IsSum n e (symbols_of v false draws (pieces rest)) (symbols_of v false (draws_after e draws) rest)

-- the expression is shown wherever it may stand, with brackets where it needs them
pub record IsShown (v : Vocabulary) (e : Expression) : Type 0 where
  pub as_sum : ShowsSum v (expression_pieces v.variables e) e (sum_levels e)
  pub as_part : ShowsProduct v (bracket_pieces (is_sum e) (expression_pieces v.variables e)) e (part_levels e)
  pub as_factor : ShowsFactor v (bracket_pieces (is_sum e || is_product e) (expression_pieces v.variables e)) e (factor_levels e)

alone : (b : Bool) → IsTrue ((b && true) || true)
alone true = refl
alone false = refl

product_of_factor : {n : ℕ} {e : Expression} {ts rest : List Symbol} → IsFactor n e ts rest → IsProduct n e ts rest
product_of_factor {e = e} f = grammar.factors f grammar.no_factor (alone (is_constant e))

sum_of_product : {n : ℕ} {e : Expression} {ts rest : List Symbol} → IsProduct n e ts rest → IsSum n e ts rest
sum_of_product p = grammar.products p grammar.no_product

in_brackets : (v : Vocabulary) (e : Expression) (levels : ℕ) (pieces : List Piece → List Piece) → ShowsSum v pieces e levels → ShowsFactor v (bracket_pieces true pieces) e (suc levels)
in_brackets v e levels pieces shown zero draws rest o l = absurd (omega arith)
in_brackets v e levels pieces shown (suc n) draws rest o l = grammar.bracketed (shown n draws (word RightRound (41 ∷ []) ∷ rest) o (omega arith))

-- an expression that needs no brackets anywhere
bare : (v : Vocabulary) (e : Expression) → is_sum e ≡ false → is_product e ≡ false → ShowsFactor v (expression_pieces v.variables e) e (sum_levels e) → IsShown v e
bare v e s p shown = record {
  as_sum = λ n draws rest o l. sum_of_product (product_of_factor (shown n draws rest o l));
  as_part = subst (λ (b : Bool). ShowsProduct v (bracket_pieces b (expression_pieces v.variables e)) e (bracket_levels b (sum_levels e))) (sym s) (λ n draws rest o l. product_of_factor (shown n draws rest o l));
  as_factor = subst (λ (b : Bool). ShowsFactor v (bracket_pieces (b || is_product e) (expression_pieces v.variables e)) e (bracket_levels (b || is_product e) (sum_levels e))) (sym s)
      (subst (λ (b : Bool). ShowsFactor v (bracket_pieces b (expression_pieces v.variables e)) e (bracket_levels b (sum_levels e))) (sym p) shown);
}

shown_sum : (v : Vocabulary) (es : Expressions) → ShowsSum v (expression_pieces v.variables (sum es)) (sum es) (parts_levels es) → IsShown v (sum es)
shown_sum v es shown = record {
  as_sum = shown;
  as_part = λ n draws rest o l. product_of_factor (in_brackets v (sum es) (parts_levels es) (expression_pieces v.variables (sum es)) shown n draws rest o l);
  as_factor = in_brackets v (sum es) (parts_levels es) (expression_pieces v.variables (sum es)) shown;
}

shown_product : (v : Vocabulary) (es : Expressions) → ShowsProduct v (expression_pieces v.variables (product es)) (product es) (factors_levels es) → IsShown v (product es)
shown_product v es shown =
    let as_sum : ShowsSum v (expression_pieces v.variables (product es)) (product es) (factors_levels es) = λ n draws rest o l. sum_of_product (shown n draws rest o l) in
    record { as_sum = as_sum; as_part = shown; as_factor = in_brackets v (product es) (factors_levels es) (expression_pieces v.variables (product es)) as_sum }

natural : (v : Vocabulary) (k : ℕ) → k < 2 ^ 62 → ShowsFactor v (expression_pieces v.variables (number (pos k))) (number (pos k)) 0
natural v k h n draws rest o l =
    subst (λ (m : ℕ). IsFactor n (number (pos k)) (symbols.number m ∷ symbols_of v false draws rest) (symbols_of v false draws rest)) (sym (decimal_value k h)) grammar.constant

known : (v : Vocabulary) (k : ℕ) → number_of (slice_index_or v.variables k []) v.variables ≡ Some k → ShowsFactor v (expression_pieces v.variables (variable k)) (variable k) 0
known v k is n draws rest o l =
    subst (λ (m : Option ℕ). IsFactor n (variable k) (numbered symbols.name m ∷ symbols_of v false draws rest) (symbols_of v false draws rest)) (sym is) grammar.variable

drawn : (v : Vocabulary) (k : ℕ) → ShowsFactor v (expression_pieces v.variables (draw k)) (draw k) 0
drawn v k n draws rest o l =
    subst (λ (m : ℕ). IsFactor n (draw m) (symbols.drawn draws ∷ fixed LeftRound ∷ fixed RightRound ∷ symbols_of v false (suc draws) rest) (symbols_of v false (suc draws) rest)) (sym o) grammar.draw

signed : (v : Vocabulary) (e : Expression) → IsShown v e → ShowsFactor v (expression_pieces v.variables (minus e)) (minus e) (suc (factor_levels e))
signed v e shown zero draws rest o l = absurd (omega arith)
signed v e shown (suc n) draws rest o l = grammar.negative (shown.as_factor n draws rest o (omega arith))

-- parts after the first, and factors after the first
abbrev pub ShowsParts : Vocabulary → Expressions → Type 0
ShowsParts v es = (n draws : ℕ) (rest : List Piece) → AreOrdered es draws → further_levels es ≤ n
    → AreProducts n (listed es) (symbols_of v false draws (further_parts_pieces v.variables es rest)) (symbols_of v false (draws_after_all es draws) rest)

abbrev pub ShowsFactors : Vocabulary → Expressions → Type 0
ShowsFactors v es = (n draws : ℕ) (rest : List Piece) → AreOrdered es draws → factors_levels es ≤ n
    → AreFactors n (listed es) (symbols_of v false draws (further_factors_pieces v.variables es rest)) (symbols_of v false (draws_after_all es draws) rest)

all_parts : (v : Vocabulary) (e f : Expression) (es : Expressions) → IsShown v e → ShowsParts v (part f es) → ShowsSum v (expression_pieces v.variables (sum (part e (part f es)))) (sum (part e (part f es))) (parts_levels (part e (part f es)))
all_parts v e f es first others n draws rest o l =
    let ls : max (part_levels e) (further_levels (part f es)) ≤ n = l in
    subst (λ (fs : Expressions). IsSum n (sum (part e (part f fs))) (symbols_of v false draws (expression_pieces v.variables (sum (part e (part f es))) rest)) (symbols_of v false (draws_after_all (part e (part f es)) draws) rest)) (listed_parts es)
    (grammar.products (first.as_part n draws (further_parts_pieces v.variables (part f es) rest) o.0 (omega arith)) (others n (draws_after e draws) rest o.1 (omega arith)))

all_factors : (v : Vocabulary) (e f : Expression) (es : Expressions) → IsTrue (is_linear_product (part e (part f es))) → IsShown v e → ShowsFactors v (part f es) → ShowsProduct v (expression_pieces v.variables (product (part e (part f es)))) (product (part e (part f es))) (factors_levels (part e (part f es)))
all_factors v e f es linear first others n draws rest o l =
    let ls : max (factor_levels e) (factors_levels (part f es)) ≤ n = l in
    let P : Expressions → Type 0 = λ fs. IsProduct n (product (part e (part f fs))) (symbols_of v false draws (expression_pieces v.variables (product (part e (part f es))) rest)) (symbols_of v false (draws_after_all (part e (part f es)) draws) rest) in
    subst P (listed_parts es)
    (grammar.factors (first.as_factor n draws (further_factors_pieces v.variables (part f es) rest) o.0 (omega arith)) (others n (draws_after e draws) rest o.1 (omega arith))
    (subst (λ (fs : Expressions). IsTrue (is_linear_product (part e (part f fs)))) (sym (listed_parts es)) linear))

part_added : (v : Vocabulary) (e : Expression) (es : Expressions) (n draws : ℕ) (rest : List Piece) → IsShown v e → ShowsParts v es → IsOrdered e draws → AreOrdered es (draws_after e draws) → max (part_levels e) (further_levels es) ≤ n
    → AreProducts n (e ∷ listed es) (fixed Plus ∷ symbols_of v false draws (bracket_pieces (is_sum e) (expression_pieces v.variables e) (further_parts_pieces v.variables es rest))) (symbols_of v false (draws_after_all es (draws_after e draws)) rest)
part_added v e es n draws rest shown others o p l =
    grammar.plus (shown.as_part n draws (further_parts_pieces v.variables es rest) o (omega arith)) (others n (draws_after e draws) rest p (omega arith))

part_taken_off : (v : Vocabulary) (e : Expression) (es : Expressions) (n draws : ℕ) (rest : List Piece) → IsShown v e → ShowsParts v es → IsOrdered e draws → AreOrdered es (draws_after e draws) → max (part_levels e) (further_levels es) ≤ n
    → AreProducts n (minus e ∷ listed es) (fixed Minus ∷ symbols_of v false draws (bracket_pieces (is_sum e) (expression_pieces v.variables e) (further_parts_pieces v.variables es rest))) (symbols_of v false (draws_after_all es (draws_after e draws)) rest)
part_taken_off v e es n draws rest shown others o p l =
    grammar.less (shown.as_part n draws (further_parts_pieces v.variables es rest) o (omega arith)) (others n (draws_after e draws) rest p (omega arith))

factor_added : (v : Vocabulary) (e : Expression) (es : Expressions) (n draws : ℕ) (rest : List Piece) → IsShown v e → ShowsFactors v es → IsOrdered e draws → AreOrdered es (draws_after e draws) → max (factor_levels e) (factors_levels es) ≤ n
    → AreFactors n (e ∷ listed es) (fixed Star ∷ symbols_of v false draws (bracket_pieces (is_sum e || is_product e) (expression_pieces v.variables e) (further_factors_pieces v.variables es rest))) (symbols_of v false (draws_after_all es (draws_after e draws)) rest)
factor_added v e es n draws rest shown others o p l =
    grammar.times (shown.as_factor n draws (further_factors_pieces v.variables es rest) o (omega arith)) (others n (draws_after e draws) rest p (omega arith))

mutual
  pub known_shown : (v : Vocabulary) (ds : ℕ) (e : Expression) → IsTrue (expression_fits (length v.variables) ds e) → AreKnownIn v.variables e → is_regular e ≡ true → IsShown v e
  known_shown v ds (number (pos k)) h m r = bare v (number (pos k)) refl refl (natural v k (narrow k h))
  known_shown v ds (number (negsuc k)) h m r = absurd cc
  known_shown v ds (variable k) h m r = bare v (variable k) refl refl (known v k m.placed)
  known_shown v ds (draw k) h m r = bare v (draw k) refl refl (drawn v k)
  known_shown v ds (minus e) h m r = bare v (minus e) refl refl (signed v e (known_shown v ds e h m r))
  known_shown v ds (sum no_part) h m r = absurd cc
  known_shown v ds (sum (part e no_part)) h m r = absurd cc
  known_shown v ds (sum (part e (part f es))) h m r =
      let t = both_hold (expression_fits (length v.variables) ds e) (expressions_fit (length v.variables) ds (part f es)) h in
      let s = both_hold (is_regular e) (are_regular (part f es)) r in
      shown_sum v (part e (part f es)) (all_parts v e f es (known_shown v ds e t.0 m.0 s.0) (parts_shown v ds (part f es) t.1 m.1 s.1))
  known_shown v ds (product no_part) h m r = absurd cc
  known_shown v ds (product (part e no_part)) h m r = absurd cc
  known_shown v ds (product (part e (part f es))) h m r =
      let l = both_hold (is_linear_product (part e (part f es))) (expressions_fit (length v.variables) ds (part e (part f es))) h in
      let t = both_hold (expression_fits (length v.variables) ds e) (expressions_fit (length v.variables) ds (part f es)) l.1 in
      let q = both_hold (is_linear_product (part e (part f es))) (are_regular (part e (part f es))) r in
      let s = both_hold (is_regular e) (are_regular (part f es)) q.1 in
      shown_product v (part e (part f es)) (all_factors v e f es l.0 (known_shown v ds e t.0 m.0 s.0) (factors_shown v ds (part f es) t.1 m.1 s.1))

  parts_shown : (v : Vocabulary) (ds : ℕ) (es : Expressions) → IsTrue (expressions_fit (length v.variables) ds es) → AreKnownAmong v.variables es → are_regular es ≡ true → ShowsParts v es
  parts_shown v ds no_part h m r n draws rest o l = grammar.no_product
  parts_shown v ds (part (minus e) es) h m r n draws rest o l =
      let t = both_hold (expression_fits (length v.variables) ds e) (expressions_fit (length v.variables) ds es) h in
      let s = both_hold (is_regular e) (are_regular es) r in
      part_taken_off v e es n draws rest (known_shown v ds e t.0 m.0 s.0) (parts_shown v ds es t.1 m.1 s.1) o.0 o.1 l
  parts_shown v ds (part e es) h m r n draws rest o l =
      let t = both_hold (expression_fits (length v.variables) ds e) (expressions_fit (length v.variables) ds es) h in
      let s = both_hold (is_regular e) (are_regular es) r in
      part_added v e es n draws rest (known_shown v ds e t.0 m.0 s.0) (parts_shown v ds es t.1 m.1 s.1) o.0 o.1 l

  factors_shown : (v : Vocabulary) (ds : ℕ) (es : Expressions) → IsTrue (expressions_fit (length v.variables) ds es) → AreKnownAmong v.variables es → are_regular es ≡ true → ShowsFactors v es
  factors_shown v ds no_part h m r n draws rest o l = grammar.no_factor
  factors_shown v ds (part e es) h m r n draws rest o l =
      let t = both_hold (expression_fits (length v.variables) ds e) (expressions_fit (length v.variables) ds es) h in
      let s = both_hold (is_regular e) (are_regular es) r in
      factor_added v e es n draws rest (known_shown v ds e t.0 m.0 s.0) (factors_shown v ds es t.1 m.1 s.1) o.0 o.1 l

pub expression_shown : (v : Vocabulary) (ds : ℕ) → AreNames v.variables → (e : Expression) → IsTrue (expression_fits (length v.variables) ds e) → is_regular e ≡ true → IsShown v e
expression_shown v ds names e h r = known_shown v ds e h (known_by_fits v.variables ds names e h) r
