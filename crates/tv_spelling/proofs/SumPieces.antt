-- The words and spaces of an expression.
use Rattle.std.proofs.Common.{◌≡◌, ℕ, suc, ◌<◌, ◌^◌, ℤ, pos, negsuc, Bool, true, false, List, [], ◌∷◌, ◌++◌, length, refl, sym, ap, ◌∙◌, append_assoc, arith}
use Rattle.std.specs.Prelude.{slice_index_or, ◌||◌, ◌&&◌, codes, IsTrue, nat_lt}
use Rattle.std.specs.Fmt.{decimal, signed_decimal}
use Rattle.std.proofs.lemmas.Bool.Decides.{nat_tests}
use Rattle.std.proofs.lemmas.Fmt.{decimal_nonempty}
use Rattle.tv_language.specs.declared.token.TokenKind.TheVariants.{LeftRound, RightRound, Name, Number, Nondet, Plus, Minus, Star}
use Rattle.tv_language.specs.Fronts.{front_of}
use Rattle.tv_program.specs.Words.{Word}
use Rattle.tv_program.specs.Trees.{Expression, number, variable, draw, minus, sum, product, Expressions, no_part, part}
use Rattle.tv_program.specs.Limits.{expression_fits, expressions_fit, is_linear_product}
use Rattle.tv_spelling.specs.Sums.{in_brackets, is_sum, is_product, as_part, as_factor, expression_text, sum_text, further_parts_text, product_text, further_factors_text}
use Rattle.tv_spelling.specs.ReadAgain.{AreNames}
use Rattle.tv_spelling.proofs.Pieces.{Piece, blank, word, bytes, AreFronts, IsReady, bracket_pieces}
use Rattle.tv_spelling.proofs.KnownNames.{AreKnownIn, AreKnownAmong}
use Rattle.tv_spelling.proofs.FrontLemmas.{name_front, decimal_digits, decimal_value, number_front_is}

abbrev pub number_pieces : ℤ → List Piece → List Piece
number_pieces (pos n) rest = word Number (decimal n) ∷ rest
number_pieces (negsuc n) rest = word Minus (45 ∷ []) ∷ word Number (decimal (suc n)) ∷ rest

abbrev mutual
  pub expression_pieces : List Word → Expression → List Piece → List Piece
  expression_pieces ws (number z) rest = number_pieces z rest
  expression_pieces ws (variable v) rest = word Name (slice_index_or ws v []) ∷ rest
  expression_pieces ws (draw d) rest = word Nondet (codes "nondet") ∷ word LeftRound (40 ∷ []) ∷ word RightRound (41 ∷ []) ∷ rest
  expression_pieces ws (minus e) rest = word Minus (45 ∷ []) ∷ bracket_pieces (is_sum e || is_product e) (expression_pieces ws e) rest
  expression_pieces ws (sum es) rest = sum_pieces ws es rest
  expression_pieces ws (product es) rest = product_pieces ws es rest

  pub sum_pieces : List Word → Expressions → List Piece → List Piece
  sum_pieces ws no_part rest = rest
  sum_pieces ws (part e es) rest = bracket_pieces (is_sum e) (expression_pieces ws e) (further_parts_pieces ws es rest)

  pub further_parts_pieces : List Word → Expressions → List Piece → List Piece
  further_parts_pieces ws no_part rest = rest
  further_parts_pieces ws (part (minus e) es) rest = blank ∷ word Minus (45 ∷ []) ∷ blank ∷ bracket_pieces (is_sum e) (expression_pieces ws e) (further_parts_pieces ws es rest)
  further_parts_pieces ws (part e es) rest = blank ∷ word Plus (43 ∷ []) ∷ blank ∷ bracket_pieces (is_sum e) (expression_pieces ws e) (further_parts_pieces ws es rest)

  pub product_pieces : List Word → Expressions → List Piece → List Piece
  product_pieces ws no_part rest = rest
  product_pieces ws (part e es) rest = bracket_pieces (is_sum e || is_product e) (expression_pieces ws e) (further_factors_pieces ws es rest)

  pub further_factors_pieces : List Word → Expressions → List Piece → List Piece
  further_factors_pieces ws no_part rest = rest
  further_factors_pieces ws (part e es) rest = blank ∷ word Star (42 ∷ []) ∷ blank ∷ bracket_pieces (is_sum e || is_product e) (expression_pieces ws e) (further_factors_pieces ws es rest)

-- ---- their bytes are the text

abbrev pub Writes : (List Piece → List Piece) → List ℕ → Type 0
Writes pieces text = (rest : List Piece) → bytes (pieces rest) ≡ text ++ bytes rest

pub bracket_bytes : (pieces : List Piece → List Piece) (text : List ℕ) → Writes pieces text → (b : Bool) → Writes (bracket_pieces b pieces) (in_brackets b text)
bracket_bytes pieces text h true rest = ap (λ (x : List ℕ). 40 ∷ x) (h (word RightRound (41 ∷ []) ∷ rest)) ∙ sym (append_assoc (40 ∷ text) (41 ∷ []) (bytes rest))
bracket_bytes pieces text h false rest = h rest

pub joined_bytes : (first : List Piece → List Piece) (text : List ℕ) → Writes first text → (before : List ℕ) (behind : List Piece) (more : List ℕ) (rest : List Piece) → bytes behind ≡ more ++ bytes rest
    → before ++ bytes (first behind) ≡ (before ++ (text ++ more)) ++ bytes rest
joined_bytes first text h before behind more rest e =
    ap (λ (x : List ℕ). before ++ x) (h behind ∙ ap (λ (x : List ℕ). text ++ x) e ∙ sym (append_assoc text more (bytes rest))) ∙ sym (append_assoc before (text ++ more) (bytes rest))

number_bytes : (z : ℤ) → Writes (number_pieces z) (signed_decimal z)
number_bytes (pos n) rest = refl
number_bytes (negsuc n) rest = refl

mutual
  pub expression_bytes : (ws : List Word) (e : Expression) → Writes (expression_pieces ws e) (expression_text ws e)
  expression_bytes ws (number z) rest = number_bytes z rest
  expression_bytes ws (variable v) rest = refl
  expression_bytes ws (draw d) rest = refl
  expression_bytes ws (minus e) rest = ap (λ (x : List ℕ). 45 ∷ x) (bracket_bytes (expression_pieces ws e) (expression_text ws e) (expression_bytes ws e) (is_sum e || is_product e) rest)
  expression_bytes ws (sum es) rest = sum_bytes ws es rest
  expression_bytes ws (product es) rest = product_bytes ws es rest

  sum_bytes : (ws : List Word) (es : Expressions) → Writes (sum_pieces ws es) (sum_text ws es)
  sum_bytes ws no_part rest = refl
  sum_bytes ws (part e es) rest =
      joined_bytes (bracket_pieces (is_sum e) (expression_pieces ws e)) (as_part e (expression_text ws e)) (bracket_bytes (expression_pieces ws e) (expression_text ws e) (expression_bytes ws e) (is_sum e)) []
      (further_parts_pieces ws es rest) (further_parts_text ws es) rest (further_parts_bytes ws es rest)

  further_parts_bytes : (ws : List Word) (es : Expressions) → Writes (further_parts_pieces ws es) (further_parts_text ws es)
  further_parts_bytes ws no_part rest = refl
  further_parts_bytes ws (part (minus e) es) rest =
      joined_bytes (bracket_pieces (is_sum e) (expression_pieces ws e)) (as_part e (expression_text ws e)) (bracket_bytes (expression_pieces ws e) (expression_text ws e) (expression_bytes ws e) (is_sum e)) (codes " - ")
      (further_parts_pieces ws es rest) (further_parts_text ws es) rest (further_parts_bytes ws es rest)
  further_parts_bytes ws (part e es) rest =
      joined_bytes (bracket_pieces (is_sum e) (expression_pieces ws e)) (as_part e (expression_text ws e)) (bracket_bytes (expression_pieces ws e) (expression_text ws e) (expression_bytes ws e) (is_sum e)) (codes " + ")
      (further_parts_pieces ws es rest) (further_parts_text ws es) rest (further_parts_bytes ws es rest)

  product_bytes : (ws : List Word) (es : Expressions) → Writes (product_pieces ws es) (product_text ws es)
  product_bytes ws no_part rest = refl
  product_bytes ws (part e es) rest =
      joined_bytes (bracket_pieces (is_sum e || is_product e) (expression_pieces ws e)) (as_factor e (expression_text ws e)) (bracket_bytes (expression_pieces ws e) (expression_text ws e) (expression_bytes ws e) (is_sum e || is_product e)) []
      (further_factors_pieces ws es rest) (further_factors_text ws es) rest (further_factors_bytes ws es rest)

  further_factors_bytes : (ws : List Word) (es : Expressions) → Writes (further_factors_pieces ws es) (further_factors_text ws es)
  further_factors_bytes ws no_part rest = refl
  further_factors_bytes ws (part e es) rest =
      joined_bytes (bracket_pieces (is_sum e || is_product e) (expression_pieces ws e)) (as_factor e (expression_text ws e)) (bracket_bytes (expression_pieces ws e) (expression_text ws e) (expression_bytes ws e) (is_sum e || is_product e)) (codes " * ")
      (further_factors_pieces ws es rest) (further_factors_text ws es) rest (further_factors_bytes ws es rest)

-- ---- each word is the token at the front

abbrev pub Lays : (List Piece → List Piece) → Type 0
Lays pieces = (rest : List Piece) → IsReady rest → AreFronts (pieces rest)

pub bracket_fronts : (pieces : List Piece → List Piece) → Lays pieces → (b : Bool) → Lays (bracket_pieces b pieces)
unfolding front_of
bracket_fronts pieces h true rest r = (refl, h (word RightRound (41 ∷ []) ∷ rest) (record { stops = refl; fronts = (refl, r.fronts) }))
bracket_fronts pieces h false rest r = h rest r

number_fronts : (n : ℕ) → n < 2 ^ 62 → (rest : List Piece) → IsReady rest → AreFronts (word Number (decimal n) ∷ rest)
number_fronts n h rest r =
    let value = decimal_value n h in
    (number_front_is (decimal n) (bytes rest) (decimal_nonempty n (omega arith)) (decimal_digits n h) (omega (arith, value)) r.stops, r.fronts)

sign_fronts : (bs : List Piece) → AreFronts bs → AreFronts (word Minus (45 ∷ []) ∷ bs)
unfolding front_of
sign_fronts bs h = (refl, h)

minus_ready : (bs : List Piece) → AreFronts bs → IsReady (blank ∷ word Minus (45 ∷ []) ∷ blank ∷ bs)
unfolding front_of
minus_ready bs h = record { stops = refl; fronts = (refl, h) }

plus_ready : (bs : List Piece) → AreFronts bs → IsReady (blank ∷ word Plus (43 ∷ []) ∷ blank ∷ bs)
unfolding front_of
plus_ready bs h = record { stops = refl; fronts = (refl, h) }

star_ready : (bs : List Piece) → AreFronts bs → IsReady (blank ∷ word Star (42 ∷ []) ∷ blank ∷ bs)
unfolding front_of
star_ready bs h = record { stops = refl; fronts = (refl, h) }

draw_fronts : (rest : List Piece) → AreFronts rest → AreFronts (word Nondet (codes "nondet") ∷ word LeftRound (40 ∷ []) ∷ word RightRound (41 ∷ []) ∷ rest)
unfolding front_of
draw_fronts rest h = (refl, (refl, (refl, h)))

pub narrow : (z : ℕ) → IsTrue (nat_lt z (2 ^ 62)) → z < 2 ^ 62
narrow z h = grind (arith, nat_tests)

pub below : (v n : ℕ) → IsTrue (nat_lt v n) → v < n
below v n h = grind (arith, nat_tests)

pub both_hold : (a b : Bool) → IsTrue (a && b) → IsTrue a × IsTrue b
both_hold true b h = (refl, h)
both_hold false b h = absurd cc

mutual
  -- all names are known
  pub known_by_fits : (ws : List Word) (ds : ℕ) → AreNames ws → (e : Expression) → IsTrue (expression_fits (length ws) ds e) → AreKnownIn ws e
  known_by_fits ws ds names (number z) h = tt
  known_by_fits ws ds names (variable v) h = record { name = names.are_names v (below v (length ws) h); placed = names.differ v (below v (length ws) h) }
  known_by_fits ws ds names (draw d) h = tt
  known_by_fits ws ds names (minus e) h = known_by_fits ws ds names e h
  known_by_fits ws ds names (sum es) h = all_known_by_fits ws ds names es h
  known_by_fits ws ds names (product es) h = all_known_by_fits ws ds names es (both_hold (is_linear_product es) (expressions_fit (length ws) ds es) h).1

  all_known_by_fits : (ws : List Word) (ds : ℕ) → AreNames ws → (es : Expressions) → IsTrue (expressions_fit (length ws) ds es) → AreKnownAmong ws es
  all_known_by_fits ws ds names no_part h = tt
  all_known_by_fits ws ds names (part e es) h =
      let t = both_hold (expression_fits (length ws) ds e) (expressions_fit (length ws) ds es) h in
      (known_by_fits ws ds names e t.0, all_known_by_fits ws ds names es t.1)

mutual
  pub known_fronts : (ws : List Word) (ds : ℕ) (e : Expression) → IsTrue (expression_fits (length ws) ds e) → AreKnownIn ws e → Lays (expression_pieces ws e)
  known_fronts ws ds (number (pos n)) h k rest r = number_fronts n (narrow n h) rest r
  known_fronts ws ds (number (negsuc n)) h k rest r = sign_fronts (word Number (decimal (suc n)) ∷ rest) (number_fronts (suc n) (narrow (suc n) h) rest r)
  known_fronts ws ds (variable v) h k rest r = (name_front (slice_index_or ws v []) (bytes rest) k.name r.stops, r.fronts)
  known_fronts ws ds (draw d) h k rest r = draw_fronts rest r.fronts
  known_fronts ws ds (minus e) h k rest r =
      sign_fronts (bracket_pieces (is_sum e || is_product e) (expression_pieces ws e) rest) (bracket_fronts (expression_pieces ws e) (known_fronts ws ds e h k) (is_sum e || is_product e) rest r)
  known_fronts ws ds (sum no_part) h k rest r = r.fronts
  known_fronts ws ds (sum (part e es)) h k rest r =
      let t = both_hold (expression_fits (length ws) ds e) (expressions_fit (length ws) ds es) h in
      bracket_fronts (expression_pieces ws e) (known_fronts ws ds e t.0 k.0) (is_sum e) (further_parts_pieces ws es rest) (parts_ready ws ds es t.1 k.1 rest r)
  known_fronts ws ds (product no_part) h k rest r = r.fronts
  known_fronts ws ds (product (part e es)) h k rest r =
      let s = both_hold (is_linear_product (part e es)) (expressions_fit (length ws) ds (part e es)) h in
      let t = both_hold (expression_fits (length ws) ds e) (expressions_fit (length ws) ds es) s.1 in
      bracket_fronts (expression_pieces ws e) (known_fronts ws ds e t.0 k.0) (is_sum e || is_product e) (further_factors_pieces ws es rest) (factors_ready ws ds es t.1 k.1 rest r)

  parts_ready : (ws : List Word) (ds : ℕ) (es : Expressions) → IsTrue (expressions_fit (length ws) ds es) → AreKnownAmong ws es → (rest : List Piece) → IsReady rest → IsReady (further_parts_pieces ws es rest)
  parts_ready ws ds no_part h k rest r = r
  parts_ready ws ds (part (minus e) es) h k rest r =
      let t = both_hold (expression_fits (length ws) ds e) (expressions_fit (length ws) ds es) h in
      minus_ready (bracket_pieces (is_sum e) (expression_pieces ws e) (further_parts_pieces ws es rest))
      (bracket_fronts (expression_pieces ws e) (known_fronts ws ds e t.0 k.0) (is_sum e) (further_parts_pieces ws es rest) (parts_ready ws ds es t.1 k.1 rest r))
  parts_ready ws ds (part e es) h k rest r =
      let t = both_hold (expression_fits (length ws) ds e) (expressions_fit (length ws) ds es) h in
      plus_ready (bracket_pieces (is_sum e) (expression_pieces ws e) (further_parts_pieces ws es rest))
      (bracket_fronts (expression_pieces ws e) (known_fronts ws ds e t.0 k.0) (is_sum e) (further_parts_pieces ws es rest) (parts_ready ws ds es t.1 k.1 rest r))

  factors_ready : (ws : List Word) (ds : ℕ) (es : Expressions) → IsTrue (expressions_fit (length ws) ds es) → AreKnownAmong ws es → (rest : List Piece) → IsReady rest → IsReady (further_factors_pieces ws es rest)
  factors_ready ws ds no_part h k rest r = r
  factors_ready ws ds (part e es) h k rest r =
      let t = both_hold (expression_fits (length ws) ds e) (expressions_fit (length ws) ds es) h in
      star_ready (bracket_pieces (is_sum e || is_product e) (expression_pieces ws e) (further_factors_pieces ws es rest))
      (bracket_fronts (expression_pieces ws e) (known_fronts ws ds e t.0 k.0) (is_sum e || is_product e) (further_factors_pieces ws es rest) (factors_ready ws ds es t.1 k.1 rest r))

pub expression_fronts : (ws : List Word) (ds : ℕ) → AreNames ws → (e : Expression) → IsTrue (expression_fits (length ws) ds e) → Lays (expression_pieces ws e)
expression_fronts ws ds names e h = known_fronts ws ds e h (known_by_fits ws ds names e h)

-- ---- what follows them stays

-- the pieces, and others after them
abbrev pub Leads : (List Piece → List Piece) → Type 0
Leads pieces = (rest : List Piece) → pieces rest ≡ pieces [] ++ rest

pub bracket_leads : (pieces : List Piece → List Piece) → Leads pieces → (b : Bool) → Leads (bracket_pieces b pieces)
bracket_leads pieces h true rest =
    ap (λ (x : List Piece). word LeftRound (40 ∷ []) ∷ x) (h (word RightRound (41 ∷ []) ∷ rest) ∙ sym (append_assoc (pieces []) (word RightRound (41 ∷ []) ∷ []) rest) ∙ ap (λ (x : List Piece). x ++ rest) (sym (h (word RightRound (41 ∷ []) ∷ []))))
bracket_leads pieces h false rest = h rest

pub joined_leads : (first : List Piece → List Piece) → Leads first → (before : List Piece) (more : List Piece → List Piece) → Leads more → Leads (λ rest. before ++ first (more rest))
joined_leads first h before more k rest =
    ap (λ (x : List Piece). before ++ x)
    (h (more rest) ∙ ap (λ (x : List Piece). first [] ++ x) (k rest) ∙ sym (append_assoc (first []) (more []) rest) ∙ ap (λ (x : List Piece). x ++ rest) (sym (h (more []))))
    ∙ sym (append_assoc before (first (more [])) rest)

number_leads : (z : ℤ) → Leads (number_pieces z)
number_leads (pos n) rest = refl
number_leads (negsuc n) rest = refl

mutual
  pub expression_leads : (ws : List Word) (e : Expression) → Leads (expression_pieces ws e)
  expression_leads ws (number z) rest = number_leads z rest
  expression_leads ws (variable v) rest = refl
  expression_leads ws (draw d) rest = refl
  expression_leads ws (minus e) rest = ap (λ (x : List Piece). word Minus (45 ∷ []) ∷ x) (bracket_leads (expression_pieces ws e) (expression_leads ws e) (is_sum e || is_product e) rest)
  expression_leads ws (sum no_part) rest = refl
  expression_leads ws (sum (part e es)) rest = joined_leads (bracket_pieces (is_sum e) (expression_pieces ws e)) (bracket_leads (expression_pieces ws e) (expression_leads ws e) (is_sum e)) [] (further_parts_pieces ws es) (parts_lead ws es) rest
  expression_leads ws (product no_part) rest = refl
  expression_leads ws (product (part e es)) rest = joined_leads (bracket_pieces (is_sum e || is_product e) (expression_pieces ws e)) (bracket_leads (expression_pieces ws e) (expression_leads ws e) (is_sum e || is_product e)) [] (further_factors_pieces ws es) (factors_lead ws es) rest

  parts_lead : (ws : List Word) (es : Expressions) → Leads (further_parts_pieces ws es)
  parts_lead ws no_part rest = refl
  parts_lead ws (part (minus e) es) rest = joined_leads (bracket_pieces (is_sum e) (expression_pieces ws e)) (bracket_leads (expression_pieces ws e) (expression_leads ws e) (is_sum e)) (blank ∷ word Minus (45 ∷ []) ∷ blank ∷ []) (further_parts_pieces ws es) (parts_lead ws es) rest
  parts_lead ws (part e es) rest = joined_leads (bracket_pieces (is_sum e) (expression_pieces ws e)) (bracket_leads (expression_pieces ws e) (expression_leads ws e) (is_sum e)) (blank ∷ word Plus (43 ∷ []) ∷ blank ∷ []) (further_parts_pieces ws es) (parts_lead ws es) rest

  factors_lead : (ws : List Word) (es : Expressions) → Leads (further_factors_pieces ws es)
  factors_lead ws no_part rest = refl
  factors_lead ws (part e es) rest = joined_leads (bracket_pieces (is_sum e || is_product e) (expression_pieces ws e)) (bracket_leads (expression_pieces ws e) (expression_leads ws e) (is_sum e || is_product e)) (blank ∷ word Star (42 ∷ []) ∷ blank ∷ []) (further_factors_pieces ws es) (factors_lead ws es) rest
