-- What a nested family shows of one of its cases, from each piece of its location.
use Rattle.std.proofs.Common.{◌≡◌, ℕ, zero, suc, ◌+◌, ◌-◌, ◌^◌, ◌<◌, ◌≤◌, List, [], ◌∷◌, ◌++◌, length, length-append, map, take, get_or, All, Option, None, Some, arith, refl, sym, ap, ◌∙◌, subst, append_assoc, ℤ, pos, neg_ℤ, ◌+ℤ◌, ◌-ℤ◌, ◌≤ℤ◌, ◌<ℤ◌, unsigned_abs}
use Rattle.std.proofs.lemmas.Int.{ints}
use Rattle.std.proofs.lemmas.List.{length-map, get_or-map}
use Rattle.tv_linear.specs.Linear.{Linear, IsWithin, dot}
use Rattle.tv_linear.specs.Arithmetic.{opposite, denial}
use Rattle.tv_linear.specs.Falls.{zero_row, fall_rows_at}
use Rattle.tv_linear.specs.Known.{Known, given, denied, composed, less, number, known_number, KnownHeld, as_given}
use Rattle.tv_linear.specs.Refutation.{Refutes}
use Rattle.tv_linear.specs.Covers.{ShownAt}
use Rattle.tv_linear.specs.Same.{SameNumbers}
use Rattle.tv_linear.specs.Terms.{table, terms_after}
use Rattle.tv_linear.proofs.KnownLemmas.{as_given-append, length-given}
use Rattle.tv_linear.proofs.ListLaws.{all_front}
use Rattle.tv_linear.proofs.SameLemmas.{refutes_same, all_same, same_push}
use Rattle.tv_cases.specs.LinearCases.{LinearCase}
use Rattle.tv_rank.specs.Rankings.{local_term, IsShownBy}
use Rattle.tv_rank.specs.Ways.{Way, met_rows}
use Rattle.tv_rank.specs.declared.found.LocalTerm.{LocalTerm}
use Rattle.tv_lexrank.specs.Closing.{changed}
use Rattle.tv_lexrank.specs.More.{way_with}
use Rattle.tv_lexrank.specs.Falling.{AllHeld}
use Rattle.tv_lexrank.proofs.Chained.{shown_more}
use Rattle.tv_lexrank.proofs.MoreLemmas.{given_held}
use Rattle.tv_nested.specs.Families.{nested_term, row_before, step_row, end_row, IsColumn, moved_row}
use Rattle.tv_nested.specs.Lines.{own_line, under_line}
use Rattle.tv_nested.specs.Signs.{terms_there}
use Rattle.tv_nested.proofs.FrontLemmas.{sum_of, AreSummed, IsTold, sum_last, plain_shown, front_shown, front_refuted, under_none, under_one}
use Rattle.tv_nested.proofs.OwnLines.{IsSide, own_refutes}
use Rattle.tv_nested.proofs.SignLemmas.{rows_by, all_rows_length, below_there, at_least_there, below_number, below_constant, opposite_number}

-- a line without its last multiplier
pub front_of : (line ms : List ℤ) → line ≡ ms ++ pos 1 ∷ [] → take (length line - 1) line ≡ ms
front_of line ms e = ap (λ z. take (length z - 1) z) e ∙ ap (λ k. take k (ms ++ pos 1 ∷ [])) (let r = length-append ms (pos 1 ∷ []) in let q : length (ms ++ pos 1 ∷ []) - 1 ≡ length ms = omega (arith, r) in q) ∙ take_all ms (pos 1 ∷ [])
  where
    take_all : (xs ys : List ℤ) → take (length xs) (xs ++ ys) ≡ xs
    take_all [] ys = refl
    take_all (x ∷ xs) ys = ap (λ zs. x ∷ zs) (take_all xs ys)

-- ---- falls over lists of ranks
pub rows_shown : (n : ℕ) (ks : List Known) (ch : Linear → Known) (olds news : List Linear) (p : ℕ) (line : ℕ → List ℤ) (own : List ℤ) → p < length olds → length news ≡ length olds → ((i : ℕ) → i < p → Refutes n (ks ++ denied (less (ch (get_or news i zero_row)) (given (get_or olds i zero_row)) (pos 0)) ∷ []) (line i)) → Refutes n (ks ++ denied (less (ch (get_or news p zero_row)) (given (get_or olds p zero_row)) (pos 1)) ∷ []) (line p) → Refutes n (ks ++ denied (less (given zero_row) (given (get_or olds p zero_row)) (pos 0)) ∷ []) own → ShownAt n ks (fall_rows_at (as_given olds) (map ch news) p) (table (suc p) line ++ own ∷ [])
rows_shown n ks ch [] news p line own l e before falls bound = absurd (omega (arith, l))
rows_shown n ks ch (o ∷ olds) [] p line own l e before falls bound = absurd (omega (arith, e))
rows_shown n ks ch (o ∷ olds) (g ∷ news) zero line own l e before falls bound = (falls, (bound, tt))
rows_shown n ks ch (o ∷ olds) (g ∷ news) (suc p) line own l e before falls bound =
    shown_more n ks (less (ch g) (given o) (pos 0)) (fall_rows_at (as_given olds) (map ch news) p) (line 0) (table (suc p) (λ i. line (suc i)) ++ own ∷ []) (before 0 (omega arith), tt)
    (rows_shown n ks ch olds news p (λ i. line (suc i)) own (omega (arith, l)) (omega (arith, e)) (λ i b. before (suc i) (omega (arith, b))) falls bound)

-- what a family shows of one way
pub record IsFamilyAt (v d : ℕ) (terms : List (List LocalTerm)) (scale : ℤ) (line : ℕ → List ℤ) (w : Way) : Type 0 where
  pub as_many : length terms ≡ d
  pub positive : pos 0 <ℤ scale
  pub falls : (j : ℕ) → j < d → IsShownBy v w (step_row v terms w scale j) (line j)
  pub bounded : IsShownBy v w (end_row v terms w d) (line d)
  pub narrow : (i : ℕ) → i ≤ d → All (IsWithin 62) (line i)
  pub few : length (met_rows w) ≤ 4000000
  pub rows : (c : Option ℕ) → IsColumn (v + w.taken.draws) c → All (λ r. unsigned_abs (number c r) < 2 ^ 41) (met_rows w)
  pub kept : (j : ℕ) → j < d → (c : Option ℕ) → unsigned_abs (number c (nested_term v terms j w.taken.from)) < 2 ^ 62
  pub told : (j : ℕ) → j < d → (c : Option ℕ) → IsColumn (v + w.taken.draws) c → KnownHeld (moved_row v terms w j) c
  pub moved : (j : ℕ) → j < d → (c : Option ℕ) → IsColumn (v + w.taken.draws) c → unsigned_abs (known_number (moved_row v terms w j) c) < 2 ^ 113
  pub ones : (i : ℕ) → i ≤ d → (ms : List ℤ) × (line i ≡ ms ++ pos 1 ∷ [])

module _ (v d : ℕ) (c : LinearCase) (terms : List (List LocalTerm)) (scale : ℤ) (line : ℕ → List ℤ) (h : IsFamilyAt v d terms scale line (way_with c [])) where
  abbrev n : ℕ
  n = v + c.draws

  abbrev bare : Way
  bare = way_with c []

  abbrev rows : List Linear
  rows = c.guards

  -- the terms before the case and after it
  abbrev old : List Linear
  old = terms_there v terms c.from

  abbrev new : List Linear
  new = terms_there v terms c.to

  abbrev term_before : ℕ → Linear
  term_before j = nested_term v terms j c.from

  old_at : (j : ℕ) → j < d → get_or old j zero_row ≡ term_before j
  old_at j l = get_or-map (λ t. local_term v t c.from) terms j [] zero_row (let e = h.as_many in omega (arith, e, l))

  new_at : (j : ℕ) → j < d → get_or new j zero_row ≡ nested_term v terms j c.to
  new_at j l = get_or-map (λ t. local_term v t c.to) terms j [] zero_row (let e = h.as_many in omega (arith, e, l))

  old_length : length old ≡ d
  old_length = length-map terms (λ t. local_term v t c.from) ∙ h.as_many

  -- how the term with a number changes, plus a number
  abbrev change_of : ℕ → ℤ → Known
  change_of j z = less (moved_row v terms bare j) (given (term_before j)) z

  change_told : (j : ℕ) (z : ℤ) → j < d → unsigned_abs z ≤ 1 → IsTold n (change_of j z)
  change_told j z l s = record { held = held; small = small }
    where
      held : (column : Option ℕ) → IsColumn n column → KnownHeld (change_of j z) column
      held None i =
          let a = h.moved j l None tt in
          let b = h.kept j l None in (
            h.told j l None tt,
            tt,
            (let q : unsigned_abs (known_number (moved_row v terms bare j) None -ℤ number None (term_before j)) < 2 ^ 127 = omega (arith, ints, a, b) in q),
            (let q : unsigned_abs (known_number (moved_row v terms bare j) None -ℤ number None (term_before j) +ℤ z) < 2 ^ 127 = omega (arith, ints, a, b, s) in q),
          )
      held (Some m) i =
          let a = h.moved j l (Some m) i in
          let b = h.kept j l (Some m) in (
            h.told j l (Some m) i,
            tt,
            (let q : unsigned_abs (known_number (moved_row v terms bare j) (Some m) -ℤ number (Some m) (term_before j)) < 2 ^ 127 = omega (arith, ints, a, b) in q),
          )

      small : (column : Option ℕ) → IsColumn n column → unsigned_abs (known_number (change_of j z) column) < 2 ^ 120
      small None i = (let a = h.moved j l None tt in let b = h.kept j l None in omega (arith, ints, a, b, s))
      small (Some m) i = (let a = h.moved j l (Some m) i in let b = h.kept j l (Some m) in omega (arith, ints, a, b))

  -- ---- the multipliers of an identity
  module _ (i : ℕ) (i_in : i ≤ d) (row : Known) (shown : Refutes n (as_given rows ++ denied row ∷ []) (line i)) where
    abbrev ms : List ℤ
    ms = (h.ones i i_in).0

    line_is : line i ≡ ms ++ pos 1 ∷ []
    line_is = (h.ones i i_in).1

    many : length ms ≡ length rows
    many =
        let a = shown.as_many in
        let b = ap length line_is in
        let e = length-append ms (pos 1 ∷ []) in
        let f = length-append (as_given rows) (denied row ∷ []) in
        let g = length-given rows in
        omega (arith, a, b, e, f, g)

    summed : AreSummed n rows ms
    summed = record {
      few = h.few;
      many = many;
      short = all_front (IsWithin 62) ms (pos 1 ∷ []) (subst (All (IsWithin 62)) line_is (h.narrow i i_in));
      positive = all_front (λ m. pos 0 ≤ℤ m) ms (pos 1 ∷ []) (subst (All (λ m. pos 0 ≤ℤ m)) line_is shown.none_negative);
      small = h.rows;
    }

    sum_is : (column : Option ℕ) → sum_of ms rows column +ℤ known_number (denied row) column ≡ dot (line i) (map (λ k. known_number k column) (as_given rows ++ denied row ∷ []))
    sum_is column = sym (ap (λ z. dot z (map (λ k. known_number k column) (as_given rows ++ denied row ∷ []))) line_is ∙ sum_last column ms rows (denied row) many)

    inner_sum : (j : ℕ) → j < n → sum_of ms rows (Some j) ≡ known_number row (Some j)
    inner_sum j l = (let e = sum_is (Some j) in let f = shown.columns j l in omega (arith, ints, e, f))

    last_sum : known_number row None ≤ℤ sum_of ms rows None
    last_sum = (let e = sum_is None in let f = shown.constant in omega (arith, ints, e, f))

  below_small : (i : ℕ) → i < d → (column : Option ℕ) → unsigned_abs (number column (denial (opposite (get_or old i zero_row)))) < 2 ^ 63
  below_small i l None = (let a = below_constant (get_or old i zero_row) ∙ ap (λ y. number None y +ℤ pos 1) (old_at i l) in let b = h.kept i l None in omega (arith, ints, a, b))
  below_small i l (Some j) = (let a = below_number (get_or old i zero_row) j ∙ ap (number (Some j)) (old_at i l) in let b = h.kept i l (Some j) in omega (arith, ints, a, b))

  -- ---- the change of a term, from a piece
  step_shown : (p many i : ℕ) (z : ℤ) → i ≤ p → p < d → many ≡ length (rows_by old p) → z ≤ℤ pos 1 → pos 0 ≤ℤ z → Refutes n (as_given (rows_by old p) ++ (as_given rows ++ denied (change_of i z) ∷ [])) (under_line many i (line i))
  step_shown p many zero z l m e s u =
      let i_in : 0 < d = omega (arith, m) in
      let shown = h.falls 0 i_in in
      let row = step_row v terms bare scale 0 in
      let sums = summed 0 (omega arith) row shown in
      let last = last_sum 0 (omega arith) row shown in
      let positive = h.positive in
      subst (λ k. Refutes n (as_given (rows_by old p) ++ (as_given rows ++ denied (change_of 0 z) ∷ [])) (under_line k 0 (line 0))) (sym e)
      (under_none n (rows_by old p) (as_given rows ++ denied (change_of 0 z) ∷ []) (line 0)
      (subst (Refutes n (as_given rows ++ denied (change_of 0 z) ∷ [])) (sym (line_is 0 (omega arith) row shown))
      (plain_shown n rows (ms 0 (omega arith) row shown) sums (change_of 0 z) (change_told 0 z i_in (omega (arith, ints, s, u)))
      (λ j b. let g = inner_sum 0 (omega arith) row shown j b in omega (arith, ints, g))
      (omega (arith, ints, last, positive, s)))))
  step_shown p many (suc i) z l m e s u =
      let i_in : suc i < d = omega (arith, l, m) in
      let i_le : suc i ≤ d = omega (arith, l, m) in
      let shown = h.falls (suc i) i_in in
      let row = step_row v terms bare scale (suc i) in
      let sums = summed (suc i) i_le row shown in
      let last = last_sum (suc i) i_le row shown in
      let positive = h.positive in
      let there = below_there old p i zero_row (omega (arith, l)) (let q = old_length in omega (arith, q, m)) in
      let t = get_or old i zero_row in
      let same = old_at i (omega (arith, l, m)) in
      let f = denial (opposite t) in
      let q : many ≡ length there.front + suc (length there.back) = e ∙ ap length there.parts ∙ length-append there.front (f ∷ there.back) in
      let constant = below_constant t ∙ ap (λ y. number None y +ℤ pos 1) same in
      subst (λ k. Refutes n (as_given (rows_by old p) ++ (as_given rows ++ denied (change_of (suc i) z) ∷ [])) (under_line many (suc k) (line (suc i)))) there.many
      (subst (λ zs. Refutes n (as_given zs ++ (as_given rows ++ denied (change_of (suc i) z) ∷ [])) (under_line many (suc (length there.front)) (line (suc i)))) (sym there.parts)
      (under_one n many there.front f there.back (as_given rows ++ denied (change_of (suc i) z) ∷ []) (line (suc i)) q
      (subst (λ y. Refutes n (given f ∷ (as_given rows ++ denied (change_of (suc i) z) ∷ [])) (pos 1 ∷ y)) (sym (line_is (suc i) i_le row shown))
      (front_shown n rows (ms (suc i) i_le row shown) sums f (below_small i (omega (arith, l, m))) (change_of (suc i) z) (change_told (suc i) z i_in (omega (arith, ints, s, u)))
      (λ j b. let g = inner_sum (suc i) i_le row shown j b in let k = below_number t j ∙ ap (number (Some j)) same in omega (arith, ints, g, k))
      (omega (arith, ints, last, positive, s, constant))))))

  -- the rows of the piece and the guards
  abbrev place_rows : ℕ → List Known
  place_rows p = as_given (rows_by old p) ++ as_given rows

  step_placed : (p many i : ℕ) (z : ℤ) → i ≤ p → p < d → many ≡ length (rows_by old p) → z ≤ℤ pos 1 → pos 0 ≤ℤ z → Refutes n (place_rows p ++ denied (less (changed v (way_with c (rows_by old p)) (get_or new i zero_row)) (given (get_or old i zero_row)) z) ∷ []) (under_line many i (line i))
  step_placed p many i z l m e s u =
      subst (λ ks. Refutes n ks (under_line many i (line i))) (sym (append_assoc (as_given (rows_by old p)) (as_given rows) (denied (less (changed v (way_with c (rows_by old p)) (get_or new i zero_row)) (given (get_or old i zero_row)) z) ∷ [])))
      (subst (λ g. Refutes n (as_given (rows_by old p) ++ (as_given rows ++ denied (less (composed (given g) (terms_after v c.updates)) (given (get_or old i zero_row)) z) ∷ [])) (under_line many i (line i))) (sym (new_at i (omega (arith, l, m))))
      (subst (λ g. Refutes n (as_given (rows_by old p) ++ (as_given rows ++ denied (less (moved_row v terms bare i) (given g) z) ∷ [])) (under_line many i (line i))) (sym (old_at i (omega (arith, l, m))))
      (step_shown p many i z l m e s u)))

  -- ---- the term of the piece is at least 0
  bound_placed : (p many : ℕ) → p < d → many ≡ length (rows_by old p) → Refutes n (place_rows p ++ denied (less (given zero_row) (given (get_or old p zero_row)) (pos 0)) ∷ []) (own_line (many + length rows) p)
  bound_placed p many m e =
      let t = get_or old p zero_row in
      let there = at_least_there old p zero_row (let q = old_length in omega (arith, q, m)) in
      let back = as_given there.back ++ as_given rows in
      let s = given (opposite t) in
      let parts : place_rows p ≡ as_given there.front ++ (given (opposite t) ∷ (as_given there.back ++ as_given rows)) = ap (λ zs. as_given zs ++ as_given rows) there.parts ∙ ap (λ ks. ks ++ as_given rows) (as_given-append there.front (opposite t ∷ there.back)) ∙ append_assoc (as_given there.front) (given (opposite t) ∷ as_given there.back) (as_given rows) in
      let count : many + length rows ≡ length (as_given there.front) + suc (length (as_given there.back ++ as_given rows)) = (let a = e ∙ ap length there.parts ∙ length-append there.front (opposite t ∷ there.back) in let b = length-append (as_given there.back) (as_given rows) in let f = length-given there.front in let g = length-given there.back in let k = length-given rows in omega (arith, a, b, f, g, k)) in
      let own = own_refutes n (as_given there.front) (given (opposite t)) (as_given there.back ++ as_given rows) (many + length rows) (given_held n there.front) (side p m) (subst (AllHeld n) (as_given-append there.back rows) (given_held n (there.back ++ rows))) count in
      let placed = subst (λ k. Refutes n (place_rows p ++ denied (given (opposite t)) ∷ []) (own_line (many + length rows) k)) (length-given there.front ∙ there.many) (subst (λ ks. Refutes n (ks ++ denied (given (opposite t)) ∷ []) (own_line (many + length rows) (length (as_given there.front)))) (sym parts) own) in
      refutes_same n (place_rows p ++ denied (given (opposite t)) ∷ []) (place_rows p ++ denied (less (given zero_row) (given t) (pos 0)) ∷ []) (own_line (many + length rows) p)
      (same_push n (place_rows p) (place_rows p) (denied (given (opposite t))) (denied (less (given zero_row) (given t) (pos 0))) (all_same n (place_rows p)) (same p m)) placed
    where
      kept_at : (p : ℕ) → p < d → (column : Option ℕ) → unsigned_abs (number column (get_or old p zero_row)) < 2 ^ 62
      kept_at p m column = subst (λ t. unsigned_abs (number column t) < 2 ^ 62) (sym (old_at p m)) (h.kept p m column)

      side : (p : ℕ) → p < d → IsSide n (given (opposite (get_or old p zero_row)))
      side p m = record {
        inner = λ j l. tt;
        last = tt;
        small_inner = λ j l. let a = opposite_number (get_or old p zero_row) (Some j) in let b = kept_at p m (Some j) in omega (arith, ints, a, b);
        small_last = (let a = opposite_number (get_or old p zero_row) None in let b = kept_at p m None in omega (arith, ints, a, b));
      }

      same : (p : ℕ) → p < d → SameNumbers n (denied (given (opposite (get_or old p zero_row)))) (denied (less (given zero_row) (given (get_or old p zero_row)) (pos 0)))
      same p m = record {
        inner = λ j l. let a = opposite_number (get_or old p zero_row) (Some j) in omega (arith, ints, a);
        constant = (let a = opposite_number (get_or old p zero_row) None in omega (arith, ints, a));
        inner_held = λ j l q. let b = kept_at p m (Some j) in (
          (tt, tt, (let w : unsigned_abs (pos 0 -ℤ number (Some j) (get_or old p zero_row)) < 2 ^ 127 = omega (arith, ints, b) in w)),
          (let w : unsigned_abs (neg_ℤ (pos 0 -ℤ number (Some j) (get_or old p zero_row))) < 2 ^ 127 = omega (arith, ints, b) in w),
        );
        constant_held = λ q. let b = kept_at p m None in (
          (
            tt,
            tt,
            (let w : unsigned_abs (pos 0 -ℤ number None (get_or old p zero_row)) < 2 ^ 127 = omega (arith, ints, b) in w),
            (let w : unsigned_abs (pos 0 -ℤ number None (get_or old p zero_row) +ℤ pos 0) < 2 ^ 127 = omega (arith, ints, b) in w),
          ),
          (let w : unsigned_abs (pos 1 -ℤ (pos 0 -ℤ number None (get_or old p zero_row) +ℤ pos 0)) < 2 ^ 127 = omega (arith, ints, b) in w),
        );
      }

  -- ---- the rows of the fall at the term of the piece
  pub fall_placed : (p many : ℕ) → p < d → many ≡ length (rows_by old p) → ShownAt n (place_rows p) (fall_rows_at (as_given old) (map (changed v (way_with c (rows_by old p))) new) p) (table (suc p) (λ i. under_line many i (line i)) ++ own_line (many + length rows) p ∷ [])
  fall_placed p many m e = rows_shown n (place_rows p) (changed v (way_with c (rows_by old p))) old new p (λ i. under_line many i (line i)) (own_line (many + length rows) p)
      (let q = old_length in omega (arith, q, m))
      (let q = old_length in let r = length-map terms (λ t. local_term v t c.to) in let s = h.as_many in omega (arith, q, r, s))
      (λ i l. step_placed p many i (pos 0) (omega (arith, l)) m e (omega (arith, ints)) (omega (arith, ints)))
      (step_placed p many p (pos 1) (omega arith) m e (omega (arith, ints)) (omega (arith, ints)))
      (bound_placed p many m e)

  -- ---- below 0 with all terms
  d_le : d ≤ d
  d_le = omega arith

  pub end_placed : 0 < d → Refutes n (place_rows d) (under_line d d (take (length (line d) - 1) (line d)))
  end_placed some = subst (λ ms. Refutes n (place_rows d) (under_line d d ms)) (sym (front_of (line d) last_ms (h.ones d d_le).1)) (by_depth d refl)
    where
      last_ms : List ℤ
      last_ms = (h.ones d d_le).0

      by_depth : (k : ℕ) → k ≡ d → Refutes n (place_rows d) (under_line d d (h.ones d d_le).0)
      by_depth zero q = absurd (omega (arith, q, some))
      by_depth (suc i) q =
          let i_in : i < d = omega (arith, q) in
          let row = end_row v terms bare d in
          let sums = summed d d_le row h.bounded in
          let last = last_sum d d_le row h.bounded in
          let same = old_at i i_in in
          let t = get_or old i zero_row in
          let f = denial (opposite t) in
          let there = below_there old d i zero_row i_in (let r = old_length in omega (arith, r)) in
          let before : row_before v terms d bare ≡ term_before i = ap (λ z. row_before v terms z bare) (sym q) in
          let count : d ≡ length there.front + suc (length there.back) = sym (all_rows_length old d (sym old_length)) ∙ ap length there.parts ∙ length-append there.front (f ∷ there.back) in
          let constant = below_constant t ∙ ap (λ y. number None y +ℤ pos 1) same in
          subst (λ k. Refutes n (place_rows d) (under_line d k (h.ones d d_le).0)) (ap suc there.many ∙ q)
          (subst (λ zs. Refutes n (as_given zs ++ as_given rows) (under_line d (suc (length there.front)) (h.ones d d_le).0)) (sym there.parts)
          (under_one n d there.front f there.back (as_given rows) (h.ones d d_le).0 count
          (front_refuted n rows (h.ones d d_le).0 sums f (below_small i i_in)
          (λ j b. let g = inner_sum d d_le row h.bounded j b in let k = below_number t j ∙ ap (number (Some j)) same in let w = ap (number (Some j)) before in omega (arith, ints, g, k, w))
          (let w = ap (number None) before in omega (arith, ints, last, constant, w)))))
