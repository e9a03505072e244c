-- Numbers put in for the draws.
use Rattle.std.proofs.Common.{◌≡◌, ℕ, zero, suc, ◌+◌, ◌≤◌, List, [], ◌∷◌, ◌++◌, length, length-append, map, get_or, All, ◌+ℤ◌, arith, refl, sym, ap, ◌∙◌, subst, ℤ, pos}
use Rattle.std.proofs.lemmas.List.{length-map, map-append}
use Rattle.std.proofs.lemmas.List.Elements.{All-nil, All-cons, All-head, All-tail, All-append}
use Rattle.tv_linear.specs.Linear.{Linear, columns, value}
use Rattle.tv_linear.specs.Arithmetic.{constant_row, column_row, combined, composed, width_of}
use Rattle.tv_linear.specs.Known.{kept, put, Known, given, composed as known_composed, as_given}
use Rattle.tv_linear.specs.Terms.{table, terms_after, draw_terms}
use Rattle.tv_linear.proofs.Entries.{entry-raised_inner, entry-raised_last, entry-combined, columns-combined}
use Rattle.tv_linear.proofs.PlainLists.{length-zeros}
use Rattle.tv_linear.proofs.RowValues.{value-composed, value-constant_row, value-column_row}
use Rattle.tv_linear.specs.Same.{SameNumbers, AreSame}
use Rattle.tv_linear.proofs.SameLemmas.{same_self}
use Rattle.tv_linear.proofs.ListLaws.{table_of}
use Rattle.tv_cases.specs.EdgeCases.{columns_from}
use Rattle.tv_cases.specs.LinearCases.{LinearCase}
use Rattle.tv_cases.specs.Before.{before as case_before, FitsBefore, rows_before}
use Rattle.tv_cases.proofs.BeforeLemmas.{IsTerm, AreTerms, PutIn, composed_same, kept_term, put_term, before_same, before_even, terms_append}
use Rattle.tv_cert.specs.Choices.{drawn_change}
use Rattle.tv_points.specs.PointRows.{number_rows}
use Rattle.tv_points.proofs.TakeLemmas.{numbers_wide}
use Rattle.tv_recur.specs.Making.{FitsPut, rows_put, drawn_terms}
use Rattle.tv_cases.proofs.SameSteps.{length-columns_from}
use Rattle.tv_derived.proofs.Widths.{columns_from-wide, width_is, no_columns}

-- ---- the terms
pub terms-wide : (n : ℕ) (ds : List ℤ) → All (λ r. columns r ≡ n) (drawn_terms n ds)
terms-wide n ds = All-append (λ r. columns r ≡ n) (columns_from n 0 n) (number_rows n ds) (columns_from-wide n 0 n) (numbers_wide n ds)

pub terms-length : (n : ℕ) (ds : List ℤ) → length (drawn_terms n ds) ≡ n + length ds
terms-length n ds = length-append (columns_from n 0 n) (number_rows n ds) ∙ (λ i. length-columns_from n 0 n i + length-map ds (λ d. constant_row n d) i)

pub terms-width : (n : ℕ) (ds : List ℤ) → width_of (drawn_terms n ds) ≡ n
terms-width n ds = width_is n (drawn_terms n ds) (terms-wide n ds) (no_columns n (number_rows n ds))

-- ---- as the terms of a choice
kept_terms : (w v k : ℕ) → AreTerms w (table k (λ j. kept (v + j))) (columns_from w v k)
kept_terms w v zero = tt
kept_terms w v (suc k) = (
  subst (λ m. IsTerm w (kept m) (column_row w v)) (let e : v ≡ v + 0 = omega arith in e) (kept_term w v),
  subst (λ f. AreTerms w (table k f) (columns_from w (suc v) k)) (λ i j. kept (let e : suc v + j ≡ v + suc j = omega arith in e i)) (kept_terms w (suc v) k),
)

number_terms : (n : ℕ) (ds : List ℤ) → AreTerms n (map (λ d. put d) (number_rows n ds)) (number_rows n ds)
number_terms n [] = tt
number_terms n (d ∷ ds) = (put_term n (constant_row n d) (length-zeros n), number_terms n ds)

pub are_terms : (n : ℕ) (ds : List ℤ) → AreTerms n (draw_terms n (number_rows n ds)) (drawn_terms n ds)
are_terms n ds =
    terms_append n (table n kept) (map (λ d. put d) (number_rows n ds)) (columns_from n 0 n) (number_rows n ds)
    (subst (λ f. AreTerms n (table n f) (columns_from n 0 n)) (λ i j. kept (let e : 0 + j ≡ j = omega arith in e i)) (kept_terms n 0 n))
    (number_terms n ds)

-- ---- a row with the terms
pub put_drawn : (n : ℕ) (ds : List ℤ) (r : Linear) → FitsPut (drawn_terms n ds) r → PutIn n r (drawn_terms n ds) (composed r (drawn_terms n ds))
put_drawn n ds r fits =
    let ts = drawn_terms n ds in
    let w = terms-width n ds in
    let even = subst (λ k. All (λ t. columns t ≡ k) ts) (sym w) (terms-wide n ds) in
    let wide = columns-combined (width_of ts) r.coefficients ts even in
    record {
      even = wide ∙ w;
      inner = λ j l. entry-raised_inner r.constant (combined (width_of ts) r.coefficients ts) j (omega (arith, l, wide, w)) ∙ entry-combined (width_of ts) r.coefficients ts j even;
      last = entry-raised_last r.constant (combined (width_of ts) r.coefficients ts) n (omega (arith, wide, w)) ∙ ap (λ z. z +ℤ r.constant) (entry-combined (width_of ts) r.coefficients ts n even);
      held = λ j l. (fits j (omega (arith, l, wide, w))).on_the_way;
      narrow = λ j l. (fits j (omega (arith, l, wide, w))).narrow;
    }

pub put_wide : (n : ℕ) (ds : List ℤ) (r : Linear) → columns (composed r (drawn_terms n ds)) ≡ n
put_wide n ds r =
    let ts = drawn_terms n ds in
    let w = terms-width n ds in
    columns-combined (width_of ts) r.coefficients ts (subst (λ k. All (λ t. columns t ≡ k) ts) (sym w) (terms-wide n ds)) ∙ w

pub all_put_wide : (n : ℕ) (ds : List ℤ) (rows : List Linear) → All (λ r. columns r ≡ n) (rows_put (drawn_terms n ds) rows)
all_put_wide n ds [] = All-nil (λ r. columns r ≡ n)
all_put_wide n ds (r ∷ rows) = All-cons (λ r. columns r ≡ n) (composed r (drawn_terms n ds)) (rows_put (drawn_terms n ds) rows) (put_wide n ds r) (all_put_wide n ds rows)

put_same : (n : ℕ) (ds : List ℤ) (r : Linear) (k : Known) → columns r ≡ n + length ds → SameNumbers (n + length ds) (given r) k → FitsPut (drawn_terms n ds) r → SameNumbers n (given (composed r (drawn_terms n ds))) (known_composed k (draw_terms n (number_rows n ds)))
put_same n ds r k wide same fits =
    composed_same (n + length ds) n r (composed r (drawn_terms n ds)) k (draw_terms n (number_rows n ds)) (drawn_terms n ds) wide (terms-length n ds) same (are_terms n ds) (put_drawn n ds r fits)

-- ---- the rows that are owed
module _ (n : ℕ) (c : LinearCase) (ds : List ℤ) (counted : length ds ≡ c.draws) where
  pub guards_same : (gs : List Linear) → All (λ r. columns r ≡ n + c.draws) gs → All (FitsPut (drawn_terms n ds)) gs → AreSame n (as_given (rows_put (drawn_terms n ds) gs)) (map (λ r. known_composed (given r) (draw_terms n (number_rows n ds))) gs)
  guards_same [] wide fits = tt
  guards_same (g ∷ gs) wide fits = (
    put_same n ds g (given g) (All-head (λ r. columns r ≡ n + c.draws) g gs wide ∙ ap (λ k. n + k) (sym counted)) (same_self (n + length ds) (given g)) (All-head (FitsPut (drawn_terms n ds)) g gs fits),
    guards_same gs (All-tail (λ r. columns r ≡ n + c.draws) g gs wide) (All-tail (FitsPut (drawn_terms n ds)) g gs fits),
  )

  pub into_same : All (λ u. columns u.term ≡ n + c.draws) c.updates → (rows : List Linear) → All (λ r. columns r ≡ n) rows → All (FitsBefore c) rows → All (FitsPut (drawn_terms n ds)) (rows_before c rows) → AreSame n (as_given (rows_put (drawn_terms n ds) (rows_before c rows))) (map (drawn_change n c (number_rows n ds)) rows)
  into_same us [] wide before fits = tt
  into_same us (r ∷ rows) wide before fits =
      let w = All-head (λ r. columns r ≡ n) r rows wide in
      let b = All-head (FitsBefore c) r rows before in (
        put_same n ds (case_before r c) (known_composed (given r) (terms_after n c.updates))
            (before_even n c r w us b ∙ ap (λ k. n + k) (sym counted))
            (subst (λ k. SameNumbers (n + k) (given (case_before r c)) (known_composed (given r) (terms_after n c.updates))) (sym counted) (before_same n c r w us b))
            (All-head (FitsPut (drawn_terms n ds)) (case_before r c) (rows_before c rows) fits),
        into_same us rows (All-tail (λ r. columns r ≡ n) r rows wide) (All-tail (FitsBefore c) r rows before) (All-tail (FitsPut (drawn_terms n ds)) (case_before r c) (rows_before c rows) fits),
      )

-- ---- values
variables_at : (w v k : ℕ) (xs : List ℤ) → length xs ≤ w → map (λ t. value t xs) (columns_from w v k) ≡ table k (λ j. get_or xs (v + j) (pos 0))
variables_at w v zero xs l = refl
variables_at w v (suc k) xs l = (λ i. (value-column_row w v xs l ∙ ap (λ j. get_or xs j (pos 0)) (let e : v ≡ v + 0 = omega arith in e)) i ∷ (variables_at w (suc v) k xs l ∙ ap (table k) (λ p j. get_or xs (let e : suc v + j ≡ v + suc j = omega arith in e p) (pos 0))) i)

numbers_at : (n : ℕ) (ds xs : List ℤ) → map (λ t. value t xs) (number_rows n ds) ≡ ds
numbers_at n [] xs = refl
numbers_at n (d ∷ ds) xs = (λ i. value-constant_row n d xs i ∷ numbers_at n ds xs i)

pub terms_at : (n : ℕ) (ds xs : List ℤ) → length xs ≡ n → map (λ t. value t xs) (drawn_terms n ds) ≡ xs ++ ds
terms_at n ds xs e =
    map-append (λ t. value t xs) (columns_from n 0 n) (number_rows n ds)
    ∙ (λ i. (variables_at n 0 n xs (omega (arith, e)) ∙ ap (table n) (λ p j. get_or xs (let q : 0 + j ≡ j = omega arith in q p) (pos 0)) ∙ table_of n xs e) i ++ numbers_at n ds xs i)

-- the value of a row with the numbers put in
pub put_value : (n : ℕ) (ds xs : List ℤ) (r : Linear) → length xs ≡ n → value (composed r (drawn_terms n ds)) xs ≡ value r (xs ++ ds)
put_value n ds xs r e = value-composed r (drawn_terms n ds) xs ∙ ap (value r) (terms_at n ds xs e)
