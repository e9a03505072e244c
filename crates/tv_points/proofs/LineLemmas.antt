-- a line at a point refutes where the point meets the row
use Rattle.std.proofs.Common.{◌≡◌, ◌↔◌, ℕ, ◌+◌, ◌<◌, List, [], ◌∷◌, ◌++◌, length, None, Some, arith, refl, sym, ap, subst, ◌∙◌, ℤ, pos, neg_ℤ, ◌+ℤ◌, ◌-ℤ◌, ◌*ℤ◌, ◌≤ℤ◌, length-append}
use Rattle.std.proofs.lemmas.Int.{ints}
use Rattle.std.proofs.lemmas.List.{length-map}
use Rattle.std.proofs.lemmas.List.Elements.{All-push}
use Rattle.tv_linear.specs.Linear.{Linear, dot, IsWithin}
use Rattle.tv_linear.specs.Fits.{IsHeld, SumsHeld, IsFirstWide}
use Rattle.tv_linear.specs.Known.{Known, denied, KnownHeld, known_number, known_value, given, as_given}
use Rattle.tv_linear.specs.Refutation.{column_sum}
use Rattle.tv_refute.proofs.Sums.{Fit, Sum, joins, rest_sum, RowsHeld-given}
use Rattle.tv_points.specs.PointRows.{point_rows, constants_of, multipliers_from, coefficient_of, point_multipliers}
use Rattle.tv_points.specs.Lines.{beside, LineHeld, FitsLine, IsNarrowIn, IsShowable, ShowsAt}
use Rattle.tv_points.proofs.Signs.{signs_are, constants_are, column_held, column_sum_is, constant_sum_is, rows_length, all_positive, all_narrow, weighted-given, rows_length_is}

module _ (row : Known) (xs : List ℤ) where
  abbrev pub ms : List ℤ
  ms = multipliers_from (coefficient_of row) 0 xs

  abbrev pub rows : List Linear
  rows = point_rows xs

  many : length ms ≡ length (as_given rows)
  many = rows_length (length xs) 0 (coefficient_of row) xs ∙ sym (length-map rows (λ r. given r))

  -- ---- a column of the variables
  inner_rows : (j : ℕ) → j < length xs → IsWithin 62 (coefficient_of row j) → Fit (Some j) (pos 0) ms (as_given rows)
  inner_rows j l narrow =
      let s = column_held (coefficient_of row) j j 0 xs narrow (omega arith) l in
      (RowsHeld-given (Some j) (pos 0) ms rows).1 (subst (λ ys. SumsHeld (pos 0) ms ys) (sym (signs_are (length xs) j 0 xs l)) s)

  inner_sum : (j : ℕ) → j < length xs → Sum (Some j) ms (as_given rows) ≡ coefficient_of row j
  inner_sum j l = weighted-given (Some j) ms rows ∙ ap (λ ys. dot ms ys) (signs_are (length xs) j 0 xs l) ∙ column_sum_is (coefficient_of row) j j 0 xs (omega arith) l

  pub inner_fits : (j : ℕ) → j < length xs → IsNarrowIn row j → LineHeld row xs (Some j)
  inner_fits j l h =
      let c = coefficient_of row j in
      let sum = inner_sum j l in
      let narrow = h.1 in
      let turned : IsHeld (neg_ℤ c) = omega (arith, ints, narrow) in
      let one : pos 1 *ℤ neg_ℤ c ≡ neg_ℤ c = omega (arith, ints) in
      let none : (pos 0 +ℤ Sum (Some j) ms (as_given rows)) +ℤ pos 1 *ℤ neg_ℤ c ≡ pos 0 = omega (arith, ints, sum, one) in
      let zero_held : IsHeld (pos 0) = omega arith in
      (joins (Some j) (beside row xs) (as_given rows) (denied row ∷ []) (point_multipliers row xs) ms (pos 1 ∷ []) refl refl many).1
      (inner_rows j l narrow, ((h.0, turned), subst IsHeld (sym one) turned, subst IsHeld (sym none) zero_held, tt))

  inner_told : (j : ℕ) → LineHeld row xs (Some j) → KnownHeld row (Some j)
  inner_told j h = ((joins (Some j) (beside row xs) (as_given rows) (denied row ∷ []) (point_multipliers row xs) ms (pos 1 ∷ []) refl refl many).0 h).1.0.0

  inner_total : (j : ℕ) → j < length xs → column_sum (point_multipliers row xs) (beside row xs) (Some j) ≡ pos 0
  inner_total j l =
      let whole = rest_sum (Some j) (beside row xs) (as_given rows) (denied row ∷ []) (point_multipliers row xs) ms (pos 1 ∷ []) refl refl many (coefficient_of row j) (sym (inner_sum j l)) in
      omega (arith, ints, whole)

  -- ---- the constants
  constant_rows : Sum None ms (as_given rows) ≡ dot ms (constants_of xs)
  constant_rows = weighted-given None ms rows ∙ ap (λ ys. dot ms ys) (constants_are (length xs) 0 xs)

  sum_is : (pos 0 +ℤ dot ms (constants_of xs)) ≡ pos 0 +ℤ Sum None ms (as_given rows)
  sum_is = ap (λ t. pos 0 +ℤ t) (sym constant_rows)

  pub as_many_constants : length (constants_of xs) ≡ length ms
  as_many_constants = rows_length_is (coefficient_of row) 0 xs

  abbrev pub Left : ℤ → Type 0
  Left z = SumsHeld (pos 0) ms (constants_of xs) × KnownHeld (denied row) None × IsHeld (pos 1 *ℤ z) × IsHeld ((pos 0 +ℤ dot ms (constants_of xs)) +ℤ pos 1 *ℤ z)

  pub last_fits : Left (known_number (denied row) None) ↔ LineHeld row xs None
  last_fits =
      let z = known_number (denied row) None in
      let j = joins None (beside row xs) (as_given rows) (denied row ∷ []) (point_multipliers row xs) ms (pos 1 ∷ []) refl refl many in
      let g = RowsHeld-given None (pos 0) ms rows in (
        λ h. j.1 (g.1 (subst (λ ys. SumsHeld (pos 0) ms ys) (sym (constants_are (length xs) 0 xs)) h.0), (h.1, h.2, subst (λ t. IsHeld (t +ℤ pos 1 *ℤ z)) sum_is h.3, tt)),
        λ h. let k = j.0 h in (
          subst (λ ys. SumsHeld (pos 0) ms ys) (constants_are (length xs) 0 xs) (g.0 k.0),
          k.1.0,
          k.1.1,
          subst (λ t. IsHeld (t +ℤ pos 1 *ℤ z)) (sym sum_is) k.1.2,
        ),
      )

  -- what is left is 1 less the value of the row at the point
  pub left_is : (pos 0 +ℤ dot ms (constants_of xs)) +ℤ pos 1 *ℤ known_number (denied row) None ≡ pos 1 -ℤ known_value xs row
  left_is = let sum = constant_sum_is (coefficient_of row) (coefficient_of row) 0 xs (λ i. ap (coefficient_of row) (let e : 0 + i ≡ i = omega arith in e)) in omega (arith, ints, sum)

  last_total : column_sum (point_multipliers row xs) (beside row xs) None ≡ pos 1 -ℤ known_value xs row
  last_total =
      let whole = rest_sum None (beside row xs) (as_given rows) (denied row ∷ []) (point_multipliers row xs) ms (pos 1 ∷ []) refl refl many (dot ms (constants_of xs)) (sym constant_rows) in
      let left = left_is in
      omega (arith, ints, whole, left)

  -- ---- the answers
  abbrev IsFlat : Type 0
  IsFlat = (column : ℕ) → column < length xs → IsNarrowIn row column

  fits_inner : (column : ℕ) → column < length xs → IsNarrowIn row column → FitsLine row xs column
  fits_inner column l h = record { inner = λ k. inner_fits column l h; last = λ k. absurd (omega (arith, l, k)) }

  last_wide : IsFlat → (Left (known_number (denied row) None) → ⊥) → IsFirstWide (FitsLine row xs) (length xs) (length xs)
  last_wide flat never = record {
    inside = omega arith;
    wide = λ fits. never (last_fits.1 (fits.last (omega arith)));
    earlier = λ k l. fits_inner k l (flat k l);
  }

  shows : (made : List ℤ) → IsShowable xs row → Left (known_number (denied row) None) → made ≡ point_multipliers row xs → ShowsAt xs row made
  shows made showable fits meant = subst (λ ys. ShowsAt xs row ys) (sym meant) (record {
    meant = refl;
    refutes = record {
      as_many = (let a = length-append ms (pos 1 ∷ []) in let b = length-append (as_given rows) (denied row ∷ []) in omega (arith, a, b, many));
      none_negative = All-push (λ m. pos 0 ≤ℤ m) ms (pos 1) (all_positive (coefficient_of row) 0 xs) (omega (arith, ints));
      columns = λ j l. inner_total j l;
      constant = (let t = last_total in let m = showable.met in omega (arith, ints, t, m));
      columns_held = λ j l. inner_fits j l (showable.flat j l);
      constant_held = last_fits.0 fits;
    };
    narrow = All-push (IsWithin 62) ms (pos 1) (all_narrow (coefficient_of row) 0 xs (λ j a b. (showable.flat j (omega (arith, b))).1)) (omega arith);
  })

  -- ---- the same of the multipliers as they are made
  pub many_constants : (zs : List ℤ) → zs ≡ ms → length (constants_of xs) ≡ length zs
  many_constants zs e = as_many_constants ∙ ap length (sym e)

  abbrev pub LeftBy : List ℤ → ℤ → Type 0
  LeftBy zs z = SumsHeld (pos 0) zs (constants_of xs) × KnownHeld (denied row) None × IsHeld (pos 1 *ℤ z) × IsHeld ((pos 0 +ℤ dot zs (constants_of xs)) +ℤ pos 1 *ℤ z)

  pub made_wide : (zs : List ℤ) → zs ≡ ms → IsFlat → (LeftBy zs (known_number (denied row) None) → ⊥) → IsFirstWide (FitsLine row xs) (length xs) (length xs)
  made_wide zs e flat never = last_wide flat (λ h. never (subst (λ ys. LeftBy ys (known_number (denied row) None)) (sym e) h))

  pub made_shows : (zs made : List ℤ) → zs ≡ ms → IsShowable xs row → LeftBy zs (known_number (denied row) None) → made ≡ zs ++ pos 1 ∷ [] → ShowsAt xs row made
  made_shows zs made e showable fits meant =
      shows made showable (subst (λ ys. LeftBy ys (known_number (denied row) None)) e fits) (meant ∙ ap (λ ys. ys ++ pos 1 ∷ []) e)
