-- Multipliers of narrow rows, beside those of a row before them and of the denial of what they show.
use Rattle.std.proofs.Common.{◌≡◌, ℕ, suc, ◌+◌, ◌-◌, ◌*◌, ◌^◌, ◌<◌, ◌≤◌, List, [], ◌∷◌, ◌++◌, length, length-append, map, All, Option, None, Some, arith, refl, sym, ap, ◌∙◌, subst, append_assoc, ℤ, pos, neg_ℤ, ◌+ℤ◌, ◌-ℤ◌, ◌*ℤ◌, ◌≤ℤ◌, ◌<ℤ◌, unsigned_abs}
use Rattle.std.proofs.lemmas.Int.{ints}
use Rattle.std.proofs.lemmas.List.{append-nil}
use Rattle.std.proofs.lemmas.List.Elements.{All-nil, All-cons, All-head, All-tail, All-append}
use Rattle.tv_linear.specs.Linear.{Linear, dot, IsWithin}
use Rattle.tv_linear.specs.Arithmetic.{zeros}
use Rattle.tv_linear.specs.Known.{Known, given, denied, number, known_number, KnownHeld, as_given}
use Rattle.tv_linear.specs.Refutation.{RowsHeld, Refutes}
use Rattle.tv_linear.proofs.KnownLemmas.{as_given-append, length-given}
use Rattle.tv_rank.proofs.ShownRows.{small_product, sum_below}
use Rattle.tv_lexrank.proofs.MoreLemmas.{given_held}
use Rattle.tv_lexrank.proofs.PadLemmas.{zeros_keep}
use Rattle.tv_nested.specs.Families.{IsColumn}
use Rattle.tv_nested.specs.Lines.{under_line}

-- ---- sums of products
abbrev pub sum_of : List ℤ → List Linear → Option ℕ → ℤ
sum_of ms rows c = dot ms (map (λ r. number c r) rows)

-- short multipliers that are not negative, and narrow rows with n columns
pub record AreSummed (n : ℕ) (rows : List Linear) (ms : List ℤ) : Type 0 where
  pub few : length rows ≤ 4000000
  pub many : length ms ≡ length rows
  pub short : All (IsWithin 62) ms
  pub positive : All (λ m. pos 0 ≤ℤ m) ms
  pub small : (c : Option ℕ) → IsColumn n c → All (λ r. unsigned_abs (number c r) < 2 ^ 41) rows

sum_small : (c : Option ℕ) (count : ℕ) (sum : ℤ) (ms : List ℤ) (rows : List Linear) → length ms ≡ length rows → unsigned_abs sum ≤ count * 2 ^ 103 → All (IsWithin 62) ms → All (λ r. unsigned_abs (number c r) < 2 ^ 41) rows → unsigned_abs (sum +ℤ sum_of ms rows c) ≤ (count + length rows) * 2 ^ 103
sum_small c count sum [] [] e b short narrow = omega (arith, ints, b)
sum_small c count sum [] (r ∷ rows) e b short narrow = absurd (omega (arith, e))
sum_small c count sum (m ∷ ms) [] e b short narrow = absurd (omega (arith, e))
sum_small c count sum (m ∷ ms) (r ∷ rows) e b short narrow =
    let z : unsigned_abs (m *ℤ number c r) < 2 ^ 103 = small_product m (number c r) (All-head (IsWithin 62) m ms short) (All-head (λ r. unsigned_abs (number c r) < 2 ^ 41) r rows narrow) in
    let s : unsigned_abs (sum +ℤ m *ℤ number c r) ≤ (count + 1) * 2 ^ 103 = sum_below sum (m *ℤ number c r) count b z in
    let h = sum_small c (count + 1) (sum +ℤ m *ℤ number c r) ms rows (omega (arith, e)) s (All-tail (IsWithin 62) m ms short) (All-tail (λ r. unsigned_abs (number c r) < 2 ^ 41) r rows narrow) in
    omega (arith, ints, h)

rows_then : (c : Option ℕ) (count : ℕ) (sum : ℤ) (ms : List ℤ) (rows : List Linear) (ns : List ℤ) (tail : List Known) → length ms ≡ length rows → count + length rows ≤ 5000000 → unsigned_abs sum ≤ count * 2 ^ 103 → All (IsWithin 62) ms → All (λ r. unsigned_abs (number c r) < 2 ^ 41) rows → RowsHeld (λ k. KnownHeld k c) (sum +ℤ sum_of ms rows c) (λ k. known_number k c) ns tail → RowsHeld (λ k. KnownHeld k c) sum (λ k. known_number k c) (ms ++ ns) (as_given rows ++ tail)
rows_then c count sum [] [] ns tail e l b short narrow h = subst (λ z. RowsHeld (λ k. KnownHeld k c) z (λ k. known_number k c) ns tail) (let q : sum +ℤ pos 0 ≡ sum = omega (arith, ints) in q) h
rows_then c count sum [] (r ∷ rows) ns tail e l b short narrow h = absurd (omega (arith, e))
rows_then c count sum (m ∷ ms) [] ns tail e l b short narrow h = absurd (omega (arith, e))
rows_then c count sum (m ∷ ms) (r ∷ rows) ns tail e l b short narrow h =
    let z : unsigned_abs (m *ℤ number c r) < 2 ^ 103 = small_product m (number c r) (All-head (IsWithin 62) m ms short) (All-head (λ r. unsigned_abs (number c r) < 2 ^ 41) r rows narrow) in
    let s : unsigned_abs (sum +ℤ m *ℤ number c r) ≤ (count + 1) * 2 ^ 103 = sum_below sum (m *ℤ number c r) count b z in
    let y : sum +ℤ (m *ℤ number c r +ℤ sum_of ms rows c) ≡ (sum +ℤ m *ℤ number c r) +ℤ sum_of ms rows c = omega (arith, ints) in (
      tt,
      (let w : unsigned_abs (m *ℤ number c r) < 2 ^ 127 = omega (arith, z) in w),
      (let w : unsigned_abs (sum +ℤ m *ℤ number c r) < 2 ^ 127 = omega (arith, s, l) in w),
      rows_then c (count + 1) (sum +ℤ m *ℤ number c r) ms rows ns tail (omega (arith, e)) (omega (arith, l)) s (All-tail (IsWithin 62) m ms short) (All-tail (λ r. unsigned_abs (number c r) < 2 ^ 41) r rows narrow)
          (subst (λ z. RowsHeld (λ k. KnownHeld k c) z (λ k. known_number k c) ns tail) y h),
    )

-- what the multipliers and 1 for a row behind them add up to
pub sum_last : (c : Option ℕ) (ms : List ℤ) (rows : List Linear) (row : Known) → length ms ≡ length rows → dot (ms ++ pos 1 ∷ []) (map (λ k. known_number k c) (as_given rows ++ row ∷ [])) ≡ sum_of ms rows c +ℤ known_number row c
sum_last c [] [] row e = omega (arith, ints)
sum_last c [] (r ∷ rows) row e = absurd (omega (arith, e))
sum_last c (m ∷ ms) [] row e = absurd (omega (arith, e))
sum_last c (m ∷ ms) (r ∷ rows) row e = (let h = sum_last c ms rows row (omega (arith, e)) in omega (arith, ints, h))

sum_given : (c : Option ℕ) (ms : List ℤ) (rows : List Linear) → dot ms (map (λ k. known_number k c) (as_given rows)) ≡ sum_of ms rows c
sum_given c [] [] = refl
sum_given c [] (r ∷ rows) = refl
sum_given c (m ∷ ms) [] = refl
sum_given c (m ∷ ms) (r ∷ rows) = (let h = sum_given c ms rows in omega (arith, ints, h))

-- ---- the row that is shown
pub record IsTold (n : ℕ) (row : Known) : Type 0 where
  pub held : (c : Option ℕ) → IsColumn n c → KnownHeld row c
  pub small : (c : Option ℕ) → IsColumn n c → unsigned_abs (known_number row c) < 2 ^ 120

module _ (n : ℕ) (row : Known) (told : IsTold n row) where
  denial_small : (c : Option ℕ) → IsColumn n c → unsigned_abs (known_number (denied row) c) < 2 ^ 121
  denial_small None h = (let s = told.small None h in omega (arith, ints, s))
  denial_small (Some j) h = (let s = told.small (Some j) h in omega (arith, ints, s))

  denial_held : (c : Option ℕ) → IsColumn n c → KnownHeld (denied row) c
  denial_held None h = (told.held None h, (let s = told.small None h in let w : unsigned_abs (pos 1 -ℤ known_number row None) < 2 ^ 127 = omega (arith, ints, s) in w))
  denial_held (Some j) h = (told.held (Some j) h, (let s = told.small (Some j) h in let w : unsigned_abs (neg_ℤ (known_number row (Some j))) < 2 ^ 127 = omega (arith, ints, s) in w))

  last_held : (c : Option ℕ) (sum : ℤ) → IsColumn n c → unsigned_abs sum ≤ 5000000 * 2 ^ 103 → RowsHeld (λ k. KnownHeld k c) sum (λ k. known_number k c) (pos 1 ∷ []) (denied row ∷ [])
  last_held c sum h b =
      let s = denial_small c h in (
        denial_held c h,
        (let w : unsigned_abs (pos 1 *ℤ known_number (denied row) c) < 2 ^ 127 = omega (arith, ints, s) in w),
        (let w : unsigned_abs (sum +ℤ pos 1 *ℤ known_number (denied row) c) < 2 ^ 127 = omega (arith, ints, s, b) in w),
        tt,
      )

-- ---- refutations
module _ (n : ℕ) (rows : List Linear) (ms : List ℤ) (h : AreSummed n rows ms) where
  last_positive : All (λ m. pos 0 ≤ℤ m) (ms ++ pos 1 ∷ [])
  last_positive = All-append (λ m. pos 0 ≤ℤ m) ms (pos 1 ∷ []) h.positive (All-cons (λ m. pos 0 ≤ℤ m) (pos 1) [] (omega (arith, ints)) (All-nil (λ m. pos 0 ≤ℤ m)))

  -- the rows show a row
  pub plain_shown : (row : Known) → IsTold n row → ((j : ℕ) → j < n → sum_of ms rows (Some j) ≡ known_number row (Some j)) → known_number row None ≤ℤ sum_of ms rows None → Refutes n (as_given rows ++ denied row ∷ []) (ms ++ pos 1 ∷ [])
  plain_shown row told columns constant = record {
    as_many = (let a = length-append ms (pos 1 ∷ []) in let b = length-append (as_given rows) (denied row ∷ []) in let d = length-given rows in let e = h.many in omega (arith, a, b, d, e));
    none_negative = last_positive;
    columns = λ j l. (let s = sum_last (Some j) ms rows (denied row) h.many in let e = columns j l in omega (arith, ints, s, e));
    constant = (let s = sum_last None ms rows (denied row) h.many in omega (arith, ints, s, constant));
    columns_held = λ j l. held (Some j) l;
    constant_held = held None tt;
  }
    where
      held : (c : Option ℕ) → IsColumn n c → RowsHeld (λ k. KnownHeld k c) (pos 0) (λ k. known_number k c) (ms ++ pos 1 ∷ []) (as_given rows ++ denied row ∷ [])
      held c c_in =
          let f = h.few in
          let b = sum_small c 0 (pos 0) ms rows h.many (omega arith) h.short (h.small c c_in) in
          rows_then c 0 (pos 0) ms rows (pos 1 ∷ []) (denied row ∷ []) h.many (omega (arith, f)) (omega arith) h.short (h.small c c_in) (last_held n row told c (pos 0 +ℤ sum_of ms rows c) c_in (omega (arith, b, f)))

  module _ (f : Linear) (slim : (c : Option ℕ) → unsigned_abs (number c f) < 2 ^ 63) where
    front_small : (c : Option ℕ) → unsigned_abs (pos 0 +ℤ pos 1 *ℤ number c f) ≤ 1 * 2 ^ 103
    front_small c = (let s = slim c in omega (arith, ints, s))

    front_held : (c : Option ℕ) (ns : List ℤ) (tail : List Known) → IsColumn n c → RowsHeld (λ k. KnownHeld k c) ((pos 0 +ℤ pos 1 *ℤ number c f) +ℤ sum_of ms rows c) (λ k. known_number k c) ns tail → RowsHeld (λ k. KnownHeld k c) (pos 0) (λ k. known_number k c) (pos 1 ∷ (ms ++ ns)) (given f ∷ (as_given rows ++ tail))
    front_held c ns tail c_in g =
        let s = slim c in
        let w = h.few in (
          tt,
          (let q : unsigned_abs (pos 1 *ℤ number c f) < 2 ^ 127 = omega (arith, ints, s) in q),
          (let q : unsigned_abs (pos 0 +ℤ pos 1 *ℤ number c f) < 2 ^ 127 = omega (arith, ints, s) in q),
          rows_then c 1 (pos 0 +ℤ pos 1 *ℤ number c f) ms rows ns tail h.many (omega (arith, w)) (front_small c) h.short (h.small c c_in) g,
        )

    front_sum : (c : Option ℕ) → IsColumn n c → unsigned_abs ((pos 0 +ℤ pos 1 *ℤ number c f) +ℤ sum_of ms rows c) ≤ 5000000 * 2 ^ 103
    front_sum c c_in = (let b = sum_small c 1 (pos 0 +ℤ pos 1 *ℤ number c f) ms rows h.many (front_small c) h.short (h.small c c_in) in let w = h.few in omega (arith, b, w))

    -- the rows and one before them show a row
    pub front_shown : (row : Known) → IsTold n row → ((j : ℕ) → j < n → number (Some j) f +ℤ sum_of ms rows (Some j) ≡ known_number row (Some j)) → known_number row None ≤ℤ (number None f +ℤ sum_of ms rows None) → Refutes n (given f ∷ (as_given rows ++ denied row ∷ [])) (pos 1 ∷ (ms ++ pos 1 ∷ []))
    front_shown row told columns constant = record {
      as_many = (let a = length-append ms (pos 1 ∷ []) in let b = length-append (as_given rows) (denied row ∷ []) in let d = length-given rows in let e = h.many in omega (arith, a, b, d, e));
      none_negative = All-cons (λ m. pos 0 ≤ℤ m) (pos 1) (ms ++ pos 1 ∷ []) (omega (arith, ints)) last_positive;
      columns = λ j l. (let s = sum_last (Some j) ms rows (denied row) h.many in let e = columns j l in omega (arith, ints, s, e));
      constant = (let s = sum_last None ms rows (denied row) h.many in omega (arith, ints, s, constant));
      columns_held = λ j l. front_held (Some j) (pos 1 ∷ []) (denied row ∷ []) l (last_held n row told (Some j) ((pos 0 +ℤ pos 1 *ℤ number (Some j) f) +ℤ sum_of ms rows (Some j)) l (front_sum (Some j) l));
      constant_held = front_held None (pos 1 ∷ []) (denied row ∷ []) tt (last_held n row told None ((pos 0 +ℤ pos 1 *ℤ number None f) +ℤ sum_of ms rows None) tt (front_sum None tt));
    }

    -- the rows and one before them are never met together
    pub front_refuted : ((j : ℕ) → j < n → number (Some j) f +ℤ sum_of ms rows (Some j) ≡ pos 0) → pos 0 <ℤ (number None f +ℤ sum_of ms rows None) → Refutes n (given f ∷ as_given rows) (pos 1 ∷ ms)
    front_refuted columns constant = record {
      as_many = (let d = length-given rows in let e = h.many in omega (arith, d, e));
      none_negative = All-cons (λ m. pos 0 ≤ℤ m) (pos 1) ms (omega (arith, ints)) h.positive;
      columns = λ j l. (let s = sum_given (Some j) ms rows in let e = columns j l in omega (arith, ints, s, e));
      constant = (let s = sum_given None ms rows in omega (arith, ints, s, constant));
      columns_held = λ j l. bare (Some j) l;
      constant_held = bare None tt;
    }
      where
        bare : (c : Option ℕ) → IsColumn n c → RowsHeld (λ k. KnownHeld k c) (pos 0) (λ k. known_number k c) (pos 1 ∷ ms) (given f ∷ as_given rows)
        bare c c_in = subst (λ ns. RowsHeld (λ k. KnownHeld k c) (pos 0) (λ k. known_number k c) (pos 1 ∷ ns) (given f ∷ as_given rows)) (append-nil ms) (subst (λ ks. RowsHeld (λ k. KnownHeld k c) (pos 0) (λ k. known_number k c) (pos 1 ∷ (ms ++ [])) (given f ∷ ks)) (append-nil (as_given rows)) (front_held c [] [] c_in tt))

-- ---- under more rows
pub under_none : (n : ℕ) (more : List Linear) (ks : List Known) (line : List ℤ) → Refutes n ks line → Refutes n (as_given more ++ ks) (under_line (length more) 0 line)
under_none n more ks line h = subst (λ k. Refutes n (as_given more ++ ks) (zeros k ++ line)) (length-given more) (zeros_keep n [] (as_given more) ks [] line refl (given_held n more) h)

pub under_one : (n many : ℕ) (front : List Linear) (f : Linear) (back : List Linear) (ks : List Known) (line : List ℤ) → many ≡ length front + suc (length back) → Refutes n (given f ∷ ks) (pos 1 ∷ line) → Refutes n (as_given (front ++ f ∷ back) ++ ks) (under_line many (suc (length front)) line)
under_one n many front f back ks line e h =
    subst (λ zs. Refutes n zs (under_line many (suc (length front)) line)) (sym (ap (λ zs. zs ++ ks) (as_given-append front (f ∷ back)) ∙ append_assoc (as_given front) (given f ∷ as_given back) ks))
    (subst (λ k. Refutes n (as_given front ++ (given f ∷ (as_given back ++ ks))) (zeros k ++ pos 1 ∷ (zeros (many - length front - 1) ++ line))) (length-given front)
    (subst (λ k. Refutes n (as_given front ++ (given f ∷ (as_given back ++ ks))) (zeros (length (as_given front)) ++ pos 1 ∷ (zeros k ++ line))) (length-given back ∙ (let q : length back ≡ many - length front - 1 = omega (arith, e) in q))
    (zeros_keep n [] (as_given front) (given f ∷ (as_given back ++ ks)) [] (pos 1 ∷ (zeros (length (as_given back)) ++ line)) refl (given_held n front)
    (zeros_keep n (given f ∷ []) (as_given back) ks (pos 1 ∷ []) line refl (given_held n back) h))))
