use Rattle.std.proofs.Common.{◌≡◌, inl, inr, ℕ, zero, suc, ◌+◌, ◌*◌, ◌^◌, ◌<◌, ◌≤◌, List, [], ◌∷◌, ◌++◌, length, length-append, map, get_or, All, Option, None, Some, arith, refl, sym, ap, ◌∙◌, subst, ℤ, pos, neg_ℤ, ◌+ℤ◌, ◌-ℤ◌, ◌*ℤ◌, ◌≤ℤ◌, ◌<ℤ◌, unsigned_abs}
use Rattle.std.proofs.lemmas.Int.{ints, unsigned_abs-mul}
use Rattle.std.proofs.lemmas.List.{length-map, map-append, get_or-map}
use Rattle.std.proofs.lemmas.List.Elements.{All-head, All-tail, All-from_get_or}
use Rattle.std.proofs.Math.IntN.{*ℤ_comm}
use Rattle.tv_linear.specs.Linear.{Linear, linear, dot}
use Rattle.tv_linear.specs.Fits.{IsHeld}
use Rattle.tv_linear.specs.Known.{Known, denied, number, known_number, KnownHeld, as_given, place_sum, PlacesHeld}
use Rattle.tv_linear.specs.Refutation.{RowsHeld, column_sum, ColumnHeld, Refutes}
use Rattle.tv_linear.proofs.KnownLemmas.{as_given-append, length-given}
use Rattle.tv_refute.proofs.Places.{get_or-left, get_or-right}
use Rattle.tv_farkas.proofs.SystemLemmas.{dot-total, known-given}
use Rattle.tv_simplex.specs.Sums.{total}
use Rattle.tv_simplex.specs.Outcomes.{IsShort}
use Rattle.tv_simplex.proofs.Sums.{total-same}
use Rattle.tv_rank.specs.Ways.{Way, met_rows}
use Rattle.tv_rank.specs.Rankings.{IsShownBy}
use Rattle.tv_rank.specs.Reading.{multipliers_read, line_read}
use Rattle.tv_rank.proofs.Over.{Inside}
use Rattle.tv_rank.proofs.Barriers.{row_of, width}
use Rattle.tv_rank.proofs.Solved.{rows_sum}
use Rattle.tv_linear.proofs.ListLaws.{same_or_below, last_or_below}
use Rattle.tv_simplex.proofs.ScaleLemmas.{scaled_up}
use Rattle.tv_simplex.proofs.Ring.{one_times_z}

-- ---- lists with a last item
dot-last : (ms rs : List ℤ) (m r : ℤ) → length ms ≡ length rs → dot (ms ++ m ∷ []) (rs ++ r ∷ []) ≡ dot ms rs +ℤ m *ℤ r
dot-last [] [] m r e = omega (arith, ints)
dot-last [] (y ∷ rs) m r e = absurd (omega (arith, e))
dot-last (x ∷ ms) [] m r e = absurd (omega (arith, e))
dot-last (x ∷ ms) (y ∷ rs) m r e = (let h = dot-last ms rs m r (omega (arith, e)) in omega (arith, ints, h))

pub length-read : (xs : List ℤ) (s n : ℕ) → length (multipliers_read xs s n) ≡ n
length-read xs s zero = refl
length-read xs s (suc n) = length-append (multipliers_read xs s n) (get_or xs (s + n) (pos 0) ∷ []) ∙ (let h = length-read xs s n in omega (arith, h))

pub get-read : (xs : List ℤ) (s n i : ℕ) → i < n → get_or (multipliers_read xs s n) i (pos 0) ≡ get_or xs (s + i) (pos 0)
get-read xs s zero i h = absurd (omega (arith, h))
get-read xs s (suc n) i h = elim (same_or_below n i h) [
  | inl e ↦ get_or-right (multipliers_read xs s n) (get_or xs (s + n) (pos 0) ∷ []) i 0 (pos 0) (let l = length-read xs s n in omega (arith, e, l)) ∙ ap (λ z. get_or xs (s + z) (pos 0)) (sym e)
  | inr b ↦ get_or-left (multipliers_read xs s n) (get_or xs (s + n) (pos 0) ∷ []) i (pos 0) (let l = length-read xs s n in omega (arith, b, l)) ∙ get-read xs s n i b
]

-- ---- numbers that are held
pub small_product : (a b : ℤ) → unsigned_abs a < 2 ^ 62 → unsigned_abs b < 2 ^ 41 → unsigned_abs (a *ℤ b) < 2 ^ 103
small_product a b h g = (let e = unsigned_abs-mul a b in let f = less_product (unsigned_abs a) (unsigned_abs b) h g in omega (arith, e, f))
  where
    less_product : (x y : ℕ) → x < 2 ^ 62 → y < 2 ^ 41 → x * y < 2 ^ 103
    less_product x y u v = (let w : x * y ≤ 2 ^ 62 * y = scaled_up x (2 ^ 62) y (omega (arith, u)) in omega (arith, w, v))

pub sum_below : (a b : ℤ) (n : ℕ) → unsigned_abs a ≤ n * 2 ^ 103 → unsigned_abs b < 2 ^ 103 → unsigned_abs (a +ℤ b) ≤ (n + 1) * 2 ^ 103
sum_below a b n h g = omega (arith, ints, h, g)

-- the sum of the places of a composed row
pub places_held : (f : ℕ → ℤ) (xs : List ℤ) (many v : ℕ) (sum : ℤ) → many + length xs ≤ 4000000 → unsigned_abs sum ≤ many * 2 ^ 103 → ((w : ℕ) → unsigned_abs (f w) < 2 ^ 62) → All (λ x. unsigned_abs x < 2 ^ 41) xs → PlacesHeld (λ w. Unit {0}) f sum v xs × (unsigned_abs (sum +ℤ place_sum (λ j. f (v + j)) xs) ≤ (many + length xs) * 2 ^ 103)
places_held f [] many v sum l b short narrow = (tt, omega (arith, ints, b))
places_held f (x ∷ xs) many v sum l b short narrow =
    let z : unsigned_abs (f v *ℤ x) < 2 ^ 103 = small_product (f v) x (short v) (All-head (λ x. unsigned_abs x < 2 ^ 41) x xs narrow) in
    let s : unsigned_abs (sum +ℤ f v *ℤ x) ≤ (many + 1) * 2 ^ 103 = sum_below sum (f v *ℤ x) many b z in
    let h = places_held f xs (many + 1) (suc v) (sum +ℤ f v *ℤ x) (omega (arith, l)) s short (All-tail (λ x. unsigned_abs x < 2 ^ 41) x xs narrow) in
    let r = h.1 in
    let a : f (v + 0) ≡ f v = ap f (let e : v + 0 ≡ v = omega arith in e) in
    let m : f (v + 0) *ℤ x ≡ f v *ℤ x = ap (λ y. y *ℤ x) a in
    let p : place_sum (λ j. f (v + suc j)) xs ≡ place_sum (λ j. f (suc v + j)) xs = ap (λ y. place_sum y xs) (λ i j. f ((let e : v + suc j ≡ suc v + j = omega arith in e) i)) in (
      (
        tt,
        (let w : unsigned_abs (f v *ℤ x) < 2 ^ 127 = omega (arith, z) in w),
        (let w : unsigned_abs (sum +ℤ f v *ℤ x) < 2 ^ 127 = omega (arith, s, l) in w),
        h.0,
      ),
      omega (arith, ints, r, m, p),
    )

-- narrow rows and short multipliers keep each sum held, and so does the denial of the row that is shown
rows_held_last : (c : Option ℕ) (row : Known) (many : ℕ) (sum : ℤ) (ms : List ℤ) (rows : List Linear) → length ms ≡ length rows → many + length rows ≤ 4000000 → unsigned_abs sum ≤ many * 2 ^ 103 → All IsShort ms → All (λ r. unsigned_abs (number c r) < 2 ^ 41) rows → KnownHeld (denied row) c → IsHeld (pos 1 *ℤ known_number (denied row) c) → IsHeld ((sum +ℤ dot ms (map (λ r. number c r) rows)) +ℤ pos 1 *ℤ known_number (denied row) c) → RowsHeld (λ k. KnownHeld k c) sum (λ k. known_number k c) (ms ++ pos 1 ∷ []) (as_given rows ++ denied row ∷ [])
rows_held_last c row many sum [] [] e l b short narrow held one end = (held, one, (let z : (sum +ℤ pos 0) +ℤ pos 1 *ℤ known_number (denied row) c ≡ sum +ℤ pos 1 *ℤ known_number (denied row) c = omega (arith, ints) in subst IsHeld z end), tt)
rows_held_last c row many sum [] (r ∷ rows) e l b short narrow held one end = absurd (omega (arith, e))
rows_held_last c row many sum (m ∷ ms) [] e l b short narrow held one end = absurd (omega (arith, e))
rows_held_last c row many sum (m ∷ ms) (r ∷ rows) e l b short narrow held one end =
    let p = All-head IsShort m ms short in
    let q = All-head (λ r. unsigned_abs (number c r) < 2 ^ 41) r rows narrow in
    let z : unsigned_abs (m *ℤ number c r) < 2 ^ 103 = small_product m (number c r) p q in
    let s : unsigned_abs (sum +ℤ m *ℤ number c r) ≤ (many + 1) * 2 ^ 103 = sum_below sum (m *ℤ number c r) many b z in (
      tt,
      (let w : unsigned_abs (m *ℤ number c r) < 2 ^ 127 = omega (arith, z) in w),
      (let w : unsigned_abs (sum +ℤ m *ℤ number c r) < 2 ^ 127 = omega (arith, s, l) in w),
      rows_held_last c row (many + 1) (sum +ℤ m *ℤ number c r) ms rows (omega (arith, e)) (omega (arith, l)) s (All-tail IsShort m ms short) (All-tail (λ r. unsigned_abs (number c r) < 2 ^ 41) r rows narrow) held one
          (let y : sum +ℤ (m *ℤ number c r +ℤ dot ms (map (λ r. number c r) rows)) ≡ (sum +ℤ m *ℤ number c r) +ℤ dot ms (map (λ r. number c r) rows) = omega (arith, ints) in subst (λ z. IsHeld (z +ℤ pos 1 *ℤ known_number (denied row) c)) y end),
    )

module _ (v : ℕ) (w : Way) (row : Known) (xs : List ℤ) (s : ℕ) where
  abbrev n : ℕ
  n = length (met_rows w)

  abbrev ms : List ℤ
  ms = multipliers_read xs s n

  dot_is : (c : Option ℕ) → dot ms (map (λ r. number c r) (met_rows w)) ≡ rows_sum w xs s c
  dot_is c =
      dot-total ms (map (λ r. number c r) (met_rows w)) (length-read xs s n ∙ sym (length-map (met_rows w) (λ r. number c r)))
      ∙ ap (λ z. total z (λ k. get_or ms k (pos 0) *ℤ get_or (map (λ r. number c r) (met_rows w)) k (pos 0))) (length-read xs s n)
      ∙ total-same n (λ k. get_or ms k (pos 0) *ℤ get_or (map (λ r. number c r) (met_rows w)) k (pos 0)) (λ i. row_of w i c *ℤ get_or xs (s + i) (pos 0)) (λ i l. (λ j. get-read xs s n i l j *ℤ get_or-map (λ r. number c r) (met_rows w) i (linear [] (pos 0)) (pos 0) l j) ∙ *ℤ_comm (get_or xs (s + i) (pos 0)) (row_of w i c))

  sum_is : (c : Option ℕ) → column_sum (line_read xs s w) (as_given (met_rows w) ++ denied row ∷ []) c ≡ rows_sum w xs s c +ℤ known_number (denied row) c
  sum_is c =
      ap (dot (line_read xs s w)) (map-append (λ k. known_number k c) (as_given (met_rows w)) (denied row ∷ []) ∙ ap (λ zs. zs ++ known_number (denied row) c ∷ []) (known-given c (met_rows w)))
      ∙ dot-last ms (map (λ r. number c r) (met_rows w)) (pos 1) (known_number (denied row) c) (length-read xs s n ∙ sym (length-map (met_rows w) (λ r. number c r)))
      ∙ (λ i. dot_is c i +ℤ one_times_z (known_number (denied row) c) i)

  -- the multipliers that are read show a row, where it has in each column what the rows that are met add up to, and less
  -- than 1 more in the constant
  pub shown : n ≤ 4000000
      → ((i : ℕ) → i < n → IsShort (get_or xs (s + i) (pos 0)))
      → ((i : ℕ) → i < n → pos 0 ≤ℤ get_or xs (s + i) (pos 0))
      → ((i : ℕ) (c : Option ℕ) → i < n → Inside (width v w) c → unsigned_abs (row_of w i c) < 2 ^ 41)
      → ((j : ℕ) → j < width v w → rows_sum w xs s (Some j) ≡ known_number row (Some j))
      → pos 0 <ℤ (rows_sum w xs s None +ℤ (pos 1 -ℤ known_number row None))
      → (rows_sum w xs s None +ℤ (pos 1 -ℤ known_number row None)) <ℤ pos (2 ^ 126)
      → ((c : Option ℕ) → Inside (width v w) c → KnownHeld row c)
      → ((c : Option ℕ) → Inside (width v w) c → unsigned_abs (known_number row c) < 2 ^ 126)
      → IsShownBy v w row (line_read xs s w)
  shown bounded short positive narrow columns constant below held small = subst (λ zs. Refutes (width v w) (zs ++ denied row ∷ []) (line_read xs s w)) (as_given-append w.known w.taken.guards) (record {
    as_many = length-append ms (pos 1 ∷ []) ∙ (let a = length-read xs s n in let b = length-append (as_given (met_rows w)) (denied row ∷ []) in let d = length-given (met_rows w) in omega (arith, a, b, d));
    none_negative = All-from_get_or (λ m. pos 0 ≤ℤ m) (line_read xs s w) (pos 0) (λ i l. sign i l);
    columns = λ j l. sum_is (Some j) ∙ (let e = columns j l in omega (arith, ints, e));
    constant = (let e = sum_is None in omega (arith, ints, e, constant));
    columns_held = λ j l. rows_held (Some j) l (let e = columns j l in omega (arith, ints, e)) (held (Some j) l, (let b = small (Some j) l in let w : unsigned_abs (neg_ℤ (known_number row (Some j))) < 2 ^ 127 = omega (arith, ints, b) in w));
    constant_held = rows_held None tt (omega (arith, ints, constant, below)) (held None tt, (let b = small None tt in let w : unsigned_abs (pos 1 -ℤ known_number row None) < 2 ^ 127 = omega (arith, ints, b) in w));
  })
    where
      sign : (i : ℕ) → i < length (line_read xs s w) → pos 0 ≤ℤ get_or (line_read xs s w) i (pos 0)
      sign i l = elim (last_or_below n i (let e = length-read xs s n in let f = length-append ms (pos 1 ∷ []) in omega (arith, e, f, l))) [
        | inl e ↦ subst (λ z. pos 0 ≤ℤ z) (sym (get_or-right ms (pos 1 ∷ []) i 0 (pos 0) (let f = length-read xs s n in omega (arith, e, f)))) (omega (arith, ints))
        | inr b ↦ subst (λ z. pos 0 ≤ℤ z) (sym (get_or-left ms (pos 1 ∷ []) i (pos 0) (let e = length-read xs s n in omega (arith, e, b)) ∙ get-read xs s n i b)) (positive i b)
      ]

      rows_held : (c : Option ℕ) → Inside (width v w) c → unsigned_abs (rows_sum w xs s c +ℤ known_number (denied row) c) < 2 ^ 127 → KnownHeld (denied row) c → ColumnHeld (line_read xs s w) (as_given (met_rows w) ++ denied row ∷ []) c
      rows_held c c_in end denial = rows_held_last c row 0 (pos 0) ms (met_rows w) (length-read xs s n) (omega (arith, bounded)) (omega arith)
          (All-from_get_or IsShort ms (pos 0) (λ i l. subst IsShort (sym (get-read xs s n i (at i l))) (short i (at i l))))
          (All-from_get_or (λ r. unsigned_abs (number c r) < 2 ^ 41) (met_rows w) (linear [] (pos 0)) (λ i l. narrow i c l c_in))
          denial
          (denial_held c c_in)
          (subst IsHeld (let d = dot_is c in let z : rows_sum w xs s c +ℤ known_number (denied row) c ≡ (pos 0 +ℤ dot ms (map (λ r. number c r) (met_rows w))) +ℤ pos 1 *ℤ known_number (denied row) c = omega (arith, ints, d) in z) end)
        where
          at : (i : ℕ) → i < length ms → i < n
          at i l = (let e = length-read xs s n in omega (arith, e, l))

          denial_held : (c : Option ℕ) → Inside (width v w) c → IsHeld (pos 1 *ℤ known_number (denied row) c)
          denial_held None i = (let b = small None i in let w : unsigned_abs (pos 1 *ℤ (pos 1 -ℤ known_number row None)) < 2 ^ 127 = omega (arith, ints, b) in w)
          denial_held (Some j) i = (let b = small (Some j) i in let w : unsigned_abs (pos 1 *ℤ neg_ℤ (known_number row (Some j))) < 2 ^ 127 = omega (arith, ints, b) in w)
