use Rattle.std.proofs.Common.{◌≡◌, ◌⊎◌, inl, inr, ℕ, zero, suc, ◌+◌, ◌*◌, ◌<◌, ◌≤◌, ◌-◌, ◌^◌, List, [], ◌∷◌, ◌++◌, length, length-append, map, get_or, All, Option, None, Some, arith, refl, sym, ap, ◌∙◌, subst, ℤ, pos, ◌+ℤ◌, ◌*ℤ◌, ◌≤ℤ◌, unsigned_abs}
use Rattle.std.proofs.lemmas.Int.{ints, unsigned_abs-mul}
use Rattle.std.proofs.lemmas.List.Elements.{All-head, All-tail, All-from_get_or}
use Rattle.std.proofs.Math.IntN.{*ℤ_comm}
use Rattle.tv_linear.proofs.PlainLists.{length-zeros, get_or-zeros}
use Rattle.tv_linear.specs.Arithmetic.{zeros}
use Rattle.tv_linear.specs.Linear.{Linear, columns, entry, dot}
use Rattle.tv_linear.specs.Known.{given, number, known_number, as_given, KnownHeld}
use Rattle.tv_linear.specs.Refutation.{RowsHeld, column_sum, ColumnHeld, Refutes}
use Rattle.tv_refute.proofs.Places.{get_or-left, get_or-right}
use Rattle.tv_simplex.proofs.Sums.{total-same}
use Rattle.tv_simplex.specs.Sums.{total}
use Rattle.tv_simplex.specs.Systems.{Equations, IsWhole, entry_at, right_at}
use Rattle.tv_simplex.specs.Outcomes.{IsShort, IsSolutionOf, IsNarrowSystem}
use Rattle.tv_simplex.proofs.SettleLemmas.{given_left}
use Rattle.tv_farkas.specs.RefutationSystem.{numbers_below, refutation_system}
use Rattle.std.proofs.lemmas.List.{get_or-map, length-map, get_or_past}
use Rattle.tv_simplex.proofs.ScaleLemmas.{scaled_up}
use Rattle.tv_linear.proofs.ListLaws.{same_or_below}

abbrev pub row_at : List Linear → ℕ → Linear
row_at rows i = get_or rows i (record { coefficients = []; constant = pos 0 })

-- ---- lists
pub get_or-any : (xs : List ℤ) (i : ℕ) (d e : ℤ) → i < length xs → get_or xs i d ≡ get_or xs i e
get_or-any [] i d e h = absurd (omega arith)
get_or-any (x ∷ xs) zero d e h = refl
get_or-any (x ∷ xs) (suc i) d e h = get_or-any xs i d e (omega arith)

pub at_of : {A : Type 0} (P : A → Type 0) (xs : List A) (d : A) → All P xs → (i : ℕ) → i < length xs → P (get_or xs i d)
at_of P [] d h i l = absurd (omega arith)
at_of P (x ∷ xs) d h zero l = All-head P x xs h
at_of P (x ∷ xs) d h (suc i) l = at_of P xs d (All-tail P x xs h) i (omega arith)

-- ---- the entries of the refutation system
pub length-numbers : (m : ℕ) (rows : List Linear) → length (numbers_below m rows) ≡ m * length rows
length-numbers zero rows = omega arith
length-numbers (suc m) rows = length-append (numbers_below m rows) (map (λ r. entry r m) rows) ∙ (let h = length-numbers m rows in let g = length-map rows (λ r. entry r m) in omega (arith, h, g))

pub number_below : (m : ℕ) (rows : List Linear) (k i : ℕ) → k < m → i < length rows → get_or (numbers_below m rows) (k * length rows + i) (pos 0) ≡ entry (row_at rows i) k
number_below zero rows k i l g = absurd (omega arith)
number_below (suc m) rows k i l g = elim (same_or_below m k l) [
  | inl e ↦
      get_or-right (numbers_below m rows) (map (λ r. entry r m) rows) (k * length rows + i) i (pos 0) (let h = length-numbers m rows in let f = ap (λ z. z * length rows) e in omega (arith, h, f))
      ∙ get_or-map (λ r. entry r m) rows i (record { coefficients = []; constant = pos 0 }) (pos 0) g
      ∙ ap (entry (row_at rows i)) (sym e)
  | inr b ↦
      get_or-left (numbers_below m rows) (map (λ r. entry r m) rows) (k * length rows + i) (pos 0) (let h = length-numbers m rows in let f = row_within k m (length rows) i b g in omega (arith, h, f))
      ∙ number_below m rows k i b g
]
  where
    row_within : (k m q i : ℕ) → k < m → i < q → k * q + i < m * q
    row_within k m q i h p = (let l = scaled_up (k + 1) m q (omega (arith, h)) in omega (arith, l, p))

pub entry_is : (n : ℕ) (rows : List Linear) (k i : ℕ) → k < n + 1 → i < length rows → entry_at (refutation_system n rows) k i ≡ entry (row_at rows i) k
entry_is n rows k i l g = number_below (n + 1) rows k i l g

pub right_inner : (n : ℕ) (rows : List Linear) (k : ℕ) → k < n → right_at (refutation_system n rows) k ≡ pos 0
right_inner n rows k l = get_or-left (zeros n) (pos 1 ∷ []) k (pos 0) (let h = length-zeros n in omega (arith, h, l)) ∙ get_or-zeros n k

pub right_last : (n : ℕ) (rows : List Linear) → right_at (refutation_system n rows) n ≡ pos 1
right_last n rows = get_or-right (zeros n) (pos 1 ∷ []) n 0 (pos 0) (let h = length-zeros n in omega (arith, h))

-- ---- sums
pub total-front : (n : ℕ) (f : ℕ → ℤ) → total (suc n) f ≡ f 0 +ℤ total n (λ k. f (suc k))
total-front zero f = omega (arith, ints)
total-front (suc n) f = (let h = total-front n f in omega (arith, ints, h))

pub dot-total : (cs xs : List ℤ) → length cs ≡ length xs → dot cs xs ≡ total (length cs) (λ k. get_or cs k (pos 0) *ℤ get_or xs k (pos 0))
dot-total [] xs e = refl
dot-total (c ∷ cs) [] e = absurd (omega (arith, e))
dot-total (c ∷ cs) (x ∷ xs) e = (let h = dot-total cs xs (omega (arith, e)) in let f = total-front (length cs) (λ k. get_or (c ∷ cs) k (pos 0) *ℤ get_or (x ∷ xs) k (pos 0)) in omega (arith, ints, h, f))

-- ---- solutions refute
pub known-given : (column : Option ℕ) (rows : List Linear) → map (λ k. known_number k column) (as_given rows) ≡ map (λ r. number column r) rows
known-given column [] = refl
known-given column (r ∷ rows) = ap (λ xs. number column r ∷ xs) (known-given column rows)

abbrev place_of : ℕ → Option ℕ → ℕ
place_of n None = n
place_of n (Some j) = j

number_entry : (n : ℕ) (column : Option ℕ) (r : Linear) → columns r ≡ n → (place_of n column < n) ⊎ (column ≡ None) → number column r ≡ entry r (place_of n column)
number_entry n None r e h = sym (get_or_past r.coefficients n r.constant (omega (arith, e)))
number_entry n (Some j) r e (inl l) = get_or-any r.coefficients j (pos 0) r.constant (omega (arith, e, l))
number_entry n (Some j) r e (inr z) = cc

-- the sum of a column, in the two forms
pub column_total : (n : ℕ) (rows : List Linear) (ms : List ℤ) (column : Option ℕ) → All (λ r. columns r ≡ n) rows → length ms ≡ length rows → (place_of n column < n) ⊎ (column ≡ None) → column_sum ms (as_given rows) column ≡ total (length rows) (λ i. entry_at (refutation_system n rows) (place_of n column) i *ℤ get_or ms i (pos 0))
column_total n rows ms column even e h =
    ap (dot ms) (known-given column rows)
    ∙ dot-total ms (map (λ r. number column r) rows) (e ∙ sym (length-map rows (λ r. number column r)))
    ∙ ap (λ z. total z (λ k. get_or ms k (pos 0) *ℤ get_or (map (λ r. number column r) rows) k (pos 0))) e
    ∙ total-same (length rows) (λ k. get_or ms k (pos 0) *ℤ get_or (map (λ r. number column r) rows) k (pos 0)) (λ i. entry_at (refutation_system n rows) (place_of n column) i *ℤ get_or ms i (pos 0))
    (λ i l. *ℤ_comm (get_or ms i (pos 0)) (get_or (map (λ r. number column r) rows) i (pos 0)) ∙ ap (λ z. z *ℤ get_or ms i (pos 0)) (
    get_or-map (λ r. number column r) rows i (record { coefficients = []; constant = pos 0 }) (pos 0) l
    ∙ number_entry n column (row_at rows i) (at_of (λ r. columns r ≡ n) rows (record { coefficients = []; constant = pos 0 }) even i l) h
    ∙ sym (entry_is n rows (place_of n column) i (within column h) l)
    ))
  where
    within : (c : Option ℕ) → (place_of n c < n) ⊎ (c ≡ None) → place_of n c < n + 1
    within None k = omega arith
    within (Some j) (inl l) = omega (arith, l)
    within (Some j) (inr z) = cc

-- narrow numbers and short multipliers keep each sum within 127 bits
pub rows_held : (column : Option ℕ) (many : ℕ) (sum : ℤ) (ms : List ℤ) (rows : List Linear) → many + length rows ≤ 4000000 → unsigned_abs sum ≤ many * 2 ^ 102 → All IsShort ms → All (λ r. unsigned_abs (number column r) < 2 ^ 40) rows → RowsHeld (λ k. KnownHeld k column) sum (λ k. known_number k column) ms (as_given rows)
rows_held column many sum [] rows l b short narrow = tt
rows_held column many sum (m ∷ ms) [] l b short narrow = tt
rows_held column many sum (m ∷ ms) (r ∷ rows) l b short narrow =
    let p = All-head IsShort m ms short in
    let q = All-head (λ r. unsigned_abs (number column r) < 2 ^ 40) r rows narrow in
    let z : unsigned_abs (m *ℤ number column r) < 2 ^ 102 = small_product m (number column r) p q in
    let s : unsigned_abs (sum +ℤ m *ℤ number column r) ≤ (many + 1) * 2 ^ 102 = sum_below sum (m *ℤ number column r) many b z in (
      tt,
      (let w : unsigned_abs (m *ℤ number column r) < 2 ^ 127 = omega (arith, z) in w),
      (let w : unsigned_abs (sum +ℤ m *ℤ number column r) < 2 ^ 127 = omega (arith, s, l) in w),
      rows_held column (many + 1) (sum +ℤ m *ℤ number column r) ms rows (omega (arith, l)) s (All-tail IsShort m ms short) (All-tail (λ r. unsigned_abs (number column r) < 2 ^ 40) r rows narrow),
    )
  where
    small_product : (a b : ℤ) → unsigned_abs a < 2 ^ 62 → unsigned_abs b < 2 ^ 40 → unsigned_abs (a *ℤ b) < 2 ^ 102
    small_product a b h g = (let e = unsigned_abs-mul a b in let f = less_product (unsigned_abs a) (unsigned_abs b) h g in omega (arith, e, f))
      where
        less_product : (x y : ℕ) → x < 2 ^ 62 → y < 2 ^ 40 → x * y < 2 ^ 102
        less_product x y u v = (let w : x * y ≤ 2 ^ 62 * y = scaled_up x (2 ^ 62) y (omega (arith, u)) in omega (arith, w, v))

    sum_below : (a b : ℤ) (n : ℕ) → unsigned_abs a ≤ n * 2 ^ 102 → unsigned_abs b < 2 ^ 102 → unsigned_abs (a +ℤ b) ≤ (n + 1) * 2 ^ 102
    sum_below a b n h g = omega (arith, ints, h, g)

pub solution_refutes : (n : ℕ) (rows : List Linear) (ms : List ℤ) (scale : ℤ) → All (λ r. columns r ≡ n) rows → (n + 1) * length rows ≤ 4000000 → IsNarrowSystem (refutation_system n rows) → IsSolutionOf (refutation_system n rows) ms scale → Refutes n (as_given rows) ms
solution_refutes n rows ms scale even size narrow h = record {
  as_many = h.as_many ∙ sym (length-map rows (λ r. given r));
  none_negative = All-from_get_or (λ m. pos 0 ≤ℤ m) ms (pos 0) (λ i l. h.none_negative i (let e = h.as_many in omega (arith, e, l)));
  columns = λ j l.
      column_total n rows ms (Some j) even h.as_many (inl l) ∙ h.met j (omega (arith, l)) ∙ ap (λ z. scale *ℤ z) (right_inner n rows j l) ∙ omega (arith, ints);
  constant = (
      let e = column_total n rows ms None even h.as_many (inr refl) ∙ h.met n (omega arith) ∙ ap (λ z. scale *ℤ z) (right_last n rows) in
      let p = h.positive in
      omega (arith, ints, e, p));
  columns_held = λ j l. held (Some j) (inl l);
  constant_held = held None (inr refl);
}
  where
    bounded : length rows ≤ 4000000
    bounded = fewer n (length rows) size
      where
        fewer : (a b : ℕ) → (a + 1) * b ≤ 4000000 → b ≤ 4000000
        fewer a b k = omega (arith, k)

    held : (column : Option ℕ) → (place_of n column < n) ⊎ (column ≡ None) → ColumnHeld ms (as_given rows) column
    held column k = rows_held column 0 (pos 0) ms rows (omega (arith, bounded)) (omega arith)
        (All-from_get_or IsShort ms (pos 0) (λ i l. h.short i (let e = h.as_many in omega (arith, e, l))))
        (All-from_get_or (λ r. unsigned_abs (number column r) < 2 ^ 40) rows (record { coefficients = []; constant = pos 0 }) (λ i l.
        subst (λ z. unsigned_abs z < 2 ^ 40) (sym (number_entry n column (row_at rows i) (at_of (λ r. columns r ≡ n) rows (record { coefficients = []; constant = pos 0 }) even i l) k))
        (subst (λ z. unsigned_abs z < 2 ^ 40) (entry_is n rows (place_of n column) i (within column k) l) (subst (λ z. unsigned_abs z < 2 ^ 40) (given_left (refutation_system n rows) (place_of n column) i l) (narrow (place_of n column) i (within column k) (inl l))))))
      where
        within : (c : Option ℕ) → (place_of n c < n) ⊎ (c ≡ None) → place_of n c < n + 1
        within None z = omega arith
        within (Some j) (inl z) = omega (arith, z)
        within (Some j) (inr z) = cc

-- ---- the refutation system as the solver is handed it
length-right : (n : ℕ) → length (zeros n ++ pos 1 ∷ []) ≡ n + 1
length-right n = length-append (zeros n) (pos 1 ∷ []) ∙ (let h = length-zeros n in let e : length (zeros n) + 1 ≡ n + 1 = omega (arith, h) in e)

pub refutation_whole : (n : ℕ) (rows : List Linear) → n < 2 ^ 32 - 1 → (n + 1) * length rows ≤ 4000000 → IsWhole (refutation_system n rows)
refutation_whole n rows bounded size = record {
  entries = length-numbers (n + 1) rows;
  right = length-right n;
  few_rows = omega (arith, bounded);
  few_columns = (let h = fewer n (length rows) size in omega (arith, h));
  size = size;
}
  where
    fewer : (a b : ℕ) → (a + 1) * b ≤ 4000000 → b ≤ 4000000
    fewer a b k = omega (arith, k)

pub system_whole : (n : ℕ) (rows : List Linear) (s : Equations) → s ≡ refutation_system n rows → n < 2 ^ 32 - 1 → (n + 1) * length rows ≤ 4000000 → IsWhole s
system_whole n rows s e bounded size = subst (λ q. IsWhole q) (sym e) (refutation_whole n rows bounded size)
