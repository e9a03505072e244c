-- Sums and products of rows, column by column.
use Rattle.std.proofs.Common.{◌≡◌, ℕ, zero, suc, ◌+◌, ◌*◌, ◌^◌, ◌≤◌, ◌<◌, List, [], ◌∷◌, ◌++◌, length, take, get_or, refl, sym, ap, ◌∙◌, subst, arith, inl, inr, ◌⊎◌, Bool, true, false, cond, ℤ, pos, ◌+ℤ◌, ◌*ℤ◌}
use Rattle.std.specs.Prelude.{min, unsigned_abs, All}
use Rattle.std.proofs.Math.Nat.{min-eq_left, min-eq_right}
use Rattle.std.proofs.lemmas.Bool.{cases_lt}
use Rattle.std.proofs.lemmas.Int.{unsigned_abs-mul}
use Rattle.std.proofs.lemmas.List.{take_more}
use Rattle.std.proofs.lemmas.List.Elements.{All-head, All-tail, All-take, All-get_or}
use Rattle.tv_linear.specs.Linear.{Linear, columns, entry}
use Rattle.tv_linear.specs.Arithmetic.{constant_row, plus, scaled}
use Rattle.tv_linear.proofs.Entries.{entry-plus, columns-plus, entry-scaled, columns-scaled}
use Rattle.tv_linear.proofs.PlainLists.{length-zeros}
use Rattle.tv_cases.specs.Forms.{is_number, times}
use Rattle.tv_cases.proofs.ProductLemmas.{larger}
use Rattle.tv_causes.specs.declared.join.Capped.{Capped}
use Rattle.tv_causes.specs.declared.join.Join.{Join}
use Rattle.tv_causes.specs.declared.join.Join.TheVariants.{Sum, Product}
use Rattle.tv_causes.specs.Walks.{sum_of, product_of, joined, IsCapped}

abbrev pub AreOver : ℕ → List Linear → Type 0
AreOver n rows = All (λ r. columns r ≡ n) rows

-- ---- one more row
sum_push : (t : Linear) (rows : List Linear) (r : Linear) → sum_of t (rows ++ r ∷ []) ≡ plus (sum_of t rows) r
sum_push t [] r = refl
sum_push t (x ∷ rows) r = sum_push (plus t x) rows r

product_push : (t : Linear) (rows : List Linear) (r : Linear) → product_of t (rows ++ r ∷ []) ≡ times (product_of t rows) r
product_push t [] r = refl
product_push t (x ∷ rows) r = product_push (times t x) rows r

columns_sum : (n : ℕ) (t : Linear) (rows : List Linear) → columns t ≡ n → AreOver n rows → columns (sum_of t rows) ≡ n
columns_sum n t [] e all = e
columns_sum n t (r ∷ rows) e all =
    let here = All-head (λ r. columns r ≡ n) r rows all in
    columns_sum n (plus t r) rows (columns-plus t r (e ∙ sym here) ∙ e) (All-tail (λ r. columns r ≡ n) r rows all)

columns_cond : (n : ℕ) (b : Bool) (r s : Linear) → columns r ≡ n → columns s ≡ n → columns (cond b (scaled s.constant r) (scaled r.constant s)) ≡ n
columns_cond n true r s e f = columns-scaled s.constant r ∙ e
columns_cond n false r s e f = columns-scaled r.constant s ∙ f

columns_product : (n : ℕ) (t : Linear) (rows : List Linear) → columns t ≡ n → AreOver n rows → columns (product_of t rows) ≡ n
columns_product n t [] e all = e
columns_product n t (r ∷ rows) e all =
    let here = All-head (λ r. columns r ≡ n) r rows all in
    columns_product n (times t r) rows (columns_cond n (is_number r) t r e here) (All-tail (λ r. columns r ≡ n) r rows all)

pub columns_joined : (join : Join) (n : ℕ) (rows : List Linear) → AreOver n rows → columns (joined join n rows) ≡ n
columns_joined Sum n rows all = columns_sum n (constant_row n (pos 0)) rows (length-zeros n) all
columns_joined Product n rows all = columns_product n (constant_row n (pos 1)) rows (length-zeros n) all

is_over : (n : ℕ) (rows : List Linear) (i : ℕ) (r : Linear) → AreOver n rows → i < length rows → r ≡ get_or rows i r → columns r ≡ n
is_over n rows i r all l is = ap (λ (z : Linear). columns z) is ∙ All-get_or (λ r. columns r ≡ n) rows i r l all

-- ---- sums
pub sum_more : (n column : ℕ) (rows : List Linear) (i : ℕ) (r : Linear) (sum next : ℤ) → AreOver n rows → i < length rows → r ≡ get_or rows i r →
    sum ≡ entry (sum_of (constant_row n (pos 0)) (take i rows)) column → next ≡ sum +ℤ entry r column →
    next ≡ entry (sum_of (constant_row n (pos 0)) (take (i + 1) rows)) column
sum_more n column rows i r sum next all l is e f =
    let over = is_over n rows i r all l is in
    let t = constant_row n (pos 0) in
    let so_far = sum_of t (take i rows) in
    let even = columns_sum n t (take i rows) (length-zeros n) (All-take (λ r. columns r ≡ n) i rows all) in
    let taken : take (i + 1) rows ≡ take i rows ++ r ∷ [] = take_more rows i r l ∙ ap (λ x. take i rows ++ x ∷ []) (sym is) in
    f ∙ ap (λ z. z +ℤ entry r column) e ∙ sym (entry-plus so_far r column (even ∙ sym over))
    ∙ sym (ap (λ (z : Linear). entry z column) (ap (sum_of t) taken ∙ sum_push t (take i rows) r))

-- ---- products
cap_product : (cap x y : ℕ) → min (min x cap * y) cap ≡ min (y * x) cap
cap_product cap x y = by (cases_lt x cap) where
  above : (z : ℕ) → cap ≤ x → min (cap * z) cap ≡ min (z * x) cap
  above zero h = ap (λ k. min k cap) (let e : cap * 0 ≡ 0 * x = omega arith in e)
  above (suc z) h =
      let one : cap ≤ cap * suc z = subst (λ k. cap ≤ k) (let e : suc z * cap ≡ cap * suc z = omega arith in e) (larger (suc z) cap (omega arith)) in
      let two = larger (suc z) x (omega arith) in
      min-eq_right one ∙ sym (min-eq_right (let k : cap ≤ suc z * x = omega (arith, two, h) in k))

  by : (x < cap) ⊎ (cap ≤ x) → min (min x cap * y) cap ≡ min (y * x) cap
  by (inl h) = ap (λ k. min k cap) (ap (λ k. k * y) (min-eq_left (let l : x ≤ cap = omega (arith, h) in l)) ∙ (let e : x * y ≡ y * x = omega arith in e))
  by (inr h) = ap (λ k. min (k * y) cap) (min-eq_right h) ∙ above y h

-- the magnitude of a product, up to a cap
cap_times : (cap : ℕ) (a b : ℤ) (p q : ℕ) → p ≡ min (unsigned_abs a) cap → q ≡ min (p * unsigned_abs b) cap → q ≡ min (unsigned_abs (b *ℤ a)) cap
cap_times cap a b p q e f =
    f ∙ ap (λ k. min (k * unsigned_abs b) cap) e ∙ cap_product cap (unsigned_abs a) (unsigned_abs b) ∙ ap (λ k. min k cap) (sym (unsigned_abs-mul b a))

times_is : (b : Bool) (t r : Linear) → is_number r ≡ b → times t r ≡ cond b (scaled r.constant t) (scaled t.constant r)
times_is b t r e = ap (λ b. cond b (scaled r.constant t) (scaled t.constant r)) e

pub times_number : (t r : Linear) (column : ℕ) (at_column constant : ℕ) (kept : Capped) → is_number r ≡ true → IsCapped t column kept →
    at_column ≡ min (kept.at_column * unsigned_abs r.constant) (2 ^ 62) → constant ≡ min (kept.constant * unsigned_abs r.constant) (2 ^ 62) →
    IsCapped (times t r) column (record { at_column = at_column; constant = constant })
times_number t r column at_column constant kept e h f g =
    subst (λ (s : Linear). IsCapped s column (record { at_column = at_column; constant = constant })) (sym (times_is true t r e)) (record {
      at_column = cap_times (2 ^ 62) (entry t column) r.constant kept.at_column at_column h.at_column f
          ∙ ap (λ z. min (unsigned_abs z) (2 ^ 62)) (sym (entry-scaled r.constant t column));
      constant = cap_times (2 ^ 62) t.constant r.constant kept.constant constant h.constant g;
    })

-- the factors in the other order
cap_turned : (cap : ℕ) (a b : ℤ) (p q : ℕ) → p ≡ min (unsigned_abs a) cap → q ≡ min (p * unsigned_abs b) cap → q ≡ min (unsigned_abs (a *ℤ b)) cap
cap_turned cap a b p q e f = cap_times cap a b p q e f ∙ ap (λ k. min k cap) (unsigned_abs-mul b a ∙ (let e : unsigned_abs b * unsigned_abs a ≡ unsigned_abs a * unsigned_abs b = omega arith in e) ∙ sym (unsigned_abs-mul a b))

pub times_other : (t r : Linear) (column : ℕ) (at_column constant : ℕ) (kept : Capped) → is_number r ≡ false → IsCapped t column kept →
    at_column ≡ min (kept.constant * unsigned_abs (entry r column)) (2 ^ 62) → constant ≡ min (kept.constant * unsigned_abs r.constant) (2 ^ 62) →
    IsCapped (times t r) column (record { at_column = at_column; constant = constant })
times_other t r column at_column constant kept e h f g =
    subst (λ (s : Linear). IsCapped s column (record { at_column = at_column; constant = constant })) (sym (times_is false t r e)) (record {
      at_column = cap_turned (2 ^ 62) t.constant (entry r column) kept.constant at_column h.constant f
          ∙ ap (λ z. min (unsigned_abs z) (2 ^ 62)) (sym (entry-scaled t.constant r column));
      constant = cap_turned (2 ^ 62) t.constant r.constant kept.constant constant h.constant g;
    })

pub product_more : (n column : ℕ) (rows : List Linear) (i : ℕ) (r : Linear) (kept next : Capped) → AreOver n rows → i < length rows → r ≡ get_or rows i r →
    ((t : Linear) → columns t ≡ columns r → IsCapped t column kept → IsCapped (times t r) column next) →
    IsCapped (product_of (constant_row n (pos 1)) (take i rows)) column kept → IsCapped (product_of (constant_row n (pos 1)) (take (i + 1) rows)) column next
product_more n column rows i r kept next all l is step h =
    let over = is_over n rows i r all l is in
    let t = constant_row n (pos 1) in
    let so_far = product_of t (take i rows) in
    let even = columns_product n t (take i rows) (length-zeros n) (All-take (λ r. columns r ≡ n) i rows all) in
    let taken : take (i + 1) rows ≡ take i rows ++ r ∷ [] = take_more rows i r l ∙ ap (λ x. take i rows ++ x ∷ []) (sym is) in
    subst (λ (z : Linear). IsCapped z column next) (sym (ap (product_of t) taken ∙ product_push t (take i rows) r)) (step so_far (even ∙ sym over) h)
