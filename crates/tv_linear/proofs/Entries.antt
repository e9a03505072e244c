-- the numbers of a row that is made, column by column
use Rattle.std.proofs.Common.{◌≡◌, ℕ, ◌<◌, ◌≤◌, ◌∙◌, List, [], ◌∷◌, map, length, get_or, refl, sym, ap, arith, subst, ℤ, pos, neg_ℤ, ◌+ℤ◌, ◌*ℤ◌, Option, None, Some, SomeIff}
use Rattle.std.specs.Prelude.{All}
use Rattle.std.proofs.lemmas.Int.{ints}
use Rattle.std.proofs.lemmas.List.{length-map, get_or_past, get_or_default}
use Rattle.std.proofs.lemmas.List.Elements.{All-head, All-tail}
use Rattle.std.proofs.Math.ListN.{get_or-map}
use Rattle.tv_linear.specs.Linear.{Linear, columns, entry, dot, IsWithin}
use Rattle.tv_linear.specs.Arithmetic.{zeros, constant_row, plus, opposite, scaled, raised, width_of, combined, composed}
use Rattle.tv_linear.specs.Fits.{IsHeld, SumsHeld, FitsComposed, IsNarrowAt}
use Rattle.tv_linear.proofs.PlainLists.{length-zeros, get_or-zeros, length-plus_each, get_or-plus_each}

-- the same number under another name
pub SomeIff-same : (Fits : ℤ → Type 0) (o : Option ℤ) (z w : ℤ) → z ≡ w → SomeIff o (Fits z) z → SomeIff o (Fits w) w
SomeIff-same Fits o z w e h = subst (λ v. SomeIff o (Fits v) v) e h

-- ---- past the last column stands the constant
pub entry-last : (r : Linear) (column : ℕ) → columns r ≤ column → entry r column ≡ r.constant
entry-last r column h = get_or_past r.coefficients column r.constant h

pub entry-inner : (r s : Linear) (column : ℕ) → r.coefficients ≡ s.coefficients → column < columns r → entry r column ≡ entry s column
entry-inner r s column same h = get_or_default r.coefficients column r.constant s.constant h ∙ ap (λ cs. get_or cs column s.constant) same

pub entry-opposite : (r : Linear) (column : ℕ) → entry (opposite r) column ≡ neg_ℤ (entry r column)
entry-opposite r column = get_or-map neg_ℤ r.coefficients column r.constant

pub columns-opposite : (r : Linear) → columns (opposite r) ≡ columns r
columns-opposite r = length-map r.coefficients neg_ℤ

pub columns-plus : (r s : Linear) → columns r ≡ columns s → columns (plus r s) ≡ columns r
columns-plus r s e = length-plus_each r.coefficients s.coefficients e

pub entry-plus : (r s : Linear) (column : ℕ) → columns r ≡ columns s → entry (plus r s) column ≡ entry r column +ℤ entry s column
entry-plus r s column e = get_or-plus_each r.coefficients s.coefficients column r.constant s.constant e

pub entry-raised_inner : (z : ℤ) (r : Linear) (column : ℕ) → column < columns r → entry (raised z r) column ≡ entry r column
entry-raised_inner z r column h = entry-inner (raised z r) r column refl h

pub entry-raised_last : (z : ℤ) (r : Linear) (column : ℕ) → columns r ≤ column → entry (raised z r) column ≡ entry r column +ℤ z
entry-raised_last z r column h = entry-last (raised z r) column h ∙ ap (λ k. k +ℤ z) (sym (entry-last r column h))

-- ---- a number alone
pub entry-constant_inner : (n : ℕ) (z : ℤ) (column : ℕ) → column < n → entry (constant_row n z) column ≡ pos 0
entry-constant_inner n z column h = get_or_default (zeros n) column z (pos 0) (omega (arith, h, length-zeros n)) ∙ get_or-zeros n column

pub constant_inner : (n : ℕ) (z : ℤ) (column : ℕ) → column < n → IsNarrowAt (constant_row n z) column × (pos 0 ≡ entry (constant_row n z) column)
constant_inner n z column h =
    let e = entry-constant_inner n z column h in
    let small : IsWithin 62 (pos 0) = omega arith in
    (subst (IsWithin 62) (sym e) small, sym e)

-- ---- the difference of two rows
module _ (r s : Linear) (z : ℤ) (even : columns r ≡ columns s) where
  pub columns-difference : columns (raised z (plus r (opposite s))) ≡ columns r
  columns-difference = columns-plus r (opposite s) (even ∙ sym (columns-opposite s))

  inner : (column : ℕ) → entry (plus r (opposite s)) column ≡ entry r column +ℤ neg_ℤ (entry s column)
  inner column = entry-plus r (opposite s) column (even ∙ sym (columns-opposite s)) ∙ ap (λ z. entry r column +ℤ z) (entry-opposite s column)

  pub entry-difference_inner : (column : ℕ) → column < columns r → (entry r column +ℤ neg_ℤ (entry s column)) +ℤ pos 0 ≡ entry (raised z (plus r (opposite s))) column
  entry-difference_inner column h =
      let e = entry-raised_inner z (plus r (opposite s)) column (omega (arith, h, columns-difference)) in
      let f = inner column in
      omega (arith, ints, e, f)

  pub entry-difference_last : (column : ℕ) → columns r ≤ column → (entry r column +ℤ neg_ℤ (entry s column)) +ℤ z ≡ entry (raised z (plus r (opposite s))) column
  entry-difference_last column h =
      let e = entry-raised_last z (plus r (opposite s)) column (omega (arith, h, columns-difference)) in
      let f = inner column in
      omega (arith, ints, e, f)

-- ---- rows put in for columns
pub entry-scaled : (c : ℤ) (r : Linear) (column : ℕ) → entry (scaled c r) column ≡ c *ℤ entry r column
entry-scaled c r column = get_or-map (λ z. c *ℤ z) r.coefficients column r.constant

pub columns-scaled : (c : ℤ) (r : Linear) → columns (scaled c r) ≡ columns r
columns-scaled c r = length-map r.coefficients (λ z. c *ℤ z)

pub columns-combined : (n : ℕ) (cs : List ℤ) (rows : List Linear) → All (λ r. columns r ≡ n) rows → columns (combined n cs rows) ≡ n
columns-combined n [] rows all = length-zeros n
columns-combined n (c ∷ cs) [] all = length-zeros n
columns-combined n (c ∷ cs) (r ∷ rows) all =
    let here : columns (scaled c r) ≡ n = columns-scaled c r ∙ All-head (λ r. columns r ≡ n) r rows all in
    let later = columns-combined n cs rows (All-tail (λ r. columns r ≡ n) r rows all) in
    columns-plus (scaled c r) (combined n cs rows) (here ∙ sym later) ∙ here

pub entry-combined : (n : ℕ) (cs : List ℤ) (rows : List Linear) (column : ℕ) → All (λ r. columns r ≡ n) rows → entry (combined n cs rows) column ≡ dot cs (map (λ r. entry r column) rows)
entry-combined n [] rows column all = get_or-zeros n column
entry-combined n (c ∷ cs) [] column all = get_or-zeros n column
entry-combined n (c ∷ cs) (r ∷ rows) column all =
    let here : columns (scaled c r) ≡ n = columns-scaled c r ∙ All-head (λ r. columns r ≡ n) r rows all in
    let rest = All-tail (λ r. columns r ≡ n) r rows all in
    let later = columns-combined n cs rows rest in
    entry-plus (scaled c r) (combined n cs rows) column (here ∙ sym later) ∙ (λ i. entry-scaled c r column i +ℤ entry-combined n cs rows column rest i)

module _ (r : Linear) (terms : List Linear) (even : All (λ t. columns t ≡ width_of terms) terms) where
  pub columns-composed : columns (composed r terms) ≡ width_of terms
  columns-composed = columns-combined (width_of terms) r.coefficients terms even

  pub entry-composed_inner : (column : ℕ) → column < width_of terms → entry (composed r terms) column ≡ dot r.coefficients (map (λ t. entry t column) terms)
  entry-composed_inner column h =
      entry-raised_inner r.constant (combined (width_of terms) r.coefficients terms) column (omega (arith, h, columns-composed))
      ∙ entry-combined (width_of terms) r.coefficients terms column even

  pub entry-composed_last : (column : ℕ) → width_of terms ≤ column → entry (composed r terms) column ≡ dot r.coefficients (map (λ t. entry t column) terms) +ℤ r.constant
  entry-composed_last column h =
      entry-raised_last r.constant (combined (width_of terms) r.coefficients terms) column (omega (arith, h, columns-composed))
      ∙ ap (λ z. z +ℤ r.constant) (entry-combined (width_of terms) r.coefficients terms column even)

  fits_from : (column : ℕ) (z : ℤ) (o : Option ℤ) → SumsHeld (pos 0) r.coefficients (map (λ t. entry t column) terms) → z ≡ entry (composed r terms) column → SomeIff o (IsWithin 62 z) z → SomeIff o (FitsComposed r terms column) (entry (composed r terms) column)
  fits_from column z None held e h = λ fits. h (subst (IsWithin 62) (sym e) fits.narrow)
  fits_from column z (Some v) held e h = (record { on_the_way = held; narrow = subst (IsWithin 62) e h.0 }, h.1 ∙ e)

  -- a column of the composed row, from the sum of the products there
  module _ (column : ℕ) (cs : List ℤ) (total : ℤ) (same : cs ≡ r.coefficients) (held : SumsHeld (pos 0) cs (map (λ t. entry t column) terms)) (is : total ≡ pos 0 +ℤ dot cs (map (λ t. entry t column) terms)) where
    on_the_way : SumsHeld (pos 0) r.coefficients (map (λ t. entry t column) terms)
    on_the_way = subst (λ ys. SumsHeld (pos 0) ys (map (λ t. entry t column) terms)) same held

    total_is : total ≡ dot r.coefficients (map (λ t. entry t column) terms)
    total_is = let e = ap (λ ys. dot ys (map (λ t. entry t column) terms)) same in omega (arith, ints, is, e)

    pub composed_inner : (o : Option ℤ) → column < width_of terms → SomeIff o (IsWithin 62 total) total → SomeIff o (FitsComposed r terms column) (entry (composed r terms) column)
    composed_inner o h k = fits_from column total o on_the_way (total_is ∙ sym (entry-composed_inner column h)) k

    last_is : width_of terms ≤ column → total +ℤ r.constant ≡ entry (composed r terms) column
    last_is h = ap (λ z. z +ℤ r.constant) total_is ∙ sym (entry-composed_last column h)

    pub composed_last : (number : ℤ) (o : Option ℤ) → width_of terms ≤ column → number ≡ total +ℤ r.constant → SomeIff o (IsWithin 62 number) number → SomeIff o (FitsComposed r terms column) (entry (composed r terms) column)
    composed_last number o h e k = fits_from column number o on_the_way (e ∙ last_is h) k

    pub composed_too_wide : width_of terms ≤ column → (IsHeld (total +ℤ r.constant) → ⊥) → FitsComposed r terms column → ⊥
    composed_too_wide h never fits =
        let narrow : IsWithin 62 (total +ℤ r.constant) = subst (IsWithin 62) (sym (last_is h)) fits.narrow in never (omega arith)

pub width_of-first : (terms : List Linear) (first : Linear) → 1 ≤ length terms → first ≡ get_or terms 0 first → columns first ≡ width_of terms
width_of-first [] first h e = absurd (omega arith)
width_of-first (t ∷ terms) first h e = ap columns e
