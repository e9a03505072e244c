use Rattle.std.proofs.Common.{◌≡◌, inl, inr, ℕ, zero, suc, ◌-◌, ◌<◌, ◌^◌, List, [], ◌∷◌, ◌++◌, take, length, length-append, map, get_or, All, Option, None, Some, arith, refl, sym, ap, ◌∙◌, subst, ℤ, pos, neg_ℤ, ◌+ℤ◌, ◌-ℤ◌, ◌*ℤ◌, ◌<ℤ◌, ◌≤ℤ◌, unsigned_abs}
use Rattle.std.specs.List.{Contains}
use Rattle.std.proofs.lemmas.Int.{ints}
use Rattle.std.proofs.lemmas.List.Elements.{All-head, All-tail}
use Rattle.tv_linear.proofs.PlainLists.{unit-narrow}
use Rattle.tv_linear.proofs.RowValues.{value-column_row, value-denial}
use Rattle.tv_linear.specs.Arithmetic.{unit}
use Rattle.tv_linear.specs.Fits.{IsHeld}
use Rattle.tv_linear.specs.Linear.{Linear, dot, value, IsMet, IsWithin, scaled_value, IsScaledPoint}
use Rattle.tv_linear.specs.Known.{Known, given, denied, as_given, KnownHeld}
use Rattle.tv_linear.proofs.Ring.{mul_assoc_z, distribute_right_z}
use Rattle.tv_simplex.proofs.Ring.{by_sign, less_times, zero_times}
use Rattle.tv_simplex.specs.Outcomes.{IsShort}
use Rattle.tv_farkas.specs.Paths.{at_most_row, at_least_row}
use Rattle.tv_farkas.specs.Stretching.{IsSide, AreSides}
use Rattle.tv_farkas.proofs.SystemLemmas.{at_of}
use Rattle.tv_fraction.proofs.Products.{product_above}
use Rattle.tv_linear.proofs.HeldLemmas.{opposite_held}

-- ---- the rows of a split
pub unit_value : (n c : ℕ) (xs : List ℤ) → length xs ≡ n → dot (unit n c) xs ≡ get_or xs c (pos 0)
unit_value n c xs e = (let h = value-column_row n c xs (omega (arith, e)) in omega (arith, ints, h))

pub low_value : (n c : ℕ) (k : ℤ) (xs : List ℤ) (z : ℤ) → length xs ≡ n → scaled_value (at_most_row n c k) xs z ≡ get_or xs c (pos 0) -ℤ k *ℤ z
low_value n c k xs z e =
    let u = unit_value n c xs e in
    let m = constant_times (pos 0 +ℤ neg_ℤ k) k z (omega (arith, ints)) in
    omega (arith, ints, u, m)
  where
    constant_times : (a b y : ℤ) → a ≡ pos 0 -ℤ b → a *ℤ y ≡ pos 0 -ℤ b *ℤ y
    constant_times a b y g = ap (λ x. x *ℤ y) g ∙ less_times (pos 0) b y ∙ (let o = zero_times (pos 0) y refl in omega (arith, ints, o))

pub high_value : (n c : ℕ) (k : ℤ) (xs : List ℤ) (z : ℤ) → length xs ≡ n → scaled_value (at_least_row n c k) xs z ≡ (k +ℤ pos 1) *ℤ z -ℤ get_or xs c (pos 0)
high_value n c k xs z e =
    let v = value-denial (at_most_row n c k) xs in
    let u = unit_value n c xs e in
    let m : (pos 1 -ℤ (pos 0 +ℤ neg_ℤ k)) *ℤ z ≡ (k +ℤ pos 1) *ℤ z = ap (λ x. x *ℤ z) (let g : pos 1 -ℤ (pos 0 +ℤ neg_ℤ k) ≡ k +ℤ pos 1 = omega (arith, ints) in g) in
    omega (arith, ints, v, u, m)

-- a row that the point does not meet is none of those that it meets
pub fresh : (kept : List Linear) (r : Linear) (xs : List ℤ) (z : ℤ) → IsScaledPoint kept xs z → pos 0 <ℤ scaled_value r xs z → Contains kept r → ⊥
fresh kept r xs z h above c =
    let m = subst (λ q. scaled_value q xs z ≤ℤ pos 0) c.2 (at_of (λ q. scaled_value q xs z ≤ℤ pos 0) kept r h.met c.0 c.1) in
    absurd (omega (arith, ints, m, above))

-- ---- sides
pub given_side : (n : ℕ) (r : Linear) → IsSide n r (given r)
given_side n r = record { inner = λ j l. refl; constant = refl; held = λ column. tt }

pub given_sides : (n : ℕ) (rows : List Linear) → AreSides n rows (as_given rows)
given_sides n [] = tt
given_sides n (r ∷ rows) = (given_side n r, given_sides n rows)

pub sides_more : (n : ℕ) (rows : List Linear) (sides : List Known) (r : Linear) (k : Known) → AreSides n rows sides → IsSide n r k → AreSides n (rows ++ r ∷ []) (sides ++ k ∷ [])
sides_more n [] [] r k h g = (g, tt)
sides_more n [] (s ∷ sides) r k h g = absurd h
sides_more n (q ∷ rows) [] r k h g = absurd h
sides_more n (q ∷ rows) (s ∷ sides) r k h g = (h.0, sides_more n rows sides r k h.1 g)

pub get_or-neg : (xs : List ℤ) (j : ℕ) → get_or (map neg_ℤ xs) j (pos 0) ≡ neg_ℤ (get_or xs j (pos 0))
get_or-neg [] j = refl
get_or-neg (x ∷ xs) zero = refl
get_or-neg (x ∷ xs) (suc j) = get_or-neg xs j

pub small_at : (xs : List ℤ) → All (IsWithin 62) xs → (j : ℕ) → unsigned_abs (get_or xs j (pos 0)) < 2 ^ 62
small_at [] h j = omega arith
small_at (x ∷ xs) h zero = All-head (IsWithin 62) x xs h
small_at (x ∷ xs) h (suc j) = small_at xs (All-tail (IsWithin 62) x xs h) j

pub constant_held : (z : ℤ) → IsShort z → IsHeld (pos 1 -ℤ (pos 0 +ℤ neg_ℤ z))
constant_held z h = omega (arith, ints, h)

pub high_side : (n c : ℕ) (k : ℤ) → IsShort k → IsSide n (at_least_row n c k) (denied (given (at_most_row n c k)))
high_side n c k short = record {
  inner = λ j l. sym (get_or-neg (unit n c) j);
  constant = refl;
  held = held;
}
  where
    held : (column : Option ℕ) → KnownHeld (denied (given (at_most_row n c k))) column
    held None = (tt, constant_held k short)
    held (Some j) = (tt, opposite_held (get_or (unit n c) j (pos 0)) (small_at (unit n c) (unit-narrow n c) j))

-- ---- what a tree shows
pub take-init : {A : Type 0} (xs : List A) (x : A) → take (length (xs ++ x ∷ []) - 1) (xs ++ x ∷ []) ≡ xs
take-init [] x = refl
take-init (y ∷ xs) x =
    let e = length-append xs (x ∷ []) in
    let f : length (y ∷ (xs ++ x ∷ [])) - 1 ≡ suc (length (xs ++ x ∷ []) - 1) = omega (arith, e) in
    ap (λ k. take k (y ∷ (xs ++ x ∷ []))) f ∙ ap (λ r. y ∷ r) (take-init xs x)

pub popped : {A : Type 0} (xs : List A) (x : A) (mid inner new : List A) → mid ≡ xs ++ x ∷ [] → inner ≡ mid → new ≡ take (length inner - 1) inner → new ≡ xs
popped xs x mid inner new e f g = g ∙ ap (λ k. take (length k - 1) k) (f ∙ e) ∙ take-init xs x

-- ---- an integer point
pub dot-divided : (cs values xs : List ℤ) (z : ℤ) → length values ≡ length xs → ((j : ℕ) → j < length xs → get_or values j (pos 0) ≡ get_or xs j (pos 0) *ℤ z) → dot cs values ≡ dot cs xs *ℤ z
dot-divided [] values xs z e h = sym (zero_times (pos 0) z refl)
dot-divided (c ∷ cs) [] [] z e h = sym (zero_times (pos 0) z refl)
dot-divided (c ∷ cs) [] (x ∷ xs) z e h = absurd (omega (arith, e))
dot-divided (c ∷ cs) (v ∷ values) [] z e h = absurd (omega (arith, e))
dot-divided (c ∷ cs) (v ∷ values) (x ∷ xs) z e h =
    let f = dot-divided cs values xs z (omega (arith, e)) (λ j l. h (suc j) (omega (arith, l))) in
    let g = ap (λ y. c *ℤ y) (h 0 (omega arith)) ∙ sym (mul_assoc_z c x z) in
    let d = distribute_right_z (c *ℤ x) (dot cs xs) z in
    omega (arith, ints, f, g, d)

pub whole_met : (r : Linear) (values xs : List ℤ) (z : ℤ) → pos 0 <ℤ z → length values ≡ length xs → ((j : ℕ) → j < length xs → get_or values j (pos 0) ≡ get_or xs j (pos 0) *ℤ z) → scaled_value r values z ≤ℤ pos 0 → IsMet xs r
whole_met r values xs z p e h m =
    let f = dot-divided r.coefficients values xs z e h in
    let d = distribute_right_z (dot r.coefficients xs) r.constant z in
    elim (by_sign (value r xs)) [
      | inl low ↦ omega (arith, ints, low)
      | inr w ↦ elim w [
        | inl same ↦ omega (arith, ints, same)
        | inr high ↦ (let k = product_above (value r xs) z high p in absurd (omega (arith, ints, k, d, f, m)))
      ]
    ]
