-- the values of made rows at a point
use Rattle.std.proofs.Common.{◌≡◌, ◌↔◌, ℕ, zero, suc, ◌≤◌, List, [], ◌∷◌, map, length, get_or, refl, arith, ℤ, pos, negsuc, neg_ℤ, ◌+ℤ◌, ◌-ℤ◌, ◌*ℤ◌, ◌≤ℤ◌}
use Rattle.std.proofs.lemmas.Int.{ints}
use Rattle.tv_linear.specs.Linear.{Linear, dot, value, IsMet}
use Rattle.tv_linear.specs.Arithmetic.{zeros, unit, plus_each, constant_row, column_row, plus, opposite, denial, scaled, raised, width_of, combined, composed}
use Rattle.tv_linear.specs.Tight.{tight}
use Rattle.tv_linear.proofs.Ring.{distribute_z, distribute_right_z, mul_assoc_z, neg_times_z}
use Rattle.tv_linear.proofs.Tightened.{tight-met}

pub dot-zeros : (n : ℕ) (xs : List ℤ) → dot (zeros n) xs ≡ pos 0
dot-zeros zero xs = refl
dot-zeros (suc n) [] = refl
dot-zeros (suc n) (x ∷ xs) = let h = dot-zeros n xs in omega (arith, ints, h)

pub dot-unit : (n column : ℕ) (xs : List ℤ) → length xs ≤ n → dot (unit n column) xs ≡ get_or xs column (pos 0)
dot-unit zero column [] h = refl
dot-unit zero column (x ∷ xs) h = absurd (omega arith)
dot-unit (suc n) zero [] h = refl
dot-unit (suc n) zero (x ∷ xs) h = let e = dot-zeros n xs in omega (arith, ints, e)
dot-unit (suc n) (suc column) [] h = refl
dot-unit (suc n) (suc column) (x ∷ xs) h = let e = dot-unit n column xs (omega arith) in omega (arith, ints, e)

pub dot-plus : (cs bs xs : List ℤ) → dot (plus_each cs bs) xs ≡ dot cs xs +ℤ dot bs xs
dot-plus [] bs xs = omega (arith, ints)
dot-plus (a ∷ cs) [] xs = omega (arith, ints)
dot-plus (a ∷ cs) (b ∷ bs) [] = refl
dot-plus (a ∷ cs) (b ∷ bs) (x ∷ xs) =
    let here = distribute_right_z a b x in
    let later = dot-plus cs bs xs in
    omega (arith, ints, here, later)

pub dot-opposite : (cs xs : List ℤ) → dot (map neg_ℤ cs) xs ≡ neg_ℤ (dot cs xs)
dot-opposite [] xs = refl
dot-opposite (a ∷ cs) [] = refl
dot-opposite (a ∷ cs) (x ∷ xs) =
    let here = neg_times_z a x in
    let later = dot-opposite cs xs in
    omega (arith, ints, here, later)

pub dot-scaled : (z : ℤ) (cs xs : List ℤ) → dot (map (λ c. z *ℤ c) cs) xs ≡ z *ℤ dot cs xs
dot-scaled z [] xs = omega (arith, ints)
dot-scaled z (a ∷ cs) [] = omega (arith, ints)
dot-scaled z (a ∷ cs) (x ∷ xs) =
    let here = mul_assoc_z z a x in
    let spread = distribute_z z (a *ℤ x) (dot cs xs) in
    let later = dot-scaled z cs xs in
    omega (arith, ints, here, spread, later)

pub value-constant_row : (n : ℕ) (z : ℤ) (xs : List ℤ) → value (constant_row n z) xs ≡ z
value-constant_row n z xs = let h = dot-zeros n xs in omega (arith, ints, h)

pub value-column_row : (n column : ℕ) (xs : List ℤ) → length xs ≤ n → value (column_row n column) xs ≡ get_or xs column (pos 0)
value-column_row n column xs k = let h = dot-unit n column xs k in omega (arith, ints, h)

pub value-plus : (r s : Linear) (xs : List ℤ) → value (plus r s) xs ≡ value r xs +ℤ value s xs
value-plus r s xs = let h = dot-plus r.coefficients s.coefficients xs in omega (arith, ints, h)

pub value-opposite : (r : Linear) (xs : List ℤ) → value (opposite r) xs ≡ neg_ℤ (value r xs)
value-opposite r xs = let h = dot-opposite r.coefficients xs in omega (arith, ints, h)

pub value-denial : (r : Linear) (xs : List ℤ) → value (denial r) xs ≡ pos 1 -ℤ value r xs
value-denial r xs = let h = dot-opposite r.coefficients xs in omega (arith, ints, h)

pub value-scaled : (z : ℤ) (r : Linear) (xs : List ℤ) → value (scaled z r) xs ≡ z *ℤ value r xs
value-scaled z r xs =
    let h = dot-scaled z r.coefficients xs in
    let spread = distribute_z z (dot r.coefficients xs) r.constant in
    omega (arith, ints, h, spread)

pub value-raised : (z : ℤ) (r : Linear) (xs : List ℤ) → value (raised z r) xs ≡ value r xs +ℤ z
value-raised z r xs = omega (arith, ints)

value-combined : (n : ℕ) (cs : List ℤ) (rows : List Linear) (xs : List ℤ) → value (combined n cs rows) xs ≡ dot cs (map (λ r. value r xs) rows)
value-combined n [] rows xs = value-constant_row n (pos 0) xs
value-combined n (c ∷ cs) [] xs = value-constant_row n (pos 0) xs
value-combined n (c ∷ cs) (r ∷ rows) xs =
    let sum = value-plus (scaled c r) (combined n cs rows) xs in
    let here = value-scaled c r xs in
    let later = value-combined n cs rows xs in
    omega (arith, ints, sum, here, later)

-- a composed row has at a point the value that the row has at the terms' values there
pub value-composed : (r : Linear) (terms : List Linear) (xs : List ℤ) → value (composed r terms) xs ≡ value r (map (λ t. value t xs) terms)
value-composed r terms xs =
    let raise = value-raised r.constant (combined (width_of terms) r.coefficients terms) xs in
    let sum = value-combined (width_of terms) r.coefficients terms xs in
    omega (arith, ints, raise, sum)

-- the denial is met exactly where the row is not
pub denial-met : (r : Linear) (xs : List ℤ) → IsMet xs (denial r) ↔ (¬ IsMet xs r)
denial-met r xs =
    let e = value-denial r xs in (
      λ met holds. omega (arith, ints, e, met, holds),
      λ never. not_met (value (denial r) xs) (value r xs) e never,
    )
  where
    not_met : (d v : ℤ) → d ≡ pos 1 -ℤ v → (v ≤ℤ pos 0 → ⊥) → d ≤ℤ pos 0
    not_met d (pos zero) e never = absurd (never (omega (arith, ints)))
    not_met d (pos (suc n)) e never = omega (arith, ints)
    not_met d (negsuc n) e never = absurd (never (omega (arith, ints)))

-- the tightened difference is met exactly where the first value, with the number added, is at most the second
pub at_most-met : (less : ℤ) (left right : Linear) (xs : List ℤ) → IsMet xs (tight (raised less (plus left (opposite right)))) ↔ ((value left xs +ℤ less) ≤ℤ value right xs)
at_most-met less left right xs =
    let same = tight-met (raised less (plus left (opposite right))) xs in
    let sum = value-plus left (opposite right) xs in
    let turn = value-opposite right xs in (
      λ met. let k = same.0 met in omega (arith, ints, k, sum, turn),
      λ at_most. same.1 (omega (arith, ints, at_most, sum, turn)),
    )
