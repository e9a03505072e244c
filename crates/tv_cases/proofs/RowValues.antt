-- the values of rows that are made of rows
use Rattle.std.proofs.Common.{◌≡◌, zero, suc, ◌∙◌, List, [], ◌∷◌, refl, ap, arith, ℤ, pos, negsuc, ◌*ℤ◌, Bool, true, false}
use Rattle.std.specs.Prelude.{◌||◌, cond}
use Rattle.std.specs.List.{list_all}
use Rattle.std.proofs.lemmas.Int.{ints}
use Rattle.tv_linear.specs.Linear.{Linear, dot, value}
use Rattle.std.proofs.Math.IntN.{*ℤ_comm}
use Rattle.tv_linear.specs.Arithmetic.{scaled}
use Rattle.tv_cases.specs.Forms.{is_zero, is_number, times}
use Rattle.tv_linear.proofs.RowValues.{value-scaled}
use Rattle.std.proofs.lemmas.Bool.{and_parts}

pub is_zero-true : (z : ℤ) → is_zero z ≡ true → z ≡ pos 0
is_zero-true (pos zero) h = refl
is_zero-true (pos (suc n)) h = cc
is_zero-true (negsuc n) h = cc

pub dot-constant : (cs xs : List ℤ) → list_all is_zero cs ≡ true → dot cs xs ≡ pos 0
dot-constant [] xs h = refl
dot-constant (a ∷ cs) [] h = refl
dot-constant (a ∷ cs) (x ∷ xs) h =
    let k = and_parts (is_zero a) (list_all is_zero cs) h in
    let here = ap (λ y. y *ℤ x) (is_zero-true a k.0) in
    let later = dot-constant cs xs k.1 in
    omega (arith, ints, here, later)

value-constant : (r : Linear) (xs : List ℤ) → is_number r ≡ true → r.constant ≡ value r xs
value-constant r xs h = let e = dot-constant r.coefficients xs h in omega (arith, ints, e)

-- the product has the product of the values, where a factor is a number
pub times-value : (r s : Linear) (xs : List ℤ) → (is_number r || is_number s) ≡ true → value (times r s) xs ≡ value r xs *ℤ value s xs
times-value r s xs h = by_second (is_number s) refl h where
  by_first : (b : Bool) → is_number r ≡ b → (b || false) ≡ true → value (scaled r.constant s) xs ≡ value r xs *ℤ value s xs
  by_first true e h = value-scaled r.constant s xs ∙ ap (λ z. z *ℤ value s xs) (value-constant r xs e)
  by_first false e h = cc

  by_second : (b : Bool) → is_number s ≡ b → (is_number r || b) ≡ true → value (cond b (scaled s.constant r) (scaled r.constant s)) xs ≡ value r xs *ℤ value s xs
  by_second true e h = value-scaled s.constant r xs ∙ ap (λ z. z *ℤ value r xs) (value-constant s xs e) ∙ *ℤ_comm (value s xs) (value r xs)
  by_second false e h = by_first (is_number r) refl h
