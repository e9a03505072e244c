-- Rows that each list of numbers meets.
use Rattle.std.proofs.Common.{◌≡◌, ℕ, zero, suc, ◌+◌, ◌*◌, ◌<◌, ◌≤◌, List, [], ◌∷◌, length, arith, refl, sym, ap, ℤ, pos, negsuc, ◌+ℤ◌, ◌*ℤ◌, ◌≤ℤ◌, ◌<ℤ◌, Bool, true, false, ◌&&◌, MatchBool, int_le}
use Rattle.std.specs.List.{list_all}
use Rattle.std.proofs.lemmas.Int.{ints}
use Rattle.tv_linear.specs.Linear.{Linear, columns, dot, IsMet}
use Rattle.tv_linear.specs.Arithmetic.{zeros}
use Rattle.tv_linear.proofs.PlainLists.{length-zeros}
use Rattle.tv_cases.specs.Forms.{is_zero}
use Rattle.tv_cases.proofs.RowValues.{dot-constant}

at_zeros : (cs : List ℤ) (n : ℕ) → dot cs (zeros n) ≡ pos 0
at_zeros [] n = refl
at_zeros (c ∷ cs) zero = refl
at_zeros (c ∷ cs) (suc n) = let h = at_zeros cs n in omega (arith, ints, h)

-- a number times a factor that is large enough
large : (c k : ℤ) → is_zero c ≡ false → (t : ℤ) × (pos 0 <ℤ ((c *ℤ t) +ℤ k))
large (pos zero) k e = absurd cc
large (pos (suc n)) (pos a) e = (pos (a + 1), (let p : 0 < suc n * (a + 1) = omega arith in omega (arith, ints, p)))
large (pos (suc n)) (negsuc a) e = (pos (a + 2), (let p : a + 2 ≤ suc n * (a + 2) = omega arith in omega (arith, ints, p)))
large (negsuc n) (pos a) e = (negsuc a, (let p : 0 < suc n * suc a = omega arith in omega (arith, ints, p)))
large (negsuc n) (negsuc a) e = (negsuc (suc a), (let p : a + 2 ≤ suc n * suc (suc a) = omega arith in omega (arith, ints, p)))

-- numbers at which a row is above 0
record IsAbove (cs : List ℤ) (k : ℤ) : Type 0 where
  xs : List ℤ
  long : length xs ≡ length cs
  above : pos 0 <ℤ (dot cs xs +ℤ k)

above_first : (b : Bool) (c : ℤ) (cs : List ℤ) (k : ℤ) → is_zero c ≡ b → (b && list_all is_zero cs) ≡ false → (list_all is_zero cs ≡ false → IsAbove cs k) → IsAbove (c ∷ cs) k
above_first true c cs k z e rest =
    let h = rest e in
    let d : dot (c ∷ cs) (pos 0 ∷ h.xs) ≡ dot cs h.xs = omega (arith, ints) in
    record { xs = pos 0 ∷ h.xs; long = ap suc h.long; above = (let a = h.above in omega (arith, ints, a, d)) }
above_first false c cs k z e rest =
    let t = large c k z in
    let d = at_zeros cs (length cs) in
    record { xs = t.0 ∷ zeros (length cs); long = ap suc (length-zeros (length cs)); above = (let a = t.1 in omega (arith, ints, a, d)) }

somewhere_above : (cs : List ℤ) (k : ℤ) → list_all is_zero cs ≡ false → IsAbove cs k
somewhere_above [] k e = absurd cc
somewhere_above (c ∷ cs) k e = above_first (is_zero c) c cs k refl e (somewhere_above cs k)

-- a row whose constant is at most 0 and whose coefficients are 0
pub always_met : (r : Linear) → r.constant ≤ℤ pos 0 → list_all is_zero r.coefficients ≡ true → (xs : List ℤ) → IsMet xs r
always_met r k e xs = let d = dot-constant r.coefficients xs e in omega (arith, ints, k, d)

pub not_met_for_constant : (r : Linear) → (r.constant ≤ℤ pos 0 → ⊥) → (xs : List ℤ) × (length xs ≡ columns r) × (IsMet xs r → ⊥)
not_met_for_constant r k = (
  zeros (columns r),
  length-zeros (columns r),
  λ m. k (let d = at_zeros r.coefficients (columns r) in omega (arith, ints, m, d)),
)

pub not_met_for_coefficients : (r : Linear) → list_all is_zero r.coefficients ≡ false → (xs : List ℤ) × (length xs ≡ columns r) × (IsMet xs r → ⊥)
not_met_for_coefficients r e =
    let h = somewhere_above r.coefficients r.constant e in
    (h.xs, h.long, λ m. (let a = h.above in omega (arith, ints, a, m)))

pub above_from_test : (a b : ℤ) → int_le a b ≡ false → a ≤ℤ b → ⊥
above_from_test a b h = grind (arith, ints)

pub constant_met : (r : Linear) (b : Bool) → b ≡ list_all is_zero r.coefficients → r.constant ≤ℤ pos 0 → MatchBool b ((xs : List ℤ) → IsMet xs r) ((xs : List ℤ) × (length xs ≡ columns r) × (IsMet xs r → ⊥))
constant_met r true e k = always_met r k (sym e)
constant_met r false e k = not_met_for_coefficients r (sym e)

pub never_met : (r : Linear) (b : Bool) → b ≡ false → (r.constant ≤ℤ pos 0 → ⊥) → MatchBool b ((xs : List ℤ) → IsMet xs r) ((xs : List ℤ) × (length xs ≡ columns r) × (IsMet xs r → ⊥))
never_met r true e k = absurd cc
never_met r false e k = not_met_for_constant r k
