use Rattle.std.proofs.Common.{ℕ, zero, suc, ◌%◌, ◌<◌, List, [], ◌∷◌, refl, arith, ℤ}
use Prim.Native.Nat.{◌∣◌}
use Rattle.std.specs.Prelude.{unsigned_abs}
use Rattle.std.specs.Int.{IsGcd}
use Rattle.std.proofs.lemmas.Nat.Gcd.{dvd_refl, dvd_trans, IsGcd-from_zero, IsGcd-from_mod}
use Rattle.tv_linear.specs.Tight.{gcd_within, gcd, divisor_from}

-- Euclid's algorithm gives the greatest common divisor, where it has more steps than the second number
gcd_within-is : (steps a b : ℕ) → b < steps → IsGcd a b (gcd_within steps a b)
gcd_within-is zero a b h = absurd (omega arith)
gcd_within-is (suc steps) a zero h = IsGcd-from_zero a 0 refl
gcd_within-is (suc steps) a (suc b) h =
    IsGcd-from_mod a (suc b) _ (gcd_within-is steps (suc b) (a % suc b) (omega arith))

pub gcd-is : (a b : ℕ) → IsGcd a b (gcd a b)
gcd-is a b = gcd_within-is (suc b) a b (omega arith)

-- the list's divisor divides the first number and each number of the list
pub divisor_from-divides : (g : ℕ) (cs : List ℤ) → divisor_from g cs ∣ g
divisor_from-divides g [] = dvd_refl g
divisor_from-divides g (c ∷ cs) =
    dvd_trans _ (divisor_from-divides (gcd g (unsigned_abs c)) cs) (gcd-is g (unsigned_abs c)).0

-- each number is a multiple of g
abbrev pub AllMultiples : ℕ → List ℤ → Type 0
AllMultiples g [] = Unit {0}
AllMultiples g (c ∷ cs) = (g ∣ unsigned_abs c) × AllMultiples g cs

pub divisor_from-multiples : (g : ℕ) (cs : List ℤ) → AllMultiples (divisor_from g cs) cs
divisor_from-multiples g [] = tt
divisor_from-multiples g (c ∷ cs) = (
  dvd_trans _ (divisor_from-divides (gcd g (unsigned_abs c)) cs) (gcd-is g (unsigned_abs c)).1,
  divisor_from-multiples (gcd g (unsigned_abs c)) cs,
)

-- and every common divisor divides it
pub divisor_from-greatest : (d g : ℕ) (cs : List ℤ) → d ∣ g → AllMultiples d cs → d ∣ divisor_from g cs
divisor_from-greatest d g [] h k = h
divisor_from-greatest d g (c ∷ cs) h k =
    divisor_from-greatest d (gcd g (unsigned_abs c)) cs ((gcd-is g (unsigned_abs c)).2 d h k.0) k.1
