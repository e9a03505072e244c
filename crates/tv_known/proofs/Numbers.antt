-- Lists of case numbers, and the pairs of two of them.
use Rattle.std.proofs.Common.{◌≡◌, ◌⊎◌, inl, inr, ℕ, zero, suc, ◌<◌, ◌≤◌, List, [], ◌∷◌, length, get_or, refl, sym, subst, arith, Bool, true, false}
use Rattle.std.specs.Prelude.{nat_eq, cond}
use Rattle.std.proofs.lemmas.Bool.Decides.{nat_tests}
use Rattle.std.proofs.lemmas.Bool.{cases_eq}

-- the number stands in the list
abbrev pub Among : ℕ → List ℕ → Type 0
Among k [] = ⊥
Among k (c ∷ cs) = (k ≡ c) ⊎ Among k cs

-- the list without a number
abbrev pub without : ℕ → List ℕ → List ℕ
without c [] = []
without c (k ∷ ks) = cond (nat_eq k c) (without c ks) (k ∷ without c ks)

kept_head : (b : Bool) (k : ℕ) (ks : List ℕ) (x : ℕ) → b ≡ false → Among x (k ∷ ks) → Among x (cond b ks (k ∷ ks))
kept_head false k ks x e a = a
kept_head true k ks x e a = absurd cc

kept_tail : (b : Bool) (k : ℕ) (ks : List ℕ) (x : ℕ) → Among x ks → Among x (cond b ks (k ∷ ks))
kept_tail false k ks x a = inr a
kept_tail true k ks x a = a

other_number : (x c : ℕ) → (x ≡ c → ⊥) → nat_eq x c ≡ false
other_number x c n = by (nat_eq x c) refl
  where
    by : (b : Bool) → nat_eq x c ≡ b → b ≡ false
    by true e = absurd (n (grind (arith, nat_tests)))
    by false e = refl

pub stays : (c : ℕ) (ks : List ℕ) (x : ℕ) → Among x ks → (x ≡ c → ⊥) → Among x (without c ks)
stays c [] x a n = absurd a
stays c (k ∷ ks) x (inl e) n = kept_head (nat_eq k c) k (without c ks) x (subst (λ y. nat_eq y c ≡ false) e (other_number x c n)) (inl e)
stays c (k ∷ ks) x (inr a) n = kept_tail (nat_eq k c) k (without c ks) x (stays c ks x a n)

from_cond : (b : Bool) (k : ℕ) (ks : List ℕ) (x : ℕ) → Among x (cond b ks (k ∷ ks)) → (x ≡ k) ⊎ Among x ks
from_cond true k ks x a = inr a
from_cond false k ks x a = a

pub stood : (c : ℕ) (ks : List ℕ) (x : ℕ) → Among x (without c ks) → Among x ks
stood c [] x a = absurd a
stood c (k ∷ ks) x a = elim (from_cond (nat_eq k c) k (without c ks) x a) [ inl e ↦ inl e | inr l ↦ inr (stood c ks x l) ]

no_longer : (b : Bool) (k : ℕ) (ks : List ℕ) (n : ℕ) → length ks ≤ n → length (cond b ks (k ∷ ks)) ≤ suc n
no_longer true k ks n l = omega arith
no_longer false k ks n l = omega arith

without_length : (c : ℕ) (ks : List ℕ) → length (without c ks) ≤ length ks
without_length c [] = omega arith
without_length c (k ∷ ks) = no_longer (nat_eq k c) k (without c ks) (length ks) (without_length c ks)

gone : (b : Bool) (k : ℕ) (ks : List ℕ) (n : ℕ) → b ≡ true → length ks ≤ n → length (cond b ks (k ∷ ks)) < suc n
gone true k ks n e l = omega arith
gone false k ks n e l = absurd cc

shorter_tail : (b : Bool) (k : ℕ) (ks : List ℕ) (n : ℕ) → length ks < n → length (cond b ks (k ∷ ks)) < suc n
shorter_tail true k ks n l = omega arith
shorter_tail false k ks n l = omega arith

its_own : (c : ℕ) → nat_eq c c ≡ true
its_own c = by (nat_eq c c) refl
  where
    by : (b : Bool) → nat_eq c c ≡ b → b ≡ true
    by true e = refl
    by false e = grind (arith, nat_tests)

pub shorter : (c : ℕ) (ks : List ℕ) → Among c ks → length (without c ks) < length ks
shorter c [] a = absurd a
shorter c (k ∷ ks) (inl e) = gone (nat_eq k c) k (without c ks) (length ks) (subst (λ y. nat_eq y c ≡ true) e (its_own c)) (without_length c ks)
shorter c (k ∷ ks) (inr a) = shorter_tail (nat_eq k c) k (without c ks) (length ks) (shorter c ks a)

-- ---- places

pub record Place (x : ℕ) (ks : List ℕ) : Type 0 where
  pub place : ℕ
  pub within : place < length ks
  pub is : get_or ks place 0 ≡ x

later_place : (x c : ℕ) (ks : List ℕ) → Place x ks → Place x (c ∷ ks)
later_place x c ks p = record { place = suc p.place; within = (let l = p.within in omega (arith, l)); is = p.is }

pub place_of : (ks : List ℕ) (x : ℕ) → Among x ks → Place x ks
place_of [] x a = absurd a
place_of (c ∷ ks) x (inl e) = record { place = 0; within = omega arith; is = sym e }
place_of (c ∷ ks) x (inr a) = later_place x c ks (place_of ks x a)

pub at_place : (ks : List ℕ) (p : ℕ) → p < length ks → Among (get_or ks p 0) ks
at_place [] p l = absurd (omega arith)
at_place (c ∷ ks) zero l = inl refl
at_place (c ∷ ks) (suc p) l = inr (at_place ks p (omega arith))

-- the numbers below n
abbrev pub below : ℕ → List ℕ
below zero = []
below (suc n) = n ∷ below n

pub among_below : (n k : ℕ) → k < n → Among k (below n)
among_below zero k l = absurd (omega arith)
among_below (suc n) k l = elim (cases_eq k n) [ inl e ↦ inl e | inr o ↦ inr (among_below n k (omega arith)) ]

pub below_are : (n k : ℕ) → Among k (below n) → k < n
below_are zero k a = absurd a
below_are (suc n) k (inl e) = omega arith
below_are (suc n) k (inr a) = let l = below_are n k a in omega (arith, l)

-- ---- pairs of numbers of a list

pub data Pairs (set : List ℕ) : Type 0 where
  none : Pairs set
  pair : (c d : ℕ) → Among c set → Among d set → Pairs set → Pairs set

abbrev pub IsPair : {set : List ℕ} → Pairs set → ℕ → ℕ → Type 0
IsPair none x y = ⊥
IsPair (pair c d a b rest) x y = ((x ≡ c) × (y ≡ d)) ⊎ IsPair rest x y

module _ (set : List ℕ) where
  abbrev pub line : (c : ℕ) → Among c set → (ys : List ℕ) → ((y : ℕ) → Among y ys → Among y set) → Pairs set → Pairs set
  line c a [] w rest = rest
  line c a (y ∷ ys) w rest = pair c y a (w y (inl refl)) (line c a ys (λ x b. w x (inr b)) rest)

  abbrev pub grid : (xs : List ℕ) → ((x : ℕ) → Among x xs → Among x set) → Pairs set
  grid [] w = none
  grid (x ∷ xs) w = line x (w x (inl refl)) set (λ y b. b) (grid xs (λ y b. w y (inr b)))

  in_line : (c : ℕ) (a : Among c set) (ys : List ℕ) (w : (y : ℕ) → Among y ys → Among y set) (rest : Pairs set) (x y : ℕ) → x ≡ c → Among y ys → IsPair (line c a ys w rest) x y
  in_line c a [] w rest x y e b = absurd b
  in_line c a (z ∷ ys) w rest x y e (inl same) = inl (e, same)
  in_line c a (z ∷ ys) w rest x y e (inr b) = inr (in_line c a ys (λ v k. w v (inr k)) rest x y e b)

  in_rest : (c : ℕ) (a : Among c set) (ys : List ℕ) (w : (y : ℕ) → Among y ys → Among y set) (rest : Pairs set) (x y : ℕ) → IsPair rest x y → IsPair (line c a ys w rest) x y
  in_rest c a [] w rest x y h = h
  in_rest c a (z ∷ ys) w rest x y h = inr (in_rest c a ys (λ v k. w v (inr k)) rest x y h)

  in_grid : (xs : List ℕ) (w : (x : ℕ) → Among x xs → Among x set) (x y : ℕ) → Among x xs → Among y set → IsPair (grid xs w) x y
  in_grid [] w x y a b = absurd a
  in_grid (c ∷ xs) w x y (inl e) b = in_line c (w c (inl refl)) set (λ v k. k) (grid xs (λ v k. w v (inr k))) x y e b
  in_grid (c ∷ xs) w x y (inr a) b = in_rest c (w c (inl refl)) set (λ v k. k) (grid xs (λ v k. w v (inr k))) x y (in_grid xs (λ v k. w v (inr k)) x y a b)

  abbrev pub all_pairs : Pairs set
  all_pairs = grid set (λ y a. a)

  pub in_all : (x y : ℕ) → Among x set → Among y set → IsPair all_pairs x y
  in_all x y a b = in_grid set (λ v k. k) x y a b
