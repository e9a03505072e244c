use Rattle.std.proofs.Common.{◌≡◌, ℕ, zero, suc, inl, inr, ◌<◌, ◌≤◌, Option, None, Some, Bool, true, false, ◌==◌, if◌then◌else◌, arith, refl, ap, ℤ, pos, neg_ℤ, ◌+ℤ◌, ◌-ℤ◌, ◌*ℤ◌}
use Rattle.std.proofs.lemmas.Int.{ints}
use Rattle.std.proofs.lemmas.Bool.{eq-eqb, ne_eqb}
use Rattle.tv_simplex.specs.Sums.{total}
use Rattle.tv_simplex.proofs.Sums.{total-same, total-less, total-add, total-times, total-zero, total-swap}
use Rattle.tv_linear.proofs.Ring.{distribute_z}
use Rattle.tv_linear.proofs.ListLaws.{same_or_below}
use Rattle.tv_rank.specs.RankingSystem.{unit_at}

-- ---- sums over the first n columns and the constant
abbrev pub over : ℕ → (Option ℕ → ℤ) → ℤ
over n h = total n (λ c. h (Some c)) +ℤ h None

abbrev pub Inside : ℕ → Option ℕ → Type 0
Inside n None = Unit {0}
Inside n (Some c) = c < n

pub over-same : (n : ℕ) (f g : Option ℕ → ℤ) → ((c : Option ℕ) → Inside n c → f c ≡ g c) → over n f ≡ over n g
over-same n f g h = (λ i. total-same n (λ c. f (Some c)) (λ c. g (Some c)) (λ c l. h (Some c) l) i +ℤ h None tt i)

pub over-less : (n : ℕ) (f g : Option ℕ → ℤ) → over n (λ c. f c -ℤ g c) ≡ over n f -ℤ over n g
over-less n f g = (let a = total-less n (λ c. f (Some c)) (λ c. g (Some c)) in omega (arith, ints, a))

pub over-add : (n : ℕ) (f g : Option ℕ → ℤ) → over n (λ c. f c +ℤ g c) ≡ over n f +ℤ over n g
over-add n f g = (let a = total-add n (λ c. f (Some c)) (λ c. g (Some c)) in omega (arith, ints, a))

pub over-times : (n : ℕ) (a : ℤ) (f : Option ℕ → ℤ) → over n (λ c. a *ℤ f c) ≡ a *ℤ over n f
over-times n a f = (let b = total-times n a (λ c. f (Some c)) in let d = distribute_z a (total n (λ c. f (Some c))) (f None) in omega (arith, ints, b, d))

pub over-zero : (n : ℕ) (f : Option ℕ → ℤ) → ((c : Option ℕ) → Inside n c → f c ≡ pos 0) → over n f ≡ pos 0
over-zero n f h = (let a = total-zero n (λ c. f (Some c)) (λ c l. h (Some c) l) in let b = h None tt in omega (arith, ints, a, b))

pub over-neg : (n : ℕ) (f g : Option ℕ → ℤ) → ((c : Option ℕ) → Inside n c → f c ≡ neg_ℤ (g c)) → over n f ≡ neg_ℤ (over n g)
over-neg n f g h =
    let a = over-same n f (λ c. pos 0 -ℤ g c) (λ c l. let e = h c l in omega (arith, ints, e)) in
    let b = over-less n (λ c. pos 0) g in
    let z = over-zero n (λ c. pos 0) (λ c l. refl) in
    omega (arith, ints, a, b, z)

pub over-total : (n m : ℕ) (f : Option ℕ → ℕ → ℤ) → over n (λ c. total m (λ k. f c k)) ≡ total m (λ k. over n (λ c. f c k))
over-total n m f =
    let a = total-swap n m (λ c k. f (Some c) k) in
    let b = total-add m (λ k. total n (λ c. f (Some c) k)) (λ k. f None k) in
    omega (arith, ints, a, b)

-- ---- tests
pub if_true : (b : Bool) (x y : ℤ) → b ≡ true → (if b then x else y) ≡ x
if_true true x y e = refl
if_true false x y e = cc

pub if_false : (b : Bool) (x y : ℤ) → b ≡ false → (if b then x else y) ≡ y
if_false true x y e = cc
if_false false x y e = refl

pub if_times : (b : Bool) (x : ℤ) → (if b then pos 1 else pos 0) *ℤ x ≡ (if b then x else pos 0)
if_times true x = omega (arith, ints)
if_times false x = omega (arith, ints)

pub opposite_is : (x : ℤ) → neg_ℤ x ≡ pos 0 -ℤ x
opposite_is x = omega (arith, ints)

-- ---- one place of a sum
none_picked : (n t : ℕ) (g : ℕ → ℤ) → n ≤ t → total n (λ l. if t == l then g l else pos 0) ≡ pos 0
none_picked n t g h = total-zero n (λ l. if t == l then g l else pos 0) (λ l k. if_false (t == l) (g l) (pos 0) (ne_eqb t l (λ e. omega (arith, e, h, k))))

pub picked : (n t : ℕ) (g : ℕ → ℤ) → t < n → total n (λ l. if t == l then g l else pos 0) ≡ g t
picked zero t g h = absurd (omega (arith, h))
picked (suc n) t g h = elim (same_or_below n t h) [
  | inl e ↦ (
      let a = none_picked n t g (omega (arith, e)) in
      let b = if_true (t == n) (g n) (pos 0) (eq-eqb t n e) in
      let c = ap g e in
      omega (arith, ints, a, b, c))
  | inr l ↦ (
      let a = picked n t g l in
      let b = if_false (t == n) (g n) (pos 0) (ne_eqb t n (λ e. omega (arith, e, l))) in
      omega (arith, ints, a, b))
]

pub unit_times : (n : ℕ) (m : Option ℕ) (p : Option ℕ → ℤ) → Inside n m → over n (λ c. unit_at m c *ℤ p c) ≡ p m
unit_times n None p h = (let a = total-zero n (λ c. unit_at None (Some c) *ℤ p (Some c)) (λ c l. omega (arith, ints)) in omega (arith, ints, a))
unit_times n (Some j) p h =
    let a = total-same n (λ c. unit_at (Some j) (Some c) *ℤ p (Some c)) (λ c. if j == c then p (Some c) else pos 0) (λ c l. if_times (j == c) (p (Some c))) in
    let b = picked n j (λ c. p (Some c)) h in
    let z : unit_at (Some j) None *ℤ p None ≡ pos 0 = omega (arith, ints) in
    omega (arith, ints, a, b, z)
