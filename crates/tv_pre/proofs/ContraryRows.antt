-- Rows of opposite comparisons: the coefficients of the one are those of the other with the signs turned.
use Rattle.std.proofs.Common.{◌≡◌, inl, inr, ℕ, zero, suc, ◌<◌, List, [], ◌∷◌, map, refl, sym, ap, ◌∙◌, subst, arith, ℤ, pos, negsuc, ◌+ℤ◌, ◌-ℤ◌, ◌*ℤ◌, ◌≤ℤ◌}
use Rattle.std.proofs.lemmas.Int.{ints}
use Rattle.std.specs.Prelude.{neg_ℤ, unsigned_abs, slice_index_or}
use Rattle.tv_linear.specs.Linear.{Linear}
use Rattle.tv_linear.specs.Arithmetic.{plus_each}
use Rattle.tv_linear.specs.Tight.{gcd, divisor_from, divisor, rounded_up, divided_unless_zero, tight}
use Rattle.std.proofs.Math.IntN.{*ℤ_comm, neg_ℤ-neg_ℤ}
use Rattle.tv_linear.proofs.Ring.{distribute_z, neg_times_z, not_above, one_or_other}
use Rattle.tv_linear.proofs.Euclid.{AllMultiples, divisor_from-multiples}
use Rattle.tv_linear.proofs.Tightened.{rounded_up-multiple}
use Rattle.tv_cases.specs.Lists.{at_most}
use Rattle.tv_region.specs.Differences.{IsDifference}
use Rattle.tv_region.proofs.DifferenceLemmas.{number-neg}

all_turned_twice : (zs : List ℤ) → map neg_ℤ (map neg_ℤ zs) ≡ zs
all_turned_twice [] = refl
all_turned_twice (z ∷ zs) = λ i. neg_ℤ-neg_ℤ z i ∷ all_turned_twice zs i

-- ---- differences of two rows
turned_sum : (x y : ℤ) → (y +ℤ neg_ℤ x) ≡ neg_ℤ (x +ℤ neg_ℤ y)
turned_sum x y = omega (arith, ints)

turned_sums : (xs ys : List ℤ) → plus_each ys (map neg_ℤ xs) ≡ map neg_ℤ (plus_each xs (map neg_ℤ ys))
turned_sums [] [] = refl
turned_sums [] (y ∷ ys) = sym (all_turned_twice (y ∷ ys))
turned_sums (x ∷ xs) [] = refl
turned_sums (x ∷ xs) (y ∷ ys) = λ i. turned_sum x y i ∷ turned_sums xs ys i

-- ---- their greatest divisor
same_size : (z : ℤ) → unsigned_abs (neg_ℤ z) ≡ unsigned_abs z
same_size (pos zero) = refl
same_size (pos (suc n)) = refl
same_size (negsuc n) = refl

same_divisor : (g : ℕ) (zs : List ℤ) → divisor_from g (map neg_ℤ zs) ≡ divisor_from g zs
same_divisor g [] = refl
same_divisor g (z ∷ zs) = ap (λ n. divisor_from (gcd g n) (map neg_ℤ zs)) (same_size z) ∙ same_divisor (gcd g (unsigned_abs z)) zs

-- ---- divided by it
times_neg : (a b : ℤ) → (a *ℤ neg_ℤ b) ≡ neg_ℤ (a *ℤ b)
times_neg a b = *ℤ_comm a (neg_ℤ b) ∙ neg_times_z b a ∙ ap neg_ℤ (*ℤ_comm b a)

not_above_zero : (g : ℕ) (z : ℤ) → 0 < g → (pos g *ℤ z) ≡ pos 0 → z ≤ℤ pos 0
not_above_zero g z p e = elim (one_or_other z) [
  | inl low ↦ low
  | inr high ↦ (
      let a = not_above (pos g) (pos 1 -ℤ z) (omega (arith, ints)) high in
      let b = distribute_z (pos g) z (pos 1 -ℤ z) in
      let one : (z +ℤ (pos 1 -ℤ z)) ≡ pos 1 = omega (arith, ints) in
      let c : (pos g *ℤ pos 1) ≡ ((pos g *ℤ z) +ℤ (pos g *ℤ (pos 1 -ℤ z))) = subst (λ x. (pos g *ℤ x) ≡ ((pos g *ℤ z) +ℤ (pos g *ℤ (pos 1 -ℤ z)))) one b in
      absurd (omega (arith, ints, a, c, e, p)))
]

cancelled : (g : ℕ) (x y : ℤ) → 0 < g → (pos g *ℤ x) ≡ neg_ℤ (pos g *ℤ y) → x ≡ neg_ℤ y
cancelled g x y p e =
    let a = distribute_z (pos g) x y in
    let b = distribute_z (pos g) (neg_ℤ x) (neg_ℤ y) in
    let f : (pos g *ℤ neg_ℤ x) ≡ neg_ℤ (pos g *ℤ x) = times_neg (pos g) x in
    let h : (pos g *ℤ neg_ℤ y) ≡ neg_ℤ (pos g *ℤ y) = times_neg (pos g) y in
    let low = not_above_zero g (x +ℤ y) p (omega (arith, ints, a, e)) in
    let high = not_above_zero g (neg_ℤ x +ℤ neg_ℤ y) p (omega (arith, ints, b, f, h, e)) in
    omega (arith, ints, low, high)

turned_quotients : (g : ℕ) (zs : List ℤ) → 0 < g → AllMultiples g zs → AllMultiples g (map neg_ℤ zs) → map (rounded_up g) (map neg_ℤ zs) ≡ map neg_ℤ (map (rounded_up g) zs)
turned_quotients g [] p m n = refl
turned_quotients g (z ∷ zs) p m n =
    let a = rounded_up-multiple g z p m.0 in
    let b = rounded_up-multiple g (neg_ℤ z) p n.0 in
    let one = cancelled g (rounded_up g (neg_ℤ z)) (rounded_up g z) p (b ∙ ap neg_ℤ (sym a)) in
    λ i. one i ∷ turned_quotients g zs p m.1 n.1 i

by_divisor : (g : ℕ) (r q : Linear) → AllMultiples g r.coefficients → AllMultiples g q.coefficients → q.coefficients ≡ map neg_ℤ r.coefficients →
    (divided_unless_zero g q).coefficients ≡ map neg_ℤ (divided_unless_zero g r).coefficients
by_divisor zero r q m n e = e
by_divisor (suc g) r q m n e =
    ap (map (rounded_up (suc g))) e ∙ turned_quotients (suc g) r.coefficients (omega arith) m (subst (AllMultiples (suc g)) e n)

turned_tight : (r q : Linear) → q.coefficients ≡ map neg_ℤ r.coefficients → (tight q).coefficients ≡ map neg_ℤ (tight r).coefficients
turned_tight r q e =
    let d : divisor q.coefficients ≡ divisor r.coefficients = ap divisor e ∙ same_divisor 0 r.coefficients in
    ap (λ g. (divided_unless_zero g q).coefficients) d
    ∙ by_divisor (divisor r.coefficients) r q (divisor_from-multiples 0 r.coefficients) (subst (λ g. AllMultiples g q.coefficients) d (divisor_from-multiples 0 q.coefficients)) e

-- ---- differences of two variables
is_added : (z : ℤ) → neg_ℤ z ≡ pos 1 → z ≡ negsuc 0
is_added z e = omega (arith, ints, e)

is_taken_off : (z : ℤ) → neg_ℤ z ≡ negsuc 0 → z ≡ pos 1
is_taken_off z e = omega (arith, ints, e)

turned_difference : (t u : Linear) → u.coefficients ≡ map neg_ℤ t.coefficients → IsDifference t → IsDifference u
turned_difference t u e d = record {
  each = λ j. elim (d.each j) [
    | inl z ↦ inl (at j ∙ ap neg_ℤ z)
    | inr y ↦ elim y [ inl z ↦ inr (inr (at j ∙ ap neg_ℤ z)) | inr z ↦ inr (inl (at j ∙ ap neg_ℤ z)) ]
  ];
  one_added = λ i j p q. d.one_taken_off i j (is_added _ (sym (at i) ∙ p)) (is_added _ (sym (at j) ∙ q));
  one_taken_off = λ i j p q. d.one_added i j (is_taken_off _ (sym (at i) ∙ p)) (is_taken_off _ (sym (at j) ∙ q));
}
  where
    at : (j : ℕ) → slice_index_or u.coefficients j (pos 0) ≡ neg_ℤ (slice_index_or t.coefficients j (pos 0))
    at j = ap (λ zs. slice_index_or zs j (pos 0)) e ∙ number-neg t.coefficients j

pub contrary : (z w : ℤ) (a b : Linear) → IsDifference (at_most z a b) → IsDifference (at_most w b a)
contrary z w a b d = turned_difference (at_most z a b) (at_most w b a) (turned_tight _ _ (turned_sums a.coefficients b.coefficients)) d
