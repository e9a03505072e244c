use Rattle.std.proofs.Common.{◌≡◌, inl, inr, ℕ, zero, suc, ◌+◌, ◌<◌, List, [], ◌∷◌, ◌++◌, length, length-append, get_or, arith, sym, ap, ◌∙◌, subst, ℤ, pos, negsuc, ◌+ℤ◌, ◌-ℤ◌, ◌*ℤ◌, ◌<ℤ◌, ◌≤ℤ◌}
use Rattle.std.specs.Int.{int_div_euclid}
use Rattle.std.proofs.lemmas.Int.{ints}
use Rattle.std.proofs.Math.IntN.{*ℤ_comm}
use Rattle.tv_linear.proofs.Tightened.{floor-bounds}
use Rattle.tv_linear.proofs.ListLaws.{last_or_below}
use Rattle.tv_simplex.proofs.Ring.{by_sign, less_times, times_less, under_times, not_under_times}
use Rattle.tv_simplex.specs.Outcomes.{IsShort}
use Rattle.tv_simplex.proofs.ScaleLemmas.{get_or-append-last, get_or-append-before}
use Rattle.tv_farkas.specs.Paths.{IsWholeAt}
use Rattle.tv_farkas.specs.Stretching.{IsFloor, AreDivided}

pub one_more : (k z : ℤ) → (k +ℤ pos 1) *ℤ z ≡ k *ℤ z +ℤ z
one_more k z =
    let d = less_times (k +ℤ pos 1) (pos 1) z in
    let e : (k +ℤ pos 1) -ℤ pos 1 ≡ k = omega (arith, ints) in
    let f = ap (λ y. y *ℤ z) e in
    omega (arith, ints, d, f)

pub is_floor : (x z : ℤ) → pos 0 <ℤ z → IsFloor x z (int_div_euclid x z)
is_floor x (pos zero) h = absurd (omega (arith, ints, h))
is_floor x (negsuc n) h = absurd (omega (arith, ints, h))
is_floor x (pos (suc n)) h =
    let b = floor-bounds (suc n) x (omega arith) in
    let q = int_div_euclid x (pos (suc n)) in
    let c = *ℤ_comm (pos (suc n)) q in
    let o = one_more q (pos (suc n)) in
    record { below = omega (arith, ints, b.0, c); above = omega (arith, ints, b.1, c, o) }

-- an integer is its own floor
pub floor_same : (x z k q : ℤ) → pos 0 <ℤ z → IsFloor x z k → x ≡ q *ℤ z → k *ℤ z ≡ x
floor_same x z k q p f e =
    let d = less_times q k z in
    let b = f.below in
    let a = f.above in
    let o = one_more k z in
    elim (by_sign (q -ℤ k)) [
      | inl low ↦ (let u = under_times (q -ℤ k) z low p in absurd (omega (arith, ints, u, d, b, e)))
      | inr w ↦ elim w [
        | inl same ↦ (let g : q ≡ k = omega (arith, ints, same) in ap (λ y. y *ℤ z) (sym g) ∙ sym e)
        | inr high ↦ (
            let u = not_under_times (q -ℤ k -ℤ pos 1) z (omega (arith, ints, high)) (omega (arith, ints, p)) in
            let g = less_times (q -ℤ k) (pos 1) z in
            absurd (omega (arith, ints, u, g, d, a, o, e)))
      ]
    ]

-- a number that is not its floor is not whole
pub not_whole : (values : List ℤ) (z k : ℤ) (j : ℕ) → pos 0 <ℤ z → IsFloor (get_or values j (pos 0)) z k → (k *ℤ z ≡ get_or values j (pos 0) → ⊥) → IsWholeAt values z j → ⊥
not_whole values z k j p f h w = h (floor_same (get_or values j (pos 0)) z k w.0 p f w.1)

pub whole_more : (values : List ℤ) (z k : ℤ) (n : ℕ) → k *ℤ z ≡ get_or values n (pos 0) → ((j : ℕ) → j < n → IsWholeAt values z j) → (j : ℕ) → j < n + 1 → IsWholeAt values z j
whole_more values z k n e h j l = elim (last_or_below n j l) [
  | inl g ↦ subst (λ i. IsWholeAt values z i) (sym g) (k, sym e)
  | inr g ↦ h j g
]

pub divided_more : (values : List ℤ) (z k : ℤ) (n : ℕ) (xs new : List ℤ) → pos 0 <ℤ z → IsFloor (get_or values n (pos 0)) z k → IsShort k → IsWholeAt values z n → new ≡ xs ++ k ∷ [] → AreDivided n values z xs → AreDivided (n + 1) values z new
divided_more values z k n xs new p f s w e h = subst (λ r. AreDivided (n + 1) values z r) (sym e) record {
  size = length-append xs (k ∷ []) ∙ (let s = h.size in let g : length xs + 1 ≡ n + 1 = omega (arith, s) in g);
  same = λ j l. elim (last_or_below n j l) [
    | inl g ↦ subst (λ i. get_or values i (pos 0) ≡ get_or (xs ++ k ∷ []) i (pos 0) *ℤ z) (sym g) (sym (floor_same (get_or values n (pos 0)) z k w.0 p f w.1) ∙ ap (λ y. y *ℤ z) (sym (get_or-append-last xs k n (pos 0) h.size)))
    | inr g ↦ h.same j g ∙ ap (λ y. y *ℤ z) (sym (get_or-append-before xs k j (pos 0) (let s = h.size in omega (arith, s, g))))
  ];
  short = λ j l. elim (last_or_below n j l) [
    | inl g ↦ subst (λ i. IsShort (get_or (xs ++ k ∷ []) i (pos 0))) (sym g) (subst (λ y. IsShort y) (sym (get_or-append-last xs k n (pos 0) h.size)) s)
    | inr g ↦ subst (λ y. IsShort y) (sym (get_or-append-before xs k j (pos 0) (let s = h.size in omega (arith, s, g)))) (h.short j g)
  ];
}

-- the floor of a number that is not whole is followed by a short number
pub floor_short : (x z k : ℤ) → IsShort x → pos 0 <ℤ z → IsShort k → IsFloor x z k → (k *ℤ z ≡ x → ⊥) → IsShort (k +ℤ pos 1)
floor_short x z k sx p sk f never = elim (by_sign k) [
  | inl low ↦ shorter k sk low
  | inr w ↦ elim w [
    | inl same ↦ one_short k same
    | inr high ↦ (
        let u = not_under_times k (z -ℤ pos 1) (omega (arith, ints, high)) (omega (arith, ints, p)) in
        let d = times_one k z in
        let s = strictly (k *ℤ z) x f.below never in
        under_short x k sx high (omega (arith, ints, u, d, s)))
  ]
]
  where
    shorter : (y : ℤ) → IsShort y → y <ℤ pos 0 → IsShort (y +ℤ pos 1)
    shorter y h l = omega (arith, ints, h, l)

    one_short : (y : ℤ) → y ≡ pos 0 → IsShort (y +ℤ pos 1)
    one_short y e = omega (arith, ints, e)

    under_short : (y q : ℤ) → IsShort y → pos 0 <ℤ q → q <ℤ y → IsShort (q +ℤ pos 1)
    under_short y q h l g = omega (arith, ints, h, l, g)

    times_one : (a b : ℤ) → a *ℤ (b -ℤ pos 1) ≡ a *ℤ b -ℤ a
    times_one a b = times_less a b (pos 1) ∙ (let o : a *ℤ pos 1 ≡ a = omega (arith, ints) in ap (λ y. a *ℤ b -ℤ y) o)

    strictly : (a b : ℤ) → a ≤ℤ b → (a ≡ b → ⊥) → a <ℤ b
    strictly a b h g = grind (arith, ints)
