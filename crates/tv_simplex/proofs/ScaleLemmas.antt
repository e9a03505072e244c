use Rattle.std.proofs.Common.{◌++◌, length-append, ◌≡◌, inl, inr, ℕ, zero, suc, ◌+◌, ◌*◌, ◌/◌, ◌^◌, ◌<◌, ◌≤◌, List, [], ◌∷◌, length, get_or, arith, refl, sym, ap, ◌∙◌, subst, ℤ, pos, negsuc, ◌*ℤ◌, ◌<ℤ◌, unsigned_abs}
use Rattle.std.proofs.lemmas.Int.{ints, unsigned_abs-mul}
use Rattle.std.proofs.Math.IntN.{*ℤ_comm}
use Rattle.std.proofs.Math.Nat.{one-dvd, dvd-mul_left, dvd-mul_right, div-mul_cancel, mul-div_cancel', le_of_dvd, le_of_mul-le-mul_right}
use Rattle.std.specs.Int.{IsGcd}
use Prim.Native.Nat.{◌∣◌}
use Rattle.tv_linear.proofs.Ring.{mul_assoc_z}
use Rattle.tv_fraction.proofs.Lowest.{divides}
use Rattle.tv_fraction.proofs.LowestTerms.{gcd_above, lowest_same, lowest_above, lowest_coprime}
use Rattle.tv_fraction.specs.Coprime.{AreCoprime}
use Rattle.tv_fraction.specs.declared.Fraction.{Fraction}
use Rattle.tv_simplex.specs.Rows.{ratio}
use Rattle.tv_simplex.specs.Scales.{ratio_at, numerator_at, denominator_at, IsMultiple, IsCommon, HasNoCommon, IsLarger, HasNoLarger, IsTimes, HaveScale}
use Rattle.std.proofs.lemmas.Bool.{cases_lt}
use Rattle.tv_linear.proofs.ListLaws.{last_or_below}

pub get_or-append-last : {A : Type 0} (xs : List A) (x : A) (n : ℕ) (d : A) → length xs ≡ n → get_or (xs ++ x ∷ []) n d ≡ x
get_or-append-last [] x zero d e = refl
get_or-append-last [] x (suc n) d e = absurd (omega (arith, e))
get_or-append-last (y ∷ ys) x zero d e = absurd (omega (arith, e))
get_or-append-last (y ∷ ys) x (suc n) d e = get_or-append-last ys x n d (omega (arith, e))

pub get_or-append-before : {A : Type 0} (xs : List A) (x : A) (j : ℕ) (d : A) → j < length xs → get_or (xs ++ x ∷ []) j d ≡ get_or xs j d
get_or-append-before [] x j d h = absurd (omega (arith, h))
get_or-append-before (y ∷ ys) x zero d h = refl
get_or-append-before (y ∷ ys) x (suc j) d h = get_or-append-before ys x j d (omega (arith, h))

-- ---- lists of fractions
pub at_get : (xs : List Fraction) (j : ℕ) (d : Fraction) → j < length xs → ratio (get_or xs j d) ≡ ratio_at xs j
at_get [] j d h = absurd (omega arith)
at_get (x ∷ xs) zero d h = refl
at_get (x ∷ xs) (suc j) d h = at_get xs j d (omega arith)

pub at_end : (xs : List Fraction) (f : Fraction) (n : ℕ) → length xs ≡ n → ratio_at (xs ++ f ∷ []) n ≡ ratio f
at_end [] f zero e = refl
at_end [] f (suc n) e = absurd (omega (arith, e))
at_end (x ∷ xs) f zero e = absurd (omega (arith, e))
at_end (x ∷ xs) f (suc n) e = at_end xs f n (omega (arith, e))

pub before_end : (xs : List Fraction) (f : Fraction) (j : ℕ) → j < length xs → ratio_at (xs ++ f ∷ []) j ≡ ratio_at xs j
before_end [] f j h = absurd (omega (arith, h))
before_end (x ∷ xs) f zero h = refl
before_end (x ∷ xs) f (suc j) h = before_end xs f j (omega (arith, h))

above_product : (a b : ℕ) → 0 < a → 0 < b → 0 < a * b
above_product a b h k = grind arith

divides_through : (a b c : ℕ) → a ∣ b → b ∣ c → a ∣ c
divides_through a b c h k =
    let e : a * (b / a) ≡ b = mul-div_cancel' a h in
    let f : b * (c / b) ≡ c = mul-div_cancel' b k in
    let g : a * ((b / a) * (c / b)) ≡ c = (let x = ap (λ z. z * (c / b)) e in omega (arith, x, f)) in
    subst (λ z. a ∣ z) g (dvd-mul_right a ((b / a) * (c / b)))

cancelled : (g x y : ℕ) → 0 < g → x * g ≡ y * g → x ≡ y
cancelled g x y p e =
    let l : x ≤ y = le_of_mul-le-mul_right (let m : x * g ≤ y * g = omega (arith, e) in m) p in
    let k : y ≤ x = le_of_mul-le-mul_right (let m : y * g ≤ x * g = omega (arith, e) in m) p in
    omega (arith, l, k)

-- the product over the greatest common divisor is the least common multiple
least_multiple : (a b g k : ℕ) → 0 < b → IsGcd a b g → a ∣ k → b ∣ k → a / g * b ∣ k
least_multiple a b g k some h p q =
    let x = a / g in
    let y = b / g in
    let u = k / a in
    let v = k / b in
    let eg = gcd_above a b g some h in
    let ea : x * g ≡ a = div-mul_cancel g h.0 in
    let eb : y * g ≡ b = div-mul_cancel g h.1 in
    let eu : a * u ≡ k = mul-div_cancel' a p in
    let ev : b * v ≡ k = mul-div_cancel' b q in
    let s : (x * u) * g ≡ (y * v) * g = (let m = ap (λ z. z * u) ea in let n = ap (λ z. z * v) eb in omega (arith, m, n, eu, ev)) in
    let t : x * u ≡ y * v = cancelled g (x * u) (y * v) eg s in
    let d : y ∣ u = divides (x + y + 1) x y u (omega arith) (lowest_above a b g some h) (lowest_coprime a b g some h) (subst (λ z. y ∣ z) (sym t) (dvd-mul_right y v)) in
    let w = u / y in
    let ew : y * w ≡ u = mul-div_cancel' y d in
    let f : (x * b) * w ≡ k = (let m = ap (λ z. a * z) ew in let n = ap (λ z. z * (y * w)) ea in let o = ap (λ z. (x * z) * w) eb in omega (arith, m, n, o, eu)) in
    subst (λ z. x * b ∣ z) f (dvd-mul_right (x * b) w)

pub is_larger : (a b g : ℕ) → 0 < a → 0 < b → IsGcd a b g → a / g * b < 2 ^ 62 → IsLarger a b (a / g * b)
is_larger a b g pa pb h short = record {
  positive = subst (λ z. 0 < z) (sym (lowest_same a b g h)) (above_product a (b / g) pa (lowest_above a b g pb h));
  short = short;
  first = subst (λ z. a ∣ z) (sym (lowest_same a b g h)) (dvd-mul_right a (b / g));
  second = dvd-mul_left b (a / g);
  least = λ k p q. least_multiple a b g k pb h p q;
}

pub no_larger : (a b g : ℕ) → 0 < a → 0 < b → IsGcd a b g → 2 ^ 62 ≤ a / g * b → HasNoLarger a b
no_larger a b g pa pb h wide k above p q = (let l = le_of_dvd above (least_multiple a b g k pb h p q) in omega (arith, l, wide))

pub common_none : (fractions : List Fraction) → IsCommon fractions 0 1
common_none fractions = record {
  positive = omega arith;
  short = omega arith;
  multiple = λ j l. absurd (omega arith);
  least = λ k h. one-dvd k;
}

pub common_more : (fractions : List Fraction) (n s d t : ℕ) → d ≡ unsigned_abs (denominator_at fractions n) → IsCommon fractions n s → IsLarger s d t → IsCommon fractions (n + 1) t
common_more fractions n s d t e h k = record {
  positive = k.positive;
  short = k.short;
  multiple = λ j l. elim (last_or_below n j l) [
    | inl g ↦ subst (λ z. z ∣ t) (e ∙ ap (λ z. unsigned_abs (denominator_at fractions z)) (sym g)) k.second
    | inr g ↦ divides_through (unsigned_abs (denominator_at fractions j)) s t (h.multiple j g) k.first
  ];
  least = λ m all. k.least m (h.least m (λ j l. all j (omega arith))) (subst (λ z. z ∣ m) (sym e) (all n (omega arith)));
}

pub common_ends : (fractions : List Fraction) (n s d : ℕ) → n < length fractions → d ≡ unsigned_abs (denominator_at fractions n) → IsCommon fractions n s → HasNoLarger s d → HasNoCommon fractions (length fractions)
common_ends fractions n s d n_in e h none k above all = none k above (h.least k (λ j l. all j (omega arith))) (subst (λ z. z ∣ k) (sym e) (all n n_in))

-- ---- a fraction times a multiple of its denominator
magnitude : (z : ℤ) → pos 0 <ℤ z → z ≡ pos (unsigned_abs z)
magnitude (pos n) h = refl
magnitude (negsuc n) h = absurd (omega (arith, ints, h))

pub is_times : (f : Fraction) (scale : ℕ) (whole : ℤ) → unsigned_abs f.denominator ∣ scale → whole ≡ f.numerator *ℤ pos (scale / unsigned_abs f.denominator) → IsTimes f (pos scale) whole
is_times f scale whole h e =
    let d = unsigned_abs f.denominator in
    let q = scale / d in
    let m : q * d ≡ scale = div-mul_cancel d h in
    let p : pos q *ℤ pos d ≡ pos scale = ap pos m in
    ap (λ z. z *ℤ f.denominator) e
    ∙ mul_assoc_z f.numerator (pos q) f.denominator
    ∙ ap (λ z. f.numerator *ℤ z) (ap (λ z. pos q *ℤ z) (magnitude f.denominator f.positive) ∙ p)
    ∙ *ℤ_comm f.numerator (pos scale)

reduced_at : (xs : List Fraction) (j : ℕ) → j < length xs → AreCoprime (unsigned_abs (numerator_at xs j)) (unsigned_abs (denominator_at xs j))
reduced_at [] j h = absurd (omega arith)
reduced_at (x ∷ xs) zero h = x.reduced
reduced_at (x ∷ xs) (suc j) h = reduced_at xs j (omega arith)

positive_at : (xs : List Fraction) (j : ℕ) → j < length xs → pos 0 <ℤ denominator_at xs j
positive_at [] j h = absurd (omega arith)
positive_at (x ∷ xs) zero h = x.positive
positive_at (x ∷ xs) (suc j) h = positive_at xs j (omega arith)

pub above_size : (z : ℤ) → pos 0 <ℤ z → 0 < unsigned_abs z
above_size z h = grind (arith, ints)

-- a scale is a common multiple of the denominators
pub scale_multiple : (fractions : List Fraction) (h : HaveScale fractions) → IsMultiple fractions (length fractions) (unsigned_abs h.scale)
scale_multiple fractions h j l =
    let x = unsigned_abs (numerator_at fractions j) in
    let y = unsigned_abs (denominator_at fractions j) in
    let e : unsigned_abs (h.whole j) * y ≡ unsigned_abs h.scale * x = sym (unsigned_abs-mul (h.whole j) (denominator_at fractions j)) ∙ ap unsigned_abs (h.same j l) ∙ unsigned_abs-mul h.scale (numerator_at fractions j) in
    let f : x * unsigned_abs h.scale ≡ unsigned_abs (h.whole j) * y = omega (arith, e) in
    divides (x + y + 1) x y (unsigned_abs h.scale) (omega arith) (above_size (denominator_at fractions j) (positive_at fractions j l)) (reduced_at fractions j l) (subst (λ z. y ∣ z) (sym f) (dvd-mul_left y (unsigned_abs (h.whole j))))

pub no_scale : (fractions : List Fraction) → HasNoCommon fractions (length fractions) → HaveScale fractions → ⊥
no_scale fractions none h =
    let w = none (unsigned_abs h.scale) (above_size h.scale h.positive) (scale_multiple fractions h) in
    let s = h.scale_short in
    absurd (omega (arith, w, s))

pub not_below : (p q : ℕ) → (p < q → ⊥) → q ≤ p
not_below p q h = elim (cases_lt p q) [ inl g ↦ absurd (h g) | inr g ↦ g ]

pub scaled_up : (s k x : ℕ) → s ≤ k → s * x ≤ k * x
scaled_up s k x h = grind arith

-- an integer that is too great is so for each greater scale
pub no_scale_at : (fractions : List Fraction) (scale j : ℕ) (f : Fraction) (whole : ℤ) → j < length fractions → ratio f ≡ ratio_at fractions j → IsCommon fractions (length fractions) scale → IsTimes f (pos scale) whole → 2 ^ 62 ≤ unsigned_abs whole → HaveScale fractions → ⊥
no_scale_at fractions scale j f whole l e c t wide h =
    let x = unsigned_abs (numerator_at fractions j) in
    let y = unsigned_abs (denominator_at fractions j) in
    let en : f.numerator ≡ numerator_at fractions j = ap (λ r. r.numerator) e in
    let ed : f.denominator ≡ denominator_at fractions j = ap (λ r. r.denominator) e in
    let t' : whole *ℤ denominator_at fractions j ≡ pos scale *ℤ numerator_at fractions j = ap (λ z. whole *ℤ z) (sym ed) ∙ t ∙ ap (λ z. pos scale *ℤ z) en in
    let a : unsigned_abs whole * y ≡ scale * x = sym (unsigned_abs-mul whole (denominator_at fractions j)) ∙ ap unsigned_abs t' ∙ unsigned_abs-mul (pos scale) (numerator_at fractions j) in
    let b : unsigned_abs (h.whole j) * y ≡ unsigned_abs h.scale * x = sym (unsigned_abs-mul (h.whole j) (denominator_at fractions j)) ∙ ap unsigned_abs (h.same j l) ∙ unsigned_abs-mul h.scale (numerator_at fractions j) in
    let le : scale ≤ unsigned_abs h.scale = le_of_dvd (above_size h.scale h.positive) (c.least (unsigned_abs h.scale) (scale_multiple fractions h)) in
    let up = scaled_up scale (unsigned_abs h.scale) x le in
    let m : unsigned_abs whole ≤ unsigned_abs (h.whole j) = le_of_mul-le-mul_right (let n : unsigned_abs whole * y ≤ unsigned_abs (h.whole j) * y = omega (arith, a, b, up) in n) (above_size (denominator_at fractions j) (positive_at fractions j l)) in
    let s = h.short j l in
    absurd (omega (arith, m, wide, s))

-- one more integer
pub scaled_more : (fractions : List Fraction) (scale n : ℕ) (f : Fraction) (whole : ℤ) (numbers new : List ℤ) → n < length fractions → ratio f ≡ ratio_at fractions n → IsTimes f (pos scale) whole → unsigned_abs whole < 2 ^ 62 → new ≡ numbers ++ whole ∷ [] → length numbers ≡ n →
    ((j : ℕ) → j < n → get_or numbers j (pos 0) *ℤ denominator_at fractions j ≡ pos scale *ℤ numerator_at fractions j) → ((j : ℕ) → j < n → unsigned_abs (get_or numbers j (pos 0)) < 2 ^ 62) →
    (length new ≡ n + 1) × ((j : ℕ) → j < n + 1 → get_or new j (pos 0) *ℤ denominator_at fractions j ≡ pos scale *ℤ numerator_at fractions j) × ((j : ℕ) → j < n + 1 → unsigned_abs (get_or new j (pos 0)) < 2 ^ 62)
scaled_more fractions scale n f whole numbers new l e t short is size same shorts = (
  ap length is ∙ length-append numbers (whole ∷ []) ∙ (let g : length numbers + 1 ≡ n + 1 = omega (arith, size) in g),
  λ j j_in. elim (last_or_below n j j_in) [
    | inl g ↦ subst (λ z. get_or new z (pos 0) *ℤ denominator_at fractions z ≡ pos scale *ℤ numerator_at fractions z) (sym g)
        (subst (λ z. z *ℤ denominator_at fractions n ≡ pos scale *ℤ numerator_at fractions n) (sym at_end) (subst (λ r. whole *ℤ r.denominator ≡ pos scale *ℤ r.numerator) e t))
    | inr g ↦ subst (λ z. z *ℤ denominator_at fractions j ≡ pos scale *ℤ numerator_at fractions j) (sym (before j g)) (same j g)
  ],
  λ j j_in. elim (last_or_below n j j_in) [
    | inl g ↦ subst (λ z. unsigned_abs (get_or new z (pos 0)) < 2 ^ 62) (sym g) (subst (λ z. unsigned_abs z < 2 ^ 62) (sym at_end) short)
    | inr g ↦ subst (λ z. unsigned_abs z < 2 ^ 62) (sym (before j g)) (shorts j g)
  ],
)
  where
    at_end : get_or new n (pos 0) ≡ whole
    at_end = ap (λ xs. get_or xs n (pos 0)) is ∙ get_or-append-last numbers whole n (pos 0) size

    before : (j : ℕ) → j < n → get_or new j (pos 0) ≡ get_or numbers j (pos 0)
    before j g = ap (λ xs. get_or xs j (pos 0)) is ∙ get_or-append-before numbers whole j (pos 0) (omega (arith, size, g))
