use Rattle.std.proofs.Common.{Bool, true, false, cond, ◌≡◌, inl, inr, ℕ, zero, suc, ◌+◌, ◌<◌, ◌≤◌, List, [], ◌∷◌, ◌++◌, map, length, get_or, take, drop, arith, refl, sym, ap, ◌∙◌, subst, ℤ, pos, ltb, ltb-true, ltb-false}
use Rattle.std.specs.Prelude.{nat_eq}
use Rattle.std.specs.List.{range_with_len, AllWithin}
use Rattle.std.specs.List.Sorted.{IsNonDecreasingBy}
use Rattle.std.proofs.lemmas.Bool.{cases_eq}
use Rattle.std.proofs.lemmas.Bool.Decides.{nat_tests}
use Rattle.std.proofs.lemmas.List.FromFn.{length-map-range_with_len, get_or-map-range_with_len, map-range_with_len_more}
use Rattle.tv_linear.specs.Arithmetic.{zeros}
use Rattle.tv_simplex.specs.declared.entries.Kept.{Kept}
use Rattle.tv_simplex.specs.Entries.{number_in, dense, AreOrdered, AreKept}

-- ---- the number at a place
pub number-here : (k : Kept) (ks : List Kept) (place : ℕ) → k.place ≡ place → number_in (k ∷ ks) place ≡ k.number
number-here k ks place h = at (nat_eq k.place place) (grind (arith, nat_tests))
  where
    at : (p : Bool) → p ≡ true → cond p k.number (number_in ks place) ≡ k.number
    at true g = refl
    at false g = cc

pub number-behind : (k : Kept) (ks : List Kept) (place : ℕ) → (k.place ≡ place → ⊥) → number_in (k ∷ ks) place ≡ number_in ks place
number-behind k ks place h = at (nat_eq k.place place) (grind (arith, nat_tests))
  where
    at : (p : Bool) → p ≡ false → cond p k.number (number_in ks place) ≡ number_in ks place
    at false g = refl
    at true g = cc

pub zero_before : (first end : ℕ) (ks : List Kept) (place : ℕ) → AreOrdered first end ks → place < first → number_in ks place ≡ pos 0
zero_before first end [] place h l = refl
zero_before first end (k ∷ ks) place h l = (let f = h.0 in number-behind k ks place (λ g. absurd (omega (arith, f, g, l))) ∙ zero_before (k.place + 1) end ks place h.2 (omega (arith, f, l)))

zero_after : (first end : ℕ) (ks : List Kept) (place : ℕ) → AreOrdered first end ks → end ≤ place → number_in ks place ≡ pos 0
zero_after first end [] place h l = refl
zero_after first end (k ∷ ks) place h l = (let b = h.1 in number-behind k ks place (λ g. absurd (omega (arith, b, g, l))) ∙ zero_after (k.place + 1) end ks place h.2 l)

number-last : (first end : ℕ) (ks : List Kept) (e : Kept) (place : ℕ) → AreOrdered first end ks → end ≤ place → e.place ≡ place → number_in (ks ++ e ∷ []) place ≡ e.number
number-last first end [] e place h l is = number-here e [] place is
number-last first end (k ∷ ks) e place h l is = (let b = h.1 in number-behind k (ks ++ e ∷ []) place (λ g. absurd (omega (arith, b, g, l))) ∙ number-last (k.place + 1) end ks e place h.2 l is)

number-before : (ks : List Kept) (e : Kept) (place : ℕ) → (e.place ≡ place → ⊥) → number_in (ks ++ e ∷ []) place ≡ number_in ks place
number-before [] e place o = number-behind e [] place o
number-before (k ∷ ks) e place o = elim (cases_eq k.place place) [
  | inl g ↦ number-here k (ks ++ e ∷ []) place g ∙ sym (number-here k ks place g)
  | inr n ↦ number-behind k (ks ++ e ∷ []) place n ∙ number-before ks e place o ∙ sym (number-behind k ks place n)
]

-- ---- places in order
pub ordered_wider : (first end wider : ℕ) (ks : List Kept) → AreOrdered first end ks → end ≤ wider → AreOrdered first wider ks
ordered_wider first end wider [] h l = tt
ordered_wider first end wider (k ∷ ks) h l = (h.0, (let b = h.1 in omega (arith, b, l)), ordered_wider (k.place + 1) end wider ks h.2 l)

ordered_last : (first end : ℕ) (ks : List Kept) (e : Kept) → AreOrdered first end ks → first ≤ end → e.place ≡ end → AreOrdered first (end + 1) (ks ++ e ∷ [])
ordered_last first end [] e h l is = (omega (arith, l, is), omega (arith, is), tt)
ordered_last first end (k ∷ ks) e h l is = (let b = h.1 in (h.0, omega (arith, b), ordered_last (k.place + 1) end ks e h.2 (omega (arith, b)) is))

pub ordered_push : (end : ℕ) (ks : List Kept) (e : Kept) → AreOrdered 0 end ks → e.place ≡ end → AreOrdered 0 (end + 1) (ks ++ e ∷ [])
ordered_push end ks e h is = ordered_last 0 end ks e h (omega arith) is

-- ---- the list of all numbers
pub length-dense : (ks : List Kept) (n : ℕ) → length (dense ks n) ≡ n
length-dense ks n = length-map-range_with_len (number_in ks) 0 n

map_same : (f g : ℕ → ℤ) (a n : ℕ) → ((j : ℕ) → a ≤ j → j < a + n → f j ≡ g j) → map f (range_with_len a n) ≡ map g (range_with_len a n)
map_same f g a zero h = refl
map_same f g a (suc n) h = (λ i. h a (omega arith) (omega arith) i ∷ map_same f g (a + 1) n (λ j low up. h j (omega (arith, low)) (omega (arith, up))) i)

pub dense_push : (ks : List Kept) (n : ℕ) (e : Kept) → AreOrdered 0 n ks → e.place ≡ n → dense (ks ++ e ∷ []) (n + 1) ≡ dense ks n ++ e.number ∷ []
dense_push ks n e h is =
    let f = number_in (ks ++ e ∷ []) in
    map-range_with_len_more f 0 n n (omega arith)
    ∙ (λ i. map_same f (number_in ks) 0 n (λ j low up. number-before ks e j (λ g. absurd (omega (arith, is, g, up)))) i ++ number-last 0 n ks e n h (omega arith) is i ∷ [])

all_zero : (f : ℕ → ℤ) (a c : ℕ) → ((j : ℕ) → a ≤ j → f j ≡ pos 0) → map f (range_with_len a c) ≡ zeros c
all_zero f a zero h = refl
all_zero f a (suc c) h = (λ i. h a (omega arith) i ∷ all_zero f (a + 1) c (λ j low. h j (omega (arith, low))) i)

zero_behind : (f : ℕ → ℤ) (a n c : ℕ) → ((j : ℕ) → a + n ≤ j → f j ≡ pos 0) → map f (range_with_len a (n + c)) ≡ map f (range_with_len a n) ++ zeros c
zero_behind f a zero c h = ap (λ k. map f (range_with_len a k)) (let e : zero + c ≡ c = omega arith in e) ∙ all_zero f a c (λ j low. h j (omega (arith, low)))
zero_behind f a (suc n) c h =
    ap (λ k. map f (range_with_len a k)) (let e : suc n + c ≡ suc (n + c) = omega arith in e)
    ∙ (λ i. f a ∷ zero_behind f (a + 1) n c (λ j low. h j (omega (arith, low))) i)

pub dense_zeros : (ks : List Kept) (n c : ℕ) → AreOrdered 0 n ks → dense ks (n + c) ≡ dense ks n ++ zeros c
dense_zeros ks n c h = zero_behind (number_in ks) 0 n c (λ j low. zero_after 0 n ks j h (omega (arith, low)))

-- ---- a stretch of them
number-taken : (place end i : ℕ) (ks : List Kept) (p first : ℕ) → AreOrdered first end ks → AreOrdered place end (drop i ks) → p < place → number_in (take i ks) p ≡ number_in ks p
number-taken place end zero ks p first o h l = sym (zero_before place end ks p h l)
number-taken place end (suc i) [] p first o h l = refl
number-taken place end (suc i) (k ∷ ks) p first o h l = elim (cases_eq k.place p) [
  | inl g ↦ number-here k (take i ks) p g ∙ sym (number-here k ks p g)
  | inr n ↦ number-behind k (take i ks) p n ∙ number-taken place end i ks p (k.place + 1) o.2 h l ∙ sym (number-behind k ks p n)
]

number-dropped : (first place i : ℕ) (ks : List Kept) (p : ℕ) → AreOrdered first place (take i ks) → place ≤ p → number_in (drop i ks) p ≡ number_in ks p
number-dropped first place zero ks p h l = refl
number-dropped first place (suc i) [] p h l = refl
number-dropped first place (suc i) (k ∷ ks) p h l = (let b = h.1 in number-dropped (k.place + 1) place i ks p h.2 l ∙ sym (number-behind k ks p (λ g. absurd (omega (arith, b, g, l)))))

pub stretch_kept : (ks near : List Kept) (n first count passed i m : ℕ) → near ≡ drop passed ks → AreOrdered 0 n ks → first + count ≤ n
    → AreOrdered 0 first (take passed ks) → AreOrdered passed first (take i near) → AreOrdered first n (drop i near)
    → AreOrdered first (first + count) (take m (drop i near)) → AreOrdered (first + count) n (drop m (drop i near))
    → AreKept (λ j. get_or (dense ks n) (first + j) (pos 0)) first 0 count (take m (drop i near))
stretch_kept ks near n first count passed i m e h l before front back inside behind = record {
  ordered = subst (λ z. AreOrdered z (first + count) (take m (drop i near))) (let e : first ≡ first + 0 = omega arith in e) inside;
  same = λ j low up.
      number-taken (first + count) n m (drop i near) (first + j) first back behind (omega (arith, up))
      ∙ number-dropped passed first i near (first + j) front (omega arith)
      ∙ ap (λ z. number_in z (first + j)) e
      ∙ number-dropped 0 first passed ks (first + j) before (omega arith)
      ∙ sym (get_or-map-range_with_len (number_in ks) 0 n (first + j) (first + j) (pos 0) (omega (arith, l, up)) (omega arith));
}

-- ---- how many have room between two places
pub places_fit : (first end : ℕ) (ks : List Kept) → AreOrdered first end ks → first ≤ end → first + length ks ≤ end
places_fit first end [] h l = omega (arith, l)
places_fit first end (k ∷ ks) h l = (let f = h.0 in let b = h.1 in let r = places_fit (k.place + 1) end ks h.2 (omega (arith, b)) in omega (arith, f, r))

pub ordered_taken : (first end i : ℕ) (ks : List Kept) → AreOrdered first end ks → AreOrdered first end (take i ks)
ordered_taken first end zero ks h = tt
ordered_taken first end (suc i) [] h = tt
ordered_taken first end (suc i) (k ∷ ks) h = (h.0, h.1, ordered_taken (k.place + 1) end i ks h.2)

pub ordered_dropped : (first end later i : ℕ) (ks : List Kept) → AreOrdered first end ks → later ≤ first + i → AreOrdered later end (drop i ks)
ordered_dropped first end later zero [] h l = tt
ordered_dropped first end later zero (k ∷ ks) h l = (let f = h.0 in omega (arith, f, l), h.1, h.2)
ordered_dropped first end later (suc i) [] h l = tt
ordered_dropped first end later (suc i) (k ∷ ks) h l = (let f = h.0 in ordered_dropped (k.place + 1) end later i ks h.2 (omega (arith, f, l)))

pub ordered_passed : (first end place i : ℕ) (ks : List Kept) → AreOrdered first end ks → (0 < i → end + i ≤ length ks + place) → AreOrdered first place (take i ks)
ordered_passed first end place zero ks h l = tt
ordered_passed first end place (suc i) [] h l = tt
ordered_passed first end place (suc i) (k ∷ ks) h l =
    let b = h.1 in
    let r = l (omega arith) in
    let f = places_fit (k.place + 1) end ks h.2 (omega (arith, b)) in
    (h.0, omega (arith, r, f), ordered_passed (k.place + 1) end place i ks h.2 (λ p. omega (arith, r)))

-- ---- the search for a place
place_from : (first end i : ℕ) (ks : List Kept) (d : Kept) → AreOrdered first end ks → i < length ks → first ≤ (get_or ks i d).place
place_from first end i [] d h l = absurd (omega (arith, l))
place_from first end zero (k ∷ ks) d h l = h.0
place_from first end (suc i) (k ∷ ks) d h l = (let f = h.0 in let g = place_from (k.place + 1) end i ks d h.2 (omega (arith, l)) in omega (arith, f, g))

pub places_rise : (first end : ℕ) (ks : List Kept) → AreOrdered first end ks → IsNonDecreasingBy (λ k. k.place) ks
places_rise first end [] h i j d low l = absurd (omega (arith, l))
places_rise first end (k ∷ ks) h zero zero d low l = omega arith
places_rise first end (k ∷ ks) h zero (suc j) d low l = (let g = place_from (k.place + 1) end j ks d h.2 (omega (arith, l)) in omega (arith, g))
places_rise first end (k ∷ ks) h (suc i) zero d low l = absurd (omega (arith, low))
places_rise first end (k ∷ ks) h (suc i) (suc j) d low l = places_rise (k.place + 1) end ks h.2 i j d (omega (arith, low)) (omega (arith, l))

pub ordered_front : (first end place most i : ℕ) (ks : List Kept) → AreOrdered first end ks → i ≤ length (take most ks)
    → AllWithin (λ k. ltb k.place place ≡ true) (take most ks) 0 i → AreOrdered first place (take i ks)
ordered_front first end place most zero ks h l w = tt
ordered_front first end place most (suc i) [] h l w = tt
ordered_front first end place zero (suc i) (k ∷ ks) h l w = absurd (omega (arith, l))
ordered_front first end place (suc most) (suc i) (k ∷ ks) h l w =
    (h.0, ltb-true k.place place (w 0 k (omega arith) (omega arith)), ordered_front (k.place + 1) end place most i ks h.2 (omega (arith, l)) (λ j d low up. w (suc j) d (omega arith) (omega (arith, up))))

pub ordered_back : (first end place most i : ℕ) (ks : List Kept) → AreOrdered first end ks → (most < length ks → place ≤ first + most) → i ≤ length (take most ks)
    → AllWithin (λ k. ltb k.place place ≡ false) (take most ks) i (length (take most ks)) → AreOrdered place end (drop i ks)
ordered_back first end place most zero [] h room l w = tt
ordered_back first end place zero zero (k ∷ ks) h room l w = (let f = h.0 in let r = room (omega arith) in omega (arith, f, r), h.1, h.2)
ordered_back first end place (suc most) zero (k ∷ ks) h room l w = (ltb-false k.place place (w 0 k (omega arith) (omega arith)), h.1, h.2)
ordered_back first end place most (suc i) [] h room l w = tt
ordered_back first end place zero (suc i) (k ∷ ks) h room l w = absurd (omega (arith, l))
ordered_back first end place (suc most) (suc i) (k ∷ ks) h room l w =
    let f = h.0 in
    ordered_back (k.place + 1) end place most i ks h.2 (λ b. let r = room (omega (arith, b)) in omega (arith, f, r)) (omega (arith, l)) (λ j d low up. w (suc j) d (omega (arith, low)) (omega (arith, up)))
