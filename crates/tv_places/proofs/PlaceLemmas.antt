use Rattle.std.proofs.Common.{◌≡◌, ℕ, zero, suc, ◌+◌, ◌-◌, ◌≤◌, List, [], ◌∷◌, map, length, Option, Some, None, Bool, true, false, cond, ◌==◌, refl, ap, ◌∙◌, arith, inl, inr}
use Rattle.std.specs.List.{filter, slice_get}
use Rattle.std.proofs.lemmas.Option.{slice_get_cases, slice_get_past}
use Rattle.tv_places.specs.Places.{places_from, places_of}

-- what stands at a place of a list stands one further once an element is put before it
further : {A : Type 0} (x : A) (xs : List A) (start p : ℕ) (found : Option A) → (start + 1 ≤ p) × (slice_get xs (p - (start + 1)) ≡ found) → (start ≤ p) × (slice_get (x ∷ xs) (p - start) ≡ found)
further x xs start p found h =
    let q : p - start ≡ suc (p - (start + 1)) = omega (arith, h.0) in
    (omega (arith, h.0), ap (slice_get (x ∷ xs)) q ∙ h.1)

told_first : {A : Type 0} (b : Bool) (x : A) (xs kept : List A) (places : List ℕ) (start k p : ℕ) → ((k : ℕ) → slice_get places k ≡ Some p → (start + 1 ≤ p) × (slice_get xs (p - (start + 1)) ≡ slice_get kept k)) → slice_get (cond b (start ∷ places) places) k ≡ Some p → (start ≤ p) × (slice_get (x ∷ xs) (p - start) ≡ slice_get (cond b (x ∷ kept) kept) k)
told_first true x xs kept places start zero p rest h =
    let e : start ≡ p = cc in
    let q : p - start ≡ 0 = omega arith in
    (omega arith, ap (slice_get (x ∷ xs)) q)
told_first true x xs kept places start (suc k) p rest h = further x xs start p _ (rest k h)
told_first false x xs kept places start k p rest h = further x xs start p _ (rest k h)

told_from : {A : Type 0} (key : A → ℕ) (xs : List A) (l start k p : ℕ) → slice_get (places_from l start (map key xs)) k ≡ Some p → (start ≤ p) × (slice_get xs (p - start) ≡ slice_get (filter (λ x. key x == l) xs) k)
unfolding places_from
told_from key [] l start k p h = cc
told_from key (x ∷ xs) l start k p h = told_first (key x == l) x xs (filter (λ x. key x == l) xs) (places_from l (start + 1) (map key xs)) start k p (λ k h. told_from key xs l (start + 1) k p h) h

counted_first : {A : Type 0} (b : Bool) (x : A) (kept : List A) (place : ℕ) (places : List ℕ) → length places ≡ length kept → length (cond b (place ∷ places) places) ≡ length (cond b (x ∷ kept) kept)
counted_first true x kept place places h = ap suc h
counted_first false x kept place places h = h

counted_from : {A : Type 0} (key : A → ℕ) (xs : List A) (l start : ℕ) → length (places_from l start (map key xs)) ≡ length (filter (λ x. key x == l) xs)
unfolding places_from
counted_from key [] l start = refl
counted_from key (x ∷ xs) l start = counted_first (key x == l) x (filter (λ x. key x == l) xs) start (places_from l (start + 1) (map key xs)) (counted_from key xs l (start + 1))

pub past_end : {A : Type 0} (xs : List A) (k : ℕ) → slice_get xs k ≡ None → length xs ≤ k
past_end xs k h = elim (slice_get_cases xs k).1 [ inl (x, _, e, _) ↦ cc | inr (e, _) ↦ e ]

-- the k-th place of a number is that of the k-th element with this number
pub place_told : {A : Type 0} (key : A → ℕ) (xs : List A) (l k p : ℕ) → slice_get (places_of l (map key xs)) k ≡ Some p → slice_get xs p ≡ slice_get (filter (λ x. key x == l) xs) k
place_told key xs l k p h =
    let told = told_from key xs l 0 k p h in
    let q : p ≡ p - 0 = omega arith in
    ap (slice_get xs) q ∙ told.1

-- a number has as many places as there are elements with this number
pub places_counted : {A : Type 0} (key : A → ℕ) (xs : List A) (l : ℕ) → length (places_of l (map key xs)) ≡ length (filter (λ x. key x == l) xs)
places_counted key xs l = counted_from key xs l 0

-- where a number has no k-th place, no k-th element has this number
pub place_none : {A : Type 0} (key : A → ℕ) (xs : List A) (l k : ℕ) → slice_get (places_of l (map key xs)) k ≡ None → slice_get (filter (λ x. key x == l) xs) k ≡ None
place_none key xs l k h =
    let past = past_end (places_of l (map key xs)) k h in
    slice_get_past (filter (λ x. key x == l) xs) k (omega (arith, past, places_counted key xs l))
