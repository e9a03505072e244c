use Rattle.std.proofs.Common.{◌≡◌, ℕ, zero, suc, ◌⊎◌, inl, inr, ◌+◌, ◌<◌, ◌≤◌, Bool, true, false, cond, ◌||◌, arith, refl, sym, ap, ◌∙◌}
use Rattle.std.proofs.lemmas.Bool.Decides.{nat_tests}
use lib.Dec.{eqb}
use Rattle.tv_simplex.specs.Choices.{choices}
use Rattle.std.proofs.lemmas.Bool.{cases_Bool}
use Rattle.tv_linear.proofs.ListLaws.{same_or_below}

choices-more : (n k : ℕ) → choices n k ≤ choices (suc n) k
choices-more n zero = omega arith
choices-more n (suc k) = omega arith

-- how many numbers below n are in f
abbrev pub count : ℕ → (ℕ → Bool) → ℕ
count zero f = 0
count (suc n) f = cond (f n) (suc (count n f)) (count n f)

-- the number of the choice f among those of as many numbers below n
abbrev pub rank : ℕ → (ℕ → Bool) → ℕ
rank zero f = 0
rank (suc n) f = cond (f n) (choices n (cond (f n) (suc (count n f)) (count n f)) + rank n f) (rank n f)

count-true : (n : ℕ) (f : ℕ → Bool) → f n ≡ true → count (suc n) f ≡ suc (count n f)
count-true n f e = ap (λ t. cond t (suc (count n f)) (count n f)) e

count-false : (n : ℕ) (f : ℕ → Bool) → f n ≡ false → count (suc n) f ≡ count n f
count-false n f e = ap (λ t. cond t (suc (count n f)) (count n f)) e

rank-true : (n : ℕ) (f : ℕ → Bool) → f n ≡ true → rank (suc n) f ≡ choices n (suc (count n f)) + rank n f
rank-true n f e = ap (λ t. cond t (choices n (cond t (suc (count n f)) (count n f)) + rank n f) (rank n f)) e

rank-false : (n : ℕ) (f : ℕ → Bool) → f n ≡ false → rank (suc n) f ≡ rank n f
rank-false n f e = ap (λ t. cond t (choices n (cond t (suc (count n f)) (count n f)) + rank n f) (rank n f)) e

pub rank-below : (n : ℕ) (f : ℕ → Bool) → rank n f < choices n (count n f)
rank-below zero f = omega arith
rank-below (suc n) f = elim (cases_Bool (f n)) [
  | inl e ↦ (
      let h = rank-below n f in
      let r = rank-true n f e in
      let c = ap (λ k. choices (suc n) k) (count-true n f e) in
      omega arith)
  | inr e ↦ (
      let h = rank-below n f in
      let r = rank-false n f e in
      let c = ap (λ k. choices (suc n) k) (count-false n f e) in
      let m = choices-more n (count n f) in
      omega arith)
]

pub rank-same : (n : ℕ) (f g : ℕ → Bool) → count n f ≡ count n g → rank n f ≡ rank n g → (j : ℕ) → j < n → f j ≡ g j
rank-same zero f g c r j l = absurd (omega arith)
rank-same (suc n) f g c r j l = elim (cases_Bool (f n)) [
  | inl e ↦ elim (cases_Bool (g n)) [
    | inl e' ↦ (
        let a = count-true n f e in
        let b = count-true n g e' in
        let p : count n f ≡ count n g = omega arith in
        let q = ap (λ k. choices n (suc k)) p in
        let u = rank-true n f e in
        let v = rank-true n g e' in
        further (λ u v k. rank-same n f g u v j k) p (omega arith) (e ∙ sym e'))
    | inr e' ↦ (
        let a = count-true n f e in
        let b = count-false n g e' in
        let p : suc (count n f) ≡ count n g = omega arith in
        let q = ap (λ k. choices n k) p in
        let u = rank-true n f e in
        let v = rank-false n g e' in
        let w = rank-below n g in
        absurd (omega arith))
  ]
  | inr e ↦ elim (cases_Bool (g n)) [
    | inl e' ↦ (
        let a = count-false n f e in
        let b = count-true n g e' in
        let p : count n f ≡ suc (count n g) = omega arith in
        let q = ap (λ k. choices n k) p in
        let u = rank-false n f e in
        let v = rank-true n g e' in
        let w = rank-below n f in
        absurd (omega arith))
    | inr e' ↦ (
        let a = count-false n f e in
        let b = count-false n g e' in
        let u = rank-false n f e in
        let v = rank-false n g e' in
        further (λ u v k. rank-same n f g u v j k) (omega arith) (omega arith) (e ∙ sym e'))
  ]
]
  where
    further : (count n f ≡ count n g → rank n f ≡ rank n g → j < n → f j ≡ g j) → count n f ≡ count n g → rank n f ≡ rank n g → f n ≡ g n → f j ≡ g j
    further again p q e = elim (same_or_below n j l) [
      | inl h ↦ ap f h ∙ e ∙ ap g (sym h)
      | inr h ↦ again p q h
    ]

-- ---- the columns of a basis
abbrev pub is_column : ℕ → (ℕ → ℕ) → ℕ → Bool
is_column zero b j = false
is_column (suc m) b j = eqb (b m) j || is_column m b j

pub or_true : (s t : Bool) → s || t ≡ true → (s ≡ true) ⊎ (t ≡ true)
or_true true t h = inl refl
or_true false t h = inr h

or_right : (s t : Bool) → t ≡ true → s || t ≡ true
or_right true t h = refl
or_right false t h = h

pub is_column-from : (m : ℕ) (b : ℕ → ℕ) (j : ℕ) → is_column m b j ≡ true → (l : ℕ) × (l < m) × (j ≡ b l)
is_column-from zero b j h = cc
is_column-from (suc m) b j h = elim (or_true (eqb (b m) j) (is_column m b j) h) [
  | inl e ↦ (m, omega arith, let q : b m ≡ j = grind (arith, nat_tests) in sym q)
  | inr e ↦ (let k = is_column-from m b j e in (k.0, (let l = k.1 in omega arith), k.2))
]

pub is_column-at : (m : ℕ) (b : ℕ → ℕ) (l : ℕ) → l < m → is_column m b (b l) ≡ true
is_column-at zero b l h = absurd (omega arith)
is_column-at (suc m) b l h = elim (same_or_below m l h) [
  | inl e ↦ (let q : eqb (b m) (b l) ≡ true = grind (arith, nat_tests, ap b e) in ap (λ t. t || is_column m b (b l)) q)
  | inr k ↦ or_right (eqb (b m) (b l)) (is_column m b (b l)) (is_column-at m b l k)
]

cond-same : (n : ℕ) (s t : Bool) → s ≡ t → (k l : ℕ) → k ≡ l → cond s (suc k) k ≡ cond t (suc l) l
cond-same n s t e k l h = (λ i. cond (e i) (suc (h i)) (h i))

count-past : (n p : ℕ) (f : ℕ → Bool) → n ≤ p → count n (λ j. eqb p j || f j) ≡ count n f
count-past zero p f h = refl
count-past (suc n) p f h =
    let q : eqb p n ≡ false = grind (arith, nat_tests) in
    cond-same n (eqb p n || f n) (f n) (ap (λ t. t || f n) q) _ _ (count-past n p f (omega arith))

pub count-one_more : (n p : ℕ) (f : ℕ → Bool) → p < n → f p ≡ false → count n (λ j. eqb p j || f j) ≡ suc (count n f)
count-one_more zero p f h e = absurd (omega arith)
count-one_more (suc n) p f h e = elim (same_or_below n p h) [
  | inl k ↦ (
      let q : eqb p n ≡ true = grind (arith, nat_tests) in
      let a = count-true n (λ j. eqb p j || f j) (ap (λ t. t || f n) q) in
      let b = count-false n f (ap f (sym k) ∙ e) in
      let c = count-past n p f (omega arith) in
      omega arith)
  | inr k ↦ (
      let q : eqb p n ≡ false = grind (arith, nat_tests) in
      cond-same n (eqb p n || f n) (f n) (ap (λ t. t || f n) q) _ _ (count-one_more n p f k e) ∙ suc_out (f n) (count n f))
]
  where
    suc_out : (t : Bool) (k : ℕ) → cond t (suc (suc k)) (suc k) ≡ suc (cond t (suc k) k)
    suc_out true k = refl
    suc_out false k = refl

count-none : (n : ℕ) → count n (λ j. false) ≡ 0
count-none zero = refl
count-none (suc n) = count-none n

-- a basis of m different columns below n has m columns
pub count-columns : (n m : ℕ) (b : ℕ → ℕ) → ((i : ℕ) → i < m → b i < n) → ((i l : ℕ) → i < m → l < i → b i ≡ b l → ⊥) → count n (is_column m b) ≡ m
count-columns n zero b inside apart = count-none n
count-columns n (suc m) b inside apart =
    let before = count-columns n m b (λ i h. inside i (omega arith)) (λ i l h g. apart i l (omega arith) g) in
    count-one_more n (b m) (is_column m b) (inside m (omega arith)) (elim (cases_Bool (is_column m b (b m))) [
      | inl e ↦ (let k = is_column-from m b (b m) e in absurd (apart m k.0 (omega arith) k.1 k.2))
      | inr e ↦ e
    ]) ∙ ap suc before
