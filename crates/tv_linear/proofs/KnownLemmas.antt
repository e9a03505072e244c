use Rattle.std.proofs.Common.{◌≡◌, ◌↔◌, ℕ, zero, suc, ◌⊎◌, inl, inr, ◌<◌, List, [], ◌∷◌, ◌++◌, length, All, map, None, Some, arith, refl, sym, ap, ℤ, pos, neg_ℤ, ◌+ℤ◌, ◌-ℤ◌, ◌*ℤ◌, ◌≤ℤ◌, slice_index_or}
use Rattle.std.proofs.lemmas.Int.{ints}
use Rattle.std.proofs.lemmas.List.Elements.{All-nil, All-cons, All-head, All-tail}
use Rattle.std.proofs.lemmas.List.{length-map}
use Rattle.tv_linear.proofs.Ring.{neg_times_z, distribute_z, distribute_right_z, mul_assoc_z, not_above, one_or_other}
use Rattle.tv_linear.specs.Linear.{dot, Linear, value, IsMet}
use Rattle.tv_linear.specs.Known.{place_sum, Term, kept, put, Known, given, denied, composed, less, term_number, term_value, known_number, known_value, IsKnownMet, as_given}
use Rattle.tv_linear.specs.Refutation.{Refutes}

-- the sum of the products of the multipliers and a number of each row
abbrev pub weighted : {A : Type 0} → (A → ℤ) → List ℤ → List A → ℤ
weighted p ms rows = dot ms (map p rows)

-- the known rows of two lists
pub as_given-append : (xs ys : List Linear) → as_given (xs ++ ys) ≡ as_given xs ++ as_given ys
as_given-append [] ys = refl
as_given-append (x ∷ xs) ys = ap (λ ks. given x ∷ ks) (as_given-append xs ys)

-- ---- the laws of place_sum
pub place_sum-zero : (f : ℕ → ℤ) (xs : List ℤ) → ((j : ℕ) → j < length xs → f j ≡ pos 0) → place_sum f xs ≡ pos 0
place_sum-zero f [] h = refl
place_sum-zero f (x ∷ xs) h =
    let here = ap (λ z. z *ℤ x) (h 0 (omega arith)) in
    let later = place_sum-zero (λ j. f (suc j)) xs (λ j k. h (suc j) (omega arith)) in
    omega (arith, ints, here, later)

pub place_sum-add : (f g : ℕ → ℤ) (xs : List ℤ) → place_sum (λ j. f j +ℤ g j) xs ≡ place_sum f xs +ℤ place_sum g xs
place_sum-add f g [] = refl
place_sum-add f g (x ∷ xs) =
    let here = distribute_right_z (f 0) (g 0) x in
    let later = place_sum-add (λ j. f (suc j)) (λ j. g (suc j)) xs in
    omega (arith, ints, here, later)

pub place_sum-neg : (f : ℕ → ℤ) (xs : List ℤ) → place_sum (λ j. neg_ℤ (f j)) xs ≡ neg_ℤ (place_sum f xs)
place_sum-neg f [] = refl
place_sum-neg f (x ∷ xs) =
    let here = neg_times_z (f 0) x in
    let later = place_sum-neg (λ j. f (suc j)) xs in
    omega (arith, ints, here, later)

pub place_sum-scale : (m : ℤ) (f : ℕ → ℤ) (xs : List ℤ) → place_sum (λ j. m *ℤ f j) xs ≡ m *ℤ place_sum f xs
place_sum-scale m f [] = omega (arith, ints)
place_sum-scale m f (x ∷ xs) =
    let here = mul_assoc_z m (f 0) x in
    let spread = distribute_z m (f 0 *ℤ x) (place_sum (λ j. f (suc j)) xs) in
    let later = place_sum-scale m (λ j. f (suc j)) xs in
    omega (arith, ints, here, later, spread)

-- two sums change places
place_sum-swap : {A : Type 0} (c : ℕ → ℤ) (q : A → ℕ → ℤ) (xs : List ℤ) (ts : List A) → place_sum c (map (λ t. place_sum (q t) xs) ts) ≡ place_sum (λ j. place_sum c (map (λ t. q t j) ts)) xs
place_sum-swap c q xs [] = sym (place_sum-zero (λ j. pos 0) xs (λ j k. refl))
place_sum-swap c q xs (t ∷ ts) =
    let here = place_sum-scale (c 0) (q t) xs in
    let later = place_sum-swap (λ v. c (suc v)) q xs ts in
    let sum = place_sum-add (λ j. c 0 *ℤ q t j) (λ j. place_sum (λ v. c (suc v)) (map (λ t. q t j) ts)) xs in
    omega (arith, ints, here, later, sum)

weighted-swap : {A : Type 0} (q : A → ℕ → ℤ) (xs ms : List ℤ) (ts : List A) → weighted (λ t. place_sum (q t) xs) ms ts ≡ place_sum (λ j. weighted (λ t. q t j) ms ts) xs
weighted-swap q xs [] ts = sym (place_sum-zero (λ j. pos 0) xs (λ j k. refl))
weighted-swap q xs (m ∷ ms) [] = sym (place_sum-zero (λ j. pos 0) xs (λ j k. refl))
weighted-swap q xs (m ∷ ms) (t ∷ ts) =
    let here = place_sum-scale m (q t) xs in
    let later = weighted-swap q xs ms ts in
    let sum = place_sum-add (λ j. m *ℤ q t j) (λ j. weighted (λ t. q t j) ms ts) xs in
    omega (arith, ints, here, later, sum)

weighted-add : {A : Type 0} (p q : A → ℤ) (ms : List ℤ) (rows : List A) → weighted (λ r. p r +ℤ q r) ms rows ≡ weighted p ms rows +ℤ weighted q ms rows
weighted-add p q [] rows = refl
weighted-add p q (m ∷ ms) [] = refl
weighted-add p q (m ∷ ms) (r ∷ rows) = let d = distribute_z m (p r) (q r) in let h = weighted-add p q ms rows in omega (arith, ints)

-- ---- values
pub value-denied : (xs : List ℤ) (k : Known) → known_value xs (denied k) ≡ pos 1 -ℤ known_value xs k
value-denied xs k = let h = place_sum-neg (λ j. known_number k (Some j)) xs in omega (arith, ints, h)

pub value-less : (xs : List ℤ) (a b : Known) (z : ℤ) → known_value xs (less a b z) ≡ known_value xs a -ℤ known_value xs b +ℤ z
value-less xs a b z =
    let sum = place_sum-add (λ j. known_number a (Some j)) (λ j. neg_ℤ (known_number b (Some j))) xs in
    let h = place_sum-neg (λ j. known_number b (Some j)) xs in
    omega (arith, ints, sum, h)

pub place_sum-kept : (v : ℕ) (xs : List ℤ) → place_sum (λ j. term_number (Some j) (kept v)) xs ≡ slice_index_or xs v (pos 0)
place_sum-kept v [] = refl
place_sum-kept zero (x ∷ xs) = let h = place_sum-zero (λ j. pos 0) xs (λ j k. refl) in omega (arith, ints, h)
place_sum-kept (suc v) (x ∷ xs) = let h = place_sum-kept v xs in omega (arith, ints, h)

-- a row's value by its numbers
place_sum-dot : (cs xs : List ℤ) → place_sum (λ j. slice_index_or cs j (pos 0)) xs ≡ dot cs xs
place_sum-dot [] xs = place_sum-zero (λ j. pos 0) xs (λ j k. refl)
place_sum-dot (c ∷ cs) [] = refl
place_sum-dot (c ∷ cs) (x ∷ xs) = ap (λ z. (c *ℤ x) +ℤ z) (place_sum-dot cs xs)

pub value-given : (xs : List ℤ) (r : Linear) → known_value xs (given r) ≡ value r xs
value-given xs r = ap (λ z. z +ℤ r.constant) (place_sum-dot r.coefficients xs)

-- a point meets rows exactly where it meets them as they are given
pub met-as_given : (xs : List ℤ) (rows : List Linear) → All (IsMet xs) rows ↔ All (IsKnownMet xs) (as_given rows)
met-as_given xs rows = (known rows, plain rows) where
  known : (rows : List Linear) → All (IsMet xs) rows → All (IsKnownMet xs) (as_given rows)
  known [] h = All-nil (IsKnownMet xs)
  known (r ∷ rows) h =
      let met = All-head (IsMet xs) r rows h in
      let is = value-given xs r in
      All-cons (IsKnownMet xs) (given r) (as_given rows) (omega (arith, ints, met, is)) (known rows (All-tail (IsMet xs) r rows h))

  plain : (rows : List Linear) → All (IsKnownMet xs) (as_given rows) → All (IsMet xs) rows
  plain [] h = All-nil (IsMet xs)
  plain (r ∷ rows) h =
      let met = All-head (IsKnownMet xs) (given r) (as_given rows) h in
      let is = value-given xs r in
      All-cons (IsMet xs) r rows (omega (arith, ints, met, is)) (plain rows (All-tail (IsKnownMet xs) (given r) (as_given rows) h))

-- a term's value by its numbers
term-value_is : (xs : List ℤ) (t : Term) → place_sum (λ j. term_number (Some j) t) xs +ℤ term_number None t ≡ term_value xs t
term-value_is xs (kept v) = let h = place_sum-kept v xs in omega (arith, ints, h)
term-value_is xs (put r) = value-given xs r

-- the right factor splits too
place_sum-add_right : {A : Type 0} (c : ℕ → ℤ) (p q : A → ℤ) (ts : List A) → place_sum c (map (λ t. p t +ℤ q t) ts) ≡ place_sum c (map p ts) +ℤ place_sum c (map q ts)
place_sum-add_right c p q [] = refl
place_sum-add_right c p q (t ∷ ts) =
    let here = distribute_z (c 0) (p t) (q t) in
    let later = place_sum-add_right (λ v. c (suc v)) p q ts in
    omega (arith, ints, here, later)

-- a composed row has at a point the value that the row has at the terms' values there
pub value-composed : (xs : List ℤ) (k : Known) (terms : List Term) → known_value xs (composed k terms) ≡ known_value (map (term_value xs) terms) k
value-composed xs k terms =
    let c = λ (v : ℕ). known_number k (Some v) in
    let swap = place_sum-swap c (λ t j. term_number (Some j) t) xs terms in
    let split = place_sum-add_right c (λ t. place_sum (λ j. term_number (Some j) t) xs) (term_number None) terms in
    let at : place_sum c (map (λ t. place_sum (λ j. term_number (Some j) t) xs +ℤ term_number None t) terms) ≡ place_sum c (map (term_value xs) terms) = (λ i. place_sum c (map (λ t. term-value_is xs t i) terms)) in
    omega (arith, ints, swap, split, at)

-- ---- refutations
weighted_at_most : (xs ms : List ℤ) (rows : List Known) → All (λ m. pos 0 ≤ℤ m) ms → All (IsKnownMet xs) rows → weighted (known_value xs) ms rows ≤ℤ pos 0
weighted_at_most xs [] rows h k = omega (arith, ints)
weighted_at_most xs (m ∷ ms) [] h k = omega (arith, ints)
weighted_at_most xs (m ∷ ms) (r ∷ rows) h k =
    let now = not_above m (known_value xs r) (All-head (λ m. pos 0 ≤ℤ m) m ms h) (All-head (IsKnownMet xs) r rows k) in
    let later = weighted_at_most xs ms rows (All-tail (λ m. pos 0 ≤ℤ m) m ms h) (All-tail (IsKnownMet xs) r rows k) in
    omega (arith, ints, now, later)

-- no point meets rows that are refuted
pub refuted : (n : ℕ) (rows : List Known) (ms xs : List ℤ) → Refutes n rows ms → length xs ≡ n → All (IsKnownMet xs) rows → ⊥
refuted n rows ms xs h e k =
    let sum = weighted-add (λ r. place_sum (λ j. known_number r (Some j)) xs) (λ r. known_number r None) ms rows in
    let swap = weighted-swap (λ r j. known_number r (Some j)) xs ms rows in
    let none = place_sum-zero (λ j. weighted (λ r. known_number r (Some j)) ms rows) xs (λ j l. h.columns j (omega arith)) in
    let at_most = weighted_at_most xs ms rows h.none_negative k in
    let above = h.constant in
    omega (arith, ints, sum, swap, none, at_most, above)

pub met_or_denied : (xs : List ℤ) (k : Known) → IsKnownMet xs k ⊎ IsKnownMet xs (denied k)
met_or_denied xs k = elim (one_or_other (known_value xs k)) [ inl h ↦ inl h | inr h ↦ inr (let e = value-denied xs k in omega (arith, ints, e, h)) ]

pub length-given : (rows : List Linear) → length (as_given rows) ≡ length rows
length-given rows = length-map rows (λ r. given r)
