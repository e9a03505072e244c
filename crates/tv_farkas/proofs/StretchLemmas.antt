use Rattle.std.proofs.Common.{◌≡◌, ℕ, zero, suc, ◌<◌, List, [], ◌∷◌, ◌++◌, length, map, All, Bool, true, false, Option, None, Some, arith, refl, sym, ap, ◌∙◌, subst, ℤ, pos, ◌+ℤ◌, ◌*ℤ◌, ◌<ℤ◌, ◌≤ℤ◌}
use Rattle.std.proofs.lemmas.Int.{ints}
use Rattle.std.proofs.lemmas.List.Elements.{All-nil, All-cons, All-head, All-tail}
use Rattle.tv_linear.specs.Linear.{Linear, dot, IsWithin}
use Rattle.tv_linear.specs.Fits.{IsHeld}
use Rattle.tv_linear.specs.Known.{Known, number, known_number, as_given, KnownHeld}
use Rattle.tv_linear.specs.Refutation.{RowsHeld, column_sum, Refutes}
use Rattle.tv_simplex.proofs.Ring.{zero_times}
use Rattle.tv_simplex.specs.Outcomes.{IsShort}
use Rattle.tv_farkas.specs.Refuting.{AreShort}
use Rattle.tv_farkas.specs.Stretching.{IsTakenBy, stretched, IsSide, AreSides}
use Rattle.std.proofs.lemmas.List.{append-nil}

-- the columns that count
abbrev pub IsColumn : ℕ → Option ℕ → Type 0
IsColumn n None = Unit {0}
IsColumn n (Some j) = j < n

side_number : (n : ℕ) (column : Option ℕ) (r : Linear) (k : Known) → IsColumn n column → IsSide n r k → known_number k column ≡ number column r
side_number n None r k l h = h.constant
side_number n (Some j) r k l h = h.inner j l

cons-same : {A : Type 0} (x y : A) (xs ys : List A) → x ≡ y → xs ≡ ys → x ∷ xs ≡ y ∷ ys
cons-same x y xs ys e f = (λ i. e i ∷ f i)

pub sides_numbers : (n : ℕ) (column : Option ℕ) (rows : List Linear) (sides : List Known) → IsColumn n column → AreSides n rows sides → map (λ k. known_number k column) sides ≡ map (λ k. known_number k column) (as_given rows)
sides_numbers n column [] [] l h = refl
sides_numbers n column [] (k ∷ sides) l h = absurd h
sides_numbers n column (r ∷ rows) [] l h = absurd h
sides_numbers n column (r ∷ rows) (k ∷ sides) l h = cons-same (known_number k column) (number column r) _ _ (side_number n column r k l h.0) (sides_numbers n column rows sides l h.1)

pub length-sides : (n : ℕ) (rows : List Linear) (sides : List Known) → AreSides n rows sides → length sides ≡ length (as_given rows)
length-sides n [] [] h = refl
length-sides n [] (k ∷ sides) h = absurd h
length-sides n (r ∷ rows) [] h = absurd h
length-sides n (r ∷ rows) (k ∷ sides) h = ap suc (length-sides n rows sides h.1)

-- ---- with 0 at each repeated row
stretched_length : (n : ℕ) (marks : List Bool) (rows kept tail : List Linear) (sides : List Known) (ms : List ℤ) → IsTakenBy marks rows kept → AreSides n tail sides → length ms ≡ length (as_given (kept ++ tail)) → length (stretched marks ms) ≡ length (as_given rows ++ sides)
stretched_length n [] [] [] tail sides ms t s e = e ∙ sym (length-sides n tail sides s)
stretched_length n [] [] (k ∷ kept) tail sides ms t s e = cc
stretched_length n [] (r ∷ rows) kept tail sides ms t s e = absurd t
stretched_length n (b ∷ marks) [] kept tail sides ms t s e = absurd t
stretched_length n (true ∷ marks) (r ∷ rows) kept tail sides ms t s e = ap suc (stretched_length n marks rows kept tail sides ms t s e)
stretched_length n (false ∷ marks) (r ∷ rows) [] tail sides ms t s e = absurd t
stretched_length n (false ∷ marks) (r ∷ rows) (k ∷ kept) tail sides [] t s e = absurd (omega (arith, e))
stretched_length n (false ∷ marks) (r ∷ rows) (k ∷ kept) tail sides (m ∷ ms) t s e = ap suc (stretched_length n marks rows kept tail sides ms t.1 s (omega (arith, e)))

stretched_signs : (marks : List Bool) (ms : List ℤ) → All (λ m. pos 0 ≤ℤ m) ms → All (λ m. pos 0 ≤ℤ m) (stretched marks ms)
stretched_signs [] ms h = h
stretched_signs (true ∷ marks) ms h = All-cons (λ m. pos 0 ≤ℤ m) (pos 0) (stretched marks ms) (omega (arith, ints)) (stretched_signs marks ms h)
stretched_signs (false ∷ marks) [] h = stretched_signs marks [] h
stretched_signs (false ∷ marks) (m ∷ ms) h = All-cons (λ k. pos 0 ≤ℤ k) m (stretched marks ms) (All-head (λ k. pos 0 ≤ℤ k) m ms h) (stretched_signs marks ms (All-tail (λ k. pos 0 ≤ℤ k) m ms h))

stretched_sum : (n : ℕ) (column : Option ℕ) → IsColumn n column → (marks : List Bool) (rows kept tail : List Linear) (sides : List Known) (ms : List ℤ) → IsTakenBy marks rows kept → AreSides n tail sides → length ms ≡ length (as_given (kept ++ tail)) → column_sum (stretched marks ms) (as_given rows ++ sides) column ≡ column_sum ms (as_given (kept ++ tail)) column
stretched_sum n column l [] [] [] tail sides ms t s e = ap (dot ms) (sides_numbers n column tail sides l s)
stretched_sum n column l [] [] (k ∷ kept) tail sides ms t s e = cc
stretched_sum n column l [] (r ∷ rows) kept tail sides ms t s e = absurd t
stretched_sum n column l (b ∷ marks) [] kept tail sides ms t s e = absurd t
stretched_sum n column l (true ∷ marks) (r ∷ rows) kept tail sides ms t s e =
    (let h = stretched_sum n column l marks rows kept tail sides ms t s e in let z = zero_times (pos 0) (number column r) refl in omega (arith, ints, h, z))
stretched_sum n column l (false ∷ marks) (r ∷ rows) [] tail sides ms t s e = absurd t
stretched_sum n column l (false ∷ marks) (r ∷ rows) (k ∷ kept) tail sides [] t s e = absurd (omega (arith, e))
stretched_sum n column l (false ∷ marks) (r ∷ rows) (k ∷ kept) tail sides (m ∷ ms) t s e =
    (let h = stretched_sum n column l marks rows kept tail sides ms t.1 s (omega (arith, e)) in let z = ap (λ q. m *ℤ number column q) t.0 in omega (arith, ints, h, z))

sides_held : (n : ℕ) (column : Option ℕ) → IsColumn n column → (sum : ℤ) (ms : List ℤ) (rows : List Linear) (sides : List Known) → AreSides n rows sides → RowsHeld (λ k. KnownHeld k column) sum (λ k. known_number k column) ms (as_given rows) → RowsHeld (λ k. KnownHeld k column) sum (λ k. known_number k column) ms sides
sides_held n column l sum [] rows sides s h = tt
sides_held n column l sum (m ∷ ms) [] [] s h = tt
sides_held n column l sum (m ∷ ms) [] (k ∷ sides) s h = absurd s
sides_held n column l sum (m ∷ ms) (r ∷ rows) [] s h = absurd s
sides_held n column l sum (m ∷ ms) (r ∷ rows) (k ∷ sides) s h =
    let e = side_number n column r k l s.0 in (
      s.0.held column,
      subst (λ z. IsHeld (m *ℤ z)) (sym e) h.1,
      subst (λ z. IsHeld (sum +ℤ m *ℤ z)) (sym e) h.2,
      subst (λ z. RowsHeld (λ q. KnownHeld q column) (sum +ℤ m *ℤ z) (λ q. known_number q column) ms sides) (sym e) (sides_held n column l (sum +ℤ m *ℤ number column r) ms rows sides s.1 h.3),
    )

stretched_held : (n : ℕ) (column : Option ℕ) → IsColumn n column → (sum : ℤ) (marks : List Bool) (rows kept tail : List Linear) (sides : List Known) (ms : List ℤ) → IsHeld sum → IsTakenBy marks rows kept → AreSides n tail sides → length ms ≡ length (as_given (kept ++ tail)) → RowsHeld (λ k. KnownHeld k column) sum (λ k. known_number k column) ms (as_given (kept ++ tail)) → RowsHeld (λ k. KnownHeld k column) sum (λ k. known_number k column) (stretched marks ms) (as_given rows ++ sides)
stretched_held n column l sum [] [] [] tail sides ms b t s e h = sides_held n column l sum ms tail sides s h
stretched_held n column l sum [] [] (k ∷ kept) tail sides ms b t s e h = cc
stretched_held n column l sum [] (r ∷ rows) kept tail sides ms b t s e h = absurd t
stretched_held n column l sum (m ∷ marks) [] kept tail sides ms b t s e h = absurd t
stretched_held n column l sum (true ∷ marks) (r ∷ rows) kept tail sides ms b t s e h =
    let z = zero_times (pos 0) (number column r) refl in
    let q : sum +ℤ pos 0 *ℤ number column r ≡ sum = omega (arith, ints, z) in (
      tt,
      subst (λ v. IsHeld v) (sym z) (omega arith),
      subst (λ v. IsHeld v) (sym q) b,
      subst (λ v. RowsHeld (λ k. KnownHeld k column) v (λ k. known_number k column) (stretched marks ms) (as_given rows ++ sides)) (sym q) (stretched_held n column l sum marks rows kept tail sides ms b t s e h),
    )
stretched_held n column l sum (false ∷ marks) (r ∷ rows) [] tail sides ms b t s e h = absurd t
stretched_held n column l sum (false ∷ marks) (r ∷ rows) (k ∷ kept) tail sides [] b t s e h = absurd (omega (arith, e))
stretched_held n column l sum (false ∷ marks) (r ∷ rows) (k ∷ kept) tail sides (m ∷ ms) b t s e h =
    let g = ap (λ q. number column q) t.0 in (
      tt,
      subst (λ z. IsHeld (m *ℤ z)) g h.1,
      subst (λ z. IsHeld (sum +ℤ m *ℤ z)) g h.2,
      subst (λ z. RowsHeld (λ q. KnownHeld q column) (sum +ℤ m *ℤ z) (λ q. known_number q column) (stretched marks ms) (as_given rows ++ sides)) g
          (stretched_held n column l (sum +ℤ m *ℤ number column k) marks rows kept tail sides ms h.2 t.1 s (omega (arith, e)) h.3),
    )

-- what refutes the kept rows refutes all, with 0 at each repeated row
pub stretched_refutes : (n : ℕ) (marks : List Bool) (rows kept tail : List Linear) (sides : List Known) (ms : List ℤ) → IsTakenBy marks rows kept → AreSides n tail sides → Refutes n (as_given (kept ++ tail)) ms → Refutes n (as_given rows ++ sides) (stretched marks ms)
stretched_refutes n marks rows kept tail sides ms t s h = record {
  as_many = stretched_length n marks rows kept tail sides ms t s h.as_many;
  none_negative = stretched_signs marks ms h.none_negative;
  columns = λ j l. stretched_sum n (Some j) l marks rows kept tail sides ms t s h.as_many ∙ h.columns j l;
  constant = subst (λ z. pos 0 <ℤ z) (sym (stretched_sum n None tt marks rows kept tail sides ms t s h.as_many)) h.constant;
  columns_held = λ j l. stretched_held n (Some j) l (pos 0) marks rows kept tail sides ms (omega arith) t s h.as_many (h.columns_held j l);
  constant_held = stretched_held n None tt (pos 0) marks rows kept tail sides ms (omega arith) t s h.as_many h.constant_held;
}

-- the multipliers stay short
short_more : (x : ℤ) (xs : List ℤ) → IsShort x → AreShort xs → AreShort (x ∷ xs)
short_more x xs s h zero l = s
short_more x xs s h (suc j) l = h j (omega (arith, l))

pub stretched_short : (marks : List Bool) (ms : List ℤ) → AreShort ms → AreShort (stretched marks ms)
stretched_short [] ms h = h
stretched_short (true ∷ marks) ms h = short_more (pos 0) (stretched marks ms) (omega arith) (stretched_short marks ms h)
stretched_short (false ∷ marks) [] h = stretched_short marks [] h
stretched_short (false ∷ marks) (m ∷ ms) h = short_more m (stretched marks ms) (h 0 (omega arith)) (stretched_short marks ms (λ j l. h (suc j) (omega (arith, l))))

pub short_all : (xs : List ℤ) → AreShort xs → All (IsWithin 62) xs
short_all [] h = All-nil (IsWithin 62)
short_all (x ∷ xs) h = All-cons (IsWithin 62) x xs (h 0 (omega arith)) (short_all xs (λ j l. h (suc j) (omega (arith, l))))

-- rows with repeats are refuted where the rows, each taken once, are refuted
pub stretched_all : (n : ℕ) (marks : List Bool) (rows kept : List Linear) (ms : List ℤ) → IsTakenBy marks rows kept → Refutes n (as_given kept) ms → Refutes n (as_given rows) (stretched marks ms)
stretched_all n marks rows kept ms t h =
    subst (λ ks. Refutes n ks (stretched marks ms)) (append-nil (as_given rows))
    (stretched_refutes n marks rows kept [] [] ms t tt (subst (λ k. Refutes n (as_given k) ms) (sym (append-nil kept)) h))
