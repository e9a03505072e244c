use Rattle.std.proofs.Common.{◌≡◌, ℕ, zero, suc, ◌+◌, ◌^◌, ◌<◌, ◌≤◌, List, [], ◌∷◌, ◌++◌, length, length-append, map, All, Option, None, Some, arith, refl, sym, ap, ◌∙◌, subst, ℤ, pos, neg_ℤ, ◌+ℤ◌, ◌-ℤ◌, ◌*ℤ◌, ◌≤ℤ◌, unsigned_abs}
use Rattle.std.proofs.lemmas.Int.{ints}
use Rattle.std.proofs.lemmas.List.Elements.{All-nil, All-cons}
use Rattle.tv_linear.proofs.PlainLists.{length-zeros, get_or-zeros}
use Rattle.tv_linear.specs.Arithmetic.{zeros, constant_row}
use Rattle.tv_linear.specs.Falls.{zero_row}
use Rattle.tv_linear.specs.Fits.{IsHeld}
use Rattle.tv_linear.specs.Linear.{Linear, dot}
use Rattle.tv_linear.specs.Known.{Term, Known, given, denied, composed, less, number, known_number, KnownHeld, PlacesHeld, place_sum, term_number, as_given}
use Rattle.tv_linear.specs.Refutation.{RowsHeld, Refutes}
use Rattle.tv_linear.proofs.KnownLemmas.{as_given-append, length-given}
use Rattle.tv_rank.specs.Ways.{Way, met_rows}
use Rattle.tv_rank.specs.Rankings.{IsShownBy}

-- multipliers 0, and 1 for the denial of the row
abbrev pub zero_line : ℕ → List ℤ
zero_line n = zeros n ++ pos 1 ∷ []

zeros_last : (n : ℕ) → zeros n ++ pos 0 ∷ [] ≡ zeros (suc n)
zeros_last zero = refl
zeros_last (suc n) = ap (λ zs. pos 0 ∷ zs) (zeros_last n)

-- one zero more
pub zeros_more : (n : ℕ) (old new : List ℤ) → old ≡ zeros n → new ≡ old ++ pos 0 ∷ [] → new ≡ zeros (n + 1)
zeros_more n old new e m = m ∙ ap (λ zs. zs ++ pos 0 ∷ []) e ∙ zeros_last n ∙ ap zeros (let q : suc n ≡ n + 1 = omega arith in q)

zero_sum : (c : Option ℕ) (row : Known) (rows : List Known) → dot (zero_line (length rows)) (map (λ k. known_number k c) (rows ++ row ∷ [])) ≡ known_number row c
zero_sum c row [] = omega (arith, ints)
zero_sum c row (r ∷ rows) = (let h = zero_sum c row rows in omega (arith, ints, h))

zero_held : (c : Option ℕ) (row : Known) (rows : List Linear) (sum : ℤ) → sum ≡ pos 0 → KnownHeld row c → IsHeld (known_number row c) → RowsHeld (λ k. KnownHeld k c) sum (λ k. known_number k c) (zero_line (length (as_given rows))) (as_given rows ++ row ∷ [])
zero_held c row [] sum e held b = (held, (let x : pos 1 *ℤ known_number row c ≡ known_number row c = omega (arith, ints) in subst IsHeld (sym x) b), (let x : sum +ℤ pos 1 *ℤ known_number row c ≡ known_number row c = omega (arith, ints, e) in subst IsHeld (sym x) b), tt)
zero_held c row (r ∷ rows) sum e held b =
    let p : pos 0 *ℤ number c r ≡ pos 0 = omega (arith, ints) in
    let q : sum +ℤ pos 0 *ℤ number c r ≡ pos 0 = omega (arith, ints, e) in
    (tt, subst IsHeld (sym p) (let w : unsigned_abs (pos 0) < 2 ^ 127 = omega arith in w), subst IsHeld (sym q) (let w : unsigned_abs (pos 0) < 2 ^ 127 = omega arith in w), zero_held c row rows (sum +ℤ pos 0 *ℤ number c r) q held b)

none_negative : (n : ℕ) → All (λ m. pos 0 ≤ℤ m) (zero_line n)
none_negative zero = All-cons (λ m. pos 0 ≤ℤ m) (pos 1) [] (omega (arith, ints)) (All-nil (λ m. pos 0 ≤ℤ m))
none_negative (suc n) = All-cons (λ m. pos 0 ≤ℤ m) (pos 0) (zero_line n) (omega (arith, ints)) (none_negative n)

-- a row that is a number of at most 0 is shown by its denial alone
pub number_shown : (v : ℕ) (w : Way) (row : Known) → ((j : ℕ) → known_number row (Some j) ≡ pos 0) → known_number row None ≤ℤ pos 0 → unsigned_abs (known_number row None) < 2 ^ 100 → ((c : Option ℕ) → KnownHeld row c) → IsShownBy v w row (zero_line (length (met_rows w)))
number_shown v w row zero_columns constant small held = subst (λ zs. Refutes (v + w.taken.draws) (zs ++ denied row ∷ []) (zero_line (length (met_rows w)))) (as_given-append w.known w.taken.guards) (subst (λ n. Refutes (v + w.taken.draws) (as_given (met_rows w) ++ denied row ∷ []) (zero_line n)) (length-given (met_rows w)) (record {
  as_many = length-append (zeros (length (as_given (met_rows w)))) (pos 1 ∷ []) ∙ (let a = length-zeros (length (as_given (met_rows w))) in let b = length-append (as_given (met_rows w)) (denied row ∷ []) in omega (arith, a, b));
  none_negative = none_negative (length (as_given (met_rows w)));
  columns = λ j l. zero_sum (Some j) (denied row) (as_given (met_rows w)) ∙ (let e = zero_columns j in omega (arith, ints, e));
  constant = (let e = zero_sum None (denied row) (as_given (met_rows w)) in omega (arith, ints, e, constant));
  columns_held = λ j l. zero_held (Some j) (denied row) (met_rows w) (pos 0) refl (held (Some j), zero_columns_held j) (zero_columns_held j);
  constant_held = zero_held None (denied row) (met_rows w) (pos 0) refl (held None, one_held) one_held;
}))
  where
    zero_columns_held : (j : ℕ) → IsHeld (neg_ℤ (known_number row (Some j)))
    zero_columns_held j = (let e = zero_columns j in let x : unsigned_abs (neg_ℤ (known_number row (Some j))) < 2 ^ 127 = omega (arith, ints, e) in x)

    one_held : IsHeld (pos 1 -ℤ known_number row None)
    one_held = (let x : unsigned_abs (pos 1 -ℤ known_number row None) < 2 ^ 127 = omega (arith, ints, small) in x)

-- ---- constants
constant_number : (v : ℕ) (c : ℤ) (j : ℕ) → number (Some j) (constant_row v c) ≡ pos 0
constant_number v c j = get_or-zeros v j

pub places_zero : (f : ℕ → ℤ) (xs : List ℤ) → ((j : ℕ) → f j ≡ pos 0) → place_sum f xs ≡ pos 0
places_zero f [] h = refl
places_zero f (x ∷ xs) h = (let a = places_zero (λ j. f (suc j)) xs (λ j. h (suc j)) in let b : f 0 *ℤ x ≡ pos 0 = ap (λ z. z *ℤ x) (h 0) ∙ omega (arith, ints) in omega (arith, ints, a, b))

places_zero_held : (f : ℕ → ℤ) (xs : List ℤ) (v : ℕ) (sum : ℤ) → sum ≡ pos 0 → ((j : ℕ) → f j ≡ pos 0) → PlacesHeld (λ w. Unit {0}) f sum v xs
places_zero_held f [] v sum e h = tt
places_zero_held f (x ∷ xs) v sum e h =
    let p : f v *ℤ x ≡ pos 0 = ap (λ z. z *ℤ x) (h v) ∙ omega (arith, ints) in
    let q : sum +ℤ f v *ℤ x ≡ pos 0 = omega (arith, ints, e, p) in
    (tt, subst IsHeld (sym p) (let w : unsigned_abs (pos 0) < 2 ^ 127 = omega arith in w), subst IsHeld (sym q) (let w : unsigned_abs (pos 0) < 2 ^ 127 = omega arith in w), places_zero_held f xs (suc v) (sum +ℤ f v *ℤ x) q h)

-- the change of a constant, plus a number
pub change_shown : (v : ℕ) (w : Way) (terms : List Term) (old new z : ℤ) → (new -ℤ old +ℤ z) ≤ℤ pos 0 → unsigned_abs old < 2 ^ 32 → unsigned_abs new < 2 ^ 32 → unsigned_abs z ≤ 1 → IsShownBy v w (less (composed (given (constant_row v new)) terms) (given (constant_row v old)) z) (zero_line (length (met_rows w)))
change_shown v w terms old new z h a b s = number_shown v w (less (composed (given (constant_row v new)) terms) (given (constant_row v old)) z)
    (λ j. let x = places (Some j) in let y = constant_number v old j in omega (arith, ints, x, y))
    (let x = places None in omega (arith, ints, x, h))
    (let x = places None in omega (arith, ints, x, a, b, s))
    held
  where
    places : (c : Option ℕ) → place_sum (λ k. number (Some k) (constant_row v new)) (map (term_number c) terms) ≡ pos 0
    places c = places_zero (λ k. number (Some k) (constant_row v new)) (map (term_number c) terms) (constant_number v new)

    held : (c : Option ℕ) → KnownHeld (less (composed (given (constant_row v new)) terms) (given (constant_row v old)) z) c
    held None =
        let x = places None in (
          (
            places_zero_held (λ k. number (Some k) (constant_row v new)) (map (term_number None) terms) 0 (pos 0) refl (constant_number v new),
            tt,
            (let q : unsigned_abs (place_sum (λ k. number (Some k) (constant_row v new)) (map (term_number None) terms) +ℤ new) < 2 ^ 127 = omega (arith, ints, x, b) in q),
          ),
          tt,
          (let q : unsigned_abs (place_sum (λ k. number (Some k) (constant_row v new)) (map (term_number None) terms) +ℤ new -ℤ old) < 2 ^ 127 = omega (arith, ints, x, a, b) in q),
          (let q : unsigned_abs (place_sum (λ k. number (Some k) (constant_row v new)) (map (term_number None) terms) +ℤ new -ℤ old +ℤ z) < 2 ^ 127 = omega (arith, ints, x, a, b, s) in q),
        )
    held (Some j) =
        let x = places (Some j) in
        let y = constant_number v old j in (
          places_zero_held (λ k. number (Some k) (constant_row v new)) (map (term_number (Some j)) terms) 0 (pos 0) refl (constant_number v new),
          tt,
          (let q : unsigned_abs (place_sum (λ k. number (Some k) (constant_row v new)) (map (term_number (Some j)) terms) -ℤ number (Some j) (constant_row v old)) < 2 ^ 127 = omega (arith, ints, x, y) in q),
        )

-- the opposite of a constant of at least 0
pub constant_shown : (v : ℕ) (w : Way) (old : ℤ) → pos 0 ≤ℤ old → unsigned_abs old < 2 ^ 32 → IsShownBy v w (less (given zero_row) (given (constant_row v old)) (pos 0)) (zero_line (length (met_rows w)))
constant_shown v w old h a = number_shown v w (less (given zero_row) (given (constant_row v old)) (pos 0))
    (λ j. let y = constant_number v old j in omega (arith, ints, y))
    (omega (arith, ints, h))
    (omega (arith, ints, a))
    held
  where
    held : (c : Option ℕ) → KnownHeld (less (given zero_row) (given (constant_row v old)) (pos 0)) c
    held None = (tt, tt, (let q : unsigned_abs (pos 0 -ℤ old) < 2 ^ 127 = omega (arith, ints, a) in q), (let q : unsigned_abs (pos 0 -ℤ old +ℤ pos 0) < 2 ^ 127 = omega (arith, ints, a) in q))
    held (Some j) = (let y = constant_number v old j in (tt, tt, (let q : unsigned_abs (pos 0 -ℤ number (Some j) (constant_row v old)) < 2 ^ 127 = omega (arith, ints, y) in q)))
