-- Rows that are shown by themselves, in whichever ways they are known.
use Rattle.std.proofs.Common.{◌≡◌, ℕ, zero, suc, ◌+◌, ◌-◌, ◌^◌, ◌<◌, List, [], ◌∷◌, ◌++◌, length, length-append, All, Option, None, Some, arith, refl, sym, ap, ◌∙◌, subst, append_assoc, ℤ, pos, neg_ℤ, ◌+ℤ◌, ◌-ℤ◌, ◌*ℤ◌, ◌≤ℤ◌, unsigned_abs, slice_index_or}
use Rattle.std.proofs.lemmas.Int.{ints}
use Rattle.std.proofs.lemmas.List.Elements.{All-nil, All-cons, All-head, All-tail}
use Rattle.tv_linear.specs.Linear.{Linear, IsNarrow, IsWithin}
use Rattle.tv_linear.specs.Arithmetic.{zeros}
use Rattle.tv_linear.specs.Known.{Known, given, denied, known_number, number, KnownHeld}
use Rattle.tv_linear.specs.Refutation.{Refutes}
use Rattle.tv_linear.specs.Covers.{Shown}
use Rattle.tv_lexrank.specs.Falling.{AllHeld}
use Rattle.tv_lexrank.proofs.PadLemmas.{zeros_keep}
use Rattle.tv_nested.specs.Lines.{own_line, own_lines}

-- ---- rows whose numbers are far below the bound
pub record IsSide (n : ℕ) (s : Known) : Type 0 where
  pub inner : (j : ℕ) → j < n → KnownHeld s (Some j)
  pub last : KnownHeld s None
  pub small_inner : (j : ℕ) → j < n → unsigned_abs (known_number s (Some j)) < 2 ^ 100
  pub small_last : unsigned_abs (known_number s None) < 2 ^ 100

abbrev pub AreSides : ℕ → List Known → Type 0
AreSides n [] = Unit {0}
AreSides n (s ∷ sides) = IsSide n s × AreSides n sides

pub sides_held : (n : ℕ) (sides : List Known) → AreSides n sides → AllHeld n sides
sides_held n [] h = tt
sides_held n (s ∷ sides) h = (h.0.inner, h.0.last, sides_held n sides h.1)

pub number_narrow : (r : Linear) (c : Option ℕ) → IsNarrow r → unsigned_abs (number c r) < 2 ^ 62
number_narrow r None h = h.constant
number_narrow r (Some j) h = at_place r.coefficients j h.coefficients
  where
    at_place : (cs : List ℤ) (j : ℕ) → All (IsWithin 62) cs → unsigned_abs (slice_index_or cs j (pos 0)) < 2 ^ 62
    at_place [] j g = omega arith
    at_place (c ∷ cs) zero g = All-head (IsWithin 62) c cs g
    at_place (c ∷ cs) (suc j) g = at_place cs j (All-tail (IsWithin 62) c cs g)

pub given_side : (n : ℕ) (b : Linear) → IsNarrow b → IsSide n (given b)
given_side n b h = record {
  inner = λ j l. tt;
  last = tt;
  small_inner = λ j l. let w = number_narrow b (Some j) h in omega (arith, w);
  small_last = (let w = number_narrow b None h in omega (arith, w));
}

pub denied_side : (n : ℕ) (b : Linear) → IsNarrow b → IsSide n (denied (given b))
denied_side n b h = record {
  inner = λ j l. let w = number_narrow b (Some j) h in (tt, (let q : unsigned_abs (neg_ℤ (number (Some j) b)) < 2 ^ 127 = omega (arith, ints, w) in q));
  last = (let w = number_narrow b None h in (tt, (let q : unsigned_abs (pos 1 -ℤ number None b) < 2 ^ 127 = omega (arith, ints, w) in q)));
  small_inner = λ j l. let w = number_narrow b (Some j) h in omega (arith, ints, w);
  small_last = (let w = number_narrow b None h in omega (arith, ints, w));
}

-- ---- a row and its denial
pair_refutes : (n : ℕ) (s : Known) → IsSide n s → Refutes n (s ∷ denied s ∷ []) (pos 1 ∷ pos 1 ∷ [])
pair_refutes n s h = record {
  as_many = refl;
  none_negative = All-cons (λ m. pos 0 ≤ℤ m) (pos 1) (pos 1 ∷ []) (omega (arith, ints)) (All-cons (λ m. pos 0 ≤ℤ m) (pos 1) [] (omega (arith, ints)) (All-nil (λ m. pos 0 ≤ℤ m)));
  columns = λ j l. omega (arith, ints);
  constant = omega (arith, ints);
  columns_held = λ j l.
      let w = h.small_inner j l in (
        h.inner j l,
        (let q : unsigned_abs (pos 1 *ℤ known_number s (Some j)) < 2 ^ 127 = omega (arith, ints, w) in q),
        (let q : unsigned_abs (pos 0 +ℤ pos 1 *ℤ known_number s (Some j)) < 2 ^ 127 = omega (arith, ints, w) in q),
        (
          (h.inner j l, (let q : unsigned_abs (neg_ℤ (known_number s (Some j))) < 2 ^ 127 = omega (arith, ints, w) in q)),
          (let q : unsigned_abs (pos 1 *ℤ neg_ℤ (known_number s (Some j))) < 2 ^ 127 = omega (arith, ints, w) in q),
          (let q : unsigned_abs ((pos 0 +ℤ pos 1 *ℤ known_number s (Some j)) +ℤ pos 1 *ℤ neg_ℤ (known_number s (Some j))) < 2 ^ 127 = omega (arith, ints, w) in q),
          tt,
        ),
      );
  constant_held = (
      let w = h.small_last in (
        h.last,
        (let q : unsigned_abs (pos 1 *ℤ known_number s None) < 2 ^ 127 = omega (arith, ints, w) in q),
        (let q : unsigned_abs (pos 0 +ℤ pos 1 *ℤ known_number s None) < 2 ^ 127 = omega (arith, ints, w) in q),
        (
          (h.last, (let q : unsigned_abs (pos 1 -ℤ known_number s None) < 2 ^ 127 = omega (arith, ints, w) in q)),
          (let q : unsigned_abs (pos 1 *ℤ (pos 1 -ℤ known_number s None)) < 2 ^ 127 = omega (arith, ints, w) in q),
          (let q : unsigned_abs ((pos 0 +ℤ pos 1 *ℤ known_number s None) +ℤ pos 1 *ℤ (pos 1 -ℤ known_number s None)) < 2 ^ 127 = omega (arith, ints, w) in q),
          tt,
        ),
      ));
}

-- a row is shown among others by itself
pub own_refutes : (n : ℕ) (front : List Known) (s : Known) (back : List Known) (count : ℕ) → AllHeld n front → IsSide n s → AllHeld n back → count ≡ length front + suc (length back) → Refutes n ((front ++ s ∷ back) ++ denied s ∷ []) (own_line count (length front))
own_refutes n front s back count held side held_back e =
    subst (λ ks. Refutes n ks (own_line count (length front))) (sym (append_assoc front (s ∷ back) (denied s ∷ [])))
    (subst (λ k. Refutes n (front ++ (s ∷ back ++ denied s ∷ [])) (zeros (length front) ++ pos 1 ∷ (zeros k ++ pos 1 ∷ []))) (let q : length back ≡ count - length front - 1 = omega (arith, e) in q)
    (zeros_keep n [] front (s ∷ back ++ denied s ∷ []) [] (pos 1 ∷ (zeros (length back) ++ pos 1 ∷ [])) refl held
    (zeros_keep n (s ∷ []) back (denied s ∷ []) (pos 1 ∷ []) (pos 1 ∷ []) refl held_back (pair_refutes n s side))))

held_last : (n : ℕ) (ks : List Known) (s : Known) → AllHeld n ks → IsSide n s → AllHeld n (ks ++ s ∷ [])
held_last n [] s h g = (g.inner, g.last, tt)
held_last n (k ∷ ks) s h g = (h.0, h.1, held_last n ks s h.2 g)

-- each of the last rows is shown by itself
pub own_shown : (n : ℕ) (front sides : List Known) (count : ℕ) → AllHeld n front → AreSides n sides → count ≡ length front + length sides → Shown n (front ++ sides) sides (own_lines count (length front) (length sides))
own_shown n front [] count held h e = tt
own_shown n front (s ∷ back) count held h e = (
  own_refutes n front s back count held h.0 (sides_held n back h.1) e,
  subst (λ ks. Shown n ks back (own_lines count (suc (length front)) (length back))) (append_assoc front (s ∷ []) back)
      (subst (λ k. Shown n ((front ++ s ∷ []) ++ back) back (own_lines count k (length back))) more
      (own_shown n (front ++ s ∷ []) back count (held_last n front s held h.0) h.1 (let q = length-append front (s ∷ []) in omega (arith, e, q)))),
)
  where
    more : length (front ++ s ∷ []) ≡ suc (length front)
    more = (let q = length-append front (s ∷ []) in omega (arith, q))

-- ---- the lines one after the other
more_from : (count place k : ℕ) → own_lines count place (suc k) ≡ own_lines count place k ++ own_line count (place + k) ∷ []
more_from count place zero = ap (λ p. own_line count p ∷ []) (let e : place ≡ place + 0 = omega arith in e)
more_from count place (suc k) = ap (λ ls. own_line count place ∷ ls) (more_from count (suc place) k ∙ ap (λ p. own_lines count (suc place) k ++ own_line count p ∷ []) (let e : suc place + k ≡ place + suc k = omega arith in e))

pub lines_more : (count place k : ℕ) → own_lines count place (k + 1) ≡ own_lines count place k ++ own_line count (place + k) ∷ []
lines_more count place k = ap (own_lines count place) (let e : k + 1 ≡ suc k = omega arith in e) ∙ more_from count place k
