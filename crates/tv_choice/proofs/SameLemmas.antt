-- Denials of rows, and rows that are shown, by rows with the same numbers.
use Rattle.std.proofs.Common.{◌≡◌, ℕ, ◌<◌, ◌≤◌, ◌^◌, List, [], ◌∷◌, ◌++◌, get_or, None, Some, arith, sym, ap, ◌∙◌, subst, ℤ, pos, neg_ℤ, ◌-ℤ◌, unsigned_abs, inl, inr}
use Rattle.std.proofs.lemmas.List.{get_or_past, get_or_default}
use Rattle.tv_linear.specs.Linear.{Linear, columns}
use Rattle.tv_linear.specs.Arithmetic.{denial}
use Rattle.tv_linear.specs.Fits.{IsHeld, IsNarrowAt}
use Rattle.tv_linear.specs.Known.{Known, given, denied, known_number, as_given}
use Rattle.tv_linear.specs.Covers.{Shown}
use Rattle.tv_linear.specs.Same.{SameNumbers, AreSame}
use Rattle.tv_linear.proofs.KnownLemmas.{as_given-append}
use Rattle.tv_linear.proofs.SameLemmas.{same_self, same_push, refutes_same}
use Rattle.tv_farkas.specs.Stretching.{AreSides}
use Rattle.tv_farkas.proofs.SideLemmas.{get_or-neg}
use Rattle.tv_choice.specs.Same.{AreKnown}
use Rattle.tv_choice.specs.Looking.{AreShown}
use Rattle.std.proofs.lemmas.Bool.{cases_lt}
use Rattle.tv_linear.proofs.HeldLemmas.{narrow_held}

-- ---- denials

-- the numbers of a narrow row
pub small_number : (r : Linear) → ((column : ℕ) → column ≤ columns r → IsNarrowAt r column) → (j : ℕ) → unsigned_abs (get_or r.coefficients j (pos 0)) < 2 ^ 62
small_number r h j = elim (cases_lt j (columns r)) [
  | inl l ↦ subst (λ z. unsigned_abs z < 2 ^ 62) (get_or_default r.coefficients j r.constant (pos 0) l) (h j (omega (arith, l)))
  | inr p ↦ subst (λ z. unsigned_abs z < 2 ^ 62) (sym (get_or_past r.coefficients j (pos 0) p)) (omega arith)
]

pub small_constant : (r : Linear) → ((column : ℕ) → column ≤ columns r → IsNarrowAt r column) → unsigned_abs r.constant < 2 ^ 62
small_constant r h = subst (λ z. unsigned_abs z < 2 ^ 62) (get_or_past r.coefficients (columns r) r.constant (omega arith)) (h (columns r) (omega arith))

pub denied_same : (n : ℕ) (r : Linear) (k : Known) → SameNumbers n (given r) k → ((column : ℕ) → column ≤ columns (denial r) → IsNarrowAt (denial r) column) → SameNumbers n (given (denial r)) (denied k)
denied_same n r k h narrow = record {
  inner = λ j l. inner_is j l;
  constant = constant_is;
  inner_held = λ j l g. (h.inner_held j l tt, subst (λ z. IsHeld z) (sym (inner_is j l)) (narrow_held (get_or (denial r).coefficients j (pos 0)) (small_number (denial r) narrow j)));
  constant_held = λ g. (h.constant_held tt, subst (λ z. IsHeld z) (sym constant_is) (narrow_held (denial r).constant (small_constant (denial r) narrow)));
}
  where
    inner_is : (j : ℕ) → j < n → known_number (denied k) (Some j) ≡ known_number (given (denial r)) (Some j)
    inner_is j l = ap neg_ℤ (h.inner j l) ∙ sym (get_or-neg r.coefficients j)

    constant_is : known_number (denied k) None ≡ known_number (given (denial r)) None
    constant_is = ap (λ z. pos 1 -ℤ z) h.constant

-- ---- rows that are shown
pub shown_same : (n : ℕ) (rows owed : List Linear) (lists : List (List ℤ)) (known wanted : List Known) → AreShown n rows owed lists → AreSame n (as_given rows) known → AreSame n (as_given owed) wanted → Shown n known wanted lists
shown_same n rows [] [] known [] h g e = tt
shown_same n rows [] [] known (q ∷ wanted) h g e = absurd e
shown_same n rows [] (ms ∷ lists) known wanted h g e = absurd h
shown_same n rows (r ∷ owed) [] known wanted h g e = absurd h
shown_same n rows (r ∷ owed) (ms ∷ lists) known [] h g e = absurd e
shown_same n rows (r ∷ owed) (ms ∷ lists) known (q ∷ wanted) h g e = (
  refutes_same n (as_given (rows ++ denial r ∷ [])) (known ++ denied q ∷ []) ms
      (subst (λ ks. AreSame n ks (known ++ denied q ∷ [])) (sym (as_given-append rows (denial r ∷ []))) (same_push n (as_given rows) known (given (denial r)) (denied q) g (denied_same n r q e.0 h.0.narrow))) h.0.refutes,
  shown_same n rows owed lists known wanted h.1 g e.1,
)

-- ---- known rows
pub known_more : (rows : List Linear) (r : Linear) (known : List Known) (q : Known) → ((w : ℕ) → SameNumbers w (given r) q) → AreKnown rows known → AreKnown (rows ++ r ∷ []) (known ++ q ∷ [])
known_more rows r known q h k w = subst (λ ks. AreSame w ks (known ++ q ∷ [])) (sym (as_given-append rows (r ∷ []))) (same_push w (as_given rows) known (given r) q (k w) (h w))

known_as : (w : ℕ) (rows : List Linear) (known : List Known) → AreSides w rows known → AreSame w (as_given rows) known
known_as w [] [] h = tt
known_as w [] (k ∷ known) h = absurd h
known_as w (r ∷ rows) [] h = absurd h
known_as w (r ∷ rows) (k ∷ known) h = (
  record { inner = h.0.inner; constant = h.0.constant; inner_held = λ j l g. h.0.held (Some j); constant_held = λ g. h.0.held None },
  known_as w rows known h.1,
)

-- the known rows of the contract
pub known_of : (rows : List Linear) (known : List Known) → ((w : ℕ) → AreSides w rows known) → AreKnown rows known
known_of rows known h w = known_as w rows known (h w)

pub known_self : (rows : List Linear) → AreKnown rows (as_given rows)
known_self [] w = tt
known_self (r ∷ rows) w = (same_self w (given r), known_self rows w)
