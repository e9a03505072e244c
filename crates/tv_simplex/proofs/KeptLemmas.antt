use Rattle.std.proofs.Common.{◌≡◌, inl, inr, ℕ, ◌+◌, ◌-◌, ◌*◌, ◌<◌, ◌≤◌, List, [], ◌∷◌, length, get_or, take, drop, take_all, arith, refl, sym, ap, ◌∙◌, subst, ℤ, pos, ◌*ℤ◌}
use Rattle.std.proofs.lemmas.Bool.{cases_lt}
use Rattle.tv_simplex.proofs.Ring.{times_zero}
use Rattle.tv_simplex.proofs.Signed.{matrix-entry}
use Rattle.tv_simplex.proofs.SettleLemmas.{given_left}
use Rattle.tv_simplex.proofs.EntriesLemmas.{number-here, number-behind, zero_before}
use Rattle.tv_simplex.specs.declared.entries.Kept.{Kept}
use Rattle.tv_simplex.specs.Entries.{AreOrdered, AreKept}
use Rattle.tv_simplex.specs.Systems.{Equations, entry_at, sign, matrix}
use Rattle.tv_simplex.specs.Outcomes.{IsNarrow, IsNarrowSystem, given}
use Rattle.tv_simplex.specs.Starting.{AreZero}

-- the first of the numbers, if there is one
abbrev pub first_of : List Kept → Kept
first_of ks = get_or ks 0 (record { place = 0; number = pos 0 })

-- a column, and what is after it: the number there is this one, and those before it are 0
pub record IsNextKept (numbers : ℕ → ℤ) (start first end column : ℕ) (number : ℤ) (rest : List Kept) : Type 0 where
  pub from : first ≤ column
  pub below : column < end
  pub is : numbers column ≡ number
  pub zeros : AreZero numbers first column
  pub behind : AreKept numbers start (column + 1) end rest

module _ (numbers : ℕ → ℤ) (start first end : ℕ) where
  -- where none is left, the others are 0
  pub none_kept : (ks : List Kept) → length ks < 1 → AreKept numbers start first end ks → AreZero numbers first end
  none_kept [] l h j low up = sym (h.same j low up)
  none_kept (k ∷ ks) l h j low up = absurd (omega (arith, l))

  next_front : (k : Kept) (ks : List Kept) → AreKept numbers start first end (k ∷ ks) → IsNextKept numbers start first end (k.place - start) k.number ks
  next_front k ks h =
      let low = h.ordered.0 in
      let up = h.ordered.1 in
      let place : start + (k.place - start) ≡ k.place = omega (arith, low) in
      let from : first ≤ k.place - start = omega (arith, low) in
      let below : k.place - start < end = omega (arith, low, up) in
      record {
        from = from;
        below = below;
        is = sym (h.same (k.place - start) from below) ∙ number-here k ks (start + (k.place - start)) (sym place);
        zeros = λ j after before.
            sym (h.same j after (omega (arith, before, below)))
            ∙ number-behind k ks (start + j) (λ g. absurd (omega (arith, g, before, low)))
            ∙ zero_before (k.place + 1) (start + end) ks (start + j) h.ordered.2 (omega (arith, before, low));
        behind = record {
          ordered = subst (λ z. AreOrdered z (start + end) ks) (let e : k.place + 1 ≡ start + (k.place - start + 1) = omega (arith, low) in e) h.ordered.2;
          same = λ j after before.
              sym (number-behind k ks (start + j) (λ g. absurd (omega (arith, g, after, low))))
              ∙ h.same j (omega (arith, from, after)) before;
        };
      }

  pub next_kept : (ks : List Kept) → 1 ≤ length ks → AreKept numbers start first end ks
      → IsNextKept numbers start first end ((first_of ks).place - start) (first_of ks).number (take (length ks - 1) (drop 1 ks))
  next_kept [] l h = absurd (omega (arith, l))
  next_kept (k ∷ ks) l h =
      let n : length (k ∷ ks) - 1 ≡ length ks = omega arith in
      subst (λ z. IsNextKept numbers start first end (k.place - start) k.number z) (sym (ap (λ z. take z ks) n ∙ take_all (length ks) ks (omega arith))) (next_front k ks h)

-- ---- in a row of a system
matrix-zero : (s : Equations) (k j : ℕ) → j < s.columns → entry_at s k j ≡ pos 0 → matrix s k j ≡ pos 0
matrix-zero s k j l e = matrix-entry s k j l ∙ ap (λ z. sign s k *ℤ z) e ∙ times_zero (sign s k) (pos 0) refl

pub matrix_zeros : (s : Equations) (k from to : ℕ) → to ≤ s.columns → AreZero (entry_at s k) from to → AreZero (matrix s k) from to
matrix_zeros s k from to l h j low up = matrix-zero s k j (omega (arith, l, up)) (h j low up)

pub entry_narrow_in : (s : Equations) (k j : ℕ) → IsNarrowSystem s → k < s.rows → j < s.columns → IsNarrow (entry_at s k j)
entry_narrow_in s k j h l m = subst (λ z. IsNarrow z) (given_left s k j m) (h k j l (inl m))

-- of the numbers before a column those below another are narrow, and the others are 0
pub narrow_before : (numbers : ℕ → ℤ) (from to : ℕ) → ((j : ℕ) → j < from → IsNarrow (numbers j)) → AreZero numbers from to → (j : ℕ) → j < to → IsNarrow (numbers j)
narrow_before numbers from to h zeros j l = elim (cases_lt j from) [
  | inl g ↦ h j g
  | inr g ↦ subst (λ z. IsNarrow z) (sym (zeros j g l)) (omega arith)
]

-- a row whose entries are narrow up to a column is narrow there
pub given_before : (s : Equations) (k to : ℕ) → to ≤ s.columns → ((j : ℕ) → j < to → IsNarrow (entry_at s k j)) → (j : ℕ) → j < to → IsNarrow (given s k j)
given_before s k to l h j below = subst (λ z. IsNarrow z) (sym (given_left s k j (omega (arith, l, below)))) (h j below)

pub first_narrow : (s : Equations) (k first column : ℕ) (number : ℤ) (rest : List Kept) → IsNarrowSystem s → k < s.rows → IsNextKept (entry_at s k) (k * s.columns) first s.columns column number rest → IsNarrow number
first_narrow s k first column number rest h l n = subst (λ z. IsNarrow z) n.is (entry_narrow_in s k column h l n.below)

pub first_matrix : (s : Equations) (k first column : ℕ) (number : ℤ) (rest : List Kept) → IsNextKept (entry_at s k) (k * s.columns) first s.columns column number rest → sign s k *ℤ number ≡ matrix s k column
first_matrix s k first column number rest n = ap (λ z. sign s k *ℤ z) (sym n.is) ∙ sym (matrix-entry s k column n.below)

pub zeros_joined : (numbers : ℕ → ℤ) (first middle end : ℕ) → AreZero numbers first middle → AreZero numbers middle end → AreZero numbers first end
zeros_joined numbers first middle end h g j low up = elim (cases_lt j middle) [
  | inl l ↦ h j low l
  | inr l ↦ g j l up
]
