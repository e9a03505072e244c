use Rattle.std.proofs.Common.{◌≡◌, inl, inr, ℕ, ◌+◌, ◌-◌, ◌<◌, ◌≤◌, List, [], length, Vec, arith, refl, sym, ap, ◌∙◌, subst, ℤ, pos, ◌*ℤ◌}
use Rattle.std.proofs.lemmas.Int.{ints}
use Rattle.std.proofs.lemmas.Bool.Decides.{nat_tests}
use Rattle.tv_simplex.proofs.Starts.{shows_start}
use Rattle.tv_simplex.proofs.Sums.{total-same, total-delta, delta-same, delta-other}
use Rattle.tv_simplex.proofs.Answered.{cost-one, cost-right}
use Rattle.tv_simplex.proofs.Matrices.{matrix_is_system}
use Rattle.tv_simplex.specs.Sums.{delta}
use Rattle.tv_simplex.specs.Systems.{Equations, matrix, right_at}
use Rattle.tv_simplex.specs.Chains.{cost, IsArtificial}
use Rattle.tv_simplex.specs.Rows.{none, row_of, IsSparse, IsGrid}
use Rattle.tv_simplex.specs.Marks.{AreMarked}
use Rattle.tv_simplex.specs.declared.rows.Entry.{Entry}
use Rattle.tv_simplex.specs.declared.table.Table.{Table}
use Rattle.tv_simplex.specs.Tables.{shown, width_of}
use Rattle.tv_simplex.specs.Outcomes.{IsNarrow, IsNarrowSystem, given}
use Rattle.tv_simplex.specs.Starting.{last, first_objective, AreZero, IsNumber, IsFirstTable}
use Rattle.tv_simplex.specs.Walking.{StandsAt}
use Rattle.tv_linear.proofs.ListLaws.{last_or_below}

pub cost_artificial : (m n j : ℕ) → n ≤ j → j < n + m → cost m n j ≡ pos 1
cost_artificial m n j h l = (let e : j ≡ n + (j - n) = omega arith in ap (cost m n) e) ∙ cost-one m n (j - n) (omega arith)

pub cost_last : (m n j : ℕ) → n + m ≤ j → j ≤ n + m → cost m n j ≡ pos 0
cost_last m n j h l = (let e : j ≡ n + m = omega arith in ap (cost m n) e) ∙ cost-right m n

given_right : (s : Equations) (k : ℕ) → given s k (s.columns + s.rows) ≡ right_at s k
given_right s k = grind (arith, nat_tests)

pub right_narrow : (s : Equations) (k : ℕ) → IsNarrowSystem s → k < s.rows → IsNarrow (right_at s k)
right_narrow s k h l = subst (λ z. IsNarrow z) (given_right s k) (h k (s.columns + s.rows) l (inr refl))

pub matrix_own : (s : Equations) (k j : ℕ) → k < s.rows → j ≡ s.columns + k → matrix s k j ≡ pos 1
matrix_own s k j l e = ap (matrix s k) e ∙ (matrix_is_system s).artificial k k l l ∙ delta-same k

pub matrix_other : (s : Equations) (k j : ℕ) → k < s.rows → s.columns ≤ j → j ≤ s.columns + s.rows → (j ≡ s.columns + s.rows → ⊥) → (j ≡ s.columns + k → ⊥) → matrix s k j ≡ pos 0
matrix_other s k j l low high last own =
    let i = j - s.columns in
    let e : j ≡ s.columns + i = omega arith in
    let below : j < s.columns + s.rows = strictly (s.columns + s.rows) j high last in
    let i_in : i < s.rows = omega arith in
    ap (matrix s k) e ∙ (matrix_is_system s).artificial k i l i_in ∙ delta-other k i (λ g. own (let f : j ≡ s.columns + k = omega (arith, e, g) in f))
  where
    strictly : (p q : ℕ) → q ≤ p → (q ≡ p → ⊥) → q < p
    strictly p q h n = grind arith

-- a row has 0 in the artificial columns of the other rows
pub zero_under : (s : Equations) (k : ℕ) → k < s.rows → AreZero (matrix s k) s.columns (s.columns + k)
zero_under s k l j low high = matrix_other s k j l low (omega (arith, l, high)) (λ e. absurd (omega (arith, l, high, e))) (λ e. absurd (omega (arith, high, e)))

pub zero_over : (s : Equations) (k : ℕ) → k < s.rows → AreZero (matrix s k) (s.columns + k + 1) (s.columns + s.rows)
zero_over s k l j low high = matrix_other s k j l (omega (arith, low)) (omega (arith, high)) (λ e. absurd (omega (arith, high, e))) (λ e. absurd (omega (arith, low, e)))

-- ---- rows of integers
pub number_none : (numbers : ℕ → ℤ) (j : ℕ) → numbers j ≡ pos 0 → IsNumber numbers j none
number_none numbers j e = record { positive = omega (arith, ints); same = ap (λ z. z *ℤ pos 1) (sym e) }

-- the objective row has 0 in the artificial columns
pub objective_zero : (s : Equations) → AreZero (first_objective s) s.columns (s.columns + s.rows)
objective_zero s j low high =
    let k = j - s.columns in
    let l : k < s.rows = omega (arith, low, high) in
    let at : j ≡ s.columns + k = omega (arith, low) in
    let sum = total-same s.rows (λ i. matrix s i (s.columns + k)) (λ i. delta i k *ℤ pos 1) (λ i g. (matrix_is_system s).artificial i k g l ∙ one (delta i k)) ∙ total-delta s.rows k (λ i. pos 1) l in
    let cost = cost-one s.rows s.columns k l in
    ap (first_objective s) at ∙ omega (arith, ints, sum, cost)
  where
    one : (z : ℤ) → z ≡ z *ℤ pos 1
    one z = omega (arith, ints)

-- ---- the table of the artificial basis stands
pub first_grid : {A : Type 0} (s : Equations) (rows : List (Vec Entry A)) → IsFirstTable s rows → IsGrid (last s + 1) rows
first_grid s rows h i l = elim (last_or_below s.rows i (let k = h.height in omega (arith, k, l))) [
  | inl e ↦ subst (λ z. IsSparse 0 (last s + 1) (row_of rows z)) (sym e) h.objective.sparse
  | inr g ↦ (h.row i g).sparse
]

module _ (s : Equations) (t : Table) (b : IsArtificial s.rows s.columns t.basis.items) (columns : t.columns ≡ s.columns) (h : IsFirstTable s t.rows.items) (marks : AreMarked t.columns (length t.basis.items) t.rows.items t.marks.items) where
  width : width_of t ≡ last s + 1
  width = (let n = b.size in omega (arith, n, columns))

  pub first_stands : StandsAt s 0 t
  first_stands = record {
    table = record {
      height = h.height ∙ (let n = b.size in let e : s.rows + 1 ≡ length t.basis.items + 1 = omega (arith, n) in e);
      grid = subst (λ z. IsGrid z t.rows.items) (sym width) (first_grid s t.rows.items h);
      marks = marks;
    };
    size = record { basis = b.size; columns = columns };
    earlier = [];
    many = refl;
    shows = shows_start (matrix s) s.rows s.columns (matrix_is_system s) t.basis.items b (shown t)
        (λ i j l k. (h.row i l).each j (omega (arith, k)))
        (λ j k. h.objective.each j (omega (arith, k)));
  }
