use Rattle.std.proofs.Common.{◌≡◌, ◌⊎◌, inl, inr, ℕ, ◌+◌, ◌<◌, ◌≤◌, ◌^◌, List, length, get_or, Bool, true, false, cond, arith, refl, sym, ap, ◌∙◌, subst, ℤ, pos, ◌-ℤ◌, ◌*ℤ◌, ◌<ℤ◌, unsigned_abs}
use Rattle.std.specs.Prelude.{nat_lt, int_lt, neg_ℤ, ◌*◌}
use Rattle.std.proofs.lemmas.Int.{ints, unsigned_abs-mul}
use Rattle.std.proofs.lemmas.Bool.Decides.{nat_tests}
use Rattle.std.proofs.Math.IntN.{*ℤ_comm}
use Rattle.std.proofs.lemmas.Bool.{cases_lt, cases_order}
use Rattle.tv_linear.proofs.Ring.{mul_assoc_z}
use Rattle.tv_fraction.specs.declared.Fraction.{Fraction}
use Rattle.tv_simplex.proofs.Ring.{mul_swap, same_factor, times_zero, zero_times, less_times, times_less, one_times_z}
use Rattle.tv_simplex.proofs.Sums.{total-same, total-delta, delta-same, delta-other}
use Rattle.tv_simplex.proofs.Bounded.{columns_apart}
use Rattle.tv_simplex.proofs.Matrices.{matrix_is_system}
use Rattle.tv_simplex.proofs.Shown.{solves, unsolved, none_negative}
use Rattle.tv_simplex.proofs.Signed.{sign-twice}
use Rattle.tv_simplex.proofs.AnswersMet.{scaled_sum, solution_met, barrier_met}
use Rattle.tv_simplex.specs.Sums.{total, delta}
use Rattle.tv_simplex.specs.Systems.{Equations, matrix, sign, right_at}
use Rattle.tv_simplex.specs.Chains.{column, objective}
use Rattle.tv_simplex.specs.Answers.{barrier_of}
use Rattle.tv_simplex.specs.Ratios.{IsRatio}
use Rattle.tv_simplex.specs.Outcomes.{IsShort, IsSolutionOf, IsBarrierOf, InChain, GivesSolution, GivesBarrier, HasScale, HasNoScale, solution_number, barrier_number, EndsInSolution, EndsInBarrier}
use Rattle.tv_simplex.specs.declared.stop.Stop.{Stop}
use Rattle.tv_simplex.specs.declared.stop.Stop.TheVariants.{Wide, Scale, Memory}
use Rattle.tv_simplex.specs.declared.table.Table.{Table}
use Rattle.tv_simplex.specs.Tables.{shown}
use Rattle.tv_simplex.specs.Choosing.{NoneNegative as NoneBelow}
use Rattle.tv_simplex.specs.Scales.{AreScaled, HaveScale, IsScalingStop, numerator_at, denominator_at, ratio_at}
use Rattle.tv_simplex.specs.Walking.{AreOfColumn, AreOfObjective, AreDistinct, AreValues, AreSigned, StandsAt, IsSolved, IsUnsolvedAt, IsAnswerStop}

-- w over a scale is a fraction, which is e / d
over_scale : (w den scale num d e : ℤ) → pos 0 <ℤ den → w *ℤ den ≡ scale *ℤ num → num *ℤ d ≡ e *ℤ den → w *ℤ d ≡ scale *ℤ e
over_scale w den scale num d e p h g = same_factor den (w *ℤ d) (scale *ℤ e) p (
    mul_swap den w d ∙ sym (mul_assoc_z w den d) ∙ ap (λ z. z *ℤ d) h ∙ mul_assoc_z scale num d ∙ ap (λ z. scale *ℤ z) (g ∙ *ℤ_comm e den) ∙ mul_swap scale den e
    )

-- and back
from_scale : (w den scale num d e : ℤ) → pos 0 <ℤ d → w *ℤ d ≡ scale *ℤ e → num *ℤ d ≡ e *ℤ den → w *ℤ den ≡ scale *ℤ num
from_scale w den scale num d e p h g = same_factor d (w *ℤ den) (scale *ℤ num) p (
    mul_swap d w den ∙ sym (mul_assoc_z w d den) ∙ ap (λ z. z *ℤ den) (ap (λ z. w *ℤ z) refl ∙ h) ∙ mul_assoc_z scale e den ∙ ap (λ z. scale *ℤ z) (sym g ∙ *ℤ_comm num d) ∙ mul_swap scale d num
    )

-- the numbers of the columns of the basis that the system has, and 0 at the others
abbrev whole_at : ℕ → List ℕ → (ℕ → ℤ) → ℕ → ℤ
whole_at columns basis f i = cond (nat_lt (column basis i) columns) (f (column basis i)) (pos 0)

inside : (columns : ℕ) (basis : List ℕ) (f : ℕ → ℤ) (i : ℕ) → column basis i < columns → whole_at columns basis f i ≡ f (column basis i)
inside columns basis f i g = at (nat_lt (column basis i) columns) (grind (arith, nat_tests))
  where
    at : (p : Bool) → p ≡ true → cond p (f (column basis i)) (pos 0) ≡ f (column basis i)
    at true e = refl
    at false e = cc

outside : (columns : ℕ) (basis : List ℕ) (f : ℕ → ℤ) (i : ℕ) → columns ≤ column basis i → whole_at columns basis f i ≡ pos 0
outside columns basis f i g = at (nat_lt (column basis i) columns) (grind (arith, nat_tests))
  where
    at : (p : Bool) → p ≡ false → cond p (f (column basis i)) (pos 0) ≡ pos 0
    at false e = refl
    at true e = cc

pub sign_size : (s : Equations) (k : ℕ) → unsigned_abs (sign s k) ≡ 1
sign_size s k = at (int_lt (right_at s k) (pos 0))
  where
    at : (p : Bool) → unsigned_abs (cond p (neg_ℤ (pos 1)) (pos 1)) ≡ 1
    at true = refl
    at false = refl

module _ (s : Equations) (n : ℕ) (t : Table) (st : StandsAt s n t) where
  basis_distinct : AreDistinct s.rows t.basis.items
  basis_distinct i l i_in l_in e = columns_apart (matrix s) s.rows s.columns (column t.basis.items) st.shows.table i l i_in l_in e

  pub distinct_basis : (b : List ℕ) → b ≡ t.basis.items → AreDistinct (length b) b
  distinct_basis b e = subst (λ z. AreDistinct (length z) z) (sym e) (subst (λ k. AreDistinct k t.basis.items) (sym st.size.basis) basis_distinct)

  abbrev in_chain : InChain s t.basis.items
  in_chain = record { earlier = st.earlier; chain = st.shows.chain; table = st.shows.table }

  ends_in_solution : IsSolved s t → EndsInSolution s t.basis.items st.shows.table
  ends_in_solution h = solves (matrix s) s.rows s.columns (matrix_is_system s) t.basis.items st.earlier (shown t) st.shows h

  ends_in_barrier : (i : ℕ) → IsUnsolvedAt s t i → NoneBelow (shown t s.rows) s.columns → EndsInBarrier s t.basis.items st.shows.table
  ends_in_barrier i u h = (
    unsolved (matrix s) s.rows s.columns (matrix_is_system s) t.basis.items st.earlier (shown t) st.shows i u.within u.artificial u.valued,
    none_negative (matrix s) s.rows s.columns (matrix_is_system s) t.basis.items st.earlier (shown t) st.shows h,
  )

  -- ---- solutions
  module _ (fractions : List Fraction) (of : AreOfColumn s.rows (s.columns + s.rows) (shown t) fractions) (solved : IsSolved s t) where
    value_read : (i : ℕ) → i < s.rows → IsRatio (ratio_at fractions i) (st.shows.table.entry i (s.columns + s.rows)) st.shows.table.scale
    value_read i l = subst (λ r. IsRatio r (st.shows.table.entry i (s.columns + s.rows)) st.shows.table.scale) (sym (of.same i l)) (st.shows.rows i (s.columns + s.rows) l (omega arith))

    pub gives_solution : (numbers values : List ℤ) (scale : ℤ) → AreScaled fractions numbers scale → AreValues s.rows s.columns t.basis.items numbers values → GivesSolution s values scale
    gives_solution numbers values scale scaled v = record {
      as_many = v.size;
      positive = scaled.positive;
      basis = t.basis.items;
      in_chain = in_chain;
      ends = ends_in_solution solved;
      numbers = λ j l.
          let x = st.shows.table in
          let w = λ (i : ℕ). get_or numbers i (pos 0) in
          let e = λ (i : ℕ). x.entry i (s.columns + s.rows) in
          let f = λ (i : ℕ). delta (column t.basis.items i) j in
          let each = λ (i : ℕ) (g : i < s.rows). over_scale (w i) (denominator_at fractions i) scale (numerator_at fractions i) x.scale (e i) (value_read i g).positive (scaled.same i (let z = of.size in omega (arith, z, g))) (value_read i g).same in
          ap (λ z. z *ℤ x.scale) (v.sums j l) ∙ *ℤ_comm (total s.rows (λ i. f i *ℤ w i)) x.scale ∙ scaled_sum s.rows w e f x.scale scale each;
    }

    pub right_solution : (numbers values : List ℤ) (scale : ℤ) → AreScaled fractions numbers scale → AreValues s.rows s.columns t.basis.items numbers values → IsSolutionOf s values scale
    right_solution numbers values scale scaled v = solution_met s values scale (gives_solution numbers values scale scaled v) scaled.scale_short v.short

    -- the value at a column of the basis
    own_value : (i : ℕ) → i < s.rows → solution_number s t.basis.items st.shows.table (column t.basis.items i) ≡ st.shows.table.entry i (s.columns + s.rows)
    own_value i l =
        total-same s.rows (λ k. delta (column t.basis.items k) (column t.basis.items i) *ℤ st.shows.table.entry k (s.columns + s.rows)) (λ k. delta k i *ℤ st.shows.table.entry k (s.columns + s.rows)) (λ k g. ap (λ z. z *ℤ st.shows.table.entry k (s.columns + s.rows)) (same k g))
        ∙ total-delta s.rows i (λ k. st.shows.table.entry k (s.columns + s.rows)) l
      where
        same : (k : ℕ) → k < s.rows → delta (column t.basis.items k) (column t.basis.items i) ≡ delta k i
        same k g = elim (cases_order k i) [
          | inl e ↦ ap (λ z. delta (column t.basis.items z) (column t.basis.items i)) e ∙ delta-same (column t.basis.items i) ∙ sym (ap (λ z. delta z i) e ∙ delta-same i)
          | inr w ↦ elim w [
            | inl less ↦ delta-other (column t.basis.items k) (column t.basis.items i) (λ e. basis_distinct i k l less (sym e)) ∙ sym (delta-other k i (λ e. absurd (omega arith)))
            | inr more ↦ delta-other (column t.basis.items k) (column t.basis.items i) (λ e. basis_distinct k i g more e) ∙ sym (delta-other k i (λ e. absurd (omega arith)))
          ]
        ]

    -- where the solution has a scale, the fractions have it
    have_scale : HasScale s.columns (solution_number s t.basis.items st.shows.table) st.shows.table.scale → HaveScale fractions
    have_scale h = record {
      scale = h.scale;
      whole = whole_at s.columns t.basis.items h.whole;
      positive = h.positive;
      scale_short = h.short;
      same = λ i l. same i (let z = of.size in omega (arith, z, l)) (cases_lt (column t.basis.items i) s.columns);
      short = λ i l. short i (cases_lt (column t.basis.items i) s.columns);
    }
      where
        same : (i : ℕ) → i < s.rows → (column t.basis.items i < s.columns) ⊎ (s.columns ≤ column t.basis.items i) → whole_at s.columns t.basis.items h.whole i *ℤ denominator_at fractions i ≡ h.scale *ℤ numerator_at fractions i
        same i l (inl g) =
            ap (λ z. z *ℤ denominator_at fractions i) (inside s.columns t.basis.items h.whole i g)
            ∙ from_scale (h.whole (column t.basis.items i)) (denominator_at fractions i) h.scale (numerator_at fractions i) st.shows.table.scale (st.shows.table.entry i (s.columns + s.rows)) st.shows.table.positive
            (h.same (column t.basis.items i) g ∙ ap (λ z. h.scale *ℤ z) (own_value i l)) (value_read i l).same
        same i l (inr g) =
            zero_times (whole_at s.columns t.basis.items h.whole i) (denominator_at fractions i) (outside s.columns t.basis.items h.whole i g)
            ∙ sym (times_zero h.scale (numerator_at fractions i) (ap (λ r. r.numerator) (of.same i l) ∙ solved i l g))

        short : (i : ℕ) → (column t.basis.items i < s.columns) ⊎ (s.columns ≤ column t.basis.items i) → IsShort (whole_at s.columns t.basis.items h.whole i)
        short i (inl g) = subst (λ z. IsShort z) (sym (inside s.columns t.basis.items h.whole i g)) (h.whole_short (column t.basis.items i) g)
        short i (inr g) = subst (λ z. IsShort z) (sym (outside s.columns t.basis.items h.whole i g)) (omega arith)

    pub solution_unscaled : (HaveScale fractions → ⊥) → HasNoScale s t.basis.items
    solution_unscaled never = record { in_chain = in_chain; none = inl (ends_in_solution solved, λ h. never (have_scale h)) }

  -- ---- barriers
  module _ (fractions : List Fraction) (of : AreOfObjective s.rows s.columns (shown t s.rows) fractions) (i : ℕ) (u : IsUnsolvedAt s t i) (none : NoneBelow (shown t s.rows) s.columns) where
    factor_read : (k : ℕ) → k < s.rows → IsRatio (ratio_at fractions k) (barrier_of (matrix s) s.rows s.columns (column t.basis.items) st.shows.table k) st.shows.table.scale
    factor_read k l =
        let o = st.shows.objective_row (s.columns + k) (omega arith) in
        let less = of.same k l in
        record {
          positive = less.positive;
          same = less_one (ratio_at fractions k).numerator (ratio_at fractions k).denominator (shown t s.rows (s.columns + k)).numerator (shown t s.rows (s.columns + k)).denominator (objective (matrix s) s.rows s.columns (column t.basis.items) st.shows.table (s.columns + k)) st.shows.table.scale o.positive less.same o.same;
        }
      where
        less_one : (x dx y dy v d : ℤ) → pos 0 <ℤ dy → x *ℤ dy ≡ (y -ℤ dy) *ℤ dx → y *ℤ d ≡ v *ℤ dy → x *ℤ d ≡ (v -ℤ d) *ℤ dx
        less_one x dx y dy v d p h g = same_factor dy (x *ℤ d) ((v -ℤ d) *ℤ dx) p (
            mul_swap dy x d ∙ sym (mul_assoc_z x dy d) ∙ ap (λ z. z *ℤ d) h ∙ mul_assoc_z (y -ℤ dy) dx d ∙ ap (λ z. (y -ℤ dy) *ℤ z) (*ℤ_comm dx d) ∙ sym (mul_assoc_z (y -ℤ dy) d dx)
            ∙ ap (λ z. z *ℤ dx) (less_times y dy d ∙ (let c = *ℤ_comm v dy in let e = times_less dy v d in omega (arith, ints, g, c, e))) ∙ mul_assoc_z dy (v -ℤ d) dx
            )

    pub gives_barrier : (numbers y : List ℤ) (scale : ℤ) → AreScaled fractions numbers scale → AreSigned s s.rows numbers y → GivesBarrier s y
    gives_barrier numbers y scale scaled v = record {
      as_many = v.size;
      basis = t.basis.items;
      in_chain = in_chain;
      ends = ends_in_barrier i u none;
      scale = scale;
      positive = scaled.positive;
      numbers = λ k l.
          let x = st.shows.table in
          let b = barrier_of (matrix s) s.rows s.columns (column t.basis.items) x k in
          let each = over_scale (get_or numbers k (pos 0)) (denominator_at fractions k) scale (numerator_at fractions k) x.scale b (factor_read k l).positive (scaled.same k (let z = of.size in omega (arith, z, l))) (factor_read k l).same in
          ap (λ z. z *ℤ x.scale) (v.same k l) ∙ mul_assoc_z (sign s k) (get_or numbers k (pos 0)) x.scale ∙ ap (λ z. sign s k *ℤ z) each ∙ mul_swap (sign s k) scale b;
    }

    pub right_barrier : (numbers y : List ℤ) (scale : ℤ) → AreScaled fractions numbers scale → AreSigned s s.rows numbers y → IsBarrierOf s y
    right_barrier numbers y scale scaled v = barrier_met s y (gives_barrier numbers y scale scaled v) v.short

    have_scale_too : HasScale s.rows (barrier_number s t.basis.items st.shows.table) st.shows.table.scale → HaveScale fractions
    have_scale_too h = record {
      scale = h.scale;
      whole = λ k. sign s k *ℤ h.whole k;
      positive = h.positive;
      scale_short = h.short;
      same = λ k l.
          let x = st.shows.table in
          let k_in : k < s.rows = (let z = of.size in omega (arith, z, l)) in
          let b = barrier_of (matrix s) s.rows s.columns (column t.basis.items) x k in
          from_scale (sign s k *ℤ h.whole k) (denominator_at fractions k) h.scale (numerator_at fractions k) x.scale b x.positive
          (mul_assoc_z (sign s k) (h.whole k) x.scale ∙ ap (λ z. sign s k *ℤ z) (h.same k k_in) ∙ mul_swap (sign s k) h.scale (sign s k *ℤ b) ∙ ap (λ z. h.scale *ℤ z) (sym (mul_assoc_z (sign s k) (sign s k) b) ∙ ap (λ z. z *ℤ b) (sign-twice s k) ∙ one_times_z b))
          (factor_read k k_in).same;
      short = λ k l. (let k_in : k < s.rows = (let z = of.size in omega (arith, z, l)) in let m = unsigned_abs-mul (sign s k) (h.whole k) in let o = sign_size s k in let w = h.whole_short k k_in in
          subst (λ z. z < 2 ^ 62) (sym (m ∙ ap (λ z. z * unsigned_abs (h.whole k)) o ∙ one_times (unsigned_abs (h.whole k)))) w);
    }
      where
        one_times : (z : ℕ) → 1 * z ≡ z
        one_times z = omega arith

    pub barrier_unscaled : (HaveScale fractions → ⊥) → HasNoScale s t.basis.items
    barrier_unscaled never = record { in_chain = in_chain; none = inr (ends_in_barrier i u none, λ h. never (have_scale_too h)) }

pub scaling_stops : (s : Equations) (basis : List ℕ) (fractions : List Fraction) (stop : Stop) → ((HaveScale fractions → ⊥) → HasNoScale s basis) → IsScalingStop fractions stop → IsAnswerStop s basis stop
scaling_stops s basis fractions (Wide row column) f h = h
scaling_stops s basis fractions Scale f h = f h
scaling_stops s basis fractions Memory f h = tt
