use Rattle.std.proofs.Common.{◌≡◌, ℕ, ◌<◌, List, get_or, inl, inr, arith, sym, ap, ◌∙◌, subst, ℤ, pos, ◌*ℤ◌, ◌<ℤ◌, ◌≤ℤ◌}
use Rattle.std.proofs.lemmas.Int.{ints}
use Rattle.std.proofs.Math.IntN.{*ℤ_comm}
use Rattle.tv_simplex.proofs.Ring.{mul_swap, same_factor, by_sign, under_times, times_zero}
use Rattle.tv_simplex.proofs.Sums.{total-same, total-times}
use Rattle.tv_simplex.proofs.Chains.{last_of}
use Rattle.tv_simplex.proofs.Steps.{feasible-any}
use Rattle.tv_simplex.proofs.GoesOn.{leads_value}
use Rattle.tv_simplex.proofs.Answered.{solution, barrier}
use Rattle.tv_simplex.proofs.Matrices.{matrix_is_system}
use Rattle.tv_simplex.proofs.Signed.{solution_back, barrier_columns, barrier_below}
use Rattle.tv_simplex.specs.Sums.{total}
use Rattle.tv_simplex.specs.Systems.{Equations, entry_at, right_at, matrix}
use Rattle.tv_simplex.specs.Chains.{column, order}
use Rattle.tv_simplex.specs.Answers.{IsBarrier, barrier_of}
use Rattle.tv_simplex.specs.Outcomes.{IsShort, IsSolutionOf, IsBarrierOf, InChain, EndsInBarrier, GivesSolution, GivesBarrier, solution_number, barrier_number}
use Rattle.tv_fraction.proofs.Products.{product_above}

-- a factor above 0 keeps the sign
pub at_least : (a v : ℤ) → pos 0 <ℤ a → pos 0 ≤ℤ (a *ℤ v) → pos 0 ≤ℤ v
at_least a v h e = elim (by_sign v) [
  | inl n ↦ (let k = under_times v a n h in let c = *ℤ_comm a v in absurd (omega (arith, ints, k, c, e)))
  | inr w ↦ elim w [ inl z ↦ omega (arith, ints, z) | inr p ↦ omega (arith, ints, p) ]
]

pub times_at_least : (a v : ℤ) → pos 0 <ℤ a → pos 0 ≤ℤ v → pos 0 ≤ℤ (a *ℤ v)
times_at_least a v h k = grind (arith, ints)

is_below : (a v : ℤ) → pos 0 <ℤ a → (a *ℤ v) <ℤ pos 0 → v <ℤ pos 0
is_below a v h e = elim (by_sign v) [
  | inl n ↦ n
  | inr w ↦ elim w [
    | inl z ↦ (let k = times_zero a v z in absurd (omega (arith, ints, k, e)))
    | inr p ↦ (let k = product_above a v h p in absurd (omega (arith, ints, k, e)))
  ]
]

-- numbers over one scale, summed up with the same factors
pub scaled_sum : (n : ℕ) (x y f : ℕ → ℤ) (s t : ℤ) → ((j : ℕ) → j < n → x j *ℤ s ≡ t *ℤ y j) → s *ℤ total n (λ j. f j *ℤ x j) ≡ t *ℤ total n (λ j. f j *ℤ y j)
scaled_sum n x y f s t h =
    sym (total-times n s (λ j. f j *ℤ x j))
    ∙ total-same n (λ j. s *ℤ (f j *ℤ x j)) (λ j. t *ℤ (f j *ℤ y j)) (λ j l. mul_swap s (f j) (x j) ∙ ap (λ z. f j *ℤ z) (*ℤ_comm s (x j) ∙ h j l) ∙ mul_swap (f j) t (y j))
    ∙ total-times n t (λ j. f j *ℤ y j)

pub solution_met : (s : Equations) (values : List ℤ) (scale : ℤ) → GivesSolution s values scale → IsShort scale → ((j : ℕ) → j < s.columns → IsShort (get_or values j (pos 0))) → IsSolutionOf s values scale
solution_met s values scale g scale_short short =
    let x = g.in_chain.table in
    let is = solution (matrix s) s.rows s.columns (column g.basis) x g.ends in
    let v = λ (j : ℕ). get_or values j (pos 0) in
    let w = solution_number s g.basis x in
    record {
      as_many = g.as_many;
      none_negative = λ j l. at_least x.scale (v j) x.positive (subst (λ z. pos 0 ≤ℤ z) (sym (*ℤ_comm x.scale (v j) ∙ g.numbers j l)) (times_at_least scale (w j) g.positive (is.not_under j l)));
      positive = g.positive;
      met = λ k l. same_factor x.scale (total s.columns (λ j. entry_at s k j *ℤ v j)) (scale *ℤ right_at s k) x.positive (
          scaled_sum s.columns v w (entry_at s k) x.scale scale g.numbers
          ∙ ap (λ z. scale *ℤ z) (solution_back s w x.scale is k l)
          ∙ mul_swap scale x.scale (right_at s k)
          );
      short = short;
      scale_short = scale_short;
    }

-- what the barrier of the last basis is
pub barrier_is : (s : Equations) (basis : List ℕ) (in_chain : InChain s basis) → EndsInBarrier s basis in_chain.table → IsBarrier (matrix s) s.rows s.columns (barrier_of (matrix s) s.rows s.columns (column basis) in_chain.table)
barrier_is s basis in_chain ends =
    let last = last_of (matrix s) s.rows s.columns (matrix_is_system s) basis in_chain.earlier in_chain.chain in
    let f = feasible-any (matrix s) s.rows s.columns (column basis) last.table in_chain.table last.feasible in
    barrier (matrix s) s.rows s.columns (column basis) in_chain.table (λ i l. leads_value s.rows (λ q. in_chain.table.entry i (order s.rows s.columns q)) (f i l)) last.inside ends.0 ends.1

swapped : (n : ℕ) (x f : ℕ → ℤ) → total n (λ k. x k *ℤ f k) ≡ total n (λ k. f k *ℤ x k)
swapped n x f = total-same n (λ k. x k *ℤ f k) (λ k. f k *ℤ x k) (λ k l. *ℤ_comm (x k) (f k))

pub barrier_met : (s : Equations) (y : List ℤ) → GivesBarrier s y → ((k : ℕ) → k < s.rows → IsShort (get_or y k (pos 0))) → IsBarrierOf s y
barrier_met s y g short =
    let x = g.in_chain.table in
    let is = barrier_is s g.basis g.in_chain g.ends in
    let v = λ (k : ℕ). get_or y k (pos 0) in
    let w = barrier_number s g.basis x in
    let sums = λ (f : ℕ → ℤ). ap (λ z. x.scale *ℤ z) (swapped s.rows v f) ∙ scaled_sum s.rows v w f x.scale g.scale g.numbers ∙ ap (λ z. g.scale *ℤ z) (sym (swapped s.rows w f)) in
    record {
      as_many = g.as_many;
      not_under = λ j l. at_least x.scale (total s.rows (λ k. v k *ℤ entry_at s k j)) x.positive (subst (λ z. pos 0 ≤ℤ z) (sym (sums (λ k. entry_at s k j))) (times_at_least g.scale (total s.rows (λ k. w k *ℤ entry_at s k j)) g.positive (barrier_columns s (barrier_of (matrix s) s.rows s.columns (column g.basis) x) is j l)));
      below = is_below x.scale (total s.rows (λ k. v k *ℤ right_at s k)) x.positive (
          let e = sums (right_at s) in
          let low = under_times (total s.rows (λ k. w k *ℤ right_at s k)) g.scale (barrier_below s (barrier_of (matrix s) s.rows s.columns (column g.basis) x) is) g.positive in
          let c = *ℤ_comm (total s.rows (λ k. w k *ℤ right_at s k)) g.scale in
          omega (arith, ints, e, low, c));
      short = short;
    }
