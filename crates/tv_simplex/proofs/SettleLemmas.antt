use Rattle.std.proofs.Common.{◌≡◌, inl, inr, ℕ, zero, suc, ◌+◌, ◌*◌, ◌<◌, ◌≤◌, ◌^◌, List, [], Bool, true, false, cond, arith, refl, sym, ap, ◌∙◌, subst, ℤ, pos, ◌*ℤ◌, ◌<ℤ◌, unsigned_abs}
use Rattle.std.specs.Prelude.{nat_lt}
use Rattle.std.proofs.lemmas.Int.{ints, unsigned_abs-mul}
use Rattle.std.proofs.lemmas.Bool.Decides.{nat_tests}
use Rattle.std.proofs.Math.IntN.{*ℤ_comm}
use Rattle.tv_linear.proofs.Ring.{mul_assoc_z}
use Rattle.tv_simplex.proofs.Ring.{mul_swap, same_factor}
use Rattle.tv_simplex.proofs.Faults.{fewer}
use Rattle.tv_simplex.proofs.Matrices.{matrix_is_system, matrix-right_is}
use Rattle.tv_simplex.proofs.Reduced.{lowest_narrow}
use Rattle.tv_simplex.proofs.Signed.{matrix-entry}
use Rattle.tv_simplex.proofs.Starts.{shows_start}
use Rattle.tv_simplex.specs.Choices.{choices}
use Rattle.tv_simplex.specs.Systems.{Equations, IsWhole, entry_at, right_at, sign, matrix}
use Rattle.tv_simplex.specs.Chains.{column, objective, IsArtificial}
use Rattle.tv_simplex.specs.Ratios.{Ratio, IsRatio, Shows}
use Rattle.tv_simplex.specs.Outcomes.{IsNarrow, HasNarrow, IsWide, InChain, IsGivenColumn, IsFirstWide, AreUnsettled, HasNoScale, given}
use Rattle.tv_simplex.specs.declared.fault.SolveFault.{SolveFault}
use Rattle.tv_simplex.specs.declared.fault.SolveFault.TheVariants as faults
use Rattle.tv_simplex.specs.declared.stop.Stop.{Stop}
use Rattle.tv_simplex.specs.declared.stop.Stop.TheVariants.{Wide, Scale, Memory}
use Rattle.tv_simplex.specs.Views.{IsFault}
use Rattle.tv_simplex.specs.Starting.{first_objective, IsWideObjective, IsStartStop}
use Rattle.tv_simplex.specs.Stops.{HasNumberedPlace, IsFaultAt}
use Rattle.tv_simplex.specs.Walking.{IsWalkStop}
use Rattle.tv_simplex.proofs.EndLemmas.{sign_size}
use Rattle.tv_simplex.proofs.ScaleLemmas.{above_size}

-- the columns are counted by 32 bits, the artificial ones and the right side too
bounded : (r c : ℕ) → r < 2 ^ 32 → c < 2 ^ 32 → r * c ≤ 4000000 → c + r < 2 ^ 32
bounded zero c h k l = omega (arith, k)
bounded (suc r) zero h k l = omega (arith, h)
bounded (suc r) (suc c) h k l = omega (arith, l)

pub few_columns : (s : Equations) → IsWhole s → s.columns + s.rows < 2 ^ 32
few_columns s w = bounded s.rows s.columns w.few_rows w.few_columns w.size

-- ---- the artificial basis
abbrev start_number : Equations → ℕ → ℕ → ℤ
start_number s i j = cond (nat_lt i s.rows) (matrix s i j) (first_objective s j)

abbrev start_read : Equations → ℕ → ℕ → Ratio
start_read s i j = record { numerator = start_number s i j; denominator = pos 1 }

inner : (s : Equations) (i j : ℕ) → i < s.rows → start_number s i j ≡ matrix s i j
inner s i j l = at (nat_lt i s.rows) (grind (arith, nat_tests))
  where
    at : (p : Bool) → p ≡ true → cond p (matrix s i j) (first_objective s j) ≡ matrix s i j
    at true e = refl
    at false e = cc

outer : (s : Equations) (j : ℕ) → start_number s s.rows j ≡ first_objective s j
outer s j = at (nat_lt s.rows s.rows) (grind (arith, nat_tests))
  where
    at : (p : Bool) → p ≡ false → cond p (matrix s s.rows j) (first_objective s j) ≡ first_objective s j
    at false e = refl
    at true e = cc

as_ratio : (v w : ℤ) → v ≡ w → IsRatio (record { numerator = v; denominator = pos 1 }) w (pos 1)
as_ratio v w e = record { positive = omega (arith, ints); same = ap (λ z. z *ℤ pos 1) e }

start_shows : (s : Equations) (basis : List ℕ) → IsArtificial s.rows s.columns basis → Shows (matrix s) s.rows s.columns basis [] (start_read s)
start_shows s basis h = shows_start (matrix s) s.rows s.columns (matrix_is_system s) basis h (start_read s) (λ i j l k. as_ratio (start_number s i j) (matrix s i j) (inner s i j l)) (λ j k. as_ratio (start_number s s.rows j) (first_objective s j) (outer s j))

start_chain : (s : Equations) (basis : List ℕ) → IsArtificial s.rows s.columns basis → InChain s basis
unfolding start_shows
start_chain s basis h = (let x = start_shows s basis h in record { earlier = []; chain = x.chain; table = x.table })

-- ---- refusals of the start
same_ratio : (x d z e s : ℤ) → z *ℤ s ≡ e *ℤ pos 1 → x *ℤ pos 1 ≡ z *ℤ d → x *ℤ s ≡ e *ℤ d
same_ratio x d z e s h g =
    let a : x ≡ z *ℤ d = (let o : x *ℤ pos 1 ≡ x = omega (arith, ints) in sym o ∙ g) in
    let b : z *ℤ s ≡ e = (let o : e *ℤ pos 1 ≡ e = omega (arith, ints) in h ∙ o) in
    ap (λ y. y *ℤ s) a ∙ mul_assoc_z z d s ∙ mul_swap z d s ∙ ap (λ y. d *ℤ y) b ∙ *ℤ_comm d e

at_least_own : (x d : ℕ) → 0 < d → x ≤ x * d
at_least_own x d h = grind arith

-- an integer that is a narrow fraction is narrow
whole_narrow : (z e s : ℤ) → pos 0 <ℤ s → z *ℤ s ≡ e *ℤ pos 1 → HasNarrow e s → IsNarrow z
whole_narrow z e s p h n =
    let b : z *ℤ s ≡ e = (let o : e *ℤ pos 1 ≡ e = omega (arith, ints) in h ∙ o) in
    let a : n.numerator ≡ z *ℤ n.denominator = same_factor s n.numerator (z *ℤ n.denominator) p (*ℤ_comm s n.numerator ∙ n.same ∙ ap (λ y. y *ℤ n.denominator) (sym b) ∙ ap (λ y. y *ℤ n.denominator) (*ℤ_comm z s) ∙ mul_assoc_z s z n.denominator) in
    let m = ap unsigned_abs a ∙ unsigned_abs-mul z n.denominator in
    let l = at_least_own (unsigned_abs z) (unsigned_abs n.denominator) (above_size n.denominator n.positive) in
    let k = n.numerator_narrow in
    omega (arith, m, l, k)

pub wide_objective : (s : Equations) (basis : List ℕ) (i j : ℕ) → IsArtificial s.rows s.columns basis → IsWideObjective s i j → IsWide s basis i j
unfolding start_chain start_shows
wide_objective s basis i j b w = record {
  in_chain = start_chain s basis b;
  row_within = (let e = w.row_is in omega (arith, e));
  column_within = w.column_within;
  wide = λ h. at (nat_lt i s.rows) (let e = w.row_is in grind (arith, nat_tests)) h;
}
  where
    x : Shows (matrix s) s.rows s.columns basis [] (start_read s)
    x = start_shows s basis b

    same : w.fraction.numerator *ℤ x.table.scale ≡ objective (matrix s) s.rows s.columns (column basis) x.table j *ℤ w.fraction.denominator
    same = same_ratio w.fraction.numerator w.fraction.denominator (first_objective s j) (objective (matrix s) s.rows s.columns (column basis) x.table j) x.table.scale
        (ap (λ z. z *ℤ x.table.scale) (sym (outer s j)) ∙ (x.objective_row j w.column_within).same) w.same.same

    at : (p : Bool) → p ≡ false → HasNarrow (cond p (x.table.entry i j) (objective (matrix s) s.rows s.columns (column basis) x.table j)) x.table.scale → ⊥
    at true e h = cc
    at false e h = w.wide (lowest_narrow w.fraction (objective (matrix s) s.rows s.columns (column basis) x.table j) x.table.scale x.table.positive same h)

pub given_left : (s : Equations) (k j : ℕ) → j < s.columns → given s k j ≡ entry_at s k j
given_left s k j l = at (nat_lt j s.columns) (grind (arith, nat_tests))
  where
    at : (p : Bool) → p ≡ true → cond p (entry_at s k j) (right_at s k) ≡ entry_at s k j
    at true e = refl
    at false e = cc

given_right : (s : Equations) (k j : ℕ) → j ≡ s.columns + s.rows → given s k j ≡ right_at s k
given_right s k j l = at (nat_lt j s.columns) (grind (arith, nat_tests))
  where
    at : (p : Bool) → p ≡ false → cond p (entry_at s k j) (right_at s k) ≡ right_at s k
    at false e = refl
    at true e = cc

matrix_given : (s : Equations) (k j : ℕ) → IsGivenColumn s j → matrix s k j ≡ sign s k *ℤ given s k j
matrix_given s k j (inl l) = matrix-entry s k j l ∙ ap (λ z. sign s k *ℤ z) (sym (given_left s k j l))
matrix_given s k j (inr e) = ap (matrix s k) e ∙ matrix-right_is s k ∙ ap (λ z. sign s k *ℤ z) (sym (given_right s k j e))

given_within : (s : Equations) (j : ℕ) → IsGivenColumn s j → j ≤ s.columns + s.rows
given_within s j (inl l) = omega (arith, l)
given_within s j (inr e) = omega (arith, e)

given_size : (s : Equations) (k : ℕ) (z : ℤ) → unsigned_abs (sign s k *ℤ z) ≡ unsigned_abs z
given_size s k z = unsigned_abs-mul (sign s k) z ∙ ap (λ x. x * unsigned_abs z) (sign_size s k) ∙ (let o : 1 * unsigned_abs z ≡ unsigned_abs z = omega arith in o)

pub wide_given : (s : Equations) (basis : List ℕ) (i j : ℕ) → IsArtificial s.rows s.columns basis → IsFirstWide s i j → IsWide s basis i j
unfolding start_chain start_shows
wide_given s basis i j b w = record {
  in_chain = start_chain s basis b;
  row_within = (let e = w.row_within in omega (arith, e));
  column_within = within;
  wide = λ h. at (nat_lt i s.rows) (let e = w.row_within in grind (arith, nat_tests)) h;
}
  where
    within : j ≤ s.columns + s.rows
    within = given_within s j w.column_given

    x : Shows (matrix s) s.rows s.columns basis [] (start_read s)
    x = start_shows s basis b

    same : matrix s i j *ℤ x.table.scale ≡ x.table.entry i j *ℤ pos 1
    same = ap (λ z. z *ℤ x.table.scale) (sym (inner s i j w.row_within)) ∙ (x.rows i j w.row_within within).same

    at : (p : Bool) → p ≡ true → HasNarrow (cond p (x.table.entry i j) (objective (matrix s) s.rows s.columns (column basis) x.table j)) x.table.scale → ⊥
    at false e h = cc
    at true e h = w.wide (
        let n = whole_narrow (matrix s i j) (x.table.entry i j) x.table.scale x.table.positive same h in
        let m = ap unsigned_abs (matrix_given s i j w.column_given) ∙ given_size s i (given s i j) in
        omega (arith, n, m))

-- ---- refusals
pub start_numbered : (s : Equations) (stop : Stop) → IsWhole s → IsStartStop s stop → HasNumberedPlace stop
start_numbered s (Wide i j) w h = (let f = few_columns s w in let a = h.row_is in let b = h.column_within in let r = w.few_rows in (omega (arith, a, r), omega (arith, b, f)))
start_numbered s Scale w h = tt
start_numbered s Memory w h = tt

pub walk_numbered : (s : Equations) (basis : List ℕ) (stop : Stop) → IsWhole s → IsWalkStop s basis stop → HasNumberedPlace stop
walk_numbered s basis (Wide i j) w h = (let f = few_columns s w in let a = h.row_within in let b = h.column_within in (omega (arith, a, f), omega (arith, b, f)))
walk_numbered s basis Scale w h = tt
walk_numbered s basis Memory w h = tt

pub walk_fault : (s : Equations) (basis : List ℕ) (pivots : ℕ) (stop : Stop) (fault : SolveFault) → IsWalkStop s basis stop → IsFaultAt stop basis fault → IsFault s pivots fault
walk_fault s basis pivots (Wide i j) (faults.Width b r c) h g = subst (λ z. IsWide s z r c) (sym g.0) (subst (λ z. IsWide s basis z c) (sym g.1) (subst (λ z. IsWide s basis i z) (sym g.2) h))
walk_fault s basis pivots (Wide i j) (faults.Scale b) h g = absurd g
walk_fault s basis pivots (Wide i j) (faults.Pivots n) h g = absurd g
walk_fault s basis pivots (Wide i j) (faults.Size r c) h g = absurd g
walk_fault s basis pivots (Wide i j) faults.Memory h g = absurd g
walk_fault s basis pivots Scale (faults.Width b r c) h g = absurd g
walk_fault s basis pivots Scale (faults.Scale b) h g = subst (λ z. HasNoScale s z) (sym g) h
walk_fault s basis pivots Scale (faults.Pivots n) h g = absurd g
walk_fault s basis pivots Scale (faults.Size r c) h g = absurd g
walk_fault s basis pivots Scale faults.Memory h g = absurd g
walk_fault s basis pivots Memory fault h g = subst (λ z. IsFault s pivots z) (sym g) tt

pub start_fault : (s : Equations) (basis : List ℕ) (pivots : ℕ) (stop : Stop) (fault : SolveFault) → IsArtificial s.rows s.columns basis → IsStartStop s stop → IsFaultAt stop basis fault → IsFault s pivots fault
start_fault s basis pivots stop fault b h g = walk_fault s basis pivots stop fault (as_walk stop h) g
  where
    as_walk : (stop : Stop) → IsStartStop s stop → IsWalkStop s basis stop
    as_walk (Wide i j) k = wide_objective s basis i j b k
    as_walk Scale k = absurd k
    as_walk Memory k = tt

pub never_spent : (s : Equations) (pivots : ℕ) → AreUnsettled s pivots → choices (s.columns + s.rows) s.rows ≤ pivots → ⊥
never_spent s pivots h l = (let k = fewer s pivots h in omega (arith, k, l))
