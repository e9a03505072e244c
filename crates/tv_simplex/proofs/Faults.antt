use Rattle.std.proofs.Common.{zero, suc, ◌⊎◌, inl, inr, [], ◌∷◌, length, sym, subst, ◌≡◌, ℕ, ◌+◌, ◌<◌, List, Bool, true, false, cond, arith, refl, ◌*ℤ◌}
use Rattle.std.specs.Prelude.{nat_lt}
use Rattle.std.proofs.lemmas.Bool.Decides.{nat_tests}
use Rattle.tv_simplex.proofs.Unique.{same_tableau}
use Rattle.tv_simplex.proofs.Steps.{same_objective}
use Rattle.tv_simplex.proofs.Reduced.{narrow_any}
use Rattle.tv_simplex.proofs.Bounded.{budget_suffices}
use Rattle.tv_simplex.proofs.Matrices.{matrix_is_system}
use Rattle.tv_simplex.specs.Choices.{choices}
use Rattle.tv_simplex.specs.Tableaus.{Tableau}
use Rattle.tv_simplex.specs.Chains.{objective, column, IsChain, Settles}
use Rattle.std.specs.List.{AllByRecursion}
use Rattle.tv_simplex.proofs.Chains.{last_of}
use Rattle.tv_simplex.specs.Systems.{Equations, matrix}
use Rattle.tv_simplex.specs.Outcomes.{HasNarrow, TableauOf, full_entry, IsWide, AreUnsettled}

choices_some : (n k : ℕ) → 0 < choices (n + k) k
choices_some n zero = omega arith
choices_some n (suc k) = more (n + k) (n + suc k) (omega arith) k (choices_some n k)
  where
    more : (a b : ℕ) → b ≡ suc a → (k : ℕ) → 0 < choices a k → 0 < choices b (suc k)
    more a b e k p = subst (λ z. 0 < choices z (suc k)) (sym e) (omega (arith, p))

-- unsettled bases are fewer than the choices of a basis
pub fewer : (s : Equations) (many : ℕ) → AreUnsettled s many → many < choices (s.columns + s.rows) s.rows
fewer s many h = at h.bases h.as_many h.first h.unsettled
  where
    at : (bases : List (List ℕ)) → length bases ≡ many → (bases ≡ []) ⊎ IsChain (matrix s) s.rows s.columns bases → AllByRecursion (λ b. (x : TableauOf s b) → Settles (matrix s) s.rows s.columns (column b) x → ⊥) bases → many < choices (s.columns + s.rows) s.rows
    at [] e f u = (let k = choices_some s.columns s.rows in omega (arith, e, k))
    at (b ∷ bs) e (inl none) u = cc
    at (b ∷ bs) e (inr chain) u =
        let x = (last_of (matrix s) s.rows s.columns (matrix_is_system s) b bs chain).table in
        let k = budget_suffices (matrix s) s.rows s.columns (matrix_is_system s) b bs chain x (u.0 x) in
        omega (arith, e, k)

full_same : (s : Equations) (b : List ℕ) (x y : Tableau (matrix s) s.rows s.columns (column b)) (i j : ℕ) → y.scale *ℤ full_entry s b x i j ≡ x.scale *ℤ full_entry s b y i j
full_same s b x y i j = at (nat_lt i s.rows) (λ e. grind (arith, nat_tests))
  where
    at : (p : Bool) → (p ≡ true → i < s.rows) → y.scale *ℤ cond p (x.entry i j) (objective (matrix s) s.rows s.columns (column b) x j) ≡ x.scale *ℤ cond p (y.entry i j) (objective (matrix s) s.rows s.columns (column b) y j)
    at true h = same_tableau (matrix s) s.rows s.columns (column b) x y i j (h refl)
    at false h = same_objective (matrix s) s.rows s.columns (column b) (column b) x y (λ l g. (l, g, refl)) j

-- an entry that is not narrow is not narrow in each tableau of the basis
pub wide_any : (s : Equations) (b : List ℕ) (row column_at : ℕ) → IsWide s b row column_at → (x : Tableau (matrix s) s.rows s.columns (column b)) → HasNarrow (full_entry s b x row column_at) x.scale → ⊥
wide_any s b row column_at w x n = w.wide (narrow_any (full_entry s b x row column_at) x.scale (full_entry s b w.in_chain.table row column_at) w.in_chain.table.scale x.positive (full_same s b x w.in_chain.table row column_at) n)
