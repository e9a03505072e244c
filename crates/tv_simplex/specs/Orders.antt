use Rattle.std.specs.Prelude.{◌≡◌, ℕ, ◌<◌, List, [], ◌∷◌, ℤ, pos, ◌-ℤ◌, ◌*ℤ◌, ◌<ℤ◌}
use Rattle.std.specs.List.{AllByRecursion}
use Rattle.tv_simplex.specs.Tableaus.{Tableau}
use Rattle.tv_simplex.specs.Chains.{LeadsAbove, order, objective, column}

-- each row leads above 0 in the order: the right side, then the artificial columns
abbrev pub Feasible : (a : ℕ → ℕ → ℤ) (m n : ℕ) (b : ℕ → ℕ) → Tableau a m n b → Type 0
Feasible a m n b x = (i : ℕ) → i < m → LeadsAbove m (λ q. x.entry i (order m n q))

-- the first objective row, over its scale, is below the second in the order
abbrev pub ObjectiveBelow : (a : ℕ → ℕ → ℤ) (m n : ℕ) (b b' : ℕ → ℕ) → Tableau a m n b → Tableau a m n b' → Type 0
ObjectiveBelow a m n b b' x y =
    LeadsAbove m (λ q. x.scale *ℤ objective a m n b' y (order m n q) -ℤ y.scale *ℤ objective a m n b x (order m n q))

-- how row i compares with row r in column c, place by place of the order: above 0 where the quotient of row i is greater
abbrev pub against : (a : ℕ → ℕ → ℤ) (m n : ℕ) (b : ℕ → ℕ) → Tableau a m n b → ℕ → ℕ → ℕ → ℕ → ℤ
against a m n b x c r i q = x.entry r c *ℤ x.entry i (order m n q) -ℤ x.entry i c *ℤ x.entry r (order m n q)

-- r is the row of the least quotients among the first k rows with an entry above 0 in column c
pub record LeastOf (a : ℕ → ℕ → ℤ) (m n : ℕ) (b : ℕ → ℕ) (x : Tableau a m n b) (c k r : ℕ) : Type 0 where
  pub within : r < k
  pub above : pos 0 <ℤ x.entry r c
  pub least : (i : ℕ) → i < k → (i ≡ r → ⊥) → pos 0 <ℤ x.entry i c → LeadsAbove m (against a m n b x c r i)

-- the columns of the one basis are among those of the other
abbrev pub IsWithin : ℕ → List ℕ → List ℕ → Type 0
IsWithin m b b' = (l : ℕ) → l < m → (k : ℕ) × (k < m) × (column b l ≡ column b' k)

-- no two bases of the list have the same columns
abbrev pub NoneTwice : ℕ → List (List ℕ) → Type 0
NoneTwice m [] = Unit {0}
NoneTwice m (b ∷ bs) = AllByRecursion (λ old. IsWithin m old b → ⊥) bs × NoneTwice m bs
