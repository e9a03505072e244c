use Rattle.std.specs.Prelude.{◌≡◌, ◌⊎◌, ℕ, zero, suc, ◌+◌, ◌<◌, ◌≤◌, List, [], ◌∷◌, length, ℤ, pos, ◌-ℤ◌, ◌*ℤ◌, ◌<ℤ◌, ◌≤ℤ◌, get_or, set}
use Rattle.tv_simplex.specs.Sums.{total, delta}
use Rattle.tv_simplex.specs.Tableaus.{Tableau, reduced}

-- the sum of the artificial columns, which the exchanges bring down: 1 in each of them, else 0
abbrev pub cost : ℕ → ℕ → ℕ → ℤ
cost m n j = total m (λ i. delta (n + i) j)

-- the objective row of a tableau: the cost made 0 in the columns of the basis
abbrev pub objective : (a : ℕ → ℕ → ℤ) (m n : ℕ) (b : ℕ → ℕ) → Tableau a m n b → ℕ → ℤ
objective a m n b x j = reduced m (cost m n) b x.scale x.entry j

-- the column at a place of the lexicographic order: the right side first, then the artificial columns
abbrev pub order : ℕ → ℕ → ℕ → ℕ
order m n zero = n + m
order m n (suc q) = n + q

-- of the numbers at the places 0 to m the first that is not 0 is above 0
pub record LeadsAbove (m : ℕ) (v : ℕ → ℤ) : Type 0 where
  pub place : ℕ
  pub within : place ≤ m
  pub before : (q : ℕ) → q < place → v q ≡ pos 0
  pub here : pos 0 <ℤ v place

-- a basis as a list: the column of each row
abbrev pub column : List ℕ → ℕ → ℕ
column basis i = get_or basis i 0

-- c is the first column of the system with a negative objective entry
pub record Enters (a : ℕ → ℕ → ℤ) (m n : ℕ) (b : ℕ → ℕ) (x : Tableau a m n b) (c : ℕ) : Type 0 where
  pub within : c < n
  pub negative : objective a m n b x c <ℤ pos 0
  pub first : (j : ℕ) → j < c → pos 0 ≤ℤ objective a m n b x j

-- among the rows with an entry above 0 in column c, r is the one whose right side and artificial columns,
-- divided by that entry, are lexicographically least
pub record Leaves (a : ℕ → ℕ → ℤ) (m n : ℕ) (b : ℕ → ℕ) (x : Tableau a m n b) (c r : ℕ) : Type 0 where
  pub within : r < m
  pub above : pos 0 <ℤ x.entry r c
  pub least : (i : ℕ) → i < m → (i ≡ r → ⊥) → pos 0 <ℤ x.entry i c →
      LeadsAbove m (λ q. x.entry r c *ℤ x.entry i (order m n q) -ℤ x.entry i c *ℤ x.entry r (order m n q))

-- no column of the system has a negative objective entry
abbrev pub NoneNegative : (a : ℕ → ℕ → ℤ) (m n : ℕ) (b : ℕ → ℕ) → Tableau a m n b → Type 0
NoneNegative a m n b x = (j : ℕ) → j < n → pos 0 ≤ℤ objective a m n b x j

-- the values of the basis are at least 0, and those of the artificial columns in it are 0
pub record Solves (a : ℕ → ℕ → ℤ) (m n : ℕ) (b : ℕ → ℕ) (x : Tableau a m n b) : Type 0 where
  pub values : (i : ℕ) → i < m → pos 0 ≤ℤ x.entry i (n + m)
  pub artificial : (i : ℕ) → i < m → n ≤ b i → x.entry i (n + m) ≡ pos 0

-- the basis settles the system: it gives a solution or a barrier
abbrev pub Settles : (a : ℕ → ℕ → ℤ) (m n : ℕ) (b : ℕ → ℕ) → Tableau a m n b → Type 0
Settles a m n b x = Solves a m n b x ⊎ NoneNegative a m n b x

-- from a basis that does not settle the system to the next
pub record Step (a : ℕ → ℕ → ℤ) (m n : ℕ) (old new : List ℕ) : Type 0 where
  pub table : Tableau a m n (column old)
  pub unsettled : Settles a m n (column old) table → ⊥
  pub entering : ℕ
  pub leaving : ℕ
  pub enters : Enters a m n (column old) table entering
  pub leaves : Leaves a m n (column old) table entering leaving
  pub next : new ≡ set old leaving entering

-- the basis of the artificial columns
pub record IsArtificial (m n : ℕ) (basis : List ℕ) : Type 0 where
  pub size : length basis ≡ m
  pub columns : (i : ℕ) → i < m → column basis i ≡ n + i

-- the first bases of the chain, the last of them first
abbrev pub IsChain : (ℕ → ℕ → ℤ) → ℕ → ℕ → List (List ℕ) → Type 0
IsChain a m n [] = ⊥
IsChain a m n (b ∷ []) = IsArtificial m n b
IsChain a m n (b ∷ (old ∷ bs)) = Step a m n old b × IsChain a m n (old ∷ bs)

-- what a system with its artificial columns has: they are unit columns, and no right side is below 0
pub record IsSystem (a : ℕ → ℕ → ℤ) (m n : ℕ) : Type 0 where
  pub artificial : (k i : ℕ) → k < m → i < m → a k (n + i) ≡ delta k i
  pub right : (k : ℕ) → k < m → pos 0 ≤ℤ a k (n + m)
