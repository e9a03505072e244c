use Rattle.std.specs.Prelude.{◌≡◌, ◌⊎◌, ℕ, ◌+◌, ◌<◌, ◌≤◌, List, ◌∷◌, ℤ, pos, ◌-ℤ◌, ◌*ℤ◌, ◌<ℤ◌}
use Rattle.tv_simplex.specs.Tableaus.{Tableau}
use Rattle.tv_simplex.specs.Chains.{objective, column, IsChain}

-- one number over another
pub record Ratio : Type 0 where
  pub numerator : ℤ
  pub denominator : ℤ

-- f is v / s
pub record IsRatio (f : Ratio) (v s : ℤ) : Type 0 where
  pub positive : pos 0 <ℤ f.denominator
  pub same : f.numerator *ℤ s ≡ v *ℤ f.denominator

-- f is g / h, for h above 0
pub record IsQuotient (f g h : Ratio) : Type 0 where
  pub positive : pos 0 <ℤ f.denominator
  pub same : f.numerator *ℤ (g.denominator *ℤ h.numerator) ≡ (g.numerator *ℤ h.denominator) *ℤ f.denominator

-- f is g * h
pub record IsProduct (f g h : Ratio) : Type 0 where
  pub positive : pos 0 <ℤ f.denominator
  pub same : f.numerator *ℤ (g.denominator *ℤ h.denominator) ≡ (g.numerator *ℤ h.numerator) *ℤ f.denominator

-- f is g - h
pub record IsDifference (f g h : Ratio) : Type 0 where
  pub positive : pos 0 <ℤ f.denominator
  pub same : f.numerator *ℤ (g.denominator *ℤ h.denominator)
      ≡ (g.numerator *ℤ h.denominator -ℤ h.numerator *ℤ g.denominator) *ℤ f.denominator

-- f is g - h * k
pub record IsLessProduct (f g h k : Ratio) : Type 0 where
  pub positive : pos 0 <ℤ f.denominator
  pub same : f.numerator *ℤ (g.denominator *ℤ (h.denominator *ℤ k.denominator))
      ≡ (g.numerator *ℤ (h.denominator *ℤ k.denominator) -ℤ (h.numerator *ℤ k.numerator) *ℤ g.denominator) *ℤ f.denominator

-- the ratios in the places (row, column) are the tableau of the last basis of the chain; row m is the objective
pub record Shows (a : ℕ → ℕ → ℤ) (m n : ℕ) (b : List ℕ) (bs : List (List ℕ)) (read : ℕ → ℕ → Ratio) : Type 0 where
  pub chain : IsChain a m n (b ∷ bs)
  pub table : Tableau a m n (column b)
  pub rows : (i j : ℕ) → i < m → j ≤ n + m → IsRatio (read i j) (table.entry i j) table.scale
  pub objective_row : (j : ℕ) → j ≤ n + m → IsRatio (read m j) (objective a m n (column b) table j) table.scale

-- the first less the second, times both denominators
abbrev pub compared : Ratio → Ratio → ℤ
compared f g = f.numerator *ℤ g.denominator -ℤ g.numerator *ℤ f.denominator

-- f is what the place (i, j) holds after column c entered in row r
abbrev pub IsExchanged : ℕ → ℕ → (ℕ → ℕ → Ratio) → ℕ → ℕ → Ratio → Type 0
IsExchanged r c read i j f =
    ((i ≡ r) × IsQuotient f (read r j) (read r c))
    ⊎ ((i ≡ r → ⊥) × ((q : Ratio) × IsQuotient q (read r j) (read r c) × IsLessProduct f (read i j) (read i c) q))

-- how the places of the next table come from those of the last
abbrev pub Exchanges : ℕ → ℕ → ℕ → ℕ → (ℕ → ℕ → Ratio) → (ℕ → ℕ → Ratio) → Type 0
Exchanges m n r c read next = (i j : ℕ) → i ≤ m → j ≤ n + m → IsExchanged r c read i j (next i j)
