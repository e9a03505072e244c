use Rattle.std.specs.Prelude.{◌≡◌, ℕ, ◌+◌, ◌<◌, ◌≤◌, List, [], ◌∷◌, map, cond, nat_eq, ℤ, pos}
use Rattle.std.specs.List.{range_with_len}
use Rattle.tv_simplex.specs.declared.entries.Kept.{Kept}

-- the number at a place: 0 where none is kept
abbrev pub number_in : List Kept → ℕ → ℤ
number_in [] place = pos 0
number_in (k ∷ ks) place = cond (nat_eq k.place place) k.number (number_in ks place)

-- the numbers at the first n places
abbrev pub dense : List Kept → ℕ → List ℤ
dense kept n = map (number_in kept) (range_with_len 0 n)

-- the places increase, from the first to below the end
abbrev pub AreOrdered : ℕ → ℕ → List Kept → Type 0
AreOrdered first end [] = Unit {0}
AreOrdered first end (k ∷ ks) = (first ≤ k.place) × (k.place < end) × AreOrdered (k.place + 1) end ks

-- of the numbers from `first` to below `end`, those that are not 0 are kept; number 0 has the place `start`
pub record AreKept (numbers : ℕ → ℤ) (start first end : ℕ) (kept : List Kept) : Type 0 where
  pub ordered : AreOrdered (start + first) (start + end) kept
  pub same : (j : ℕ) → first ≤ j → j < end → number_in kept (start + j) ≡ numbers j
