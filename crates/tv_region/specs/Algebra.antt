-- The intersection, the union and the complement of regions.
use Rattle.std.specs.Prelude.{◌≡◌, ◌⊎◌, ◌↔◌, ℕ, ◌+◌, ◌*◌, ◌<◌, ◌≤◌, List, length, ℤ}
use Rattle.tv_linear.specs.Linear.{Linear}
use Rattle.tv_linear.specs.Regions.{InRegion}
use Rattle.tv_linear.specs.declared.region.Region.{Region}
use Rattle.tv_farkas.specs.declared.budget.Budget.{Budget}
use Rattle.tv_region.specs.Adding.{IsDenied, IsWideDenial, row_product, NoColumn}
use Rattle.tv_region.specs.Regions.{IsRegion, lists_at, count_at, HasRowAt, HasRow, IsReduced, IsRegionFault, IsCount}
use Rattle.tv_region.specs.Differences.{IsOfDifferences}
use Rattle.tv_region.specs.declared.fault.RegionFault.{RegionFault}

-- at the location the point is over the variables of the region
pub record IsPlaceOf (region : Region) (l : ℕ) (xs : List ℤ) : Type 0 where
  pub location : l < region.locations
  pub values : length xs ≡ region.variables

-- at the location one of the two has the row
abbrev pub OfEither : Region → Region → ℕ → Linear → Type 0
OfEither a b l r = HasRowAt a l r ⊎ HasRowAt b l r

-- at the location the row is the denial of one of the region
abbrev pub OfRest : Region → ℕ → Linear → Type 0
OfRest a l r = IsDenied (HasRowAt a l) r

-- the region has the states that both have
pub record IsBoth (a b region : Region) : Type 0 where
  pub fits : IsRegion a.variables a.locations region
  pub exact : (l : ℕ) (xs : List ℤ) → IsPlaceOf a l xs → InRegion l xs region ↔ (InRegion l xs a × InRegion l xs b)
  pub reduced : IsReduced region
  pub from : (l : ℕ) (r : Linear) → HasRowAt region l r → OfEither a b l r
  pub bounded : (l : ℕ) → count_at l region ≤ count_at l a * count_at l b
  pub differences : IsOfDifferences a → IsOfDifferences b → IsOfDifferences region

-- the region has the states that one of the two has
pub record IsEither (a b region : Region) : Type 0 where
  pub fits : IsRegion a.variables a.locations region
  pub exact : (l : ℕ) (xs : List ℤ) → IsPlaceOf a l xs → InRegion l xs region ↔ (InRegion l xs a ⊎ InRegion l xs b)
  pub reduced : IsReduced region
  pub from : (l : ℕ) (r : Linear) → HasRowAt region l r → OfEither a b l r
  pub bounded : (l : ℕ) → count_at l region ≤ count_at l a + count_at l b
  pub differences : IsOfDifferences a → IsOfDifferences b → IsOfDifferences region

-- how many pieces the complement has at a location if none is left out
abbrev pub denied_count : Region → ℕ → ℕ
denied_count a l = row_product (lists_at l a.pieces.items)

-- the region has the other states
pub record IsRest (a region : Region) : Type 0 where
  pub fits : IsRegion a.variables a.locations region
  pub exact : (l : ℕ) (xs : List ℤ) → IsPlaceOf a l xs → InRegion l xs region ↔ (¬ InRegion l xs a)
  pub reduced : IsReduced region
  pub from : (l : ℕ) (r : Linear) → HasRowAt region l r → OfRest a l r
  pub bounded : (l : ℕ) → count_at l region ≤ denied_count a l
  pub differences : IsOfDifferences a → IsOfDifferences region

-- what a refusal shows
abbrev pub IsBothFault : Region → Region → Budget → RegionFault → Type 0
IsBothFault a b budget fault = IsRegionFault a.variables (OfEither a b) NoColumn (IsCount (λ l. count_at l a * count_at l b)) budget fault

abbrev pub IsEitherFault : Region → Region → Budget → RegionFault → Type 0
IsEitherFault a b budget fault = IsRegionFault a.variables (OfEither a b) NoColumn (IsCount (λ l. count_at l a + count_at l b)) budget fault

abbrev pub IsRestFault : Region → Budget → RegionFault → Type 0
IsRestFault a budget fault = IsRegionFault a.variables (OfRest a) (IsWideDenial (HasRow a)) (IsCount (denied_count a)) budget fault
