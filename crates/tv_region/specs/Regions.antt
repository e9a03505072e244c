-- Regions, location by location.
use Rattle.std.specs.Prelude.{◌≡◌, ℕ, ◌-◌, ◌^◌, ◌<◌, ◌≤◌, min, List, [], ◌∷◌, ◌++◌, length, All, ℤ, true, false, ◌==◌, cond}
use Rattle.tv_linear.specs.Linear.{Linear, columns}
use Rattle.tv_linear.specs.declared.region.Piece.{Piece}
use Rattle.tv_linear.specs.declared.region.Region.{Region}
use Rattle.tv_farkas.specs.declared.budget.Budget.{Budget}
use Rattle.tv_region.specs.Met.{some_met, InSome}
use Rattle.tv_region.specs.Adding.{AreReduced, IsUnsolved}
use Rattle.tv_region.specs.declared.fault.ListFault.{ListFault}
use Rattle.tv_region.specs.declared.fault.ListFault.TheVariants as lists
use Rattle.tv_region.specs.declared.fault.RegionFault.{RegionFault}
use Rattle.tv_region.specs.declared.fault.RegionFault.TheVariants.{Disjuncts, Wide, Solve, Memory}

-- the piece is over n variables, at one of m locations
pub record IsPieceOf (n m : ℕ) (p : Piece) : Type 0 where
  pub place : p.location < m
  pub width : p.poly.columns ≡ n
  pub even : All (λ r. columns r ≡ n) p.poly.rows.items

-- the region is over n variables and m locations, and so is each piece
pub record IsRegion (n m : ℕ) (r : Region) : Type 0 where
  pub variables : r.variables ≡ n
  pub locations : r.locations ≡ m
  pub pieces : All (IsPieceOf n m) r.pieces.items

-- the rows of the pieces at a location, in order
abbrev pub lists_at : ℕ → List Piece → List (List Linear)
lists_at l [] = []
lists_at l (p ∷ pieces) = cond (p.location == l) (p.poly.rows.items ∷ lists_at l pieces) (lists_at l pieces)

-- how many pieces the region has at a location
abbrev pub count_at : ℕ → Region → ℕ
count_at l region = length (lists_at l region.pieces.items)

-- the region has the row in a piece at the location
abbrev pub HasRowAt : Region → ℕ → Linear → Type 0
HasRowAt region l r = InSome (lists_at l region.pieces.items) r

-- the region has the row in some piece
abbrev pub HasRow : Region → Linear → Type 0
HasRow region r = (l : ℕ) × HasRowAt region l r

-- each piece has a rational point, and neither rows nor pieces of a location are left that are implied row by row
abbrev pub IsReduced : Region → Type 0
IsReduced region = (l : ℕ) → AreReduced region.variables (lists_at l region.pieces.items)

-- a number, or 2^64 - 1 where it is greater
abbrev pub capped : ℕ → ℕ
capped n = min n (2 ^ 64 - 1)

-- the fault of the lists of a location is passed on
abbrev pub IsSameFault : ℕ → ℕ → ListFault → RegionFault → Type 0
IsSameFault location count lists.Full fault = fault ≡ Disjuncts location count
IsSameFault location count (lists.Wide column) fault = fault ≡ Wide column
IsSameFault location count (lists.Solve rows why) fault = fault ≡ Solve rows why
IsSameFault location count lists.Memory fault = fault ≡ Memory

-- What a refusal shows: `count` pieces are made at the location, more than the budget allows; a row that is made is too wide at the
-- column; the rows are made at one location, each of them once, and their refutation system has the fault.
abbrev pub IsRegionFault : ℕ → (ℕ → Linear → Type 0) → (ℕ → Type 0) → (ℕ → ℕ → Type 0) → Budget → RegionFault → Type 0
IsRegionFault n Made TooWide Counted budget (Disjuncts location count) = Counted location count × (budget.disjuncts < count)
IsRegionFault n Made TooWide Counted budget (Wide column) = TooWide column
IsRegionFault n Made TooWide Counted budget (Solve rows fault) = (l : ℕ) × IsUnsolved n (Made l) budget.pivots rows.items fault
IsRegionFault n Made TooWide Counted budget Memory = Unit {0}

-- the count is that of the pieces at the location, or 2^64 - 1 where there are more
abbrev pub IsCount : (ℕ → ℕ) → ℕ → ℕ → Type 0
IsCount number location count = count ≡ capped (number location)

-- the count is that of this location
abbrev pub IsCountAt : ℕ → ℕ → ℕ → ℕ → Type 0
IsCountAt l number location count = (location ≡ l) × (count ≡ capped number)

-- the row is made, at this location
abbrev pub MadeAt : ℕ → (Linear → Type 0) → ℕ → Linear → Type 0
MadeAt l Made location r = (location ≡ l) × Made r

-- the lists are added at location l
pub record IsPlaced (l n : ℕ) (old : List Piece) (more : List (List Linear)) (new : List Piece) : Type 0 where
  pub at : (k : ℕ) → lists_at k new ≡ lists_at k old ++ cond (l == k) more []
  pub each : (m : ℕ) → l < m → ((r : Linear) → InSome more r → columns r ≡ n) → All (IsPieceOf n m) old → All (IsPieceOf n m) new

-- what is so of the lists of a location: of a point that meets one of them, of another point, of their rows, and of how many there are
pub record IsAt (n : ℕ) (Only Out : List ℤ → Type 0) (Made : Linear → Type 0) (Few : ℕ → Type 0) (lists : List (List Linear)) : Type 0 where
  pub only : (xs : List ℤ) → length xs ≡ n → some_met xs lists ≡ true → Only xs
  pub out : (xs : List ℤ) → length xs ≡ n → some_met xs lists ≡ false → Out xs
  pub reduced : AreReduced n lists
  pub made : (r : Linear) → InSome lists r → Made r
  pub wide : (r : Linear) → InSome lists r → columns r ≡ n
  pub bounded : Few (length lists)

-- the region has such lists at each location
pub record IsAssembled (n m : ℕ) (Only Out : ℕ → List ℤ → Type 0) (Made : ℕ → Linear → Type 0) (Few : ℕ → ℕ → Type 0) (region : Region) : Type 0 where
  pub fits : IsRegion n m region
  pub at : (l : ℕ) → l < m → IsAt n (Only l) (Out l) (Made l) (Few l) (lists_at l region.pieces.items)
  pub none : (l : ℕ) → m ≤ l → lists_at l region.pieces.items ≡ []

-- the same of the pieces at the first k locations, where there are no others
pub record IsAssembledTo (k n m : ℕ) (Only Out : ℕ → List ℤ → Type 0) (Made : ℕ → Linear → Type 0) (Few : ℕ → ℕ → Type 0) (pieces : List Piece) : Type 0 where
  pub fits : All (IsPieceOf n m) pieces
  pub at : (l : ℕ) → l < k → IsAt n (Only l) (Out l) (Made l) (Few l) (lists_at l pieces)
  pub none : (l : ℕ) → k ≤ l → lists_at l pieces ≡ []
