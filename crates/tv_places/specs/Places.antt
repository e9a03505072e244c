use Rattle.std.specs.Prelude.{◌≡◌, ℕ, ◌+◌, ◌≤◌, List, [], ◌∷◌, map, All, cond, ◌==◌}
use Rattle.std.specs.List.{filter}
use Rattle.std.specs.List.Sorted.{IsNonDecreasingBy}
use Rattle.tv_places.specs.declared.places.Stand.{Stand}

-- the places, numbered from a start on, at which the number l stands in the list
unfoldable pub places_from : ℕ → ℕ → List ℕ → List ℕ
places_from l start [] = []
places_from l start (x ∷ xs) = cond (x == l) (start ∷ places_from l (start + 1) xs) (places_from l (start + 1) xs)

-- the places, from 0 and in order, at which the number l stands in the list
abbrev pub places_of : ℕ → List ℕ → List ℕ
places_of l xs = places_from l 0 xs

-- the number and the place of a stand
abbrev pub number_of : Stand → ℕ
number_of stand = stand.number

abbrev pub place_of : Stand → ℕ
place_of stand = stand.place

-- the stands of the number l, in order
abbrev pub stands_of : ℕ → List Stand → List Stand
stands_of l stands = filter (λ stand. number_of stand == l) stands

-- the numbers of the stands do not fall, and the places of each number are those at which it stands in the list, in order
pub record IsIndexOf (numbers : List ℕ) (stands : List Stand) : Type 0 where
  pub rises : IsNonDecreasingBy number_of stands
  pub places : (l : ℕ) → map place_of (stands_of l stands) ≡ places_of l numbers

-- the rest of the stands has those of the number l, and no lesser number
pub record IsFrom (l : ℕ) (stands rest : List Stand) : Type 0 where
  pub rises : IsNonDecreasingBy number_of rest
  pub least : All (λ stand. l ≤ number_of stand) rest
  pub same : stands_of l rest ≡ stands_of l stands
