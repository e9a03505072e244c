use Rattle.std.specs.Prelude.{◌≡◌, ◌⊎◌, List, length, map}
use Rattle.tv_places.specs.declared.places.Stand.{Stand}
use Rattle.tv_places.specs.Places.{IsIndexOf}
use Rattle.tv_cert.specs.declared.node.Marked.{Marked}
use Rattle.tv_cert.specs.Pieces.{place_of}

-- there is no index of the pieces, or it is one of their locations
abbrev pub IsIndexed : List Marked → List Stand → Type 0
IsIndexed ps stands = (length stands ≡ 0) ⊎ IsIndexOf (map place_of ps) stands
