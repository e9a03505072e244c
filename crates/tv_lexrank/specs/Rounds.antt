use Rattle.std.specs.Prelude.{ℕ, suc, List, [], ◌∷◌, length, map, get_or, ℤ, pos, ◌==◌, if◌then◌else◌}
use Rattle.tv_linear.specs.Linear.{Linear}
use Rattle.tv_linear.specs.Arithmetic.{constant_row}
use Rattle.tv_linear.specs.declared.region.Piece.{Piece}
use Rattle.tv_cases.specs.LinearCases.{CaseSystem}
use Rattle.tv_rank.specs.Given.{lists}
use Rattle.tv_rank.specs.Rankings.{local_term}
use Rattle.tv_lexrank.specs.declared.round.Round.{Round}
use Rattle.tv_lexrank.specs.Greedy.{without, IsRound}

-- the first place of a number in a list, or its length
abbrev pub place_in : List ℕ → ℕ → ℕ
place_in [] k = 0
place_in (x ∷ xs) k = if x == k then 0 else suc (place_in xs k)

-- The multipliers at a place of a round. The last are those of the bound.
abbrev pub line_at : Round → ℕ → List ℤ
line_at r i = get_or (lists r.multipliers.items) i []

-- the case that a round takes out
abbrev pub falling_of : Round → ℕ
falling_of r = get_or r.set.items r.place 0

-- the multipliers of a case: those of the rounds up to the one in which it falls, and last those of the bound
abbrev pub lines_of : ℕ → List Round → List (List ℤ)
lines_of k [] = []
lines_of k (r ∷ rs) =
    if falling_of r == k
    then line_at r r.place ∷ line_at r (length r.set.items) ∷ []
    else line_at r (place_in r.set.items k) ∷ lines_of k rs

-- how many rounds are before the one in which it falls
abbrev pub falls_in : ℕ → List Round → ℕ
falls_in k [] = 0
falls_in k (r ∷ rs) = if falling_of r == k then 0 else suc (falls_in k rs)

-- the terms of the rounds at a location
abbrev pub terms_at : ℕ → List Round → ℕ → List Linear
terms_at v rounds l = map (λ r. local_term v r.terms.items l) rounds

-- the ranks at a location of a component: the number of the component, and then the terms of its rounds
abbrev pub ranks_at : ℕ → ℕ → List Round → ℕ → List Linear
ranks_at v component rounds l = constant_row v (pos component) ∷ terms_at v rounds l

-- each round takes a case out of what is left, until nothing is
pub data Chain (about : CaseSystem) (known : List Piece) : List ℕ → List Round → Type 0 where
  end : Chain about known [] []
  next : (set : List ℕ) (round : Round) (rounds : List Round) → IsRound about known set round → Chain about known (without set round.place) rounds → Chain about known set (round ∷ rounds)
