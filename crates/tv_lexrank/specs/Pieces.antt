-- The pieces of the node of a ranking.
use Rattle.std.specs.Prelude.{ℕ, zero, suc, ◌-◌, List, [], ◌∷◌, ◌++◌, length, get_or, pos}
use Rattle.tv_linear.specs.Linear.{Linear}
use Rattle.tv_linear.specs.Arithmetic.{constant_row}
use Rattle.tv_cases.specs.Systems.{cases_of}
use Rattle.tv_cert.specs.MarkedRows.{marked}
use Rattle.tv_cert.specs.declared.node.Mark.TheVariants.{Go}
use Rattle.tv_cert.specs.declared.node.Marked.{Marked}
use Rattle.tv_rank.specs.Ways.{rows_at}
use Rattle.tv_lexrank.specs.declared.round.Round.{Round}
use Rattle.tv_lexrank.specs.declared.ranking.Ranking.{Ranking}
use Rattle.tv_lexrank.specs.Rounds.{ranks_at}
use Rattle.tv_lexrank.specs.Attempt.{rounds_in}

-- `zero_ranks v n`: n terms that are 0
abbrev pub zero_ranks : ℕ → ℕ → List Linear
zero_ranks v zero = []
zero_ranks v (suc n) = zero_ranks v n ++ constant_row v (pos 0) ∷ []

-- the ranks at a location of a component, with terms that are 0 after them up to `count` ranks
abbrev pub padded_ranks : ℕ → ℕ → List Round → ℕ → ℕ → List Linear
padded_ranks v component rounds l count = ranks_at v component rounds l ++ zero_ranks v (count - 1 - length rounds)

-- the ranks of a location
abbrev pub all_ranks : Ranking → ℕ → List Linear
all_ranks r l =
    let component = get_or r.numbers.now l 0 in
    padded_ranks (cases_of r.about.now).variables component (rounds_in r.parts.now component) l r.count

-- the piece of the rows that are known at a location, with its ranks
abbrev pub ranked_piece : Ranking → ℕ → Marked
ranked_piece r l = marked l (cases_of r.about.now).variables Go (rows_at r.known.now.pieces.items l) (all_ranks r l)

-- the pieces at the first locations
abbrev pub ranked_pieces : Ranking → ℕ → List Marked
ranked_pieces r zero = []
ranked_pieces r (suc l) = ranked_pieces r l ++ ranked_piece r l ∷ []
