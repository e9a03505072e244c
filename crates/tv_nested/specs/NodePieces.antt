-- The pieces of the node of nested terms.
use Rattle.std.specs.Prelude.{◌≡◌, ℕ, zero, suc, ◌<◌, List, [], ◌++◌, map}
use Rattle.tv_linear.specs.Linear.{Linear}
use Rattle.tv_cases.specs.Systems.{cases_of}
use Rattle.tv_cert.specs.MarkedRows.{marked}
use Rattle.tv_cert.specs.Pieces.{pieces_at}
use Rattle.tv_cert.specs.declared.node.Mark.TheVariants.{Go}
use Rattle.tv_cert.specs.declared.node.Marked.{Marked}
use Rattle.tv_nested.specs.declared.ranking.Ranking.{Ranking}
use Rattle.tv_nested.specs.Ranks.{all_ranks, signs_at}
use Rattle.tv_nested.specs.Signs.{sign_rows, sign_pieces}

-- the piece of these rows at a location, with its ranks
abbrev pub piece_with : Ranking → ℕ → List Linear → Marked
piece_with r l rows = marked l (cases_of r.about.now).variables Go rows (all_ranks r l)

-- the piece with a number at a location
abbrev pub nested_piece : Ranking → ℕ → ℕ → Marked
nested_piece r l q = piece_with r l (sign_rows (signs_at r l) q)

-- the pieces at a location by the signs of the nested terms there: one without rows where there are no terms
abbrev pub pieces_there : Ranking → ℕ → List Marked
pieces_there r l = map (piece_with r l) (sign_pieces (signs_at r l))

-- the pieces at the first locations
abbrev pub node_pieces : Ranking → ℕ → List Marked
node_pieces r zero = []
node_pieces r (suc l) = node_pieces r l ++ pieces_there r l

-- the pieces at each location are those by the signs
abbrev pub ArePieces : Ranking → List Marked → Type 0
ArePieces r ps = (l : ℕ) → l < (cases_of r.about.now).locations → pieces_at ps l ≡ pieces_there r l
