-- The one spelling of a line.
use Rattle.std.specs.Prelude.{ℕ, ℤ, List, [], ◌∷◌, ◌++◌, map, Option, None, Some, codes}
use Rattle.std.specs.Fmt.{signed_decimal}
use Rattle.tv_lines.specs.declared.head.Head.{Head}
use Rattle.tv_lines.specs.declared.head.Head.TheVariants as heads
use Rattle.tv_lines.specs.declared.head.PieceMark.{PieceMark}
use Rattle.tv_lines.specs.declared.head.Opening.TheVariants as openings
use Rattle.tv_lines.specs.Pieces.{joined}
use Rattle.tv_lines.specs.Heads.{opening_word, kind_word, mark_word}

-- the words of a head
abbrev pub head_words : Head → List (List ℕ)
head_words heads.Header = opening_word openings.Header ∷ codes "1" ∷ []
head_words heads.Proved = opening_word openings.Proved ∷ []
head_words heads.Disproved = opening_word openings.Disproved ∷ []
head_words (heads.Node kind) = opening_word openings.Node ∷ kind_word kind ∷ []
head_words (heads.Piece mark) = opening_word openings.Piece ∷ mark_word mark ∷ []
head_words heads.Row = opening_word openings.Row ∷ []
head_words heads.Rank = opening_word openings.Rank ∷ []
head_words heads.Split = opening_word openings.Split ∷ []
head_words heads.Empty = opening_word openings.Empty ∷ []
head_words heads.Into = opening_word openings.Into ∷ []
head_words heads.By = opening_word openings.By ∷ []
head_words heads.NoStep = opening_word openings.NoStep ∷ []
head_words heads.Take = opening_word openings.Take ∷ []
head_words heads.Draw = opening_word openings.Draw ∷ []
head_words heads.At = opening_word openings.At ∷ []
head_words heads.End = opening_word openings.End ∷ []

-- the mark of a piece
abbrev pub piece_mark : Head → Option PieceMark
piece_mark (heads.Piece mark) = Some mark
piece_mark _ = None

-- the words of a line; the mark of a piece stands after its first number
abbrev pub line_words : Head → List ℤ → List (List ℕ)
line_words (heads.Piece mark) (z ∷ zs) =
    opening_word openings.Piece ∷ signed_decimal z ∷ mark_word mark ∷ map signed_decimal zs
line_words head zs = head_words head ++ map signed_decimal zs

-- the words between single spaces
abbrev pub spelling : Head → List ℤ → List ℕ
spelling head zs = joined 32 (line_words head zs)

-- numbers, each after a space
abbrev pub spaced : List ℤ → List ℕ
spaced [] = []
spaced (z ∷ zs) = 32 ∷ signed_decimal z ++ spaced zs
