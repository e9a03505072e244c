-- The lines of a text, each read alone.
use Rattle.std.specs.Prelude.{◌≡◌, ℕ, ◌-◌, ℤ, List, [], ◌∷◌, length, take, slice_index, map, All, Option, Some, None, ◌==◌, if◌then◌else◌, codes}
use Rattle.std.specs.List.{list_all}
use Rattle.std.specs.Option.{ForSome}
use Rattle.std.specs.Str.{bytes_eq}
use Rattle.tv_lines.specs.declared.head.Head.{Head}
use Rattle.tv_lines.specs.declared.head.Head.TheVariants as heads
use Rattle.tv_lines.specs.declared.head.Opening.{Opening}
use Rattle.tv_lines.specs.declared.head.Opening.TheVariants as openings
use Rattle.tv_lines.specs.declared.head.NodeKind.{NodeKind}
use Rattle.tv_lines.specs.declared.head.PieceMark.{PieceMark}
use Rattle.tv_lines.specs.declared.line.Line.{Line}
use Rattle.tv_lines.specs.declared.line.Line.TheVariants as lines
use Rattle.tv_lines.specs.Pieces.{pieces}
use Rattle.tv_lines.specs.Numbers.{is_number, number_of, is_narrow, IsNarrow}
use Rattle.tv_lines.specs.Heads.{opening_of, kind_of, mark_of}

-- a line, apart from where it lies in memory
pub data PlainLine : Type 0 where
  -- its head and its numbers
  formed : Head → List ℤ → PlainLine
  -- none of the forms that lines have
  formless : PlainLine
  -- one of the forms, with a number of 2^62 or more in magnitude
  wide : PlainLine

-- what a line of the code is
abbrev pub plain : Line → PlainLine
plain (lines.Formed head numbers) = formed head numbers.items
plain lines.Formless = formless
plain lines.Wide = wide

-- the line of these numbers, if none is wide
abbrev pub line_with : Head → List ℤ → PlainLine
line_with head zs = if list_all is_narrow zs then formed head zs else wide

-- a head and any words after it, each to be a number
abbrev pub numbered : Head → List (List ℕ) → PlainLine
numbered head words = if list_all is_number words then line_with head (map number_of words) else formless

-- a head and `count` words after it, each to be a number
abbrev pub counted : Head → ℕ → List (List ℕ) → PlainLine
counted head count words = if length words == count then numbered head words else formless

-- `T2CERT` and the words after it, which are to be the version
abbrev pub header_line : List (List ℕ) → PlainLine
header_line (version ∷ []) = if bytes_eq version (codes "1") then formed heads.Header [] else formless
header_line _ = formless

-- a node of the kind, if there is one, and two numbers
abbrev pub kind_line : Option NodeKind → List (List ℕ) → PlainLine
kind_line None words = formless
kind_line (Some kind) words = counted (heads.Node kind) 2 words

-- `node` and the words after it: the kind of the node and two numbers
abbrev pub node_line : List (List ℕ) → PlainLine
node_line [] = formless
node_line (kind ∷ words) = kind_line (kind_of kind) words

-- a piece with the mark, if there is one, between two numbers
abbrev pub mark_line : Option PieceMark → List (List ℕ) → PlainLine
mark_line None words = formless
mark_line (Some mark) words = numbered (heads.Piece mark) words

-- `piece` and the words after it: a number, the mark of the piece and another number
abbrev pub piece_line : List (List ℕ) → PlainLine
piece_line (location ∷ mark ∷ count ∷ []) = mark_line (mark_of mark) (location ∷ count ∷ [])
piece_line _ = formless

-- what begins the line, and the words after it
abbrev pub opened : Opening → List (List ℕ) → PlainLine
opened openings.Header words = header_line words
opened openings.Proved words = counted heads.Proved 0 words
opened openings.Disproved words = counted heads.Disproved 0 words
opened openings.Node words = node_line words
opened openings.Piece words = piece_line words
opened openings.Row words = numbered heads.Row words
opened openings.Rank words = numbered heads.Rank words
opened openings.Split words = numbered heads.Split words
opened openings.Empty words = numbered heads.Empty words
opened openings.Into words = counted heads.Into 2 words
opened openings.By words = numbered heads.By words
opened openings.NoStep words = counted heads.NoStep 0 words
opened openings.Take words = counted heads.Take 3 words
opened openings.Draw words = numbered heads.Draw words
opened openings.At words = numbered heads.At words
opened openings.End words = counted heads.End 0 words

-- the same, if the first word begins a line
abbrev pub opened_by : Option Opening → List (List ℕ) → PlainLine
opened_by None words = formless
opened_by (Some opening) words = opened opening words

-- the words of a line
abbrev pub worded : List (List ℕ) → PlainLine
worded [] = formless
worded (first ∷ words) = opened_by (opening_of first) words

-- the line that these bytes are, without what ends it
abbrev pub line_of : List ℕ → PlainLine
line_of bytes = worded (pieces 32 bytes)

-- the bytes before an LF, less a CR at their end
abbrev pub without_return : List ℕ → List ℕ
without_return bytes = if slice_index bytes (length bytes - 1) == 13 then take (length bytes - 1) bytes else bytes

-- the bytes of the last line, which no LF ends, if there is one
abbrev pub last_line : List ℕ → List (List ℕ)
last_line [] = []
last_line (b ∷ bs) = (b ∷ bs) ∷ []

-- the bytes of each line, told what stands between the LFs of a text
abbrev pub line_texts : List (List ℕ) → List (List ℕ)
line_texts [] = []
line_texts (p ∷ []) = last_line p
line_texts (p ∷ q ∷ ps) = without_return p ∷ line_texts (q ∷ ps)

-- the lines of a text
abbrev pub lines_of : List ℕ → List PlainLine
lines_of text = map line_of (line_texts (pieces 10 text))

-- how many numbers such a line has, where all have as many
abbrev pub count_of : Head → Option ℕ
count_of heads.Header = Some 0
count_of heads.Proved = Some 0
count_of heads.Disproved = Some 0
count_of (heads.Node kind) = Some 2
count_of (heads.Piece mark) = Some 2
count_of heads.Into = Some 2
count_of heads.Take = Some 3
count_of heads.NoStep = Some 0
count_of heads.End = Some 0
count_of heads.Row = None
count_of heads.Rank = None
count_of heads.Split = None
count_of heads.Empty = None
count_of heads.By = None
count_of heads.Draw = None
count_of heads.At = None

-- the numbers are as many as the head wants, and narrow
pub record FitsHead (head : Head) (zs : List ℤ) : Type 0 where
  pub counted : ForSome (count_of head) (λ count. length zs ≡ count)
  pub narrow : All IsNarrow zs

-- the numbers of a formed line fit its head
abbrev pub IsFit : PlainLine → Type 0
IsFit (formed head zs) = FitsHead head zs
IsFit formless = Unit {0}
IsFit wide = Unit {0}

-- the first line is taken off a list of lines, if there is one
abbrev pub TakesFirst : List PlainLine → Option Line → List PlainLine → Type 0
TakesFirst old None new = (old ≡ []) × (new ≡ [])
TakesFirst old (Some line) new = old ≡ plain line ∷ new
