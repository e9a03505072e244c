-- The words that say what a line is.
use Rattle.std.specs.Prelude.{ℕ, List, [], ◌∷◌, Option, find, codes}
use Rattle.std.specs.Str.{bytes_eq}
use Rattle.tv_lines.specs.declared.head.Opening.{Opening}
use Rattle.tv_lines.specs.declared.head.Opening.TheVariants as openings
use Rattle.tv_lines.specs.declared.head.NodeKind.{NodeKind}
use Rattle.tv_lines.specs.declared.head.NodeKind.TheVariants as kinds
use Rattle.tv_lines.specs.declared.head.PieceMark.{PieceMark}
use Rattle.tv_lines.specs.declared.head.PieceMark.TheVariants as marks

-- the word that begins such a line
abbrev pub opening_word : Opening → List ℕ
opening_word openings.Header = codes "T2CERT"
opening_word openings.Proved = codes "proved"
opening_word openings.Disproved = codes "disproved"
opening_word openings.Node = codes "node"
opening_word openings.Piece = codes "piece"
opening_word openings.Row = codes "row"
opening_word openings.Rank = codes "rank"
opening_word openings.Split = codes "split"
opening_word openings.Empty = codes "empty"
opening_word openings.Into = codes "into"
opening_word openings.By = codes "by"
opening_word openings.NoStep = codes "nostep"
opening_word openings.Take = codes "take"
opening_word openings.Draw = codes "draw"
opening_word openings.At = codes "at"
opening_word openings.End = codes "end"

-- the word of a kind of nodes
abbrev pub kind_word : NodeKind → List ℕ
kind_word kinds.Atom = codes "atom"
kind_word kinds.And = codes "and"
kind_word kinds.Or = codes "or"
kind_word kinds.Next = codes "next"
kind_word kinds.Fix = codes "fix"
kind_word kinds.Term = codes "term"
kind_word kinds.NoTerm = codes "noterm"

-- the word of a mark of pieces
abbrev pub mark_word : PieceMark → List ℕ
mark_word marks.Done = codes "done"
mark_word marks.Go = codes "go"

-- all words that begin lines
abbrev pub all_openings : List Opening
all_openings = openings.Header ∷ openings.Proved ∷ openings.Disproved ∷ openings.Node ∷ openings.Piece ∷ openings.Row
    ∷ openings.Rank ∷ openings.Split ∷ openings.Empty ∷ openings.Into ∷ openings.By ∷ openings.NoStep ∷ openings.Take
    ∷ openings.Draw ∷ openings.At ∷ openings.End ∷ []

-- all kinds of nodes
abbrev pub all_kinds : List NodeKind
all_kinds = kinds.Atom ∷ kinds.And ∷ kinds.Or ∷ kinds.Next ∷ kinds.Fix ∷ kinds.Term ∷ kinds.NoTerm ∷ []

-- both marks of pieces
abbrev pub all_marks : List PieceMark
all_marks = marks.Done ∷ marks.Go ∷ []

-- what the word begins, if it begins a line
abbrev pub opening_of : List ℕ → Option Opening
opening_of word = find (λ o. bytes_eq word (opening_word o)) all_openings

-- the kind of nodes that the word names
abbrev pub kind_of : List ℕ → Option NodeKind
kind_of word = find (λ k. bytes_eq word (kind_word k)) all_kinds

-- the mark of pieces that the word names
abbrev pub mark_of : List ℕ → Option PieceMark
mark_of word = find (λ m. bytes_eq word (mark_word m)) all_marks
