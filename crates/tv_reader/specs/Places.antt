-- Places of a text as lines and columns. Both count from 1; a line ends after LF, and a column counts bytes.
use Rattle.std.specs.Prelude.{ℕ, ◌+◌, List, take, reverse, not, ◌==◌, count_by}
use Rattle.std.specs.List.{prefix_len}

-- one more than there are LFs before the place
abbrev pub line_of : List ℕ → ℕ → ℕ
line_of text at = 1 + count_by (λ b. b == 10) (take at text)

-- one more than there are bytes from the place back to the LF before it, or to the front of the text
abbrev pub column_of : List ℕ → ℕ → ℕ
column_of text at = 1 + prefix_len (λ b. not (b == 10)) (reverse (take at text))
