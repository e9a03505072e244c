-- Lines with a word too many.
use Rattle.std.proofs.Common.{◌≡◌, ℕ, ◌≤◌, List, ◌∷◌, length, refl}
use Rattle.tv_lines.specs.Pieces.{behind_piece}
use Rattle.tv_lines.specs.Lines.{formless, header_line, piece_line}
use Rattle.tv_lines.proofs.PieceLemmas.{some_behind}

pub long_header : (version rest : List ℕ) → 1 ≤ length rest → formless ≡ header_line (version ∷ behind_piece 32 rest)
long_header version rest n = let s = some_behind 32 rest n in rw s.1.1 refl

pub long_piece : (location mark count rest : List ℕ) → 1 ≤ length rest → formless ≡ piece_line (location ∷ mark ∷ count ∷ behind_piece 32 rest)
long_piece location mark count rest n = let s = some_behind 32 rest n in rw s.1.1 refl
