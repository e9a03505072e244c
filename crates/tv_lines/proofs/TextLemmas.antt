-- A text is its first line and the lines after it.
use Rattle.std.proofs.Common.{◌≡◌, ℕ, ◌<◌, false, List, [], ◌∷◌, length, map, refl, sym, ap, ◌∙◌, arith}
use Rattle.std.specs.Prelude.{◌==◌}
use Rattle.tv_lines.specs.Pieces.{pieces, behind_piece}
use Rattle.tv_lines.specs.Lines.{PlainLine, line_of, without_return, line_texts, lines_of}
use Rattle.tv_lines.proofs.PieceLemmas.{first_piece}

more_by : (p : List ℕ) (ps : List (List ℕ)) (q : List ℕ) (qs : List (List ℕ)) → ps ≡ q ∷ qs → line_texts (p ∷ ps) ≡ without_return p ∷ line_texts ps
more_by p [] q qs e = absurd cc
more_by p (r ∷ rs) q qs e = refl

-- an LF ends the first line
pub ended_line : (rest front after : List ℕ) → pieces 10 rest ≡ front ∷ pieces 10 after → lines_of rest ≡ line_of (without_return front) ∷ lines_of after
ended_line rest front after e =
    let s = first_piece 10 after in
    ap (λ (ps : List (List ℕ)). map line_of (line_texts ps)) e ∙ ap (map line_of) (more_by front (pieces 10 after) s.0 s.1.0 s.1.1)

last_by : (front : List ℕ) → (length front == 0) ≡ false → line_texts (front ∷ []) ≡ front ∷ []
last_by [] n = absurd cc
last_by (b ∷ bs) n = refl

-- an empty text has no line
pub no_lines : lines_of [] ≡ []
unfolding pieces
no_lines = refl

-- no LF ends the last line
pub last_line_of : (rest front after : List ℕ) → pieces 10 rest ≡ front ∷ behind_piece 10 after → length after < 1 → (length front == 0) ≡ false → lines_of rest ≡ line_of front ∷ lines_of after
last_line_of rest front [] e n f = ap (λ (ps : List (List ℕ)). map line_of (line_texts ps)) e ∙ ap (map line_of) (last_by front f) ∙ ap (λ (ls : List PlainLine). line_of front ∷ ls) (sym no_lines)
last_line_of rest front (b ∷ bs) e n f = absurd (omega arith)
