-- The targets of a choice: for each case from the location and each piece at its end the rows that are met where the case is taken into
-- the piece, with terms for its draws. A case with two draws or more has none.
use Rattle.std.specs.Prelude.{◌≡◌, ℕ, zero, suc, ◌+◌, ◌≤◌, All, List, [], ◌∷◌, ◌++◌, map, take, get_or, ℤ, pos, negsuc, Option, None, Some}
use Rattle.tv_linear.specs.Linear.{Linear, linear, columns}
use Rattle.tv_linear.specs.Arithmetic.{opposite}
use Rattle.tv_linear.specs.declared.region.Piece.{Piece}
use Rattle.tv_cases.specs.LinearCases.{LinearCase, leaving}
use Rattle.tv_cover.specs.Targets.{IsNarrowRow}
use Rattle.tv_choice.specs.Rows.{case_rows, put_terms, put_rows, AreRead, ArePut, IsWideBefore, IsWidePut}
use Rattle.tv_choice.specs.Leading.{Query, piece_rows, pieces_at}

-- the row without its columns from n on
abbrev pub front : ℕ → Linear → Linear
front n r = linear (take n r.coefficients) r.constant

-- what a row gives for the draw at which it has the coefficient 1 or -1; the second is the rest of the row
abbrev pub term_by : ℤ → Linear → Option Linear
term_by (pos zero) rest = None
term_by (pos (suc zero)) rest = Some (opposite rest)
term_by (pos (suc (suc k))) rest = None
term_by (negsuc zero) rest = Some rest
term_by (negsuc (suc k)) rest = None

-- the term that a row over n variables and one draw gives for it
abbrev pub term_of : ℕ → Linear → Option Linear
term_of n r = term_by (get_or r.coefficients n (pos 0)) (front n r)

abbrev pub one_term : Option Linear → List (List Linear)
one_term None = []
one_term (Some t) = (t ∷ []) ∷ []

-- for each row that gives one the term for the one draw
abbrev pub terms_given : ℕ → List Linear → List (List Linear)
terms_given n [] = []
terms_given n (r ∷ rows) = one_term (term_of n r) ++ terms_given n rows

-- The lists of terms for draws that the rows of a case give: one list without draws, a term of a row for one draw. The first argument
-- is the number of draws.
abbrev pub draw_choices : ℕ → ℕ → List Linear → List (List Linear)
draw_choices zero n rows = [] ∷ []
draw_choices (suc zero) n rows = terms_given n rows
draw_choices (suc (suc k)) n rows = []

-- the targets by a case into a piece with these rows
abbrev pub targets_into : ℕ → LinearCase → List Linear → List (List Linear)
targets_into n c owed = map (λ draws. put_rows n draws (case_rows c owed)) (draw_choices c.draws n (case_rows c owed))

-- the targets by a case into these pieces
abbrev pub targets_by : ℕ → LinearCase → List Piece → List (List Linear)
targets_by n c [] = []
targets_by n c (p ∷ ps) = targets_into n c (piece_rows p) ++ targets_by n c ps

-- the targets by these cases
abbrev pub targets_from : ℕ → List Piece → List LinearCase → List (List Linear)
targets_from n ps [] = []
targets_from n ps (c ∷ cases) = targets_by n c (pieces_at ps c.to) ++ targets_from n ps cases

abbrev pub targets : ℕ → Query → List (List Linear)
targets n q = targets_from n q.pieces (leaving q.location q.system.cases)

-- ---- targets that are too wide

-- the rows of the case into the piece fit, and so do they with each list of terms; a case with more than one draw has no targets
pub record AreMadeInto (n : ℕ) (c : LinearCase) (p : Piece) : Type 0 where
  pub read : c.draws ≤ 1 → AreRead c (piece_rows p)
  pub put : All (λ draws. ArePut (put_terms n draws) (case_rows c (piece_rows p))) (draw_choices c.draws n (case_rows c (piece_rows p)))

-- with the first of these lists of terms with which the rows do not fit, the first row that does not is too wide at the column
pub data IsFirstWidePut (n : ℕ) (rows : List Linear) (column : ℕ) : List (List Linear) → Type 0 where
  with_these : (draws : List Linear) (rest : List (List Linear)) → IsWidePut (put_terms n draws) rows column → IsFirstWidePut n rows column (draws ∷ rest)
  with_later : (draws : List Linear) (rest : List (List Linear)) → ArePut (put_terms n draws) rows → IsFirstWidePut n rows column rest → IsFirstWidePut n rows column (draws ∷ rest)

-- of the rows that are made for the case into the piece the first that does not fit: a row of the piece, or one with terms put in
pub data IsWideInto (n : ℕ) (c : LinearCase) (p : Piece) (column : ℕ) : Type 0 where
  reading : IsWideBefore c (piece_rows p) column → IsWideInto n c p column
  putting : AreRead c (piece_rows p) → All (λ r. columns r ≡ n + c.draws) (case_rows c (piece_rows p)) → All IsNarrowRow (case_rows c (piece_rows p)) → IsFirstWidePut n (case_rows c (piece_rows p)) column (draw_choices c.draws n (case_rows c (piece_rows p))) → IsWideInto n c p column

-- so it is at the first of these pieces with such a row
pub data IsFirstWideInto (n : ℕ) (c : LinearCase) (column : ℕ) : List Piece → Type 0 where
  into_this : (p : Piece) (ps : List Piece) → IsWideInto n c p column → IsFirstWideInto n c column (p ∷ ps)
  into_later : (p : Piece) (ps : List Piece) → AreMadeInto n c p → IsFirstWideInto n c column ps → IsFirstWideInto n c column (p ∷ ps)

-- and at the first of these cases
pub data IsFirstWideFrom (n : ℕ) (ps : List Piece) (column : ℕ) : List LinearCase → Type 0 where
  by_this : (c : LinearCase) (cases : List LinearCase) → IsFirstWideInto n c column (pieces_at ps c.to) → IsFirstWideFrom n ps column (c ∷ cases)
  by_later : (c : LinearCase) (cases : List LinearCase) → All (AreMadeInto n c) (pieces_at ps c.to) → IsFirstWideFrom n ps column cases → IsFirstWideFrom n ps column (c ∷ cases)

-- of the rows that are made for the targets the first that does not fit is too wide at the column
abbrev pub IsWideTarget : ℕ → Query → ℕ → Type 0
IsWideTarget n q column = IsFirstWideFrom n q.pieces column (leaving q.location q.system.cases)
