-- The words and spaces of a formula.
use Rattle.std.proofs.Common.{◌≡◌, ℕ, true, List, [], ◌∷◌, ◌++◌, refl, sym, ap, ◌∙◌, append_assoc}
use Rattle.std.specs.Prelude.{◌||◌, codes, slice_index_or}
use Rattle.tv_language.specs.declared.token.TokenKind.TheVariants.{LeftRound, RightRound, LeftSquare, RightSquare, Name, And, Or, Not}
use Rattle.tv_program.specs.Words.{Word}
use Rattle.tv_formula.specs.declared.tree.Path.{Path}
use Rattle.tv_formula.specs.declared.tree.Shape.{Shape}
use Rattle.tv_formula.specs.Properties.{Property, truth, compare, at, term, negated, all_of, some_of, next, fix, Properties, none, more}
use Rattle.tv_spelling.specs.Sums.{expression_text}
use Rattle.tv_spelling.specs.Conditions.{relation_text}
use Rattle.tv_spelling.proofs.Pieces.{Piece, blank, word, bytes, bracket_pieces}
use Rattle.tv_spelling.proofs.SumPieces.{Writes, bracket_bytes, joined_bytes, expression_pieces, expression_bytes}
use Rattle.tv_spelling.proofs.ConditionPieces.{truth_pieces, truth_bytes, relation_kind, relation_word, relation_bytes}
use Rattle.tv_spelling.proofs.ProgramPieces.{label_kind}
use Rattle.tv_formula_spelling.specs.declared.formulas.Form.{Form}
use Rattle.tv_formula_spelling.specs.declared.formulas.Form.TheVariants.{Finally, Globally, Both}
use Rattle.tv_formula_spelling.specs.Formulas.{path_letter, shape_letter, operator_text, is_joined, is_all, is_some, as_literal, as_conjunction, argument_text, form_of, text_by, formula_text, all_text, further_all_text, some_text, further_some_text}

-- "[" and the two letters of an operator, and "]"
abbrev pub operator_pieces : Path → ℕ → List Piece → List Piece
operator_pieces p letter rest = word LeftSquare (91 ∷ []) ∷ word Name (path_letter p ∷ letter ∷ []) ∷ word RightSquare (93 ∷ []) ∷ rest

abbrev pub place_pieces : List Word → ℕ → List Piece → List Piece
place_pieces labels l rest = word Name (codes "at") ∷ word LeftRound (40 ∷ []) ∷ word (label_kind (slice_index_or labels l [])) (slice_index_or labels l []) ∷ word RightRound (41 ∷ []) ∷ rest

-- the letter of the operator that is written
abbrev pub letter_by : Shape → Form → ℕ
letter_by s Finally = 70
letter_by s Globally = 71
letter_by s Both = shape_letter s

-- its arguments, each in brackets
abbrev pub arguments_by : Form → (List Piece → List Piece) → (List Piece → List Piece) → List Piece → List Piece
arguments_by Finally one other rest = bracket_pieces true other rest
arguments_by Globally one other rest = bracket_pieces true one rest
arguments_by Both one other rest = bracket_pieces true one (bracket_pieces true other rest)

abbrev pub fix_pieces : Path → Shape → Form → (List Piece → List Piece) → (List Piece → List Piece) → List Piece → List Piece
fix_pieces p s form one other rest = operator_pieces p (letter_by s form) (arguments_by form one other rest)

abbrev mutual
  pub formula_pieces : List Word → List Word → Property → List Piece → List Piece
  formula_pieces ws ls (truth b) rest = truth_pieces b rest
  formula_pieces ws ls (compare r a b) rest = expression_pieces ws a (blank ∷ word (relation_kind r) (relation_word r) ∷ blank ∷ expression_pieces ws b rest)
  formula_pieces ws ls (at l) rest = place_pieces ls l rest
  formula_pieces ws ls term rest = word Name (codes "term") ∷ rest
  formula_pieces ws ls (negated f) rest = word Not (33 ∷ []) ∷ bracket_pieces (is_joined f) (formula_pieces ws ls f) rest
  formula_pieces ws ls (all_of fs) rest = all_pieces ws ls fs rest
  formula_pieces ws ls (some_of fs) rest = some_pieces ws ls fs rest
  formula_pieces ws ls (next p f) rest = operator_pieces p 88 (bracket_pieces true (formula_pieces ws ls f) rest)
  formula_pieces ws ls (fix p s f g) rest = fix_pieces p s (form_of s f g) (formula_pieces ws ls f) (formula_pieces ws ls g) rest

  pub all_pieces : List Word → List Word → Properties → List Piece → List Piece
  all_pieces ws ls none rest = rest
  all_pieces ws ls (more f fs) rest = bracket_pieces (is_all f || is_some f) (formula_pieces ws ls f) (further_all_pieces ws ls fs rest)

  pub further_all_pieces : List Word → List Word → Properties → List Piece → List Piece
  further_all_pieces ws ls none rest = rest
  further_all_pieces ws ls (more f fs) rest = blank ∷ word And (38 ∷ 38 ∷ []) ∷ blank ∷ bracket_pieces (is_all f || is_some f) (formula_pieces ws ls f) (further_all_pieces ws ls fs rest)

  pub some_pieces : List Word → List Word → Properties → List Piece → List Piece
  some_pieces ws ls none rest = rest
  some_pieces ws ls (more f fs) rest = bracket_pieces (is_some f) (formula_pieces ws ls f) (further_some_pieces ws ls fs rest)

  pub further_some_pieces : List Word → List Word → Properties → List Piece → List Piece
  further_some_pieces ws ls none rest = rest
  further_some_pieces ws ls (more f fs) rest = blank ∷ word Or (124 ∷ 124 ∷ []) ∷ blank ∷ bracket_pieces (is_some f) (formula_pieces ws ls f) (further_some_pieces ws ls fs rest)

-- ---- their bytes are the text

place_bytes : (ls : List Word) (l : ℕ) → Writes (place_pieces ls l) (codes "at(" ++ (slice_index_or ls l [] ++ codes ")"))
place_bytes ls l rest = ap (λ (x : List ℕ). codes "at(" ++ x) (sym (append_assoc (slice_index_or ls l []) (codes ")") (bytes rest)))

-- after the letters of an operator
behind_operator : (p : Path) (letter : ℕ) (behind : List Piece) (text : List ℕ) (rest : List Piece) → bytes behind ≡ text ++ bytes rest → bytes (operator_pieces p letter behind) ≡ (operator_text p letter ++ text) ++ bytes rest
behind_operator p letter behind text rest e = ap (λ (x : List ℕ). operator_text p letter ++ x) e

fix_bytes : (p : Path) (s : Shape) (form : Form) (one other : List Piece → List Piece) (text further : List ℕ) → Writes one text → Writes other further → Writes (fix_pieces p s form one other) (text_by p s form text further)
fix_bytes p s Finally one other text further h k rest = behind_operator p 70 (bracket_pieces true other rest) (argument_text further) rest (bracket_bytes other further k true rest)
fix_bytes p s Globally one other text further h k rest = behind_operator p 71 (bracket_pieces true one rest) (argument_text text) rest (bracket_bytes one text h true rest)
fix_bytes p s Both one other text further h k rest =
    behind_operator p (shape_letter s) (bracket_pieces true one (bracket_pieces true other rest)) (argument_text text ++ argument_text further) rest
    (bracket_bytes one text h true (bracket_pieces true other rest) ∙ ap (λ (x : List ℕ). argument_text text ++ x) (bracket_bytes other further k true rest) ∙ sym (append_assoc (argument_text text) (argument_text further) (bytes rest)))

mutual
  pub formula_bytes : (ws ls : List Word) (f : Property) → Writes (formula_pieces ws ls f) (formula_text ws ls f)
  formula_bytes ws ls (truth b) rest = truth_bytes b rest
  formula_bytes ws ls (compare r a b) rest =
      joined_bytes (expression_pieces ws a) (expression_text ws a) (expression_bytes ws a) [] (blank ∷ word (relation_kind r) (relation_word r) ∷ blank ∷ expression_pieces ws b rest) (relation_text r ++ expression_text ws b) rest
      (relation_bytes r (expression_pieces ws b rest) ∙ ap (λ (x : List ℕ). relation_text r ++ x) (expression_bytes ws b rest) ∙ sym (append_assoc (relation_text r) (expression_text ws b) (bytes rest)))
  formula_bytes ws ls (at l) rest = place_bytes ls l rest
  formula_bytes ws ls term rest = refl
  formula_bytes ws ls (negated f) rest = ap (λ (x : List ℕ). 33 ∷ x) (bracket_bytes (formula_pieces ws ls f) (formula_text ws ls f) (formula_bytes ws ls f) (is_joined f) rest)
  formula_bytes ws ls (all_of fs) rest = all_bytes ws ls fs rest
  formula_bytes ws ls (some_of fs) rest = some_bytes ws ls fs rest
  formula_bytes ws ls (next p f) rest = behind_operator p 88 (bracket_pieces true (formula_pieces ws ls f) rest) (argument_text (formula_text ws ls f)) rest (bracket_bytes (formula_pieces ws ls f) (formula_text ws ls f) (formula_bytes ws ls f) true rest)
  formula_bytes ws ls (fix p s f g) rest = fix_bytes p s (form_of s f g) (formula_pieces ws ls f) (formula_pieces ws ls g) (formula_text ws ls f) (formula_text ws ls g) (formula_bytes ws ls f) (formula_bytes ws ls g) rest

  all_bytes : (ws ls : List Word) (fs : Properties) → Writes (all_pieces ws ls fs) (all_text ws ls fs)
  all_bytes ws ls none rest = refl
  all_bytes ws ls (more f fs) rest =
      joined_bytes (bracket_pieces (is_all f || is_some f) (formula_pieces ws ls f)) (as_literal f (formula_text ws ls f)) (bracket_bytes (formula_pieces ws ls f) (formula_text ws ls f) (formula_bytes ws ls f) (is_all f || is_some f)) []
      (further_all_pieces ws ls fs rest) (further_all_text ws ls fs) rest (further_all_bytes ws ls fs rest)

  further_all_bytes : (ws ls : List Word) (fs : Properties) → Writes (further_all_pieces ws ls fs) (further_all_text ws ls fs)
  further_all_bytes ws ls none rest = refl
  further_all_bytes ws ls (more f fs) rest =
      joined_bytes (bracket_pieces (is_all f || is_some f) (formula_pieces ws ls f)) (as_literal f (formula_text ws ls f)) (bracket_bytes (formula_pieces ws ls f) (formula_text ws ls f) (formula_bytes ws ls f) (is_all f || is_some f)) (codes " && ")
      (further_all_pieces ws ls fs rest) (further_all_text ws ls fs) rest (further_all_bytes ws ls fs rest)

  some_bytes : (ws ls : List Word) (fs : Properties) → Writes (some_pieces ws ls fs) (some_text ws ls fs)
  some_bytes ws ls none rest = refl
  some_bytes ws ls (more f fs) rest =
      joined_bytes (bracket_pieces (is_some f) (formula_pieces ws ls f)) (as_conjunction f (formula_text ws ls f)) (bracket_bytes (formula_pieces ws ls f) (formula_text ws ls f) (formula_bytes ws ls f) (is_some f)) []
      (further_some_pieces ws ls fs rest) (further_some_text ws ls fs) rest (further_some_bytes ws ls fs rest)

  further_some_bytes : (ws ls : List Word) (fs : Properties) → Writes (further_some_pieces ws ls fs) (further_some_text ws ls fs)
  further_some_bytes ws ls none rest = refl
  further_some_bytes ws ls (more f fs) rest =
      joined_bytes (bracket_pieces (is_some f) (formula_pieces ws ls f)) (as_conjunction f (formula_text ws ls f)) (bracket_bytes (formula_pieces ws ls f) (formula_text ws ls f) (formula_bytes ws ls f) (is_some f)) (codes " || ")
      (further_some_pieces ws ls fs rest) (further_some_text ws ls fs) rest (further_some_bytes ws ls fs rest)
