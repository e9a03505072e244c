-- Each word of a formula is the token at the front of its text from there on.
use Rattle.std.proofs.Common.{◌≡◌, ℕ, true, false, List, [], ◌∷◌, ◌++◌, refl}
use Rattle.std.specs.Prelude.{◌||◌, codes, slice_index, slice_index_or}
use Rattle.tv_language.specs.declared.token.TokenKind.TheVariants.{LeftRound, RightRound, LeftSquare, RightSquare, Name, Not}
use Rattle.tv_language.specs.declared.front.Front.TheVariants as fronts
use Rattle.tv_language.specs.Fronts.{front_of}
use Rattle.tv_language.specs.WordTexts.{continues_name, word_kind}
use Rattle.tv_program.specs.Words.{Word}
use Rattle.tv_language.specs.Symbols.{Vocabulary}
use Rattle.tv_formula.specs.declared.tree.Path.{Path}
use Rattle.tv_formula.specs.declared.tree.Path.TheVariants.{Every, Any}
use Rattle.tv_formula.specs.declared.tree.Shape.{Shape}
use Rattle.tv_formula.specs.declared.tree.Shape.TheVariants.{Until, Weak, Release, Strong}
use Rattle.tv_formula.specs.Properties.{Property, truth, compare, at, term, negated, all_of, some_of, next, fix, Properties, none, more}
use Rattle.tv_spelling.proofs.Pieces.{Piece, blank, word, bytes, AreFronts, IsReady, bracket_pieces}
use Rattle.tv_spelling.proofs.FrontLemmas.{word_at_front}
use Rattle.tv_spelling.proofs.SumPieces.{expression_pieces, Lays, bracket_fronts, known_fronts}
use Rattle.tv_spelling.proofs.ConditionPieces.{truth_fronts, relation_kind, relation_word, relation_ready, and_ready, or_ready}
use Rattle.tv_spelling.proofs.ProgramPieces.{label_front}
use Rattle.tv_formula_spelling.specs.declared.formulas.Form.{Form}
use Rattle.tv_formula_spelling.specs.declared.formulas.Form.TheVariants.{Finally, Globally, Both}
use Rattle.tv_formula_spelling.specs.Formulas.{path_letter, shape_letter, is_joined, is_all, is_some, form_of}
use Rattle.tv_formula_spelling.proofs.FormulaPieces.{operator_pieces, place_pieces, letter_by, arguments_by, formula_pieces, further_all_pieces, further_some_pieces}
use Rattle.tv_formula_spelling.proofs.FormulaReady.{IsPlace, Ready, AllReady}
use Rattle.tv_formula_spelling.proofs.SumSigns.{ready_fits, ready_known}
use Rattle.std.proofs.lemmas.Bool.{and_from}

-- ---- operators

-- the letters that stand second in an operator
abbrev IsLetter : ℕ → Type 0
IsLetter letter = (continues_name letter ≡ true) × (word_kind (65 ∷ letter ∷ []) ≡ Name) × (word_kind (69 ∷ letter ∷ []) ≡ Name)

letters_front : (p : Path) (letter : ℕ) → IsLetter letter → (x : List ℕ) → continues_name (slice_index x 0) ≡ false → front_of (path_letter p ∷ letter ∷ x) ≡ fronts.Token Name 2
letters_front Every letter h x stops = word_at_front Name (λ n rest. refl) 65 (letter ∷ []) x refl (and_from _ _ h.0 refl) h.1 stops
letters_front Any letter h x stops = word_at_front Name (λ n rest. refl) 69 (letter ∷ []) x refl (and_from _ _ h.0 refl) h.2 stops

shape_is : (s : Shape) → IsLetter (shape_letter s)
shape_is Until = (refl, refl, refl)
shape_is Weak = (refl, refl, refl)
shape_is Release = (refl, refl, refl)
shape_is Strong = (refl, refl, refl)

letter_is : (s : Shape) (form : Form) → IsLetter (letter_by s form)
letter_is s Finally = (refl, refl, refl)
letter_is s Globally = (refl, refl, refl)
letter_is s Both = shape_is s

left_square : (x : List ℕ) → front_of (91 ∷ x) ≡ fronts.Token LeftSquare 1
unfolding front_of
left_square x = refl

right_square : (x : List ℕ) → front_of (93 ∷ x) ≡ fronts.Token RightSquare 1
unfolding front_of
right_square x = refl

operator_fronts : (p : Path) (letter : ℕ) → IsLetter letter → (rest : List Piece) → AreFronts rest → AreFronts (operator_pieces p letter rest)
operator_fronts p letter h rest r = (left_square (path_letter p ∷ letter ∷ 93 ∷ bytes rest), (letters_front p letter h (93 ∷ bytes rest) refl, (right_square (bytes rest), r)))

arguments_fronts : (form : Form) (one other : List Piece → List Piece) → Lays one → Lays other → Lays (arguments_by form one other)
arguments_fronts Finally one other h k rest r = bracket_fronts other k true rest r
arguments_fronts Globally one other h k rest r = bracket_fronts one h true rest r
arguments_fronts Both one other h k rest r = bracket_fronts one h true (bracket_pieces true other rest) (behind_round other (bracket_fronts other k true rest r))
  where
    behind_round : (pieces : List Piece → List Piece) → AreFronts (bracket_pieces true pieces rest) → IsReady (bracket_pieces true pieces rest)
    behind_round pieces f = record { stops = refl; fronts = f }

-- ---- places

round_front : (x : List ℕ) → front_of (40 ∷ x) ≡ fronts.Token LeftRound 1
unfolding front_of
round_front x = refl

closing_front : (x : List ℕ) → front_of (41 ∷ x) ≡ fronts.Token RightRound 1
unfolding front_of
closing_front x = refl

at_front : (x : List ℕ) → front_of (codes "at" ++ (40 ∷ x)) ≡ fronts.Token Name 2
at_front x = word_at_front Name (λ n rest. refl) 97 (116 ∷ []) (40 ∷ x) refl refl refl refl

place_fronts : (ls : List Word) (l : ℕ) → IsPlace ls l → Lays (place_pieces ls l)
place_fronts ls l h rest r =
    let w = slice_index_or ls l [] in
    (at_front (w ++ (41 ∷ bytes rest)), (round_front (w ++ (41 ∷ bytes rest)), (label_front w (41 ∷ bytes rest) h.0 refl, (closing_front (bytes rest), r.fronts))))

term_fronts : Lays (λ rest. word Name (codes "term") ∷ rest)
term_fronts rest r = (word_at_front Name (λ n x. refl) 116 (101 ∷ 114 ∷ 109 ∷ []) (bytes rest) refl refl refl r.stops, r.fronts)

-- ---- what is denied never begins with an equals sign

not_fronts : (ws ls : List Word) (f : Property) (rest : List Piece) → AreFronts (bracket_pieces (is_joined f) (formula_pieces ws ls f) rest) → AreFronts (word Not (33 ∷ []) ∷ bracket_pieces (is_joined f) (formula_pieces ws ls f) rest)
unfolding front_of
not_fronts ws ls (truth true) rest h = (refl, h)
not_fronts ws ls (truth false) rest h = (refl, h)
not_fronts ws ls (compare r a b) rest h = (refl, h)
not_fronts ws ls (at l) rest h = (refl, h)
not_fronts ws ls term rest h = (refl, h)
not_fronts ws ls (negated f) rest h = (refl, h)
not_fronts ws ls (all_of fs) rest h = (refl, h)
not_fronts ws ls (some_of fs) rest h = (refl, h)
not_fronts ws ls (next p f) rest h = (refl, h)
not_fronts ws ls (fix p s f g) rest h = (refl, h)

-- ---- all words

mutual
  pub formula_fronts : (v : Vocabulary) (f : Property) → Ready v f → Lays (formula_pieces v.variables v.labels f)
  formula_fronts v (truth b) h rest r = truth_fronts b rest r
  formula_fronts v (compare relation a b) h rest r =
      let ws = v.variables in
      known_fronts ws 0 a (ready_fits ws a h.0) (ready_known ws a h.0) (blank ∷ word (relation_kind relation) (relation_word relation) ∷ blank ∷ expression_pieces ws b rest)
      (relation_ready relation (expression_pieces ws b rest) (known_fronts ws 0 b (ready_fits ws b h.1) (ready_known ws b h.1) rest r))
  formula_fronts v (at l) h rest r = place_fronts v.labels l h rest r
  formula_fronts v term h rest r = term_fronts rest r
  formula_fronts v (negated f) h rest r = not_fronts v.variables v.labels f rest (bracket_fronts (formula_pieces v.variables v.labels f) (formula_fronts v f h) (is_joined f) rest r)
  formula_fronts v (all_of none) h rest r = r.fronts
  formula_fronts v (all_of (more f fs)) h rest r = bracket_fronts (formula_pieces v.variables v.labels f) (formula_fronts v f h.1.0) (is_all f || is_some f) (further_all_pieces v.variables v.labels fs rest) (all_ready v fs h.1.1 rest r)
  formula_fronts v (some_of none) h rest r = r.fronts
  formula_fronts v (some_of (more f fs)) h rest r = bracket_fronts (formula_pieces v.variables v.labels f) (formula_fronts v f h.1.0) (is_some f) (further_some_pieces v.variables v.labels fs rest) (some_ready v fs h.1.1 rest r)
  formula_fronts v (next p f) h rest r = operator_fronts p 88 (refl, refl, refl) (bracket_pieces true (formula_pieces v.variables v.labels f) rest) (bracket_fronts (formula_pieces v.variables v.labels f) (formula_fronts v f h) true rest r)
  formula_fronts v (fix p s f g) h rest r =
      let form = form_of s f g in
      let one = formula_pieces v.variables v.labels f in
      let other = formula_pieces v.variables v.labels g in
      operator_fronts p (letter_by s form) (letter_is s form) (arguments_by form one other rest) (arguments_fronts form one other (formula_fronts v f h.0) (formula_fronts v g h.1) rest r)

  all_ready : (v : Vocabulary) (fs : Properties) → AllReady v fs → (rest : List Piece) → IsReady rest → IsReady (further_all_pieces v.variables v.labels fs rest)
  all_ready v none h rest r = r
  all_ready v (more f fs) h rest r =
      and_ready (bracket_pieces (is_all f || is_some f) (formula_pieces v.variables v.labels f) (further_all_pieces v.variables v.labels fs rest))
      (bracket_fronts (formula_pieces v.variables v.labels f) (formula_fronts v f h.0) (is_all f || is_some f) (further_all_pieces v.variables v.labels fs rest) (all_ready v fs h.1 rest r))

  some_ready : (v : Vocabulary) (fs : Properties) → AllReady v fs → (rest : List Piece) → IsReady rest → IsReady (further_some_pieces v.variables v.labels fs rest)
  some_ready v none h rest r = r
  some_ready v (more f fs) h rest r =
      or_ready (bracket_pieces (is_some f) (formula_pieces v.variables v.labels f) (further_some_pieces v.variables v.labels fs rest))
      (bracket_fronts (formula_pieces v.variables v.labels f) (formula_fronts v f h.0) (is_some f) (further_some_pieces v.variables v.labels fs rest) (some_ready v fs h.1 rest r))
