-- The words and spaces of a condition.
use Rattle.std.proofs.Common.{◌≡◌, ℕ, Bool, true, false, List, [], ◌∷◌, ◌++◌, length, refl, sym, ap, ◌∙◌, append_assoc}
use Rattle.std.specs.Prelude.{◌||◌, not, codes, IsTrue}
use Rattle.tv_language.specs.declared.token.TokenKind.{TokenKind}
use Rattle.tv_language.specs.declared.token.TokenKind.TheVariants.{True, False, And, Or, Not}
use Rattle.tv_language.specs.declared.token.TokenKind.TheVariants as kinds
use Rattle.tv_language.specs.Fronts.{front_of}
use Rattle.tv_program.specs.declared.tree.Relation.{Relation}
use Rattle.tv_program.specs.declared.tree.Relation.TheVariants.{Less, LessEqual, Greater, GreaterEqual, Equal, NotEqual}
use Rattle.tv_program.specs.Words.{Word}
use Rattle.tv_program.specs.Trees.{Condition, truth, compare, negated, all_of, some_of, Conditions, no_test, test}
use Rattle.tv_program.specs.Limits.{expression_fits, condition_fits, conditions_fit}
use Rattle.tv_spelling.specs.Sums.{expression_text}
use Rattle.tv_spelling.specs.Conditions.{truth_text, relation_text, is_truth, is_negated, is_all, is_some, as_literal, as_conjunction, condition_text, all_text, further_all_text, some_text, further_some_text}
use Rattle.tv_spelling.specs.ReadAgain.{AreNames}
use Rattle.tv_spelling.proofs.Pieces.{Piece, blank, word, bytes, AreFronts, IsReady, bracket_pieces}
use Rattle.tv_spelling.proofs.FrontLemmas.{word_at_front}
use Rattle.tv_spelling.proofs.SumPieces.{Writes, bracket_bytes, joined_bytes, expression_pieces, expression_bytes, Lays, bracket_fronts, expression_fronts, both_hold}

abbrev pub truth_pieces : Bool → List Piece → List Piece
truth_pieces true rest = word True (codes "true") ∷ rest
truth_pieces false rest = word False (codes "false") ∷ rest

abbrev pub relation_kind : Relation → TokenKind
relation_kind Less = kinds.Less
relation_kind LessEqual = kinds.LessEqual
relation_kind Greater = kinds.Greater
relation_kind GreaterEqual = kinds.GreaterEqual
relation_kind Equal = kinds.Equal
relation_kind NotEqual = kinds.NotEqual

abbrev pub relation_word : Relation → List ℕ
relation_word Less = codes "<"
relation_word LessEqual = codes "<="
relation_word Greater = codes ">"
relation_word GreaterEqual = codes ">="
relation_word Equal = codes "=="
relation_word NotEqual = codes "!="

abbrev mutual
  pub condition_pieces : List Word → Condition → List Piece → List Piece
  condition_pieces ws (truth b) rest = truth_pieces b rest
  condition_pieces ws (compare r e f) rest = expression_pieces ws e (blank ∷ word (relation_kind r) (relation_word r) ∷ blank ∷ expression_pieces ws f rest)
  condition_pieces ws (negated c) rest = word Not (33 ∷ []) ∷ bracket_pieces (not (is_truth c || is_negated c)) (condition_pieces ws c) rest
  condition_pieces ws (all_of cs) rest = all_pieces ws cs rest
  condition_pieces ws (some_of cs) rest = some_pieces ws cs rest

  pub all_pieces : List Word → Conditions → List Piece → List Piece
  all_pieces ws no_test rest = rest
  all_pieces ws (test c cs) rest = bracket_pieces (is_all c || is_some c) (condition_pieces ws c) (further_all_pieces ws cs rest)

  pub further_all_pieces : List Word → Conditions → List Piece → List Piece
  further_all_pieces ws no_test rest = rest
  further_all_pieces ws (test c cs) rest = blank ∷ word And (38 ∷ 38 ∷ []) ∷ blank ∷ bracket_pieces (is_all c || is_some c) (condition_pieces ws c) (further_all_pieces ws cs rest)

  pub some_pieces : List Word → Conditions → List Piece → List Piece
  some_pieces ws no_test rest = rest
  some_pieces ws (test c cs) rest = bracket_pieces (is_some c) (condition_pieces ws c) (further_some_pieces ws cs rest)

  pub further_some_pieces : List Word → Conditions → List Piece → List Piece
  further_some_pieces ws no_test rest = rest
  further_some_pieces ws (test c cs) rest = blank ∷ word Or (124 ∷ 124 ∷ []) ∷ blank ∷ bracket_pieces (is_some c) (condition_pieces ws c) (further_some_pieces ws cs rest)

-- ---- their bytes are the text

pub truth_bytes : (b : Bool) → Writes (truth_pieces b) (truth_text b)
truth_bytes true rest = refl
truth_bytes false rest = refl

pub relation_bytes : (r : Relation) (bs : List Piece) → bytes (blank ∷ word (relation_kind r) (relation_word r) ∷ blank ∷ bs) ≡ relation_text r ++ bytes bs
relation_bytes Less bs = refl
relation_bytes LessEqual bs = refl
relation_bytes Greater bs = refl
relation_bytes GreaterEqual bs = refl
relation_bytes Equal bs = refl
relation_bytes NotEqual bs = refl

mutual
  pub condition_bytes : (ws : List Word) (c : Condition) → Writes (condition_pieces ws c) (condition_text ws c)
  condition_bytes ws (truth b) rest = truth_bytes b rest
  condition_bytes ws (compare r e f) rest =
      joined_bytes (expression_pieces ws e) (expression_text ws e) (expression_bytes ws e) [] (blank ∷ word (relation_kind r) (relation_word r) ∷ blank ∷ expression_pieces ws f rest) (relation_text r ++ expression_text ws f) rest
      (relation_bytes r (expression_pieces ws f rest) ∙ ap (λ (x : List ℕ). relation_text r ++ x) (expression_bytes ws f rest) ∙ sym (append_assoc (relation_text r) (expression_text ws f) (bytes rest)))
  condition_bytes ws (negated c) rest = ap (λ (x : List ℕ). 33 ∷ x) (bracket_bytes (condition_pieces ws c) (condition_text ws c) (condition_bytes ws c) (not (is_truth c || is_negated c)) rest)
  condition_bytes ws (all_of cs) rest = all_bytes ws cs rest
  condition_bytes ws (some_of cs) rest = some_bytes ws cs rest

  all_bytes : (ws : List Word) (cs : Conditions) → Writes (all_pieces ws cs) (all_text ws cs)
  all_bytes ws no_test rest = refl
  all_bytes ws (test c cs) rest =
      joined_bytes (bracket_pieces (is_all c || is_some c) (condition_pieces ws c)) (as_literal c (condition_text ws c)) (bracket_bytes (condition_pieces ws c) (condition_text ws c) (condition_bytes ws c) (is_all c || is_some c)) []
      (further_all_pieces ws cs rest) (further_all_text ws cs) rest (further_all_bytes ws cs rest)

  further_all_bytes : (ws : List Word) (cs : Conditions) → Writes (further_all_pieces ws cs) (further_all_text ws cs)
  further_all_bytes ws no_test rest = refl
  further_all_bytes ws (test c cs) rest =
      joined_bytes (bracket_pieces (is_all c || is_some c) (condition_pieces ws c)) (as_literal c (condition_text ws c)) (bracket_bytes (condition_pieces ws c) (condition_text ws c) (condition_bytes ws c) (is_all c || is_some c)) (codes " && ")
      (further_all_pieces ws cs rest) (further_all_text ws cs) rest (further_all_bytes ws cs rest)

  some_bytes : (ws : List Word) (cs : Conditions) → Writes (some_pieces ws cs) (some_text ws cs)
  some_bytes ws no_test rest = refl
  some_bytes ws (test c cs) rest =
      joined_bytes (bracket_pieces (is_some c) (condition_pieces ws c)) (as_conjunction c (condition_text ws c)) (bracket_bytes (condition_pieces ws c) (condition_text ws c) (condition_bytes ws c) (is_some c)) []
      (further_some_pieces ws cs rest) (further_some_text ws cs) rest (further_some_bytes ws cs rest)

  further_some_bytes : (ws : List Word) (cs : Conditions) → Writes (further_some_pieces ws cs) (further_some_text ws cs)
  further_some_bytes ws no_test rest = refl
  further_some_bytes ws (test c cs) rest =
      joined_bytes (bracket_pieces (is_some c) (condition_pieces ws c)) (as_conjunction c (condition_text ws c)) (bracket_bytes (condition_pieces ws c) (condition_text ws c) (condition_bytes ws c) (is_some c)) (codes " || ")
      (further_some_pieces ws cs rest) (further_some_text ws cs) rest (further_some_bytes ws cs rest)

-- ---- each word is the token at the front

pub truth_fronts : (b : Bool) → Lays (truth_pieces b)
truth_fronts true rest r = (word_at_front True (λ n x. refl) 116 (114 ∷ 117 ∷ 101 ∷ []) (bytes rest) refl refl refl r.stops, r.fronts)
truth_fronts false rest r = (word_at_front False (λ n x. refl) 102 (97 ∷ 108 ∷ 115 ∷ 101 ∷ []) (bytes rest) refl refl refl r.stops, r.fronts)

pub relation_ready : (r : Relation) (bs : List Piece) → AreFronts bs → IsReady (blank ∷ word (relation_kind r) (relation_word r) ∷ blank ∷ bs)
unfolding front_of
relation_ready Less bs h = record { stops = refl; fronts = (refl, h) }
relation_ready LessEqual bs h = record { stops = refl; fronts = (refl, h) }
relation_ready Greater bs h = record { stops = refl; fronts = (refl, h) }
relation_ready GreaterEqual bs h = record { stops = refl; fronts = (refl, h) }
relation_ready Equal bs h = record { stops = refl; fronts = (refl, h) }
relation_ready NotEqual bs h = record { stops = refl; fronts = (refl, h) }

pub and_ready : (bs : List Piece) → AreFronts bs → IsReady (blank ∷ word And (38 ∷ 38 ∷ []) ∷ blank ∷ bs)
unfolding front_of
and_ready bs h = record { stops = refl; fronts = (refl, h) }

pub or_ready : (bs : List Piece) → AreFronts bs → IsReady (blank ∷ word Or (124 ∷ 124 ∷ []) ∷ blank ∷ bs)
unfolding front_of
or_ready bs h = record { stops = refl; fronts = (refl, h) }

-- what is denied never begins with an equals sign
not_fronts : (ws : List Word) (c : Condition) (rest : List Piece) → AreFronts (bracket_pieces (not (is_truth c || is_negated c)) (condition_pieces ws c) rest)
    → AreFronts (word Not (33 ∷ []) ∷ bracket_pieces (not (is_truth c || is_negated c)) (condition_pieces ws c) rest)
unfolding front_of
not_fronts ws (truth true) rest h = (refl, h)
not_fronts ws (truth false) rest h = (refl, h)
not_fronts ws (negated c) rest h = (refl, h)
not_fronts ws (compare r e f) rest h = (refl, h)
not_fronts ws (all_of cs) rest h = (refl, h)
not_fronts ws (some_of cs) rest h = (refl, h)

mutual
  pub condition_fronts : (ws : List Word) (ds : ℕ) → AreNames ws → (c : Condition) → IsTrue (condition_fits (length ws) ds c) → Lays (condition_pieces ws c)
  condition_fronts ws ds names (truth b) h rest r = truth_fronts b rest r
  condition_fronts ws ds names (compare relation e f) h rest r =
      let t = both_hold (expression_fits (length ws) ds e) (expression_fits (length ws) ds f) h in
      expression_fronts ws ds names e t.0 (blank ∷ word (relation_kind relation) (relation_word relation) ∷ blank ∷ expression_pieces ws f rest) (relation_ready relation (expression_pieces ws f rest) (expression_fronts ws ds names f t.1 rest r))
  condition_fronts ws ds names (negated c) h rest r = not_fronts ws c rest (bracket_fronts (condition_pieces ws c) (condition_fronts ws ds names c h) (not (is_truth c || is_negated c)) rest r)
  condition_fronts ws ds names (all_of no_test) h rest r = r.fronts
  condition_fronts ws ds names (all_of (test c cs)) h rest r =
      let t = both_hold (condition_fits (length ws) ds c) (conditions_fit (length ws) ds cs) h in
      bracket_fronts (condition_pieces ws c) (condition_fronts ws ds names c t.0) (is_all c || is_some c) (further_all_pieces ws cs rest) (all_ready ws ds names cs t.1 rest r)
  condition_fronts ws ds names (some_of no_test) h rest r = r.fronts
  condition_fronts ws ds names (some_of (test c cs)) h rest r =
      let t = both_hold (condition_fits (length ws) ds c) (conditions_fit (length ws) ds cs) h in
      bracket_fronts (condition_pieces ws c) (condition_fronts ws ds names c t.0) (is_some c) (further_some_pieces ws cs rest) (some_ready ws ds names cs t.1 rest r)

  all_ready : (ws : List Word) (ds : ℕ) → AreNames ws → (cs : Conditions) → IsTrue (conditions_fit (length ws) ds cs) → (rest : List Piece) → IsReady rest → IsReady (further_all_pieces ws cs rest)
  all_ready ws ds names no_test h rest r = r
  all_ready ws ds names (test c cs) h rest r =
      let t = both_hold (condition_fits (length ws) ds c) (conditions_fit (length ws) ds cs) h in
      and_ready (bracket_pieces (is_all c || is_some c) (condition_pieces ws c) (further_all_pieces ws cs rest))
      (bracket_fronts (condition_pieces ws c) (condition_fronts ws ds names c t.0) (is_all c || is_some c) (further_all_pieces ws cs rest) (all_ready ws ds names cs t.1 rest r))

  some_ready : (ws : List Word) (ds : ℕ) → AreNames ws → (cs : Conditions) → IsTrue (conditions_fit (length ws) ds cs) → (rest : List Piece) → IsReady rest → IsReady (further_some_pieces ws cs rest)
  some_ready ws ds names no_test h rest r = r
  some_ready ws ds names (test c cs) h rest r =
      let t = both_hold (condition_fits (length ws) ds c) (conditions_fit (length ws) ds cs) h in
      or_ready (bracket_pieces (is_some c) (condition_pieces ws c) (further_some_pieces ws cs rest))
      (bracket_fronts (condition_pieces ws c) (condition_fronts ws ds names c t.0) (is_some c) (further_some_pieces ws cs rest) (some_ready ws ds names cs t.1 rest r))
