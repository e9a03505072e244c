-- The symbols of the spelling are a condition that stands for the condition.
use Rattle.std.proofs.Common.{◌≡◌, ℕ, zero, suc, ◌≤◌, Bool, true, false, List, [], ◌∷◌, length, max, refl, ap, subst, arith, Some}
use Rattle.std.specs.Prelude.{◌||◌, not, IsTrue}
use Rattle.tv_language.specs.declared.token.TokenKind.TheVariants.{RightRound}
use Rattle.tv_program.specs.declared.tree.Relation.{Relation}
use Rattle.tv_program.specs.declared.tree.Relation.TheVariants.{Less, LessEqual, Greater, GreaterEqual, Equal, NotEqual}
use Rattle.tv_program.specs.Trees.{Expression, Condition, truth, compare, negated, all_of, some_of, Conditions, no_test, test}
use Rattle.tv_program.specs.Views.{tests_of}
use Rattle.tv_program.specs.Limits.{expression_fits, condition_fits, conditions_fit}
use Rattle.tv_language.specs.Symbols.{Symbol, Vocabulary, fixed}
use Rattle.tv_language.specs.Conditions as grammar
use Rattle.tv_language.specs.Sums.{IsSum}
use Rattle.tv_language.specs.Conditions.{relation_of, IsPlain, IsLiteral, AreLiterals, IsConjunction, AreConjunctions, IsCondition}
use Rattle.tv_spelling.specs.Conditions.{is_truth, is_negated, is_all, is_some}
use Rattle.tv_spelling.specs.ReadAgain.{AreNames, draws_after, draws_after_test, draws_after_tests, IsOrderedTest, AreOrderedTests}
use Rattle.tv_spelling.proofs.Pieces.{Piece, blank, word, symbols_of, bracket_pieces}
use Rattle.tv_spelling.proofs.SumPieces.{expression_pieces, both_hold}
use Rattle.tv_spelling.proofs.SumLevels.{sum_levels, is_regular}
use Rattle.tv_spelling.proofs.SumDerived.{IsShown, expression_shown}
use Rattle.tv_spelling.proofs.ConditionPieces.{relation_kind, relation_word, condition_pieces, further_all_pieces, further_some_pieces}
use Rattle.tv_spelling.proofs.ConditionLevels.{condition_levels, all_levels, some_levels, denied_levels, literal_levels, conjunction_levels, is_regular_test, are_regular_tests}

-- the conditions in a list
abbrev pub listed : Conditions → List Condition
listed no_test = []
listed (test c cs) = c ∷ listed cs

pub listed_tests : (cs : Conditions) → tests_of (listed cs) ≡ cs
listed_tests no_test = refl
listed_tests (test c cs) = ap (test c) (listed_tests cs)

-- what the symbols of some pieces are, in a part of the grammar
abbrev pub Shows : (ℕ → Condition → List Symbol → List Symbol → Type 0) → Vocabulary → (List Piece → List Piece) → Condition → ℕ → Type 0
Shows Is v pieces c levels = (n draws : ℕ) (rest : List Piece) → IsOrderedTest c draws → levels ≤ n → Is n c (symbols_of v false draws (pieces rest)) (symbols_of v false (draws_after_test c draws) rest)

-- the condition is shown wherever it may stand, with brackets where it needs them
pub record IsTestShown (v : Vocabulary) (c : Condition) : Type 0 where
  pub as_condition : Shows IsCondition v (condition_pieces v.variables c) c (condition_levels c)
  pub as_conjunction : Shows IsConjunction v (bracket_pieces (is_some c) (condition_pieces v.variables c)) c (conjunction_levels c)
  pub as_literal : Shows IsLiteral v (bracket_pieces (is_all c || is_some c) (condition_pieces v.variables c)) c (literal_levels c)
  pub as_denied : Shows IsPlain v (bracket_pieces (not (is_truth c || is_negated c)) (condition_pieces v.variables c)) c (denied_levels c)

conjunction_of_literal : {n : ℕ} {c : Condition} {ts rest : List Symbol} → IsLiteral n c ts rest → IsConjunction n c ts rest
conjunction_of_literal l = grammar.literals l grammar.no_literal

condition_of_conjunction : {n : ℕ} {c : Condition} {ts rest : List Symbol} → IsConjunction n c ts rest → IsCondition n c ts rest
condition_of_conjunction l = grammar.conjunctions l grammar.no_conjunction

condition_of_literal : {n : ℕ} {c : Condition} {ts rest : List Symbol} → IsLiteral n c ts rest → IsCondition n c ts rest
condition_of_literal l = condition_of_conjunction (conjunction_of_literal l)

in_brackets : (v : Vocabulary) (c : Condition) (levels : ℕ) (pieces : List Piece → List Piece) → Shows IsCondition v pieces c levels → Shows IsPlain v (bracket_pieces true pieces) c (suc levels)
in_brackets v c levels pieces shown zero draws rest o l = absurd (omega arith)
in_brackets v c levels pieces shown (suc n) draws rest o l = grammar.bracketed (shown n draws (word RightRound (41 ∷ []) ∷ rest) o (omega arith))

truth_shown : (v : Vocabulary) (b : Bool) → Shows IsPlain v (condition_pieces v.variables (truth b)) (truth b) 0
truth_shown v true n draws rest o l = grammar.always
truth_shown v false n draws rest o l = grammar.never

-- a condition that needs no brackets anywhere
bare_truth : (v : Vocabulary) (b : Bool) → IsTestShown v (truth b)
bare_truth v b = record {
  as_condition = λ n draws rest o l. condition_of_literal (grammar.plain (truth_shown v b n draws rest o l));
  as_conjunction = λ n draws rest o l. conjunction_of_literal (grammar.plain (truth_shown v b n draws rest o l));
  as_literal = λ n draws rest o l. grammar.plain (truth_shown v b n draws rest o l);
  as_denied = truth_shown v b;
}

denial : (v : Vocabulary) (c : Condition) → IsTestShown v c → Shows IsPlain v (condition_pieces v.variables (negated c)) (negated c) (suc (denied_levels c))
denial v c shown zero draws rest o l = absurd (omega arith)
denial v c shown (suc n) draws rest o l = grammar.denied (shown.as_denied n draws rest o (omega arith))

bare_negated : (v : Vocabulary) (c : Condition) → IsTestShown v c → IsTestShown v (negated c)
bare_negated v c shown = record {
  as_condition = λ n draws rest o l. condition_of_literal (grammar.plain (denial v c shown n draws rest o l));
  as_conjunction = λ n draws rest o l. conjunction_of_literal (grammar.plain (denial v c shown n draws rest o l));
  as_literal = λ n draws rest o l. grammar.plain (denial v c shown n draws rest o l);
  as_denied = denial v c shown;
}

pub relation_known : (r : Relation) → relation_of (relation_kind r) ≡ Some r
relation_known Less = refl
relation_known LessEqual = refl
relation_known Greater = refl
relation_known GreaterEqual = refl
relation_known Equal = refl
relation_known NotEqual = refl

relation_symbols : (v : Vocabulary) (r : Relation) (draws : ℕ) (bs : List Piece) → symbols_of v false draws (word (relation_kind r) (relation_word r) ∷ bs) ≡ fixed (relation_kind r) ∷ symbols_of v false draws bs
relation_symbols v Less draws bs = refl
relation_symbols v LessEqual draws bs = refl
relation_symbols v Greater draws bs = refl
relation_symbols v GreaterEqual draws bs = refl
relation_symbols v Equal draws bs = refl
relation_symbols v NotEqual draws bs = refl

comparison : (v : Vocabulary) (r : Relation) (e f : Expression) → IsShown v e → IsShown v f → Shows IsLiteral v (condition_pieces v.variables (compare r e f)) (compare r e f) (condition_levels (compare r e f))
comparison v r e f first second n draws rest o l =
    let ls : max (sum_levels e) (sum_levels f) ≤ n = l in
    let behind = expression_pieces v.variables f rest in
    let left = first.as_sum n draws (blank ∷ word (relation_kind r) (relation_word r) ∷ blank ∷ behind) o.0 (omega arith) in
    let right = second.as_sum n (draws_after e draws) rest o.1 (omega arith) in
    let Before : List Symbol → Type 0 = λ ss. IsSum n e (symbols_of v false draws (condition_pieces v.variables (compare r e f) rest)) ss in
    grammar.comparison (subst Before (relation_symbols v r (draws_after e draws) (blank ∷ behind)) left) (relation_known r) right

shown_comparison : (v : Vocabulary) (r : Relation) (e f : Expression) → IsShown v e → IsShown v f → IsTestShown v (compare r e f)
shown_comparison v r e f first second =
    let literal = comparison v r e f first second in
    let whole : Shows IsCondition v (condition_pieces v.variables (compare r e f)) (compare r e f) (condition_levels (compare r e f)) = λ n draws rest o l. condition_of_literal (literal n draws rest o l) in
    record {
      as_condition = whole;
      as_conjunction = λ n draws rest o l. conjunction_of_literal (literal n draws rest o l);
      as_literal = literal;
      as_denied = in_brackets v (compare r e f) (condition_levels (compare r e f)) (condition_pieces v.variables (compare r e f)) whole;
    }

shown_all : (v : Vocabulary) (cs : Conditions) → Shows IsConjunction v (condition_pieces v.variables (all_of cs)) (all_of cs) (all_levels cs) → IsTestShown v (all_of cs)
shown_all v cs shown =
    let whole : Shows IsCondition v (condition_pieces v.variables (all_of cs)) (all_of cs) (all_levels cs) = λ n draws rest o l. condition_of_conjunction (shown n draws rest o l) in
    let denied = in_brackets v (all_of cs) (all_levels cs) (condition_pieces v.variables (all_of cs)) whole in
    record {
      as_condition = whole;
      as_conjunction = shown;
      as_literal = λ n draws rest o l. grammar.plain (denied n draws rest o l);
      as_denied = denied;
    }

shown_some : (v : Vocabulary) (cs : Conditions) → Shows IsCondition v (condition_pieces v.variables (some_of cs)) (some_of cs) (some_levels cs) → IsTestShown v (some_of cs)
shown_some v cs shown =
    let denied = in_brackets v (some_of cs) (some_levels cs) (condition_pieces v.variables (some_of cs)) shown in
    record {
      as_condition = shown;
      as_conjunction = λ n draws rest o l. conjunction_of_literal (grammar.plain (denied n draws rest o l));
      as_literal = λ n draws rest o l. grammar.plain (denied n draws rest o l);
      as_denied = denied;
    }

-- conditions after the first
abbrev pub ShowsLiterals : Vocabulary → Conditions → Type 0
ShowsLiterals v cs = (n draws : ℕ) (rest : List Piece) → AreOrderedTests cs draws → all_levels cs ≤ n
    → AreLiterals n (listed cs) (symbols_of v false draws (further_all_pieces v.variables cs rest)) (symbols_of v false (draws_after_tests cs draws) rest)

abbrev pub ShowsConjunctions : Vocabulary → Conditions → Type 0
ShowsConjunctions v cs = (n draws : ℕ) (rest : List Piece) → AreOrderedTests cs draws → some_levels cs ≤ n
    → AreConjunctions n (listed cs) (symbols_of v false draws (further_some_pieces v.variables cs rest)) (symbols_of v false (draws_after_tests cs draws) rest)

all_literals : (v : Vocabulary) (c d : Condition) (cs : Conditions) → IsTestShown v c → ShowsLiterals v (test d cs)
    → Shows IsConjunction v (condition_pieces v.variables (all_of (test c (test d cs)))) (all_of (test c (test d cs))) (all_levels (test c (test d cs)))
all_literals v c d cs first others n draws rest o l =
    let ls : max (literal_levels c) (all_levels (test d cs)) ≤ n = l in
    let P : Conditions → Type 0 = λ ds. IsConjunction n (all_of (test c (test d ds))) (symbols_of v false draws (condition_pieces v.variables (all_of (test c (test d cs))) rest)) (symbols_of v false (draws_after_tests (test c (test d cs)) draws) rest) in
    subst P (listed_tests cs) (grammar.literals (first.as_literal n draws (further_all_pieces v.variables (test d cs) rest) o.0 (omega arith)) (others n (draws_after_test c draws) rest o.1 (omega arith)))

some_conjunctions : (v : Vocabulary) (c d : Condition) (cs : Conditions) → IsTestShown v c → ShowsConjunctions v (test d cs)
    → Shows IsCondition v (condition_pieces v.variables (some_of (test c (test d cs)))) (some_of (test c (test d cs))) (some_levels (test c (test d cs)))
some_conjunctions v c d cs first others n draws rest o l =
    let ls : max (conjunction_levels c) (some_levels (test d cs)) ≤ n = l in
    let P : Conditions → Type 0 = λ ds. IsCondition n (some_of (test c (test d ds))) (symbols_of v false draws (condition_pieces v.variables (some_of (test c (test d cs))) rest)) (symbols_of v false (draws_after_tests (test c (test d cs)) draws) rest) in
    subst P (listed_tests cs) (grammar.conjunctions (first.as_conjunction n draws (further_some_pieces v.variables (test d cs) rest) o.0 (omega arith)) (others n (draws_after_test c draws) rest o.1 (omega arith)))

literal_added : (v : Vocabulary) (c : Condition) (cs : Conditions) → IsTestShown v c → ShowsLiterals v cs → ShowsLiterals v (test c cs)
literal_added v c cs first others n draws rest o l =
    let ls : max (literal_levels c) (all_levels cs) ≤ n = l in
    grammar.and (first.as_literal n draws (further_all_pieces v.variables cs rest) o.0 (omega arith)) (others n (draws_after_test c draws) rest o.1 (omega arith))

conjunction_added : (v : Vocabulary) (c : Condition) (cs : Conditions) → IsTestShown v c → ShowsConjunctions v cs → ShowsConjunctions v (test c cs)
conjunction_added v c cs first others n draws rest o l =
    let ls : max (conjunction_levels c) (some_levels cs) ≤ n = l in
    grammar.or (first.as_conjunction n draws (further_some_pieces v.variables cs rest) o.0 (omega arith)) (others n (draws_after_test c draws) rest o.1 (omega arith))

mutual
  pub condition_shown : (v : Vocabulary) (ds : ℕ) → AreNames v.variables → (c : Condition) → IsTrue (condition_fits (length v.variables) ds c) → is_regular_test c ≡ true → IsTestShown v c
  condition_shown v ds names (truth b) h r = bare_truth v b
  condition_shown v ds names (compare relation e f) h r =
      let t = both_hold (expression_fits (length v.variables) ds e) (expression_fits (length v.variables) ds f) h in
      let s = both_hold (is_regular e) (is_regular f) r in
      shown_comparison v relation e f (expression_shown v ds names e t.0 s.0) (expression_shown v ds names f t.1 s.1)
  condition_shown v ds names (negated c) h r = bare_negated v c (condition_shown v ds names c h r)
  condition_shown v ds names (all_of no_test) h r = absurd cc
  condition_shown v ds names (all_of (test c no_test)) h r = absurd cc
  condition_shown v ds names (all_of (test c (test d cs))) h r =
      let t = both_hold (condition_fits (length v.variables) ds c) (conditions_fit (length v.variables) ds (test d cs)) h in
      let s = both_hold (is_regular_test c) (are_regular_tests (test d cs)) r in
      shown_all v (test c (test d cs)) (all_literals v c d cs (condition_shown v ds names c t.0 s.0) (literals_shown v ds names (test d cs) t.1 s.1))
  condition_shown v ds names (some_of no_test) h r = absurd cc
  condition_shown v ds names (some_of (test c no_test)) h r = absurd cc
  condition_shown v ds names (some_of (test c (test d cs))) h r =
      let t = both_hold (condition_fits (length v.variables) ds c) (conditions_fit (length v.variables) ds (test d cs)) h in
      let s = both_hold (is_regular_test c) (are_regular_tests (test d cs)) r in
      shown_some v (test c (test d cs)) (some_conjunctions v c d cs (condition_shown v ds names c t.0 s.0) (conjunctions_shown v ds names (test d cs) t.1 s.1))

  literals_shown : (v : Vocabulary) (ds : ℕ) → AreNames v.variables → (cs : Conditions) → IsTrue (conditions_fit (length v.variables) ds cs) → are_regular_tests cs ≡ true → ShowsLiterals v cs
  literals_shown v ds names no_test h r = λ n draws rest o l. grammar.no_literal
  literals_shown v ds names (test c cs) h r =
      let t = both_hold (condition_fits (length v.variables) ds c) (conditions_fit (length v.variables) ds cs) h in
      let s = both_hold (is_regular_test c) (are_regular_tests cs) r in
      literal_added v c cs (condition_shown v ds names c t.0 s.0) (literals_shown v ds names cs t.1 s.1)

  conjunctions_shown : (v : Vocabulary) (ds : ℕ) → AreNames v.variables → (cs : Conditions) → IsTrue (conditions_fit (length v.variables) ds cs) → are_regular_tests cs ≡ true → ShowsConjunctions v cs
  conjunctions_shown v ds names no_test h r = λ n draws rest o l. grammar.no_conjunction
  conjunctions_shown v ds names (test c cs) h r =
      let t = both_hold (condition_fits (length v.variables) ds c) (conditions_fit (length v.variables) ds cs) h in
      let s = both_hold (is_regular_test c) (are_regular_tests cs) r in
      conjunction_added v c cs (condition_shown v ds names c t.0 s.0) (conjunctions_shown v ds names cs t.1 s.1)
