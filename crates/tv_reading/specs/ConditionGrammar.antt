-- The grammar of conditions as it is read: after a bracket it may be a value or a test that comes.
use Rattle.std.specs.Prelude.{ℕ, zero, suc, Bool, true, false, List, [], ◌∷◌, ◌++◌, Option, Some, None}
use Rattle.tv_language.specs.declared.token.TokenKind.{TokenKind}
use Rattle.tv_language.specs.declared.token.TokenKind.TheVariants as kinds
use Rattle.tv_program.specs.declared.tree.Relation.{Relation}
use Rattle.tv_program.specs.Trees as trees
use Rattle.tv_program.specs.Trees.{Expression, Condition, truth, compare, negated, all_of, some_of}
use Rattle.tv_language.specs.Symbols.{fixed}
use Rattle.tv_language.specs.Sums.{gathered}
use Rattle.tv_language.specs.Conditions.{relation_of, joined}
use Rattle.tv_grammar.specs.Langs.{unit, then, mapped, stop, go, headed, turns, narrowed}
use Rattle.tv_reading.specs.Marks.{Kind, Syntax, Deep, Mark, plain}
use Rattle.tv_reading.specs.SumGrammar.{Grammar, Behind, closed, factor_cases, below, star_cases, sum_cases, factor_at, product_at, sum_at}

-- a sum without a relation after it, or a part of a condition
pub data Thing : Type 0 where
  value : Expression → Thing
  tested : Condition → Thing

-- after a value: a relation, if one comes
abbrev pub relation_by : {X : Type 0} → Option Relation → (Relation → Expression → X) → Grammar Expression → Behind X
relation_by None make sum = stop Syntax
relation_by (Some r) make sum = go (mapped (make r) sum)

abbrev pub compared : Expression → Relation → Expression → Thing
compared a r b = tested (compare r a b)

abbrev pub relation_cases : Grammar Expression → Thing → Mark → Behind Thing
relation_cases sum (value a) (plain (fixed kind)) = relation_by (relation_of kind) (compared a) sum
relation_cases sum (value a) _ = stop Syntax
relation_cases sum (tested c) _ = stop Syntax

-- after a factor: the rest of its product, of its sum, and a relation
abbrev pub tail : (Kind → Bool) → ℕ → Expression → Grammar Thing
tail kept n f =
    then (mapped (gathered trees.product) (turns (star_cases (factor_at kept n) true) (f ∷ []))) (λ p.
    then (mapped (gathered trees.sum) (turns (sum_cases (product_at kept n true)) (p ∷ []))) (λ s.
    turns (relation_cases (sum_at kept n true)) (value s)))

abbrev pub opened : (Kind → Bool) → ℕ → Thing → Grammar Thing
opened kept n (tested c) = unit (tested c)
opened kept n (value e) = tail kept n e

-- where a test is wanted, a value without a relation is at fault after it
abbrev pub as_test : Thing → Option Condition
as_test (value e) = None
as_test (tested c) = Some c

abbrev pub literal_over : Grammar Thing → Grammar Condition
literal_over thing = narrowed Syntax as_test thing

-- ---- joined by "&&" or "||"

abbrev pub is_and : TokenKind → Bool
is_and kinds.And = true
is_and kind = false

abbrev pub is_or : TokenKind → Bool
is_or kinds.Or = true
is_or kind = false

abbrev pub more_by : Bool → Grammar Condition → List Condition → Behind (List Condition)
more_by false item cs = stop Syntax
more_by true item cs = go (mapped (λ c. cs ++ c ∷ []) item)

abbrev pub more_cases : (TokenKind → Bool) → Grammar Condition → List Condition → Mark → Behind (List Condition)
more_cases joins item cs (plain (fixed kind)) = more_by (joins kind) item cs
more_cases joins item cs _ = stop Syntax

-- literal { "&&" literal }
abbrev pub conjunction_from : Grammar Condition → Condition → Grammar Condition
conjunction_from literal c = mapped (joined all_of) (turns (more_cases is_and literal) (c ∷ []))

abbrev pub conjunction_over : Grammar Condition → Grammar Condition
conjunction_over literal = then literal (conjunction_from literal)

-- conjunction { "||" conjunction }
abbrev pub condition_from : Grammar Condition → Condition → Grammar Condition
condition_from conjunction c = mapped (joined some_of) (turns (more_cases is_or conjunction) (c ∷ []))

abbrev pub condition_over : Grammar Condition → Grammar Condition
condition_over literal = then (conjunction_over literal) (condition_from (conjunction_over literal))

-- after a "(": a value, or a test and what is joined to it
abbrev pub continued : Grammar Condition → Thing → Grammar Thing
continued literal (value a) = unit (value a)
continued literal (tested c) = then (conjunction_from literal c) (λ d. mapped tested (condition_from (conjunction_over literal) d))

abbrev pub after_factor : (Kind → Bool) → ℕ → Behind Expression → Behind Thing
after_factor kept n (stop k) = stop k
after_factor kept n (go l) = go (then l (tail kept n))

-- ---- by levels

-- the level below, if there is one: its things and plain conditions
pub data Under : Type 1 where
  ground : Under
  level : Grammar Thing → Grammar Condition → Under

-- plain = "!" plain | "true" | "false" | "(" condition ")"
abbrev pub plain_cases : Under → Mark → Behind Condition
plain_cases ground (plain (fixed kinds.Not)) = stop Deep
plain_cases ground (plain (fixed kinds.LeftRound)) = stop Deep
plain_cases (level thing plainly) (plain (fixed kinds.Not)) = go (mapped negated plainly)
plain_cases (level thing plainly) (plain (fixed kinds.LeftRound)) = go (then (condition_over (literal_over thing)) closed)
plain_cases u (plain (fixed kinds.True)) = go (unit (truth true))
plain_cases u (plain (fixed kinds.False)) = go (unit (truth false))
plain_cases u _ = stop Syntax

-- what stands in brackets at the front of a thing, and what follows them
abbrev pub in_brackets : (Kind → Bool) → ℕ → Grammar Thing → Grammar Thing
in_brackets kept n thing = then thing (λ x. then (continued (literal_over thing) x) (λ y. then (closed y) (opened kept n)))

abbrev pub thing_cases : (Kind → Bool) → ℕ → Under → Mark → Behind Thing
thing_cases kept n ground (plain (fixed kinds.LeftRound)) = stop Deep
thing_cases kept n ground (plain (fixed kinds.Not)) = stop Deep
thing_cases kept n (level thing plainly) (plain (fixed kinds.LeftRound)) = go (in_brackets kept n thing)
thing_cases kept n (level thing plainly) (plain (fixed kinds.Not)) = go (mapped (λ c. tested (negated c)) plainly)
thing_cases kept n u (plain (fixed kinds.True)) = go (unit (tested (truth true)))
thing_cases kept n u (plain (fixed kinds.False)) = go (unit (tested (truth false)))
thing_cases kept n u m = after_factor kept n (factor_cases kept true (below kept n true) m)

unfoldable mutual
  -- what nests n levels at most
  pub thing_at : (Kind → Bool) → ℕ → Grammar Thing
  thing_at kept zero = headed Syntax (thing_cases kept zero ground)
  thing_at kept (suc n) = headed Syntax (thing_cases kept (suc n) (level (thing_at kept n) (plain_at kept n)))

  pub plain_at : (Kind → Bool) → ℕ → Grammar Condition
  plain_at kept zero = headed Syntax (plain_cases ground)
  plain_at kept (suc n) = headed Syntax (plain_cases (level (thing_at kept n) (plain_at kept n)))

abbrev pub literal_at : (Kind → Bool) → ℕ → Grammar Condition
literal_at kept n = literal_over (thing_at kept n)

abbrev pub condition_at : (Kind → Bool) → ℕ → Grammar Condition
condition_at kept n = condition_over (literal_at kept n)
