-- Where a sum or a condition goes on at a token, there is one that begins with it and the token.
use Rattle.std.proofs.Common.{ℕ, zero, suc, Bool, true, false, List, [], ◌∷◌, ◌++◌, Option, Some, None, pos}
use Rattle.std.specs.Prelude.{◌&&◌}
use Rattle.tv_language.specs.declared.token.TokenKind.{TokenKind}
use Rattle.tv_language.specs.declared.token.TokenKind.TheVariants as kinds
use Rattle.tv_program.specs.declared.tree.Relation.{Relation}
use Rattle.tv_program.specs.Trees as trees
use Rattle.tv_program.specs.Trees.{Expression, Condition, truth, negated, all_of, some_of}
use Rattle.tv_program.specs.Views.{parts_of}
use Rattle.tv_program.specs.Limits.{are_constant}
use Rattle.tv_language.specs.Symbols.{number, name, drawn, fixed}
use Rattle.tv_language.specs.Sums.{gathered}
use Rattle.tv_language.specs.Conditions.{relation_of, joined}
use Rattle.tv_grammar.specs.Langs.{unit, then, mapped, stop, go, turns}
use Rattle.tv_grammar.specs.Exact.{Exact, ExactBranch}
use Rattle.tv_grammar.specs.Longest.{Further}
use Rattle.tv_grammar.proofs.ExactLemmas.{then_exact, mapped_exact}
use Rattle.tv_grammar.proofs.LongestLemmas.{FurtherBranch, unit_further, then_further, mapped_further, headed_further, turns_further, narrowed_further}
use Rattle.tv_reading.specs.Marks.{Kind, Syntax, Wide, NotLinear, Mark, plain, refused}
use Rattle.tv_reading.specs.SumGrammar.{Grammar, Behind, refuse_by, close_cases, open_cases, closed, brackets, named_by, refused_by, leaf_cases, Inner, bottom, deeper, factor_cases, below, star_cases, product_over, sum_cases, sum_over, factor_at, product_at, sum_at}
use Rattle.tv_reading.specs.ConditionGrammar.{Thing, value, tested, relation_by, compared, relation_cases, tail, opened, as_test, literal_over, is_and, is_or, more_by, more_cases, conjunction_from, conjunction_over, condition_from, condition_over, continued, after_factor, Under, ground, level, plain_cases, in_brackets, thing_cases, thing_at, plain_at, literal_at, condition_at}
use Rattle.tv_reading.proofs.SumLemmas.{closed_exact, star_branch, stars_exact, sum_branch, signs_exact, factor_exact, product_exact, sum_exact, below_branch}
use Rattle.tv_reading.proofs.ConditionLemmas.{relation_branch, relations_exact, tail_exact, opened_exact, more_branch, conjunction_from_exact, conjunction_exact_over, condition_from_exact, condition_exact_over, continued_exact, thing_exact, literal_exact, thing_extends}

close_further : {X : Type 0} (x : X) (m : Mark) → FurtherBranch (close_cases x m)
close_further x (plain (fixed kinds.RightRound)) = unit_further Kind x
close_further x _ = tt

closed_further : {X : Type 0} (x : X) → Further (closed x)
closed_further x = headed_further Syntax (close_cases x) (close_further x)

open_further : {X : Type 0} (l : Grammar X) → Further l → (m : Mark) → FurtherBranch (open_cases l m)
open_further l h (plain (fixed kinds.LeftRound)) = h
open_further l h _ = tt

brackets_further : {X : Type 0} (x : X) → Further (brackets x)
brackets_further x = headed_further Syntax (open_cases (closed x)) (open_further (closed x) (closed_further x))

refuse_further : {X : Type 0} (b : Bool) (k : Kind) (l : Grammar X) → Further l → FurtherBranch (refuse_by b k l)
refuse_further true k l h = tt
refuse_further false k l h = h

named_further : (free linear : Bool) (l : Grammar Expression) → Further l → FurtherBranch (named_by free linear l)
named_further true linear l h = h
named_further false linear l h = refuse_further linear NotLinear l h

refused_further : (kept : Kind → Bool) (free : Bool) (k : Kind) (l : Grammar Expression) → Further l → FurtherBranch (refused_by kept free k l)
refused_further kept true k l h = refuse_further (kept k) k l h
refused_further kept false k l h = refuse_further (kept NotLinear) NotLinear l h

leaf_further : (kept : Kind → Bool) (free : Bool) (m : Mark) → FurtherBranch (leaf_cases kept free m)
leaf_further kept free (plain (number k)) = unit_further Kind (trees.number (pos k))
leaf_further kept free (plain (fixed kinds.Wide)) = refuse_further (kept Wide) Wide (unit (trees.number (pos 0))) (unit_further Kind (trees.number (pos 0)))
leaf_further kept free (plain (name v)) = named_further free (kept NotLinear) (unit (trees.variable v)) (unit_further Kind (trees.variable v))
leaf_further kept free (plain (drawn d)) = named_further free (kept NotLinear) (brackets (trees.draw d)) (brackets_further (trees.draw d))
leaf_further kept free (refused k kinds.Name) = refused_further kept free k (unit (trees.variable 0)) (unit_further Kind (trees.variable 0))
leaf_further kept free (refused k kinds.Nondet) = refused_further kept free k (brackets (trees.draw 0)) (brackets_further (trees.draw 0))
leaf_further kept free _ = tt

abbrev FurtherInner : Inner → Type 0
FurtherInner bottom = Unit {0}
FurtherInner (deeper s f) = Exact s × Further s × Further f

factor_further_over : (kept : Kind → Bool) (free : Bool) (i : Inner) → FurtherInner i → (m : Mark) → FurtherBranch (factor_cases kept free i m)
factor_further_over kept free bottom h (plain (fixed kinds.LeftRound)) = tt
factor_further_over kept free bottom h (plain (fixed kinds.Minus)) = tt
factor_further_over kept free (deeper s f) h (plain (fixed kinds.LeftRound)) = then_further s closed h.0 closed_exact h.1 closed_further
factor_further_over kept free (deeper s f) h (plain (fixed kinds.Minus)) = mapped_further trees.minus f h.2
factor_further_over kept free bottom h m = leaf_further kept free m
factor_further_over kept free (deeper s f) h m = leaf_further kept free m

star_further : (factor : Bool → Grammar Expression) → ((free : Bool) → Further (factor free)) → (free : Bool) (es : List Expression) (m : Mark) → FurtherBranch (star_cases factor free es m)
star_further factor h free es (plain (fixed kinds.Star)) = mapped_further (λ e. es ++ e ∷ []) (factor (free && are_constant (parts_of es))) (h (free && are_constant (parts_of es)))
star_further factor h free es _ = tt

stars_further : (factor : Bool → Grammar Expression) → ((free : Bool) → Exact (factor free)) → ((free : Bool) → Further (factor free)) → (free : Bool) (es : List Expression) → Further (mapped (gathered trees.product) (turns (star_cases factor free) es))
stars_further factor e h free es = mapped_further (gathered trees.product) (turns (star_cases factor free) es) (turns_further (star_cases factor free) (star_branch factor e free) (star_further factor h free) es)

product_further_over : (factor : Bool → Grammar Expression) → ((free : Bool) → Exact (factor free)) → ((free : Bool) → Further (factor free)) → (free : Bool) → Further (product_over factor free)
product_further_over factor e h free = then_further (factor free) (λ x. mapped (gathered trees.product) (turns (star_cases factor free) (x ∷ []))) (e free) (λ x. mapped_exact (gathered trees.product) (turns (star_cases factor free) (x ∷ [])) (stars_exact factor e free (x ∷ []))) (h free) (λ x. stars_further factor e h free (x ∷ []))

sign_further : (p : Grammar Expression) → Further p → (es : List Expression) (m : Mark) → FurtherBranch (sum_cases p es m)
sign_further p h es (plain (fixed kinds.Plus)) = mapped_further (λ e. es ++ e ∷ []) p h
sign_further p h es (plain (fixed kinds.Minus)) = mapped_further (λ e. es ++ trees.minus e ∷ []) p h
sign_further p h es _ = tt

signs_further : (p : Grammar Expression) → Exact p → Further p → (es : List Expression) → Further (mapped (gathered trees.sum) (turns (sum_cases p) es))
signs_further p e h es = mapped_further (gathered trees.sum) (turns (sum_cases p) es) (turns_further (sum_cases p) (sum_branch p e) (sign_further p h) es)

sum_further_over : (p : Grammar Expression) → Exact p → Further p → Further (sum_over p)
sum_further_over p e h = then_further p (λ x. mapped (gathered trees.sum) (turns (sum_cases p) (x ∷ []))) e (λ x. mapped_exact (gathered trees.sum) (turns (sum_cases p) (x ∷ [])) (signs_exact p e (x ∷ []))) h (λ x. signs_further p e h (x ∷ []))

factor_further : (kept : Kind → Bool) (n : ℕ) (free : Bool) → Further (factor_at kept n free)
unfolding factor_at
factor_further kept zero free = headed_further Syntax (factor_cases kept free bottom) (factor_further_over kept free bottom tt)
factor_further kept (suc n) free = headed_further Syntax (factor_cases kept free (deeper (sum_over (product_over (factor_at kept n) free)) (factor_at kept n free))) (factor_further_over kept free (deeper (sum_over (product_over (factor_at kept n) free)) (factor_at kept n free)) (sum_exact kept n free, sum_further_over (product_over (factor_at kept n) free) (product_exact kept n free) (product_further_over (factor_at kept n) (factor_exact kept n) (factor_further kept n) free), factor_further kept n free))

product_further : (kept : Kind → Bool) (n : ℕ) (free : Bool) → Further (product_at kept n free)
product_further kept n free = product_further_over (factor_at kept n) (factor_exact kept n) (factor_further kept n) free

pub sum_further : (kept : Kind → Bool) (n : ℕ) (free : Bool) → Further (sum_at kept n free)
sum_further kept n free = sum_further_over (product_at kept n free) (product_exact kept n free) (product_further kept n free)

further_below : (kept : Kind → Bool) (n : ℕ) (free : Bool) → FurtherInner (below kept n free)
further_below kept zero free = tt
further_below kept (suc n) free = (sum_exact kept n free, sum_further kept n free, factor_further kept n free)

below_further : (kept : Kind → Bool) (n : ℕ) (free : Bool) (m : Mark) → FurtherBranch (factor_cases kept free (below kept n free) m)
below_further kept n free m = factor_further_over kept free (below kept n free) (further_below kept n free) m

-- ---- conditions

related_further : (o : Option Relation) (make : Relation → Expression → Thing) (sum : Grammar Expression) → Further sum → FurtherBranch (relation_by o make sum)
related_further None make sum h = tt
related_further (Some r) make sum h = mapped_further (make r) sum h

relation_further : (sum : Grammar Expression) → Further sum → (x : Thing) (m : Mark) → FurtherBranch (relation_cases sum x m)
relation_further sum h (value a) (plain (fixed kind)) = related_further (relation_of kind) (compared a) sum h
relation_further sum h (value a) _ = tt
relation_further sum h (tested c) _ = tt

tail_further : (kept : Kind → Bool) (n : ℕ) (f : Expression) → Further (tail kept n f)
tail_further kept n f =
    then_further (mapped (gathered trees.product) (turns (star_cases (factor_at kept n) true) (f ∷ []))) (λ p. then (mapped (gathered trees.sum) (turns (sum_cases (product_at kept n true)) (p ∷ []))) (λ s. turns (relation_cases (sum_at kept n true)) (value s)))
    (mapped_exact (gathered trees.product) (turns (star_cases (factor_at kept n) true) (f ∷ [])) (stars_exact (factor_at kept n) (factor_exact kept n) true (f ∷ [])))
    (λ p. then_exact (mapped (gathered trees.sum) (turns (sum_cases (product_at kept n true)) (p ∷ []))) (λ s. turns (relation_cases (sum_at kept n true)) (value s)) (mapped_exact (gathered trees.sum) (turns (sum_cases (product_at kept n true)) (p ∷ [])) (signs_exact (product_at kept n true) (product_exact kept n true) (p ∷ []))) (λ s. relations_exact (sum_at kept n true) (sum_exact kept n true) (value s)))
    (stars_further (factor_at kept n) (factor_exact kept n) (factor_further kept n) true (f ∷ []))
    (λ p. then_further (mapped (gathered trees.sum) (turns (sum_cases (product_at kept n true)) (p ∷ []))) (λ s. turns (relation_cases (sum_at kept n true)) (value s))
    (mapped_exact (gathered trees.sum) (turns (sum_cases (product_at kept n true)) (p ∷ [])) (signs_exact (product_at kept n true) (product_exact kept n true) (p ∷ [])))
    (λ s. relations_exact (sum_at kept n true) (sum_exact kept n true) (value s))
    (signs_further (product_at kept n true) (product_exact kept n true) (product_further kept n true) (p ∷ []))
    (λ s. turns_further (relation_cases (sum_at kept n true)) (relation_branch (sum_at kept n true) (sum_exact kept n true)) (relation_further (sum_at kept n true) (sum_further kept n true)) (value s)))

opened_further : (kept : Kind → Bool) (n : ℕ) (x : Thing) → Further (opened kept n x)
opened_further kept n (tested c) = unit_further Kind (tested c)
opened_further kept n (value a) = tail_further kept n a

more_further_by : (b : Bool) (item : Grammar Condition) → Further item → (cs : List Condition) → FurtherBranch (more_by b item cs)
more_further_by false item h cs = tt
more_further_by true item h cs = mapped_further (λ c. cs ++ c ∷ []) item h

more_further : (joins : TokenKind → Bool) (item : Grammar Condition) → Further item → (cs : List Condition) (m : Mark) → FurtherBranch (more_cases joins item cs m)
more_further joins item h cs (plain (fixed kind)) = more_further_by (joins kind) item h cs
more_further joins item h cs _ = tt

mores_further : (joins : TokenKind → Bool) (item : Grammar Condition) → Exact item → Further item → (cs : List Condition) → Further (turns (more_cases joins item) cs)
mores_further joins item e h cs = turns_further (more_cases joins item) (more_branch joins item e) (more_further joins item h) cs

module _ (literal : Grammar Condition) (e : Exact literal) (h : Further literal) where
  conjunction_from_further : (c : Condition) → Further (conjunction_from literal c)
  conjunction_from_further c = mapped_further (joined all_of) (turns (more_cases is_and literal) (c ∷ [])) (mores_further is_and literal e h (c ∷ []))

  conjunction_further : Further (conjunction_over literal)
  conjunction_further = then_further literal (conjunction_from literal) e (conjunction_from_exact literal e) h conjunction_from_further

  condition_from_further : (c : Condition) → Further (condition_from (conjunction_over literal) c)
  condition_from_further c = mapped_further (joined some_of) (turns (more_cases is_or (conjunction_over literal)) (c ∷ [])) (mores_further is_or (conjunction_over literal) (conjunction_exact_over literal e) conjunction_further (c ∷ []))

  condition_further_over : Further (condition_over literal)
  condition_further_over = then_further (conjunction_over literal) (condition_from (conjunction_over literal)) (conjunction_exact_over literal e) (condition_from_exact (conjunction_over literal) (conjunction_exact_over literal e)) conjunction_further condition_from_further

  continued_further : (x : Thing) → Further (continued literal x)
  continued_further (value a) = unit_further Kind (value a)
  continued_further (tested c) = then_further (conjunction_from literal c) (λ d. mapped tested (condition_from (conjunction_over literal) d)) (conjunction_from_exact literal e c) (λ d. mapped_exact tested (condition_from (conjunction_over literal) d) (condition_from_exact (conjunction_over literal) (conjunction_exact_over literal e) d)) (conjunction_from_further c) (λ d. mapped_further tested (condition_from (conjunction_over literal) d) (condition_from_further d))

brackets_of_further : (kept : Kind → Bool) (n : ℕ) (thing : Grammar Thing) → Exact (literal_over thing) → Exact thing → Further (literal_over thing) → Further thing → Further (in_brackets kept n thing)
brackets_of_further kept n thing el e hl h =
    then_further thing (λ x. then (continued (literal_over thing) x) (λ y. then (closed y) (opened kept n))) e
    (λ x. then_exact (continued (literal_over thing) x) (λ y. then (closed y) (opened kept n)) (continued_exact (literal_over thing) el x) (λ y. then_exact (closed y) (opened kept n) (closed_exact y) (opened_exact kept n))) h
    (λ x. then_further (continued (literal_over thing) x) (λ y. then (closed y) (opened kept n)) (continued_exact (literal_over thing) el x) (λ y. then_exact (closed y) (opened kept n) (closed_exact y) (opened_exact kept n)) (continued_further (literal_over thing) el hl x)
    (λ y. then_further (closed y) (opened kept n) (closed_exact y) (opened_exact kept n) (closed_further y) (opened_further kept n)))

after_further : (kept : Kind → Bool) (n : ℕ) (b : Behind Expression) → ExactBranch b → FurtherBranch b → FurtherBranch (after_factor kept n b)
after_further kept n (stop k) e h = tt
after_further kept n (go l) e h = then_further l (tail kept n) e (tail_exact kept n) h (tail_further kept n)

abbrev FurtherUnder : Under → Type 0
FurtherUnder ground = Unit {0}
FurtherUnder (level thing plainly) = Exact (literal_over thing) × Exact thing × Further (literal_over thing) × Further thing × Further plainly

plain_further : (u : Under) → FurtherUnder u → (m : Mark) → FurtherBranch (plain_cases u m)
plain_further ground h (plain (fixed kinds.Not)) = tt
plain_further ground h (plain (fixed kinds.LeftRound)) = tt
plain_further (level thing plainly) h (plain (fixed kinds.Not)) = mapped_further negated plainly h.4
plain_further (level thing plainly) h (plain (fixed kinds.LeftRound)) = then_further (condition_over (literal_over thing)) closed (condition_exact_over (literal_over thing) h.0) closed_exact (condition_further_over (literal_over thing) h.0 h.2) closed_further
plain_further ground h (plain (fixed kinds.True)) = unit_further Kind (truth true)
plain_further ground h (plain (fixed kinds.False)) = unit_further Kind (truth false)
plain_further (level thing plainly) h (plain (fixed kinds.True)) = unit_further Kind (truth true)
plain_further (level thing plainly) h (plain (fixed kinds.False)) = unit_further Kind (truth false)
plain_further ground h _ = tt
plain_further (level thing plainly) h _ = tt

thing_further : (kept : Kind → Bool) (n : ℕ) (u : Under) → FurtherUnder u → (m : Mark) → FurtherBranch (thing_cases kept n u m)
thing_further kept n ground h (plain (fixed kinds.Not)) = tt
thing_further kept n ground h (plain (fixed kinds.LeftRound)) = tt
thing_further kept n (level thing plainly) h (plain (fixed kinds.Not)) = mapped_further (λ c. tested (negated c)) plainly h.4
thing_further kept n (level thing plainly) h (plain (fixed kinds.LeftRound)) = brackets_of_further kept n thing h.0 h.1 h.2 h.3
thing_further kept n ground h (plain (fixed kinds.True)) = unit_further Kind (tested (truth true))
thing_further kept n ground h (plain (fixed kinds.False)) = unit_further Kind (tested (truth false))
thing_further kept n (level thing plainly) h (plain (fixed kinds.True)) = unit_further Kind (tested (truth true))
thing_further kept n (level thing plainly) h (plain (fixed kinds.False)) = unit_further Kind (tested (truth false))
thing_further kept n ground h m = after_further kept n (factor_cases kept true (below kept n true) m) (below_branch kept n true m) (below_further kept n true m)
thing_further kept n (level thing plainly) h m = after_further kept n (factor_cases kept true (below kept n true) m) (below_branch kept n true m) (below_further kept n true m)

literal_further : (kept : Kind → Bool) (n : ℕ) → Further (thing_at kept n) → Further (literal_at kept n)
literal_further kept n h = narrowed_further Syntax as_test (thing_at kept n) (thing_extends kept n) h

mutual
  unfolding thing_at plain_at

  things_further : (kept : Kind → Bool) (n : ℕ) → Further (thing_at kept n)
  things_further kept zero = headed_further Syntax (thing_cases kept zero ground) (thing_further kept zero ground tt)
  things_further kept (suc n) = headed_further Syntax (thing_cases kept (suc n) (level (thing_at kept n) (plain_at kept n))) (thing_further kept (suc n) (level (thing_at kept n) (plain_at kept n)) (literal_exact kept n, thing_exact kept n, literal_further kept n (things_further kept n), things_further kept n, plains_further kept n))

  plains_further : (kept : Kind → Bool) (n : ℕ) → Further (plain_at kept n)
  plains_further kept zero = headed_further Syntax (plain_cases ground) (plain_further ground tt)
  plains_further kept (suc n) = headed_further Syntax (plain_cases (level (thing_at kept n) (plain_at kept n))) (plain_further (level (thing_at kept n) (plain_at kept n)) (literal_exact kept n, thing_exact kept n, literal_further kept n (things_further kept n), things_further kept n, plains_further kept n))

pub condition_further : (kept : Kind → Bool) (n : ℕ) → Further (condition_at kept n)
condition_further kept n = condition_further_over (literal_at kept n) (literal_exact kept n) (literal_further kept n (things_further kept n))
