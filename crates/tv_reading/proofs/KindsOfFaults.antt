-- A second START, a name too many and one that is not known are reported only where a token is marked so.
use Rattle.std.proofs.Common.{◌≡◌, ℕ, zero, suc, Bool, true, false, List, [], ◌∷◌, ◌++◌, Option, Some, None, refl, pos}
use Rattle.std.specs.Prelude.{◌&&◌}
use Rattle.tv_language.specs.declared.token.TokenKind.{TokenKind}
use Rattle.tv_language.specs.declared.token.TokenKind.TheVariants as kinds
use Rattle.tv_program.specs.declared.tree.Relation.{Relation}
use Rattle.tv_program.specs.Trees as trees
use Rattle.tv_program.specs.Trees.{Expression, Condition, negated, all_of, some_of, truth}
use Rattle.tv_program.specs.Views.{parts_of}
use Rattle.tv_program.specs.Limits.{are_constant}
use Rattle.tv_language.specs.Symbols.{number, name, drawn, fixed}
use Rattle.tv_language.specs.Sums.{gathered}
use Rattle.tv_language.specs.Conditions.{relation_of, joined}
use Rattle.tv_grammar.specs.Reads.{next}
use Rattle.tv_grammar.specs.Langs.{Lang, unit, then, mapped, stop, go, turns}
use Rattle.tv_grammar.specs.Faults.{Kinded, KindedBranch, KindedTurn}
use Rattle.tv_grammar.proofs.KindLemmas.{unit_kinded, then_kinded, mapped_kinded, headed_kinded, turns_kinded}
use Rattle.tv_grammar.proofs.NarrowLemmas.{narrowed_kinded}
use Rattle.tv_reading.specs.Marks.{Kind, Syntax, TwoStarts, TooMany, UnknownName, Mark, plain, refused}
use Rattle.tv_reading.specs.SumGrammar.{Grammar, Behind, every, close_cases, open_cases, closed, brackets, named_by, refused_by, leaf_cases, Inner, bottom, deeper, factor_cases, below, star_cases, product_over, sum_cases, sum_over, factor_at, product_at, sum_at}
use Rattle.tv_reading.specs.ConditionGrammar.{Thing, value, tested, relation_by, compared, relation_cases, tail, opened, as_test, literal_over, is_and, is_or, more_by, more_cases, conjunction_from, conjunction_over, condition_from, condition_over, continued, after_factor, Under, ground, level, plain_cases, in_brackets, thing_cases, thing_at, plain_at, literal_at, condition_at}

-- the kind with which the token is refused
abbrev pub refusal : Option Mark → Option Kind
refusal (Some (refused k kind)) = Some k
refusal t = None

-- a fault of one of these kinds comes only at a mark of it
abbrev pub Marked : Kind → Option Mark → Type 0
Marked TwoStarts t = refusal t ≡ Some TwoStarts
Marked TooMany t = refusal t ≡ Some TooMany
Marked UnknownName t = refusal t ≡ Some UnknownName
Marked k t = Unit {0}

-- what holds of each fault holds where less is said of it
pub kinded_by : {T X : Type 0} (P Q : Kind → Option T → Type 0) → ((k : Kind) (t : Option T) → P k t → Q k t) → (l : Lang T Kind X) → Kinded P l → Kinded Q l
kinded_by P Q f l h = record { kind = λ ts k r e. f k (next r) (h.kind ts k r e) }

none_such : (t : Option Mark) → Marked Syntax t
none_such t = tt

pub marked : (k : Kind) (kind : TokenKind) → Marked k (Some (refused k kind))
marked TwoStarts kind = refl
marked TooMany kind = refl
marked UnknownName kind = refl
marked k kind = tt

-- ---- sums

close_kinded : {X : Type 0} (x : X) (m : Mark) → KindedBranch Marked m (close_cases x m)
close_kinded x (plain (fixed kinds.RightRound)) = unit_kinded Marked x
close_kinded x m = none_such (Some m)

closed_kinded : {X : Type 0} (x : X) → Kinded Marked (closed x)
closed_kinded x = headed_kinded Marked Syntax (close_cases x) (none_such None) (close_kinded x)

open_kinded : {X : Type 0} (l : Grammar X) → Kinded Marked l → (m : Mark) → KindedBranch Marked m (open_cases l m)
open_kinded l h (plain (fixed kinds.LeftRound)) = h
open_kinded l h m = none_such (Some m)

brackets_kinded : {X : Type 0} (x : X) → Kinded Marked (brackets x)
brackets_kinded x = headed_kinded Marked Syntax (open_cases (closed x)) (none_such None) (open_kinded (closed x) (closed_kinded x))

named_kinded : (m : Mark) (free : Bool) (l : Grammar Expression) → Kinded Marked l → KindedBranch Marked m (named_by free true l)
named_kinded m true l h = h
named_kinded m false l h = none_such (Some m)

refused_kinded : (free : Bool) (k : Kind) (kind : TokenKind) (l : Grammar Expression) → KindedBranch Marked (refused k kind) (refused_by every free k l)
refused_kinded true k kind l = marked k kind
refused_kinded false k kind l = none_such (Some (refused k kind))

leaf_kinded : (free : Bool) (m : Mark) → KindedBranch Marked m (leaf_cases every free m)
leaf_kinded free (plain (number k)) = unit_kinded Marked (trees.number (pos k))
leaf_kinded free (plain (fixed kinds.Wide)) = none_such (Some (plain (fixed kinds.Wide)))
leaf_kinded free (plain (name v)) = named_kinded (plain (name v)) free (unit (trees.variable v)) (unit_kinded Marked (trees.variable v))
leaf_kinded free (plain (drawn d)) = named_kinded (plain (drawn d)) free (brackets (trees.draw d)) (brackets_kinded (trees.draw d))
leaf_kinded free (refused k kinds.Name) = refused_kinded free k kinds.Name (unit (trees.variable 0))
leaf_kinded free (refused k kinds.Nondet) = refused_kinded free k kinds.Nondet (brackets (trees.draw 0))
leaf_kinded free m = none_such (Some m)

abbrev KindedInner : Inner → Type 0
KindedInner bottom = Unit {0}
KindedInner (deeper s f) = Kinded Marked s × Kinded Marked f

factor_kinded : (free : Bool) (i : Inner) → KindedInner i → (m : Mark) → KindedBranch Marked m (factor_cases every free i m)
factor_kinded free bottom h (plain (fixed kinds.LeftRound)) = none_such (Some (plain (fixed kinds.LeftRound)))
factor_kinded free bottom h (plain (fixed kinds.Minus)) = none_such (Some (plain (fixed kinds.Minus)))
factor_kinded free (deeper s f) h (plain (fixed kinds.LeftRound)) = then_kinded Marked s closed h.0 closed_kinded
factor_kinded free (deeper s f) h (plain (fixed kinds.Minus)) = mapped_kinded Marked trees.minus f h.1
factor_kinded free bottom h m = leaf_kinded free m
factor_kinded free (deeper s f) h m = leaf_kinded free m

star_kinded : (factor : Bool → Grammar Expression) → ((free : Bool) → Kinded Marked (factor free)) → (free : Bool) (es : List Expression) (m : Mark) → KindedTurn Marked (star_cases factor free es m)
star_kinded factor h free es (plain (fixed kinds.Star)) = mapped_kinded Marked (λ e. es ++ e ∷ []) (factor (free && are_constant (parts_of es))) (h (free && are_constant (parts_of es)))
star_kinded factor h free es _ = tt

stars_kinded : (factor : Bool → Grammar Expression) → ((free : Bool) → Kinded Marked (factor free)) → (free : Bool) (es : List Expression) → Kinded Marked (turns (star_cases factor free) es)
stars_kinded factor h free es = turns_kinded Marked (star_cases factor free) (star_kinded factor h free) es

product_kinded : (factor : Bool → Grammar Expression) → ((free : Bool) → Kinded Marked (factor free)) → (free : Bool) → Kinded Marked (product_over factor free)
product_kinded factor h free = then_kinded Marked (factor free) (λ e. mapped (gathered trees.product) (turns (star_cases factor free) (e ∷ []))) (h free) (λ e. mapped_kinded Marked (gathered trees.product) (turns (star_cases factor free) (e ∷ [])) (stars_kinded factor h free (e ∷ [])))

sign_kinded : (p : Grammar Expression) → Kinded Marked p → (es : List Expression) (m : Mark) → KindedTurn Marked (sum_cases p es m)
sign_kinded p h es (plain (fixed kinds.Plus)) = mapped_kinded Marked (λ e. es ++ e ∷ []) p h
sign_kinded p h es (plain (fixed kinds.Minus)) = mapped_kinded Marked (λ e. es ++ trees.minus e ∷ []) p h
sign_kinded p h es _ = tt

signs_kinded : (p : Grammar Expression) → Kinded Marked p → (es : List Expression) → Kinded Marked (turns (sum_cases p) es)
signs_kinded p h es = turns_kinded Marked (sum_cases p) (sign_kinded p h) es

sum_kinded_over : (p : Grammar Expression) → Kinded Marked p → Kinded Marked (sum_over p)
sum_kinded_over p h = then_kinded Marked p (λ e. mapped (gathered trees.sum) (turns (sum_cases p) (e ∷ []))) h (λ e. mapped_kinded Marked (gathered trees.sum) (turns (sum_cases p) (e ∷ [])) (signs_kinded p h (e ∷ [])))

factors_kinded : (n : ℕ) (free : Bool) → Kinded Marked (factor_at every n free)
unfolding factor_at
factors_kinded zero free = headed_kinded Marked Syntax (factor_cases every free bottom) (none_such None) (factor_kinded free bottom tt)
factors_kinded (suc n) free = headed_kinded Marked Syntax (factor_cases every free (deeper (sum_over (product_over (factor_at every n) free)) (factor_at every n free))) (none_such None) (factor_kinded free (deeper (sum_over (product_over (factor_at every n) free)) (factor_at every n free)) (sum_kinded_over (product_over (factor_at every n) free) (product_kinded (factor_at every n) (factors_kinded n) free), factors_kinded n free))

products_kinded : (n : ℕ) (free : Bool) → Kinded Marked (product_at every n free)
products_kinded n free = product_kinded (factor_at every n) (factors_kinded n) free

pub sums_kinded : (n : ℕ) (free : Bool) → Kinded Marked (sum_at every n free)
sums_kinded n free = sum_kinded_over (product_at every n free) (products_kinded n free)

-- ---- conditions

relation_kinded : (o : Option Relation) (make : Relation → Expression → Thing) (sum : Grammar Expression) → Kinded Marked sum → KindedTurn Marked (relation_by o make sum)
relation_kinded None make sum h = tt
relation_kinded (Some r) make sum h = mapped_kinded Marked (make r) sum h

relations_kinded : (sum : Grammar Expression) → Kinded Marked sum → (x : Thing) (m : Mark) → KindedTurn Marked (relation_cases sum x m)
relations_kinded sum h (value a) (plain (fixed kind)) = relation_kinded (relation_of kind) (compared a) sum h
relations_kinded sum h (value a) _ = tt
relations_kinded sum h (tested c) _ = tt

tail_kinded : (n : ℕ) (f : Expression) → Kinded Marked (tail every n f)
tail_kinded n f = then_kinded Marked (mapped (gathered trees.product) (turns (star_cases (factor_at every n) true) (f ∷ []))) (λ p. then (mapped (gathered trees.sum) (turns (sum_cases (product_at every n true)) (p ∷ []))) (λ s. turns (relation_cases (sum_at every n true)) (value s)))
    (mapped_kinded Marked (gathered trees.product) (turns (star_cases (factor_at every n) true) (f ∷ [])) (stars_kinded (factor_at every n) (factors_kinded n) true (f ∷ [])))
    (λ p. then_kinded Marked (mapped (gathered trees.sum) (turns (sum_cases (product_at every n true)) (p ∷ []))) (λ s. turns (relation_cases (sum_at every n true)) (value s))
    (mapped_kinded Marked (gathered trees.sum) (turns (sum_cases (product_at every n true)) (p ∷ [])) (signs_kinded (product_at every n true) (products_kinded n true) (p ∷ [])))
    (λ s. turns_kinded Marked (relation_cases (sum_at every n true)) (relations_kinded (sum_at every n true) (sums_kinded n true)) (value s)))

opened_kinded : (n : ℕ) (x : Thing) → Kinded Marked (opened every n x)
opened_kinded n (tested c) = unit_kinded Marked (tested c)
opened_kinded n (value e) = tail_kinded n e

literal_kinded : (thing : Grammar Thing) → Kinded Marked thing → Kinded Marked (literal_over thing)
literal_kinded thing h = narrowed_kinded Marked Syntax as_test thing none_such h

more_kinded : (b : Bool) (item : Grammar Condition) → Kinded Marked item → (cs : List Condition) → KindedTurn Marked (more_by b item cs)
more_kinded false item h cs = tt
more_kinded true item h cs = mapped_kinded Marked (λ c. cs ++ c ∷ []) item h

mores_kinded : (joins : TokenKind → Bool) (item : Grammar Condition) → Kinded Marked item → (cs : List Condition) (m : Mark) → KindedTurn Marked (more_cases joins item cs m)
mores_kinded joins item h cs (plain (fixed kind)) = more_kinded (joins kind) item h cs
mores_kinded joins item h cs _ = tt

conjunction_from_kinded : (literal : Grammar Condition) → Kinded Marked literal → (c : Condition) → Kinded Marked (conjunction_from literal c)
conjunction_from_kinded literal h c = mapped_kinded Marked (joined all_of) (turns (more_cases is_and literal) (c ∷ [])) (turns_kinded Marked (more_cases is_and literal) (mores_kinded is_and literal h) (c ∷ []))

conjunction_kinded : (literal : Grammar Condition) → Kinded Marked literal → Kinded Marked (conjunction_over literal)
conjunction_kinded literal h = then_kinded Marked literal (conjunction_from literal) h (conjunction_from_kinded literal h)

condition_from_kinded : (conjunction : Grammar Condition) → Kinded Marked conjunction → (c : Condition) → Kinded Marked (condition_from conjunction c)
condition_from_kinded conjunction h c = mapped_kinded Marked (joined some_of) (turns (more_cases is_or conjunction) (c ∷ [])) (turns_kinded Marked (more_cases is_or conjunction) (mores_kinded is_or conjunction h) (c ∷ []))

condition_kinded : (literal : Grammar Condition) → Kinded Marked literal → Kinded Marked (condition_over literal)
condition_kinded literal h = then_kinded Marked (conjunction_over literal) (condition_from (conjunction_over literal)) (conjunction_kinded literal h) (condition_from_kinded (conjunction_over literal) (conjunction_kinded literal h))

continued_kinded : (literal : Grammar Condition) → Kinded Marked literal → (x : Thing) → Kinded Marked (continued literal x)
continued_kinded literal h (value a) = unit_kinded Marked (value a)
continued_kinded literal h (tested c) = then_kinded Marked (conjunction_from literal c) (λ d. mapped tested (condition_from (conjunction_over literal) d)) (conjunction_from_kinded literal h c) (λ d. mapped_kinded Marked tested (condition_from (conjunction_over literal) d) (condition_from_kinded (conjunction_over literal) (conjunction_kinded literal h) d))

after_kinded : (n : ℕ) (m : Mark) (b : Behind Expression) → KindedBranch Marked m b → KindedBranch Marked m (after_factor every n b)
after_kinded n m (stop k) h = h
after_kinded n m (go l) h = then_kinded Marked l (tail every n) h (tail_kinded n)

abbrev KindedUnder : Under → Type 0
KindedUnder ground = Unit {0}
KindedUnder (level thing plainly) = Kinded Marked thing × Kinded Marked plainly

plain_kinded : (u : Under) → KindedUnder u → (m : Mark) → KindedBranch Marked m (plain_cases u m)
plain_kinded ground h (plain (fixed kinds.Not)) = none_such (Some (plain (fixed kinds.Not)))
plain_kinded ground h (plain (fixed kinds.LeftRound)) = none_such (Some (plain (fixed kinds.LeftRound)))
plain_kinded (level thing plainly) h (plain (fixed kinds.Not)) = mapped_kinded Marked negated plainly h.1
plain_kinded (level thing plainly) h (plain (fixed kinds.LeftRound)) = then_kinded Marked (condition_over (literal_over thing)) closed (condition_kinded (literal_over thing) (literal_kinded thing h.0)) closed_kinded
plain_kinded ground h (plain (fixed kinds.True)) = unit_kinded Marked (truth true)
plain_kinded ground h (plain (fixed kinds.False)) = unit_kinded Marked (truth false)
plain_kinded (level thing plainly) h (plain (fixed kinds.True)) = unit_kinded Marked (truth true)
plain_kinded (level thing plainly) h (plain (fixed kinds.False)) = unit_kinded Marked (truth false)
plain_kinded ground h m = none_such (Some m)
plain_kinded (level thing plainly) h m = none_such (Some m)

in_brackets_kinded : (n : ℕ) (thing : Grammar Thing) → Kinded Marked thing → Kinded Marked (in_brackets every n thing)
in_brackets_kinded n thing h = then_kinded Marked thing (λ x. then (continued (literal_over thing) x) (λ y. then (closed y) (opened every n))) h (λ x. then_kinded Marked (continued (literal_over thing) x) (λ y. then (closed y) (opened every n)) (continued_kinded (literal_over thing) (literal_kinded thing h) x) (λ y. then_kinded Marked (closed y) (opened every n) (closed_kinded y) (opened_kinded n)))

below_kinded : (n : ℕ) → KindedInner (below every n true)
below_kinded zero = tt
below_kinded (suc n) = (sum_kinded_over (product_over (factor_at every n) true) (product_kinded (factor_at every n) (factors_kinded n) true), factors_kinded n true)

thing_kinded : (n : ℕ) (u : Under) → KindedUnder u → (m : Mark) → KindedBranch Marked m (thing_cases every n u m)
thing_kinded n ground h (plain (fixed kinds.LeftRound)) = none_such (Some (plain (fixed kinds.LeftRound)))
thing_kinded n ground h (plain (fixed kinds.Not)) = none_such (Some (plain (fixed kinds.Not)))
thing_kinded n (level thing plainly) h (plain (fixed kinds.LeftRound)) = in_brackets_kinded n thing h.0
thing_kinded n (level thing plainly) h (plain (fixed kinds.Not)) = mapped_kinded Marked (λ c. tested (negated c)) plainly h.1
thing_kinded n ground h (plain (fixed kinds.True)) = unit_kinded Marked (tested (truth true))
thing_kinded n ground h (plain (fixed kinds.False)) = unit_kinded Marked (tested (truth false))
thing_kinded n (level thing plainly) h (plain (fixed kinds.True)) = unit_kinded Marked (tested (truth true))
thing_kinded n (level thing plainly) h (plain (fixed kinds.False)) = unit_kinded Marked (tested (truth false))
thing_kinded n ground h m = after_kinded n m (factor_cases every true (below every n true) m) (factor_kinded true (below every n true) (below_kinded n) m)
thing_kinded n (level thing plainly) h m = after_kinded n m (factor_cases every true (below every n true) m) (factor_kinded true (below every n true) (below_kinded n) m)

mutual
  unfolding thing_at plain_at

  things_kinded : (n : ℕ) → Kinded Marked (thing_at every n)
  things_kinded zero = headed_kinded Marked Syntax (thing_cases every zero ground) (none_such None) (thing_kinded zero ground tt)
  things_kinded (suc n) = headed_kinded Marked Syntax (thing_cases every (suc n) (level (thing_at every n) (plain_at every n))) (none_such None) (thing_kinded (suc n) (level (thing_at every n) (plain_at every n)) (things_kinded n, plains_kinded n))

  plains_kinded : (n : ℕ) → Kinded Marked (plain_at every n)
  plains_kinded zero = headed_kinded Marked Syntax (plain_cases ground) (none_such None) (plain_kinded ground tt)
  plains_kinded (suc n) = headed_kinded Marked Syntax (plain_cases (level (thing_at every n) (plain_at every n))) (none_such None) (plain_kinded (level (thing_at every n) (plain_at every n)) (things_kinded n, plains_kinded n))

pub conditions_kinded : (n : ℕ) → Kinded Marked (condition_at every n)
conditions_kinded n = condition_kinded (literal_at every n) (literal_kinded (thing_at every n) (things_kinded n))
