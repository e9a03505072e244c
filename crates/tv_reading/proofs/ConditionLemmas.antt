-- Conditions are read exactly.
use Rattle.std.proofs.Common.{◌≡◌, ℕ, zero, suc, Bool, true, false, List, [], ◌∷◌, ◌++◌, Option, Some, None, refl, ap, ◌∙◌}
use Rattle.tv_language.specs.declared.token.TokenKind.{TokenKind}
use Rattle.tv_language.specs.declared.token.TokenKind.TheVariants as kinds
use Rattle.tv_program.specs.declared.tree.Relation.{Relation}
use Rattle.tv_program.specs.Trees as trees
use Rattle.tv_program.specs.Trees.{Expression, Condition, truth, compare, negated, all_of, some_of}
use Rattle.tv_language.specs.Symbols.{fixed}
use Rattle.tv_language.specs.Sums.{gathered}
use Rattle.tv_language.specs.Conditions.{relation_of, joined}
use Rattle.tv_grammar.specs.Langs.{then, mapped, stop, go, headed, turns, narrowed, Is, OfBranch, branch_text, branch_value, Turns, done, turn, turns_text, turns_value}
use Rattle.tv_grammar.specs.Exact.{Exact, ExactBranch}
use Rattle.tv_grammar.proofs.ExactLemmas.{unit_exact, then_exact, mapped_exact, headed_exact}
use Rattle.tv_grammar.proofs.NarrowLemmas.{Extended, narrowed_exact}
use Rattle.tv_grammar.proofs.TurnLemmas.{turns_exact}
use Rattle.tv_reading.specs.Marks.{Kind, Syntax, Mark, plain}
use Rattle.tv_reading.specs.SumGrammar.{Grammar, Behind, closed, factor_cases, below, star_cases, sum_cases, factor_at, product_at, sum_at}
use Rattle.tv_reading.specs.ConditionGrammar.{Thing, value, tested, relation_by, compared, relation_cases, tail, opened, as_test, literal_over, is_and, is_or, more_by, more_cases, conjunction_from, conjunction_over, condition_from, condition_over, continued, after_factor, Under, ground, level, plain_cases, in_brackets, thing_cases, thing_at, plain_at, literal_at, condition_at}
use Rattle.tv_reading.proofs.SumLemmas.{closed_exact, factor_exact, product_exact, sum_exact, stars_exact, signs_exact, below_branch}

relation_exact : {X : Type 0} (o : Option Relation) (make : Relation → Expression → X) (sum : Grammar Expression) → Exact sum → ExactBranch (relation_by o make sum)
relation_exact None make sum h = tt
relation_exact (Some r) make sum h = mapped_exact (make r) sum h

pub relation_branch : (sum : Grammar Expression) → Exact sum → (x : Thing) (m : Mark) → ExactBranch (relation_cases sum x m)
relation_branch sum h (value a) (plain (fixed kind)) = relation_exact (relation_of kind) (compared a) sum h
relation_branch sum h (value a) _ = tt
relation_branch sum h (tested c) _ = tt

pub relations_exact : (sum : Grammar Expression) → Exact sum → (x : Thing) → Exact (turns (relation_cases sum) x)
relations_exact sum h x = turns_exact (relation_cases sum) (relation_branch sum h) x

pub tail_exact : (kept : Kind → Bool) (n : ℕ) (f : Expression) → Exact (tail kept n f)
tail_exact kept n f = then_exact (mapped (gathered trees.product) (turns (star_cases (factor_at kept n) true) (f ∷ []))) (λ p. then (mapped (gathered trees.sum) (turns (sum_cases (product_at kept n true)) (p ∷ []))) (λ s. turns (relation_cases (sum_at kept n true)) (value s)))
    (mapped_exact (gathered trees.product) (turns (star_cases (factor_at kept n) true) (f ∷ [])) (stars_exact (factor_at kept n) (factor_exact kept n) true (f ∷ [])))
    (λ p. then_exact (mapped (gathered trees.sum) (turns (sum_cases (product_at kept n true)) (p ∷ []))) (λ s. turns (relation_cases (sum_at kept n true)) (value s))
    (mapped_exact (gathered trees.sum) (turns (sum_cases (product_at kept n true)) (p ∷ [])) (signs_exact (product_at kept n true) (product_exact kept n true) (p ∷ [])))
    (λ s. relations_exact (sum_at kept n true) (sum_exact kept n true) (value s)))

pub opened_exact : (kept : Kind → Bool) (n : ℕ) (x : Thing) → Exact (opened kept n x)
opened_exact kept n (tested c) = unit_exact (tested c)
opened_exact kept n (value e) = tail_exact kept n e

-- ---- a value without a relation begins one with it

abbrev pub Extends : Grammar Thing → Type 0
Extends thing = (d : thing.Of) → as_test (thing.value d) ≡ None → Extended as_test thing d

-- the same after any front
record Longer (l : Grammar Thing) (d : l.Of) : Type 0 where
  it : l.Of
  taken : Is (as_test (l.value it))
  more : List Mark
  text : l.text it [] ≡ l.text d [] ++ more

relations_longer : (sum : Grammar Expression) → Exact sum → (a : Expression) (d : Turns (relation_cases sum) (value a)) → as_test (turns_value (relation_cases sum) (value a) d) ≡ None → Longer (turns (relation_cases sum) (value a)) d
relations_longer sum h a done e = record { it = turn (plain (fixed kinds.Less)) (h.some, tt) done; taken = tt; more = plain (fixed kinds.Less) ∷ sum.text h.some []; text = refl }
relations_longer sum h a (turn (plain (fixed kind)) d ds) e = absurd (tested_stays (relation_of kind) d ds e)
  where
    after_test : (c : Condition) (ds : Turns (relation_cases sum) (tested c)) → as_test (turns_value (relation_cases sum) (tested c) ds) ≡ None → ⊥
    after_test c done e = cc
    after_test c (turn m d ds) e = d

    tested_stays : (o : Option Relation) (d : OfBranch (relation_by o (compared a) sum)) (ds : Turns (relation_cases sum) (branch_value (relation_by o (compared a) sum) d)) → as_test (turns_value (relation_cases sum) (branch_value (relation_by o (compared a) sum) d) ds) ≡ None → ⊥
    tested_stays None d ds e = d
    tested_stays (Some r) d ds e = after_test (compare r a (sum.value d.0)) ds e
relations_longer sum h a (turn m d ds) e = absurd d

tail_longer : (kept : Kind → Bool) (n : ℕ) (f : Expression) (d : (tail kept n f).Of) → as_test ((tail kept n f).value d) ≡ None → Longer (tail kept n f) d
tail_longer kept n f d e =
    let stars : Grammar Expression = mapped (gathered trees.product) (turns (star_cases (factor_at kept n) true) (f ∷ [])) in
    let p : Expression = stars.value d.0 in
    let signs : Grammar Expression = mapped (gathered trees.sum) (turns (sum_cases (product_at kept n true)) (p ∷ [])) in
    let s : Expression = signs.value d.1.0 in
    let starts : Exact stars = mapped_exact (gathered trees.product) (turns (star_cases (factor_at kept n) true) (f ∷ [])) (stars_exact (factor_at kept n) (factor_exact kept n) true (f ∷ [])) in
    let signed : Exact signs = mapped_exact (gathered trees.sum) (turns (sum_cases (product_at kept n true)) (p ∷ [])) (signs_exact (product_at kept n true) (product_exact kept n true) (p ∷ [])) in
    let w = relations_longer (sum_at kept n true) (sum_exact kept n true) s d.1.1 e in
    record {
      it = (d.0, (d.1.0, w.it));
      taken = w.taken;
      more = w.more;
      text = ap (λ (us : List Mark). stars.text d.0 (signs.text d.1.0 us)) w.text
          ∙ ap (stars.text d.0) (signed.append d.1.0 (turns_text (relation_cases (sum_at kept n true)) (value s) d.1.1 []) w.more)
          ∙ starts.append d.0 (signs.text d.1.0 (turns_text (relation_cases (sum_at kept n true)) (value s) d.1.1 [])) w.more;
    }

opened_longer : (kept : Kind → Bool) (n : ℕ) (x : Thing) (d : (opened kept n x).Of) → as_test ((opened kept n x).value d) ≡ None → Longer (opened kept n x) d
opened_longer kept n (tested c) d e = absurd cc
opened_longer kept n (value a) d e = tail_longer kept n a d e

-- what stands before it is kept
before_longer : {X : Type 0} (l : Grammar X) (b : X → Grammar Thing) → Exact l → ((x : X) (d : (b x).Of) → as_test ((b x).value d) ≡ None → Longer (b x) d) → (d : (then l b).Of) → as_test ((then l b).value d) ≡ None → Longer (then l b) d
before_longer l b h i d e =
    let w = i (l.value d.0) d.1 e in
    record { it = (d.0, w.it); taken = w.taken; more = w.more; text = ap (l.text d.0) w.text ∙ h.append d.0 ((b (l.value d.0)).text d.1 []) w.more }

pub literal_exact_over : (thing : Grammar Thing) → Exact thing → (narrowed Syntax as_test thing).Of → Extends thing → Exact (literal_over thing)
literal_exact_over thing h some extends = narrowed_exact Syntax as_test thing h some extends

more_exact : (b : Bool) (item : Grammar Condition) → Exact item → (cs : List Condition) → ExactBranch (more_by b item cs)
more_exact false item h cs = tt
more_exact true item h cs = mapped_exact (λ c. cs ++ c ∷ []) item h

pub more_branch : (joins : TokenKind → Bool) (item : Grammar Condition) → Exact item → (cs : List Condition) (m : Mark) → ExactBranch (more_cases joins item cs m)
more_branch joins item h cs (plain (fixed kind)) = more_exact (joins kind) item h cs
more_branch joins item h cs _ = tt

pub mores_exact : (joins : TokenKind → Bool) (item : Grammar Condition) → Exact item → (cs : List Condition) → Exact (turns (more_cases joins item) cs)
mores_exact joins item h cs = turns_exact (more_cases joins item) (more_branch joins item h) cs

pub conjunction_from_exact : (literal : Grammar Condition) → Exact literal → (c : Condition) → Exact (conjunction_from literal c)
conjunction_from_exact literal h c = mapped_exact (joined all_of) (turns (more_cases is_and literal) (c ∷ [])) (mores_exact is_and literal h (c ∷ []))

pub conjunction_exact_over : (literal : Grammar Condition) → Exact literal → Exact (conjunction_over literal)
conjunction_exact_over literal h = then_exact literal (conjunction_from literal) h (conjunction_from_exact literal h)

pub condition_from_exact : (conjunction : Grammar Condition) → Exact conjunction → (c : Condition) → Exact (condition_from conjunction c)
condition_from_exact conjunction h c = mapped_exact (joined some_of) (turns (more_cases is_or conjunction) (c ∷ [])) (mores_exact is_or conjunction h (c ∷ []))

pub condition_exact_over : (literal : Grammar Condition) → Exact literal → Exact (condition_over literal)
condition_exact_over literal h = then_exact (conjunction_over literal) (condition_from (conjunction_over literal)) (conjunction_exact_over literal h) (condition_from_exact (conjunction_over literal) (conjunction_exact_over literal h))

pub continued_exact : (literal : Grammar Condition) → Exact literal → (x : Thing) → Exact (continued literal x)
continued_exact literal h (value a) = unit_exact (value a)
continued_exact literal h (tested c) = then_exact (conjunction_from literal c) (λ d. mapped tested (condition_from (conjunction_over literal) d)) (conjunction_from_exact literal h c) (λ d. mapped_exact tested (condition_from (conjunction_over literal) d) (condition_from_exact (conjunction_over literal) (conjunction_exact_over literal h) d))

pub after_exact : (kept : Kind → Bool) (n : ℕ) (b : Behind Expression) → ExactBranch b → ExactBranch (after_factor kept n b)
after_exact kept n (stop k) h = tt
after_exact kept n (go l) h = then_exact l (tail kept n) h (tail_exact kept n)

abbrev pub ExactUnder : Under → Type 0
ExactUnder ground = Unit {0}
ExactUnder (level thing plainly) = Exact (literal_over thing) × Exact thing × Exact plainly

plain_branch : (u : Under) → ExactUnder u → (m : Mark) → ExactBranch (plain_cases u m)
plain_branch ground h (plain (fixed kinds.Not)) = tt
plain_branch ground h (plain (fixed kinds.LeftRound)) = tt
plain_branch (level thing plainly) h (plain (fixed kinds.Not)) = mapped_exact negated plainly h.2
plain_branch (level thing plainly) h (plain (fixed kinds.LeftRound)) = then_exact (condition_over (literal_over thing)) closed (condition_exact_over (literal_over thing) h.0) closed_exact
plain_branch ground h (plain (fixed kinds.True)) = unit_exact (truth true)
plain_branch ground h (plain (fixed kinds.False)) = unit_exact (truth false)
plain_branch (level thing plainly) h (plain (fixed kinds.True)) = unit_exact (truth true)
plain_branch (level thing plainly) h (plain (fixed kinds.False)) = unit_exact (truth false)
plain_branch ground h _ = tt
plain_branch (level thing plainly) h _ = tt

pub in_brackets_exact : (kept : Kind → Bool) (n : ℕ) (thing : Grammar Thing) → Exact (literal_over thing) → Exact thing → Exact (in_brackets kept n thing)
in_brackets_exact kept n thing h i = then_exact thing (λ x. then (continued (literal_over thing) x) (λ y. then (closed y) (opened kept n))) i
    (λ x. then_exact (continued (literal_over thing) x) (λ y. then (closed y) (opened kept n)) (continued_exact (literal_over thing) h x)
    (λ y. then_exact (closed y) (opened kept n) (closed_exact y) (opened_exact kept n)))

thing_branch : (kept : Kind → Bool) (n : ℕ) (u : Under) → ExactUnder u → (m : Mark) → ExactBranch (thing_cases kept n u m)
thing_branch kept n ground h (plain (fixed kinds.LeftRound)) = tt
thing_branch kept n ground h (plain (fixed kinds.Not)) = tt
thing_branch kept n (level thing plainly) h (plain (fixed kinds.LeftRound)) = in_brackets_exact kept n thing h.0 h.1
thing_branch kept n (level thing plainly) h (plain (fixed kinds.Not)) = mapped_exact (λ c. tested (negated c)) plainly h.2
thing_branch kept n ground h (plain (fixed kinds.True)) = unit_exact (tested (truth true))
thing_branch kept n ground h (plain (fixed kinds.False)) = unit_exact (tested (truth false))
thing_branch kept n (level thing plainly) h (plain (fixed kinds.True)) = unit_exact (tested (truth true))
thing_branch kept n (level thing plainly) h (plain (fixed kinds.False)) = unit_exact (tested (truth false))
thing_branch kept n ground h m = after_exact kept n (factor_cases kept true (below kept n true) m) (below_branch kept n true m)
thing_branch kept n (level thing plainly) h m = after_exact kept n (factor_cases kept true (below kept n true) m) (below_branch kept n true m)

always_thing : (kept : Kind → Bool) (n : ℕ) (u : Under) → OfBranch (thing_cases kept n u (plain (fixed kinds.True)))
always_thing kept n ground = tt
always_thing kept n (level thing plainly) = tt

always_plain : (u : Under) → OfBranch (plain_cases u (plain (fixed kinds.True)))
always_plain ground = tt
always_plain (level thing plainly) = tt

thing_exact_over : (kept : Kind → Bool) (n : ℕ) (u : Under) → ExactUnder u → Exact (headed Syntax (thing_cases kept n u))
thing_exact_over kept n u h = headed_exact Syntax (thing_cases kept n u) (thing_branch kept n u h) (plain (fixed kinds.True)) (always_thing kept n u)

plain_exact_over : (u : Under) → ExactUnder u → Exact (headed Syntax (plain_cases u))
plain_exact_over u h = headed_exact Syntax (plain_cases u) (plain_branch u h) (plain (fixed kinds.True)) (always_plain u)

-- ---- each level

brackets_longer : (kept : Kind → Bool) (n : ℕ) (thing : Grammar Thing) → Exact (literal_over thing) → Exact thing → (d : (in_brackets kept n thing).Of) → as_test ((in_brackets kept n thing).value d) ≡ None → Longer (in_brackets kept n thing) d
brackets_longer kept n thing h i d e = before_longer thing (λ x. then (continued (literal_over thing) x) (λ y. then (closed y) (opened kept n))) i
    (λ x. before_longer (continued (literal_over thing) x) (λ y. then (closed y) (opened kept n)) (continued_exact (literal_over thing) h x)
    (λ y. before_longer (closed y) (opened kept n) (closed_exact y) (opened_longer kept n))) d e

record BranchLonger (b : Behind Thing) (d : OfBranch b) : Type 0 where
  it : OfBranch b
  taken : Is (as_test (branch_value b it))
  more : List Mark
  text : branch_text b it [] ≡ branch_text b d [] ++ more

go_longer : (l : Grammar Thing) (d : l.Of) → Longer l d → BranchLonger (go l) d
go_longer l d w = record { it = w.it; taken = w.taken; more = w.more; text = w.text }

after_longer : (kept : Kind → Bool) (n : ℕ) (b : Behind Expression) → ExactBranch b → (d : OfBranch (after_factor kept n b)) → as_test (branch_value (after_factor kept n b) d) ≡ None → BranchLonger (after_factor kept n b) d
after_longer kept n (stop k) h d e = absurd d
after_longer kept n (go l) h d e = go_longer (then l (tail kept n)) d (before_longer l (tail kept n) h (tail_longer kept n) d e)

thing_longer : (kept : Kind → Bool) (n : ℕ) (u : Under) → ExactUnder u → (m : Mark) (d : OfBranch (thing_cases kept n u m)) → as_test (branch_value (thing_cases kept n u m) d) ≡ None → BranchLonger (thing_cases kept n u m) d
thing_longer kept n ground h (plain (fixed kinds.LeftRound)) d e = absurd d
thing_longer kept n ground h (plain (fixed kinds.Not)) d e = absurd d
thing_longer kept n (level thing plainly) h (plain (fixed kinds.LeftRound)) d e = go_longer (in_brackets kept n thing) d (brackets_longer kept n thing h.0 h.1 d e)
thing_longer kept n (level thing plainly) h (plain (fixed kinds.Not)) d e = absurd cc
thing_longer kept n ground h (plain (fixed kinds.True)) d e = absurd cc
thing_longer kept n ground h (plain (fixed kinds.False)) d e = absurd cc
thing_longer kept n (level thing plainly) h (plain (fixed kinds.True)) d e = absurd cc
thing_longer kept n (level thing plainly) h (plain (fixed kinds.False)) d e = absurd cc
thing_longer kept n ground h m d e = after_longer kept n (factor_cases kept true (below kept n true) m) (below_branch kept n true m) d e
thing_longer kept n (level thing plainly) h m d e = after_longer kept n (factor_cases kept true (below kept n true) m) (below_branch kept n true m) d e

things_longer : (kept : Kind → Bool) (n : ℕ) (u : Under) → ExactUnder u → Extends (headed Syntax (thing_cases kept n u))
things_longer kept n u h d e = let w = thing_longer kept n u h d.0 d.1 e in record { it = (d.0, w.it); taken = w.taken; more = w.more; text = ap (λ (us : List Mark). d.0 ∷ us) w.text }

always_test : (kept : Kind → Bool) (n : ℕ) (u : Under) → (literal_over (headed Syntax (thing_cases kept n u))).Of
always_test kept n ground = ((plain (fixed kinds.True), tt), tt)
always_test kept n (level thing plainly) = ((plain (fixed kinds.True), tt), tt)

literals_exact : (kept : Kind → Bool) (n : ℕ) (u : Under) → ExactUnder u → Exact (literal_over (headed Syntax (thing_cases kept n u)))
literals_exact kept n u h = literal_exact_over (headed Syntax (thing_cases kept n u)) (thing_exact_over kept n u h) (always_test kept n u) (things_longer kept n u h)

mutual
  unfolding thing_at plain_at

  pub thing_exact : (kept : Kind → Bool) (n : ℕ) → Exact (thing_at kept n)
  thing_exact kept zero = thing_exact_over kept zero ground tt
  thing_exact kept (suc n) = thing_exact_over kept (suc n) (level (thing_at kept n) (plain_at kept n)) (literal_exact kept n, thing_exact kept n, plain_exact kept n)

  pub plain_exact : (kept : Kind → Bool) (n : ℕ) → Exact (plain_at kept n)
  plain_exact kept zero = plain_exact_over ground tt
  plain_exact kept (suc n) = plain_exact_over (level (thing_at kept n) (plain_at kept n)) (literal_exact kept n, thing_exact kept n, plain_exact kept n)

  pub literal_exact : (kept : Kind → Bool) (n : ℕ) → Exact (literal_at kept n)
  literal_exact kept zero = literals_exact kept zero ground tt
  literal_exact kept (suc n) = literals_exact kept (suc n) (level (thing_at kept n) (plain_at kept n)) (literal_exact kept n, thing_exact kept n, plain_exact kept n)

pub thing_extends : (kept : Kind → Bool) (n : ℕ) → Extends (thing_at kept n)
unfolding thing_at plain_at
thing_extends kept zero = things_longer kept zero ground tt
thing_extends kept (suc n) = things_longer kept (suc n) (level (thing_at kept n) (plain_at kept n)) (literal_exact kept n, thing_exact kept n, plain_exact kept n)

pub condition_exact : (kept : Kind → Bool) (n : ℕ) → Exact (condition_at kept n)
condition_exact kept n = condition_exact_over (literal_at kept n) (literal_exact kept n)
