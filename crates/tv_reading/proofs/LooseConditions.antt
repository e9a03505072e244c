-- A grammar of conditions with fewer kinds of fault asks less.
use Rattle.std.proofs.Common.{◌≡◌, ℕ, zero, suc, Bool, true, false, List, [], ◌∷◌, ◌++◌, Option, Some, None, refl, arith}
use Rattle.tv_language.specs.declared.token.TokenKind.{TokenKind}
use Rattle.tv_language.specs.declared.token.TokenKind.TheVariants as kinds
use Rattle.tv_program.specs.declared.tree.Relation.{Relation}
use Rattle.tv_program.specs.Trees as trees
use Rattle.tv_program.specs.Trees.{Expression, Condition, truth, negated, all_of, some_of}
use Rattle.tv_language.specs.Symbols.{fixed}
use Rattle.tv_language.specs.Sums.{gathered}
use Rattle.tv_language.specs.Conditions.{relation_of, joined}
use Rattle.tv_grammar.specs.Langs.{then, mapped, stop, go, turns}
use Rattle.tv_grammar.specs.Exact.{Exact}
use Rattle.tv_grammar.specs.Faults.{Loosens, LoosensBranch, LoosensTurn}
use Rattle.tv_grammar.proofs.ExactLemmas.{then_exact, mapped_exact}
use Rattle.tv_grammar.proofs.NarrowLemmas.{narrowed_loose}
use Rattle.tv_grammar.proofs.LooseLemmas.{unit_loose, then_loose, mapped_loose, headed_loose, turns_loose}
use Rattle.tv_reading.specs.Marks.{Kind, Syntax, Deep, Mark, plain}
use Rattle.tv_reading.specs.SumGrammar.{Grammar, Behind, every, closed, factor_cases, below, star_cases, sum_cases, factor_at, product_at, sum_at}
use Rattle.tv_reading.specs.ConditionGrammar.{Thing, value, tested, relation_by, compared, relation_cases, tail, opened, as_test, literal_over, is_and, is_or, more_by, more_cases, conjunction_from, conjunction_over, condition_from, condition_over, continued, after_factor, Under, ground, level, plain_cases, in_brackets, thing_cases, thing_at, plain_at, literal_at, condition_at}
use Rattle.tv_reading.specs.Refusals.{Levels}
use Rattle.tv_reading.proofs.SumLemmas.{closed_exact, factor_exact, product_exact, sum_exact, signs_exact}
use Rattle.tv_reading.proofs.LooseSums.{levels_less, no_levels, closed_loose, stars_loose, signs_loose, factors_loose, products_loose, sums_loose, below_loose}
use Rattle.tv_reading.proofs.ConditionLemmas.{relations_exact, tail_exact, opened_exact, conjunction_from_exact, conjunction_exact_over, condition_from_exact, condition_exact_over, continued_exact, in_brackets_exact, thing_exact, plain_exact, literal_exact}

module _ (kept : Kind → Bool) (syntax : kept Syntax ≡ true) where
  relation_loose : (o : Option Relation) (make : Relation → Expression → Thing) (s u : Grammar Expression) → Loosens kept s u → Exact u → LoosensTurn kept (relation_by o make s) (relation_by o make u)
  relation_loose None make s u h e = tt
  relation_loose (Some r) make s u h e = (mapped_loose kept (make r) s u h, mapped_exact (make r) u e)

  related_loose : (s u : Grammar Expression) → Loosens kept s u → Exact u → (x : Thing) (m : Mark) → LoosensTurn kept (relation_cases s x m) (relation_cases u x m)
  related_loose s u h e (value a) (plain (fixed kind)) = relation_loose (relation_of kind) (compared a) s u h e
  related_loose s u h e (value a) _ = tt
  related_loose s u h e (tested c) _ = tt

  tail_loose : (n m : ℕ) → Levels (kept Deep) n m → (f : Expression) → Loosens kept (tail every n f) (tail kept m f)
  tail_loose n m w f =
      then_loose kept (mapped (gathered trees.product) (turns (star_cases (factor_at every n) true) (f ∷ []))) (mapped (gathered trees.product) (turns (star_cases (factor_at kept m) true) (f ∷ []))) (λ p. then (mapped (gathered trees.sum) (turns (sum_cases (product_at every n true)) (p ∷ []))) (λ s. turns (relation_cases (sum_at every n true)) (value s))) (λ p. then (mapped (gathered trees.sum) (turns (sum_cases (product_at kept m true)) (p ∷ []))) (λ s. turns (relation_cases (sum_at kept m true)) (value s)))
      (mapped_loose kept (gathered trees.product) (turns (star_cases (factor_at every n) true) (f ∷ [])) (turns (star_cases (factor_at kept m) true) (f ∷ [])) (stars_loose kept syntax (factor_at every n) (factor_at kept m) (factors_loose kept syntax n m w) (factor_exact kept m) true (f ∷ [])))
      (λ p. then_loose kept (mapped (gathered trees.sum) (turns (sum_cases (product_at every n true)) (p ∷ []))) (mapped (gathered trees.sum) (turns (sum_cases (product_at kept m true)) (p ∷ []))) (λ s. turns (relation_cases (sum_at every n true)) (value s)) (λ s. turns (relation_cases (sum_at kept m true)) (value s))
      (mapped_loose kept (gathered trees.sum) (turns (sum_cases (product_at every n true)) (p ∷ [])) (turns (sum_cases (product_at kept m true)) (p ∷ [])) (signs_loose kept syntax (product_at every n true) (product_at kept m true) (products_loose kept syntax n m w true) (product_exact kept m true) (p ∷ [])))
      (λ s. turns_loose kept (relation_cases (sum_at every n true)) (relation_cases (sum_at kept m true)) (related_loose (sum_at every n true) (sum_at kept m true) (sums_loose kept syntax n m w true) (sum_exact kept m true)) (value s))
      (λ s. relations_exact (sum_at kept m true) (sum_exact kept m true) (value s)))
      (λ p. then_exact (mapped (gathered trees.sum) (turns (sum_cases (product_at kept m true)) (p ∷ []))) (λ s. turns (relation_cases (sum_at kept m true)) (value s)) (mapped_exact (gathered trees.sum) (turns (sum_cases (product_at kept m true)) (p ∷ [])) (signs_exact (product_at kept m true) (product_exact kept m true) (p ∷ []))) (λ s. relations_exact (sum_at kept m true) (sum_exact kept m true) (value s)))

  opened_loose : (n m : ℕ) → Levels (kept Deep) n m → (x : Thing) → Loosens kept (opened every n x) (opened kept m x)
  opened_loose n m w (tested c) = unit_loose kept (tested c)
  opened_loose n m w (value e) = tail_loose n m w e

  more_loose : (b : Bool) (l u : Grammar Condition) → Loosens kept l u → Exact u → (cs : List Condition) → LoosensTurn kept (more_by b l cs) (more_by b u cs)
  more_loose false l u h e cs = tt
  more_loose true l u h e cs = (mapped_loose kept (λ c. cs ++ c ∷ []) l u h, mapped_exact (λ c. cs ++ c ∷ []) u e)

  joins_loose : (joins : TokenKind → Bool) (l u : Grammar Condition) → Loosens kept l u → Exact u → (cs : List Condition) (m : Mark) → LoosensTurn kept (more_cases joins l cs m) (more_cases joins u cs m)
  joins_loose joins l u h e cs (plain (fixed kind)) = more_loose (joins kind) l u h e cs
  joins_loose joins l u h e cs _ = tt

  conjunction_from_loose : (l u : Grammar Condition) → Loosens kept l u → Exact u → (c : Condition) → Loosens kept (conjunction_from l c) (conjunction_from u c)
  conjunction_from_loose l u h e c = mapped_loose kept (joined all_of) (turns (more_cases is_and l) (c ∷ [])) (turns (more_cases is_and u) (c ∷ [])) (turns_loose kept (more_cases is_and l) (more_cases is_and u) (joins_loose is_and l u h e) (c ∷ []))

  conjunction_loose : (l u : Grammar Condition) → Loosens kept l u → Exact u → Loosens kept (conjunction_over l) (conjunction_over u)
  conjunction_loose l u h e = then_loose kept l u (conjunction_from l) (conjunction_from u) h (conjunction_from_loose l u h e) (conjunction_from_exact u e)

  condition_from_loose : (l u : Grammar Condition) → Loosens kept l u → Exact u → (c : Condition) → Loosens kept (condition_from l c) (condition_from u c)
  condition_from_loose l u h e c = mapped_loose kept (joined some_of) (turns (more_cases is_or l) (c ∷ [])) (turns (more_cases is_or u) (c ∷ [])) (turns_loose kept (more_cases is_or l) (more_cases is_or u) (joins_loose is_or l u h e) (c ∷ []))

  condition_loose : (l u : Grammar Condition) → Loosens kept l u → Exact u → Loosens kept (condition_over l) (condition_over u)
  condition_loose l u h e = then_loose kept (conjunction_over l) (conjunction_over u) (condition_from (conjunction_over l)) (condition_from (conjunction_over u)) (conjunction_loose l u h e) (condition_from_loose (conjunction_over l) (conjunction_over u) (conjunction_loose l u h e) (conjunction_exact_over u e)) (condition_from_exact (conjunction_over u) (conjunction_exact_over u e))

  literal_loose : (t u : Grammar Thing) → Loosens kept t u → Loosens kept (literal_over t) (literal_over u)
  literal_loose t u h = narrowed_loose kept Syntax syntax as_test t u h

  continued_loose : (l u : Grammar Condition) → Loosens kept l u → Exact u → (x : Thing) → Loosens kept (continued l x) (continued u x)
  continued_loose l u h e (value a) = unit_loose kept (value a)
  continued_loose l u h e (tested c) = then_loose kept (conjunction_from l c) (conjunction_from u c) (λ d. mapped tested (condition_from (conjunction_over l) d)) (λ d. mapped tested (condition_from (conjunction_over u) d)) (conjunction_from_loose l u h e c) (λ d. mapped_loose kept tested (condition_from (conjunction_over l) d) (condition_from (conjunction_over u) d) (condition_from_loose (conjunction_over l) (conjunction_over u) (conjunction_loose l u h e) (conjunction_exact_over u e) d)) (λ d. mapped_exact tested (condition_from (conjunction_over u) d) (condition_from_exact (conjunction_over u) (conjunction_exact_over u e) d))

  brackets_loose : (n m : ℕ) → Levels (kept Deep) n m → (t u : Grammar Thing) → Loosens kept t u → Exact u → Exact (literal_over u) → Loosens kept (in_brackets every n t) (in_brackets kept m u)
  brackets_loose n m w t u h e el =
      then_loose kept t u (λ x. then (continued (literal_over t) x) (λ y. then (closed y) (opened every n))) (λ x. then (continued (literal_over u) x) (λ y. then (closed y) (opened kept m))) h
      (λ x. then_loose kept (continued (literal_over t) x) (continued (literal_over u) x) (λ y. then (closed y) (opened every n)) (λ y. then (closed y) (opened kept m)) (continued_loose (literal_over t) (literal_over u) (literal_loose t u h) el x)
      (λ y. then_loose kept (closed y) (closed y) (opened every n) (opened kept m) (closed_loose kept syntax y) (opened_loose n m w) (opened_exact kept m))
      (λ y. then_exact (closed y) (opened kept m) (closed_exact y) (opened_exact kept m)))
      (λ x. then_exact (continued (literal_over u) x) (λ y. then (closed y) (opened kept m)) (continued_exact (literal_over u) el x) (λ y. then_exact (closed y) (opened kept m) (closed_exact y) (opened_exact kept m)))

  after_loose : (n m : ℕ) → Levels (kept Deep) n m → (b c : Behind Expression) → LoosensBranch kept b c → LoosensBranch kept (after_factor every n b) (after_factor kept m c)
  after_loose n m w (stop k) (stop j) h = h
  after_loose n m w (stop k) (go l) h = (h.0, then_exact l (tail kept m) h.1 (tail_exact kept m))
  after_loose n m w (go l) (stop j) h = absurd h
  after_loose n m w (go l) (go u) h = then_loose kept l u (tail every n) (tail kept m) h (tail_loose n m w) (tail_exact kept m)

  abbrev LoosensUnder : Under → Under → Type 0
  LoosensUnder ground ground = kept Deep ≡ true
  LoosensUnder ground (level u v) = (kept Deep ≡ false) × Exact u × Exact (literal_over u) × Exact v
  LoosensUnder (level t p) ground = ⊥
  LoosensUnder (level t p) (level u v) = Loosens kept t u × Loosens kept p v × Exact u × Exact (literal_over u) × Exact v

  plain_loose : (a b : Under) → LoosensUnder a b → (t : Mark) → LoosensBranch kept (plain_cases a t) (plain_cases b t)
  plain_loose ground ground h (plain (fixed kinds.Not)) = (h, refl)
  plain_loose ground ground h (plain (fixed kinds.LeftRound)) = (h, refl)
  plain_loose ground (level u v) h (plain (fixed kinds.Not)) = (h.0, mapped_exact negated v h.3)
  plain_loose ground (level u v) h (plain (fixed kinds.LeftRound)) = (h.0, then_exact (condition_over (literal_over u)) closed (condition_exact_over (literal_over u) h.2) closed_exact)
  plain_loose (level t p) (level u v) h (plain (fixed kinds.Not)) = mapped_loose kept negated p v h.1
  plain_loose (level t p) (level u v) h (plain (fixed kinds.LeftRound)) = then_loose kept (condition_over (literal_over t)) (condition_over (literal_over u)) closed closed (condition_loose (literal_over t) (literal_over u) (literal_loose t u h.0) h.3) (closed_loose kept syntax) closed_exact
  plain_loose (level t p) ground h m = absurd h
  plain_loose ground ground h (plain (fixed kinds.True)) = unit_loose kept (truth true)
  plain_loose ground ground h (plain (fixed kinds.False)) = unit_loose kept (truth false)
  plain_loose ground (level u v) h (plain (fixed kinds.True)) = unit_loose kept (truth true)
  plain_loose ground (level u v) h (plain (fixed kinds.False)) = unit_loose kept (truth false)
  plain_loose (level t p) (level u v) h (plain (fixed kinds.True)) = unit_loose kept (truth true)
  plain_loose (level t p) (level u v) h (plain (fixed kinds.False)) = unit_loose kept (truth false)
  plain_loose ground ground h _ = (syntax, refl)
  plain_loose ground (level u v) h _ = (syntax, refl)
  plain_loose (level t p) (level u v) h _ = (syntax, refl)

  thing_loose : (n m : ℕ) → Levels (kept Deep) n m → (a b : Under) → LoosensUnder a b → (t : Mark) → LoosensBranch kept (thing_cases every n a t) (thing_cases kept m b t)
  thing_loose n m w ground ground h (plain (fixed kinds.Not)) = (h, refl)
  thing_loose n m w ground ground h (plain (fixed kinds.LeftRound)) = (h, refl)
  thing_loose n m w ground (level u v) h (plain (fixed kinds.Not)) = (h.0, mapped_exact (λ c. tested (negated c)) v h.3)
  thing_loose n m w ground (level u v) h (plain (fixed kinds.LeftRound)) = (h.0, in_brackets_exact kept m u h.2 h.1)
  thing_loose n m w (level t p) (level u v) h (plain (fixed kinds.Not)) = mapped_loose kept (λ c. tested (negated c)) p v h.1
  thing_loose n m w (level t p) (level u v) h (plain (fixed kinds.LeftRound)) = brackets_loose n m w t u h.0 h.2 h.3
  thing_loose n m w (level t p) ground h s = absurd h
  thing_loose n m w ground ground h (plain (fixed kinds.True)) = unit_loose kept (tested (truth true))
  thing_loose n m w ground ground h (plain (fixed kinds.False)) = unit_loose kept (tested (truth false))
  thing_loose n m w ground (level u v) h (plain (fixed kinds.True)) = unit_loose kept (tested (truth true))
  thing_loose n m w ground (level u v) h (plain (fixed kinds.False)) = unit_loose kept (tested (truth false))
  thing_loose n m w (level t p) (level u v) h (plain (fixed kinds.True)) = unit_loose kept (tested (truth true))
  thing_loose n m w (level t p) (level u v) h (plain (fixed kinds.False)) = unit_loose kept (tested (truth false))
  thing_loose n m w ground ground h s = after_loose n m w (factor_cases every true (below every n true) s) (factor_cases kept true (below kept m true) s) (below_loose kept syntax n m w s)
  thing_loose n m w ground (level u v) h s = after_loose n m w (factor_cases every true (below every n true) s) (factor_cases kept true (below kept m true) s) (below_loose kept syntax n m w s)
  thing_loose n m w (level t p) (level u v) h s = after_loose n m w (factor_cases every true (below every n true) s) (factor_cases kept true (below kept m true) s) (below_loose kept syntax n m w s)

  ground_under : (b : Bool) → kept Deep ≡ b → (m : ℕ) → Levels b zero (suc m) → LoosensUnder ground (level (thing_at kept m) (plain_at kept m))
  ground_under true e m w = absurd (omega arith)
  ground_under false e m w = (e, thing_exact kept m, literal_exact kept m, plain_exact kept m)

  ground_ground : (b : Bool) → kept Deep ≡ b → Levels b zero zero → LoosensUnder ground ground
  ground_ground true e w = e
  ground_ground false e w = absurd (omega arith)

  mutual
    unfolding thing_at plain_at

    pub things_loose : (n m : ℕ) → Levels (kept Deep) n m → Loosens kept (thing_at every n) (thing_at kept m)
    things_loose zero zero w = headed_loose kept Syntax (thing_cases every zero ground) (thing_cases kept zero ground) syntax (thing_loose zero zero w ground ground (ground_ground (kept Deep) refl w))
    things_loose zero (suc m) w = headed_loose kept Syntax (thing_cases every zero ground) (thing_cases kept (suc m) (level (thing_at kept m) (plain_at kept m))) syntax (thing_loose zero (suc m) w ground (level (thing_at kept m) (plain_at kept m)) (ground_under (kept Deep) refl m w))
    things_loose (suc n) zero w = absurd (no_levels (kept Deep) n w)
    things_loose (suc n) (suc m) w =
        let v : Levels (kept Deep) n m = levels_less (kept Deep) n m w in
        headed_loose kept Syntax (thing_cases every (suc n) (level (thing_at every n) (plain_at every n))) (thing_cases kept (suc m) (level (thing_at kept m) (plain_at kept m))) syntax
        (thing_loose (suc n) (suc m) w (level (thing_at every n) (plain_at every n)) (level (thing_at kept m) (plain_at kept m)) (things_loose n m v, plains_loose n m v, thing_exact kept m, literal_exact kept m, plain_exact kept m))

    pub plains_loose : (n m : ℕ) → Levels (kept Deep) n m → Loosens kept (plain_at every n) (plain_at kept m)
    plains_loose zero zero w = headed_loose kept Syntax (plain_cases ground) (plain_cases ground) syntax (plain_loose ground ground (ground_ground (kept Deep) refl w))
    plains_loose zero (suc m) w = headed_loose kept Syntax (plain_cases ground) (plain_cases (level (thing_at kept m) (plain_at kept m))) syntax (plain_loose ground (level (thing_at kept m) (plain_at kept m)) (ground_under (kept Deep) refl m w))
    plains_loose (suc n) zero w = absurd (no_levels (kept Deep) n w)
    plains_loose (suc n) (suc m) w =
        let v : Levels (kept Deep) n m = levels_less (kept Deep) n m w in
        headed_loose kept Syntax (plain_cases (level (thing_at every n) (plain_at every n))) (plain_cases (level (thing_at kept m) (plain_at kept m))) syntax
        (plain_loose (level (thing_at every n) (plain_at every n)) (level (thing_at kept m) (plain_at kept m)) (things_loose n m v, plains_loose n m v, thing_exact kept m, literal_exact kept m, plain_exact kept m))

  pub conditions_loose : (n m : ℕ) → Levels (kept Deep) n m → Loosens kept (condition_at every n) (condition_at kept m)
  conditions_loose n m w = condition_loose (literal_at every n) (literal_at kept m) (literal_loose (thing_at every n) (thing_at kept m) (things_loose n m w)) (literal_exact kept m)
