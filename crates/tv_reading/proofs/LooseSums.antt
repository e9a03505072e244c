-- A grammar of sums with fewer kinds of fault asks less.
use Rattle.std.proofs.Common.{◌≡◌, ℕ, zero, suc, Bool, true, false, List, [], ◌∷◌, ◌++◌, refl, arith, pos}
use Rattle.std.specs.Prelude.{◌&&◌}
use Rattle.tv_language.specs.declared.token.TokenKind.TheVariants as kinds
use Rattle.tv_program.specs.Trees as trees
use Rattle.tv_program.specs.Trees.{Expression}
use Rattle.tv_program.specs.Views.{parts_of}
use Rattle.tv_program.specs.Limits.{are_constant}
use Rattle.tv_language.specs.Symbols.{number, name, drawn, fixed}
use Rattle.tv_language.specs.Sums.{gathered}
use Rattle.tv_grammar.specs.Langs.{Lang, unit, mapped, stop, turns}
use Rattle.tv_grammar.specs.Exact.{Exact}
use Rattle.tv_grammar.specs.Faults.{Loosens, LoosensBranch, LoosensTurn}
use Rattle.tv_grammar.proofs.ExactLemmas.{unit_exact, then_exact, mapped_exact}
use Rattle.tv_grammar.proofs.LooseLemmas.{unit_loose, then_loose, mapped_loose, headed_loose, turns_loose}
use Rattle.tv_reading.specs.Marks.{Kind, Syntax, Wide, Deep, NotLinear, Mark, plain, refused}
use Rattle.tv_reading.specs.SumGrammar.{Grammar, every, refuse_by, close_cases, open_cases, closed, brackets, named_by, refused_by, leaf_cases, bottom, deeper, factor_cases, below, star_cases, product_over, sum_cases, sum_over, factor_at, product_at, sum_at}
use Rattle.tv_reading.specs.Refusals.{Levels}
use Rattle.tv_reading.proofs.SumLemmas.{closed_exact, brackets_exact, stars_exact, signs_exact, factor_exact, product_exact, sum_exact}

pub levels_less : (b : Bool) (n m : ℕ) → Levels b (suc n) (suc m) → Levels b n m
levels_less true n m h = omega arith
levels_less false n m h = omega arith

pub no_levels : (b : Bool) (n : ℕ) → Levels b (suc n) zero → ⊥
no_levels true n h = omega arith
no_levels false n h = omega arith

pub refuse_loose : {T X : Type 0} (kept : Kind → Bool) (b : Bool) (k : Kind) → kept k ≡ b → (l : Lang T Kind X) → Exact l → LoosensBranch kept (stop k) (refuse_by b k l)
refuse_loose kept true k e l h = (e, refl)
refuse_loose kept false k e l h = (e, h)

module _ (kept : Kind → Bool) (syntax : kept Syntax ≡ true) where
  close_loose : {X : Type 0} (x : X) (m : Mark) → LoosensBranch kept (close_cases x m) (close_cases x m)
  close_loose x (plain (fixed kinds.RightRound)) = unit_loose kept x
  close_loose x _ = (syntax, refl)

  pub closed_loose : {X : Type 0} (x : X) → Loosens kept (closed x) (closed x)
  closed_loose x = headed_loose kept Syntax (close_cases x) (close_cases x) syntax (close_loose x)

  open_loose : {X : Type 0} (l : Grammar X) → Loosens kept l l → (m : Mark) → LoosensBranch kept (open_cases l m) (open_cases l m)
  open_loose l h (plain (fixed kinds.LeftRound)) = h
  open_loose l h _ = (syntax, refl)

  brackets_loose : {X : Type 0} (x : X) → Loosens kept (brackets x) (brackets x)
  brackets_loose x = headed_loose kept Syntax (open_cases (closed x)) (open_cases (closed x)) syntax (open_loose (closed x) (closed_loose x))

  named_loose : (free : Bool) (l : Grammar Expression) → Exact l → Loosens kept l l → LoosensBranch kept (named_by free true l) (named_by free (kept NotLinear) l)
  named_loose true l e h = h
  named_loose false l e h = refuse_loose kept (kept NotLinear) NotLinear refl l e

  refused_loose : (free : Bool) (k : Kind) (l : Grammar Expression) → Exact l → LoosensBranch kept (refused_by every free k l) (refused_by kept free k l)
  refused_loose true k l e = refuse_loose kept (kept k) k refl l e
  refused_loose false k l e = refuse_loose kept (kept NotLinear) NotLinear refl l e

  leaf_loose : (free : Bool) (m : Mark) → LoosensBranch kept (leaf_cases every free m) (leaf_cases kept free m)
  leaf_loose free (plain (number k)) = unit_loose kept (trees.number (pos k))
  leaf_loose free (plain (fixed kinds.Wide)) = refuse_loose kept (kept Wide) Wide refl (unit (trees.number (pos 0))) (unit_exact (trees.number (pos 0)))
  leaf_loose free (plain (name v)) = named_loose free (unit (trees.variable v)) (unit_exact (trees.variable v)) (unit_loose kept (trees.variable v))
  leaf_loose free (plain (drawn d)) = named_loose free (brackets (trees.draw d)) (brackets_exact (trees.draw d)) (brackets_loose (trees.draw d))
  leaf_loose free (refused k kinds.Name) = refused_loose free k (unit (trees.variable 0)) (unit_exact (trees.variable 0))
  leaf_loose free (refused k kinds.Nondet) = refused_loose free k (brackets (trees.draw 0)) (brackets_exact (trees.draw 0))
  leaf_loose free _ = (syntax, refl)

  star_loose : (f g : Bool → Grammar Expression) → ((free : Bool) → Loosens kept (f free) (g free)) → ((free : Bool) → Exact (g free)) → (free : Bool) (es : List Expression) (m : Mark) → LoosensTurn kept (star_cases f free es m) (star_cases g free es m)
  star_loose f g h e free es (plain (fixed kinds.Star)) =
      let flag : Bool = free && are_constant (parts_of es) in
      (mapped_loose kept (λ x. es ++ x ∷ []) (f flag) (g flag) (h flag), mapped_exact (λ x. es ++ x ∷ []) (g flag) (e flag))
  star_loose f g h e free es _ = tt

  pub stars_loose : (f g : Bool → Grammar Expression) → ((free : Bool) → Loosens kept (f free) (g free)) → ((free : Bool) → Exact (g free)) → (free : Bool) (es : List Expression) → Loosens kept (turns (star_cases f free) es) (turns (star_cases g free) es)
  stars_loose f g h e free es = turns_loose kept (star_cases f free) (star_cases g free) (star_loose f g h e free) es

  product_loose : (f g : Bool → Grammar Expression) → ((free : Bool) → Loosens kept (f free) (g free)) → ((free : Bool) → Exact (g free)) → (free : Bool) → Loosens kept (product_over f free) (product_over g free)
  product_loose f g h e free = then_loose kept (f free) (g free) (λ x. mapped (gathered trees.product) (turns (star_cases f free) (x ∷ []))) (λ x. mapped (gathered trees.product) (turns (star_cases g free) (x ∷ []))) (h free) (λ x. mapped_loose kept (gathered trees.product) (turns (star_cases f free) (x ∷ [])) (turns (star_cases g free) (x ∷ [])) (stars_loose f g h e free (x ∷ []))) (λ x. mapped_exact (gathered trees.product) (turns (star_cases g free) (x ∷ [])) (stars_exact g e free (x ∷ [])))

  sign_loose : (p q : Grammar Expression) → Loosens kept p q → Exact q → (es : List Expression) (m : Mark) → LoosensTurn kept (sum_cases p es m) (sum_cases q es m)
  sign_loose p q h e es (plain (fixed kinds.Plus)) = (mapped_loose kept (λ x. es ++ x ∷ []) p q h, mapped_exact (λ x. es ++ x ∷ []) q e)
  sign_loose p q h e es (plain (fixed kinds.Minus)) = (mapped_loose kept (λ x. es ++ trees.minus x ∷ []) p q h, mapped_exact (λ x. es ++ trees.minus x ∷ []) q e)
  sign_loose p q h e es _ = tt

  pub signs_loose : (p q : Grammar Expression) → Loosens kept p q → Exact q → (es : List Expression) → Loosens kept (turns (sum_cases p) es) (turns (sum_cases q) es)
  signs_loose p q h e es = turns_loose kept (sum_cases p) (sum_cases q) (sign_loose p q h e) es

  sum_loose : (p q : Grammar Expression) → Loosens kept p q → Exact q → Loosens kept (sum_over p) (sum_over q)
  sum_loose p q h e = then_loose kept p q (λ x. mapped (gathered trees.sum) (turns (sum_cases p) (x ∷ []))) (λ x. mapped (gathered trees.sum) (turns (sum_cases q) (x ∷ []))) h (λ x. mapped_loose kept (gathered trees.sum) (turns (sum_cases p) (x ∷ [])) (turns (sum_cases q) (x ∷ [])) (signs_loose p q h e (x ∷ []))) (λ x. mapped_exact (gathered trees.sum) (turns (sum_cases q) (x ∷ [])) (signs_exact q e (x ∷ [])))

  deep_loose : (free : Bool) (s f : Grammar Expression) → kept Deep ≡ false → Exact s → Exact f → (m : Mark) → LoosensBranch kept (factor_cases every free bottom m) (factor_cases kept free (deeper s f) m)
  deep_loose free s f off h i (plain (fixed kinds.LeftRound)) = (off, then_exact s closed h closed_exact)
  deep_loose free s f off h i (plain (fixed kinds.Minus)) = (off, mapped_exact trees.minus f i)
  deep_loose free s f off h i m = leaf_loose free m

  bottom_loose : (free : Bool) → kept Deep ≡ true → (m : Mark) → LoosensBranch kept (factor_cases every free bottom m) (factor_cases kept free bottom m)
  bottom_loose free on (plain (fixed kinds.LeftRound)) = (on, refl)
  bottom_loose free on (plain (fixed kinds.Minus)) = (on, refl)
  bottom_loose free on m = leaf_loose free m

  deeper_loose : (free : Bool) (s u f g : Grammar Expression) → Loosens kept s u → Loosens kept f g → (m : Mark) → LoosensBranch kept (factor_cases every free (deeper s f) m) (factor_cases kept free (deeper u g) m)
  deeper_loose free s u f g h i (plain (fixed kinds.LeftRound)) = then_loose kept s u closed closed h closed_loose closed_exact
  deeper_loose free s u f g h i (plain (fixed kinds.Minus)) = mapped_loose kept trees.minus f g i
  deeper_loose free s u f g h i m = leaf_loose free m

  zero_below : (b : Bool) → kept Deep ≡ b → (m : ℕ) → Levels b zero m → (free : Bool) (t : Mark) → LoosensBranch kept (factor_cases every free bottom t) (factor_cases kept free (below kept m free) t)
  zero_below true e zero h free t = bottom_loose free e t
  zero_below true e (suc m) h free t = absurd (omega arith)
  zero_below false e zero h free t = absurd (omega arith)
  zero_below false e (suc m) h free t = deep_loose free (sum_at kept m free) (factor_at kept m free) e (sum_exact kept m free) (factor_exact kept m free) t

  over_below : (free : Bool) (s f : Grammar Expression) (m : ℕ) → Loosens kept s (sum_at kept m free) → Loosens kept f (factor_at kept m free) → (t : Mark) → LoosensBranch kept (factor_cases every free (deeper s f) t) (factor_cases kept free (below kept (suc m) free) t)
  over_below free s f m h i t = deeper_loose free s (sum_at kept m free) f (factor_at kept m free) h i t

  at_zero : (m : ℕ) → Levels (kept Deep) zero m → (free : Bool) → Loosens kept (factor_at every zero free) (factor_at kept m free)
  unfolding factor_at
  at_zero zero h free = headed_loose kept Syntax (factor_cases every free bottom) (factor_cases kept free bottom) syntax (zero_below (kept Deep) refl zero h free)
  at_zero (suc m) h free = headed_loose kept Syntax (factor_cases every free bottom) (factor_cases kept free (below kept (suc m) free)) syntax (zero_below (kept Deep) refl (suc m) h free)

  pub factors_loose : (n m : ℕ) → Levels (kept Deep) n m → (free : Bool) → Loosens kept (factor_at every n free) (factor_at kept m free)
  unfolding factor_at
  factors_loose zero m h free = at_zero m h free
  factors_loose (suc n) zero h free = absurd (no_levels (kept Deep) n h)
  factors_loose (suc n) (suc m) h free =
      let w : Levels (kept Deep) n m = levels_less (kept Deep) n m h in
      let p : Grammar Expression = product_over (factor_at every n) free in
      let q : Grammar Expression = product_over (factor_at kept m) free in
      headed_loose kept Syntax (factor_cases every free (deeper (sum_over p) (factor_at every n free))) (factor_cases kept free (deeper (sum_over q) (factor_at kept m free))) syntax
      (over_below free (sum_over p) (factor_at every n free) m
      (sum_loose p q (product_loose (factor_at every n) (factor_at kept m) (factors_loose n m w) (factor_exact kept m) free) (product_exact kept m free))
      (factors_loose n m w free))

  pub products_loose : (n m : ℕ) → Levels (kept Deep) n m → (free : Bool) → Loosens kept (product_at every n free) (product_at kept m free)
  products_loose n m h free = product_loose (factor_at every n) (factor_at kept m) (factors_loose n m h) (factor_exact kept m) free

  pub sums_loose : (n m : ℕ) → Levels (kept Deep) n m → (free : Bool) → Loosens kept (sum_at every n free) (sum_at kept m free)
  sums_loose n m h free = sum_loose (product_at every n free) (product_at kept m free) (products_loose n m h free) (product_exact kept m free)

  -- at one factor, by the levels below
  pub below_loose : (n m : ℕ) → Levels (kept Deep) n m → (t : Mark) → LoosensBranch kept (factor_cases every true (below every n true) t) (factor_cases kept true (below kept m true) t)
  below_loose zero m h t = zero_below (kept Deep) refl m h true t
  below_loose (suc n) zero h t = absurd (no_levels (kept Deep) n h)
  below_loose (suc n) (suc m) h t =
      let w : Levels (kept Deep) n m = levels_less (kept Deep) n m h in
      over_below true (sum_at every n true) (factor_at every n true) m (sums_loose n m w true) (factors_loose n m w true) t
