-- Where a condition goes on.
use Rattle.std.proofs.Common.{◌≡◌, ℕ, zero, suc, Bool, true, false, List, [], ◌∷◌, Option, Some, None, refl, ap, ◌∙◌}
use Rattle.tv_language.specs.declared.token.TokenKind.{TokenKind}
use Rattle.tv_language.specs.declared.token.TokenKind.TheVariants as kinds
use Rattle.tv_program.specs.declared.tree.Relation.{Relation}
use Rattle.tv_program.specs.Trees as trees
use Rattle.tv_program.specs.Trees.{Expression, Condition}
use Rattle.tv_language.specs.Symbols.{fixed}
use Rattle.tv_language.specs.Sums.{gathered}
use Rattle.tv_language.specs.Conditions.{relation_of}
use Rattle.tv_grammar.specs.Reads.{first_or}
use Rattle.tv_grammar.specs.Langs.{then, mapped, stop, go, turns, OfBranch, turns_text, goes_at}
use Rattle.tv_grammar.specs.Exact.{BranchGoes, nowhere, Outside, Ends}
use Rattle.tv_grammar.proofs.GoesLemmas.{turns_goes}
use Rattle.tv_grammar.proofs.OutsideLemmas.{BranchOutside, outside_ends, mapped_outside, headed_outside, then_outside, turns_first, turns_outside}
use Rattle.tv_grammar.proofs.NarrowLemmas.{narrowed_outside}
use Rattle.tv_reading.specs.Marks.{Kind, Syntax, Mark, plain}
use Rattle.tv_reading.specs.SumGrammar.{Grammar, Behind, closed, factor_cases, below, star_cases, sum_cases, factor_at, product_at, sum_at, stars, signs, sum_goes}
use Rattle.tv_reading.specs.ConditionGrammar.{Thing, value, tested, relation_by, compared, relation_cases, tail, opened, as_test, literal_over, is_and, is_or, more_by, more_cases, conjunction_from, conjunction_over, condition_from, condition_over, continued, after_factor, Under, ground, level, plain_cases, in_brackets, thing_cases, thing_at, plain_at, literal_at, condition_at}
use Rattle.tv_reading.proofs.SumLemmas.{closed_goes, closed_head, star_is, star_goes, sum_is, part_goes, factor_goes_on, product_goes_on, sum_goes_on, below_goes}

-- the tokens at which a thing, a conjunction and a condition may go on
abbrev goes_kind : TokenKind → Bool
goes_kind kinds.Star = true
goes_kind kinds.Plus = true
goes_kind kinds.Minus = true
goes_kind kinds.Less = true
goes_kind kinds.LessEqual = true
goes_kind kinds.Greater = true
goes_kind kinds.GreaterEqual = true
goes_kind kinds.Equal = true
goes_kind kinds.NotEqual = true
goes_kind _ = false

abbrev and_kind : TokenKind → Bool
and_kind kinds.And = true
and_kind kind = goes_kind kind

abbrev or_kind : TokenKind → Bool
or_kind kinds.Or = true
or_kind kind = and_kind kind

abbrev of_kind : (TokenKind → Bool) → Option Mark → Bool
of_kind f (Some (plain (fixed kind))) = f kind
of_kind f _ = false

abbrev thing_goes : Option Mark → Bool
thing_goes = of_kind goes_kind

abbrev and_goes : Option Mark → Bool
and_goes = of_kind and_kind

abbrev or_goes : Option Mark → Bool
or_goes = of_kind or_kind

-- ---- how these sets lie

not_sum : (t : Option Mark) → thing_goes t ≡ false → sum_goes t ≡ false
not_sum (Some (plain (fixed kinds.Star))) e = absurd cc
not_sum (Some (plain (fixed kinds.Plus))) e = absurd cc
not_sum (Some (plain (fixed kinds.Minus))) e = absurd cc
not_sum _ e = refl

not_star : (t : Option Mark) → sum_goes t ≡ false → stars t ≡ false
not_star (Some (plain (fixed kinds.Star))) e = absurd cc
not_star _ e = refl

not_sign : (t : Option Mark) → sum_goes t ≡ false → signs t ≡ false
not_sign (Some (plain (fixed kinds.Plus))) e = absurd cc
not_sign (Some (plain (fixed kinds.Minus))) e = absurd cc
not_sign _ e = refl

kind_and : (kind : TokenKind) → and_kind kind ≡ false → goes_kind kind ≡ false
kind_and kinds.And e = refl
kind_and kind e = e

not_thing : (t : Option Mark) → and_goes t ≡ false → thing_goes t ≡ false
not_thing (Some (plain (fixed kind))) e = kind_and kind e
not_thing _ e = refl

kind_or : (kind : TokenKind) → or_kind kind ≡ false → and_kind kind ≡ false
kind_or kinds.Or e = refl
kind_or kind e = e

not_and : (t : Option Mark) → or_goes t ≡ false → and_goes t ≡ false
not_and (Some (plain (fixed kind))) e = kind_or kind e
not_and _ e = refl

-- ---- after a factor

sign_split : (p : Grammar Expression) (es : List Expression) (m : Mark) → OfBranch (sum_cases p es m) → stars (Some m) ≡ false
sign_split p es (plain (fixed kinds.Plus)) d = refl
sign_split p es (plain (fixed kinds.Minus)) d = refl
sign_split p es _ d = absurd d

relation_starts : (sum : Grammar Expression) (x : Thing) (t : Option Mark) → thing_goes t ≡ false → goes_at (relation_cases sum x) t ≡ false
relation_starts sum x None e = refl
relation_starts sum (tested c) (Some m) e = refl
relation_starts sum (value a) (Some (plain (fixed kinds.Less))) e = absurd cc
relation_starts sum (value a) (Some (plain (fixed kinds.LessEqual))) e = absurd cc
relation_starts sum (value a) (Some (plain (fixed kinds.Greater))) e = absurd cc
relation_starts sum (value a) (Some (plain (fixed kinds.GreaterEqual))) e = absurd cc
relation_starts sum (value a) (Some (plain (fixed kinds.Equal))) e = absurd cc
relation_starts sum (value a) (Some (plain (fixed kinds.NotEqual))) e = absurd cc
relation_starts sum (value a) (Some _) e = refl

related_outside : (o : Option Relation) (a : Expression) (sum : Grammar Expression) → Outside sum sum_goes → BranchOutside (relation_by o (compared a) sum) sum_goes
related_outside None a sum h d t e = absurd d
related_outside (Some r) a sum h d t e = h d.0 t e

relation_items : (sum : Grammar Expression) → Outside sum sum_goes → (x : Thing) (m : Mark) → BranchOutside (relation_cases sum x m) sum_goes
relation_items sum h (value a) (plain (fixed kind)) d t e = related_outside (relation_of kind) a sum h d t e
relation_items sum h (value a) _ d t e = absurd d
relation_items sum h (tested c) m d t e = absurd d

relation_split : (sum : Grammar Expression) (x : Thing) (m : Mark) → OfBranch (relation_cases sum x m) → sum_goes (Some m) ≡ false
relation_split sum (tested c) m d = absurd d
relation_split sum (value a) (plain (fixed kinds.Star)) d = absurd d
relation_split sum (value a) (plain (fixed kinds.Plus)) d = absurd d
relation_split sum (value a) (plain (fixed kinds.Minus)) d = absurd d
relation_split sum (value a) _ d = refl

module _ (kept : Kind → Bool) (n : ℕ) where
  sum_outside : Outside (sum_at kept n true) sum_goes
  sum_outside d t e = sum_goes_on kept n true d t ∙ e

  starred : (f : Expression) → Outside (mapped (gathered trees.product) (turns (star_cases (factor_at kept n) true) (f ∷ []))) stars
  starred f d t e = turns_goes (star_cases (factor_at kept n) true) stars (star_is (factor_at kept n) true) (star_goes (factor_at kept n) (factor_goes_on kept n) true) (f ∷ []) d.0 t ∙ e

  signed : (p : Expression) → Outside (mapped (gathered trees.sum) (turns (sum_cases (product_at kept n true)) (p ∷ []))) sum_goes
  signed p d t e = turns_outside (sum_cases (product_at kept n true)) stars (sign_split (product_at kept n true)) sum_goes
      (λ es t e. sum_is (product_at kept n true) es t ∙ not_sign t e)
      (λ es m d t e. part_goes (product_at kept n true) (product_goes_on kept n true) es m d t ∙ e)
      not_star (p ∷ []) d.0 t e

  relations_outside : (x : Thing) → Outside (turns (relation_cases (sum_at kept n true)) x) thing_goes
  relations_outside x = turns_outside (relation_cases (sum_at kept n true)) sum_goes (relation_split (sum_at kept n true)) thing_goes (relation_starts (sum_at kept n true)) (relation_items (sum_at kept n true) sum_outside) not_sum x

  summed_outside : (p : Expression) → Outside (then (mapped (gathered trees.sum) (turns (sum_cases (product_at kept n true)) (p ∷ []))) (λ s. turns (relation_cases (sum_at kept n true)) (value s))) thing_goes
  summed_outside p = then_outside (mapped (gathered trees.sum) (turns (sum_cases (product_at kept n true)) (p ∷ []))) (λ s. turns (relation_cases (sum_at kept n true)) (value s)) sum_goes thing_goes (signed p) (λ s. relations_outside (value s))
      (λ s d t e. turns_first (relation_cases (sum_at kept n true)) sum_goes (relation_split (sum_at kept n true)) (value s) d [] t (not_sum t e))

  pub tail_outside : (f : Expression) → Outside (tail kept n f) thing_goes
  tail_outside f = then_outside (mapped (gathered trees.product) (turns (star_cases (factor_at kept n) true) (f ∷ []))) (λ p. then (mapped (gathered trees.sum) (turns (sum_cases (product_at kept n true)) (p ∷ []))) (λ s. turns (relation_cases (sum_at kept n true)) (value s))) stars thing_goes (starred f) summed_outside
      (λ p d t e. turns_first (sum_cases (product_at kept n true)) stars (sign_split (product_at kept n true)) (p ∷ []) d.0.0 (turns_text (relation_cases (sum_at kept n true)) (value ((mapped (gathered trees.sum) (turns (sum_cases (product_at kept n true)) (p ∷ []))).value d.0)) d.1 []) t
      (turns_first (relation_cases (sum_at kept n true)) stars (λ x m i. not_star (Some m) (relation_split (sum_at kept n true) x m i)) (value ((mapped (gathered trees.sum) (turns (sum_cases (product_at kept n true)) (p ∷ []))).value d.0)) d.1 [] t (not_star t (not_sum t e))))

  opened_outside : (x : Thing) → Outside (opened kept n x) thing_goes
  opened_outside (tested c) d t e = refl
  opened_outside (value a) d t e = tail_outside a d t e

-- ---- joined by "&&" or "||"

and_starts : (item : Grammar Condition) (cs : List Condition) (t : Option Mark) → and_goes t ≡ false → goes_at (more_cases is_and item cs) t ≡ false
and_starts item cs None e = refl
and_starts item cs (Some (plain (fixed kinds.And))) e = absurd cc
and_starts item cs (Some _) e = refl

or_starts : (item : Grammar Condition) (cs : List Condition) (t : Option Mark) → or_goes t ≡ false → goes_at (more_cases is_or item cs) t ≡ false
or_starts item cs None e = refl
or_starts item cs (Some (plain (fixed kinds.Or))) e = absurd cc
or_starts item cs (Some _) e = refl

more_outside : (b : Bool) (item : Grammar Condition) (g : Option Mark → Bool) → Outside item g → (cs : List Condition) → BranchOutside (more_by b item cs) g
more_outside false item g h cs d t e = absurd d
more_outside true item g h cs d t e = h d.0 t e

more_items : (joins : TokenKind → Bool) (item : Grammar Condition) (g : Option Mark → Bool) → Outside item g → (cs : List Condition) (m : Mark) → BranchOutside (more_cases joins item cs m) g
more_items joins item g h cs (plain (fixed kind)) d t e = more_outside (joins kind) item g h cs d t e
more_items joins item g h cs _ d t e = absurd d

and_split : (item : Grammar Condition) (cs : List Condition) (m : Mark) → OfBranch (more_cases is_and item cs m) → thing_goes (Some m) ≡ false
and_split item cs (plain (fixed kinds.And)) d = refl
and_split item cs _ d = absurd d

or_split : (item : Grammar Condition) (cs : List Condition) (m : Mark) → OfBranch (more_cases is_or item cs m) → and_goes (Some m) ≡ false
or_split item cs (plain (fixed kinds.Or)) d = refl
or_split item cs _ d = absurd d

module _ (literal : Grammar Condition) (h : Outside literal thing_goes) where
  conjunction_from_outside : (c : Condition) → Outside (conjunction_from literal c) and_goes
  conjunction_from_outside c d t e = turns_outside (more_cases is_and literal) thing_goes (and_split literal) and_goes (and_starts literal) (more_items is_and literal thing_goes h) not_thing (c ∷ []) d.0 t e

  conjunction_outside : Outside (conjunction_over literal) and_goes
  conjunction_outside = then_outside literal (conjunction_from literal) thing_goes and_goes h conjunction_from_outside (λ c d t e. turns_first (more_cases is_and literal) thing_goes (and_split literal) (c ∷ []) d.0 [] t (not_thing t e))

  condition_from_outside : (c : Condition) → Outside (condition_from (conjunction_over literal) c) or_goes
  condition_from_outside c d t e = turns_outside (more_cases is_or (conjunction_over literal)) and_goes (or_split (conjunction_over literal)) or_goes (or_starts (conjunction_over literal)) (more_items is_or (conjunction_over literal) and_goes conjunction_outside) not_and (c ∷ []) d.0 t e

  condition_outside : Outside (condition_over literal) or_goes
  condition_outside = then_outside (conjunction_over literal) (condition_from (conjunction_over literal)) and_goes or_goes conjunction_outside condition_from_outside (λ c d t e. turns_first (more_cases is_or (conjunction_over literal)) and_goes (or_split (conjunction_over literal)) (c ∷ []) d.0 [] t (not_and t e))

  continued_outside : (x : Thing) → Outside (continued literal x) or_goes
  continued_outside (value a) d t e = refl
  continued_outside (tested c) d t e = then_outside (conjunction_from literal c) (λ x. mapped tested (condition_from (conjunction_over literal) x)) and_goes or_goes (conjunction_from_outside c) (λ x. mapped_outside tested (condition_from (conjunction_over literal) x) or_goes (condition_from_outside x)) (λ x d t e. turns_first (more_cases is_or (conjunction_over literal)) and_goes (or_split (conjunction_over literal)) (x ∷ []) d.0.0 [] t (not_and t e)) d t e

  continued_first : (x : Thing) (d : (continued literal x).Of) (r : List Mark) (u : Option Mark) → and_goes (first_or r u) ≡ false → thing_goes (first_or ((continued literal x).text d r) u) ≡ false
  continued_first (value a) d r u e = not_thing (first_or r u) e
  continued_first (tested c) d r u e =
      let x : Condition = (conjunction_from literal c).value d.0 in
      let w : and_goes (first_or (turns_text (more_cases is_or (conjunction_over literal)) (x ∷ []) d.1.0.0 r) u) ≡ false = turns_first (more_cases is_or (conjunction_over literal)) and_goes (or_split (conjunction_over literal)) (x ∷ []) d.1.0.0 r u e in
      turns_first (more_cases is_and literal) thing_goes (and_split literal) (c ∷ []) d.0.0 (turns_text (more_cases is_or (conjunction_over literal)) (x ∷ []) d.1.0.0 r) u (not_thing (first_or (turns_text (more_cases is_or (conjunction_over literal)) (x ∷ []) d.1.0.0 r) u) w)

-- ---- by levels

closed_first : {X : Type 0} (g : Option Mark → Bool) → g (Some (plain (fixed kinds.RightRound))) ≡ false → (x : X) (d : (closed x).Of) → g (Some d.0) ≡ false
closed_first g e x d = ap (λ (m : Mark). g (Some m)) (closed_head x d) ∙ e

brackets_outside : (kept : Kind → Bool) (n : ℕ) (thing : Grammar Thing) → Outside thing thing_goes → Outside (in_brackets kept n thing) thing_goes
brackets_outside kept n thing h =
    let literal : Grammar Condition = literal_over thing in
    let lh : Outside literal thing_goes = narrowed_outside Syntax as_test thing thing_goes h in
    then_outside thing (λ x. then (continued literal x) (λ y. then (closed y) (opened kept n))) thing_goes thing_goes h
    (λ x. then_outside (continued literal x) (λ y. then (closed y) (opened kept n)) or_goes thing_goes (continued_outside literal lh x)
    (λ y. then_outside (closed y) (opened kept n) nowhere thing_goes (λ d t e. closed_goes y d t) (opened_outside kept n) (λ z d t e. refl))
    (λ y d t e. closed_first or_goes refl y d.0))
    (λ x d t e. continued_first literal lh x d.0 ((then (closed ((continued literal x).value d.0)) (opened kept n)).text d.1 []) t (closed_first and_goes refl ((continued literal x).value d.0) d.1.0))

after_outside : (kept : Kind → Bool) (n : ℕ) (b : Behind Expression) → BranchGoes b nowhere → BranchOutside (after_factor kept n b) thing_goes
after_outside kept n (stop k) h d t e = absurd d
after_outside kept n (go l) h d t e = then_outside l (tail kept n) nowhere thing_goes (λ d t e. h d t) (tail_outside kept n) (λ x d t e. refl) d t e

abbrev OutsideUnder : Under → Type 0
OutsideUnder ground = Unit {0}
OutsideUnder (level thing plainly) = Outside thing thing_goes × Outside plainly nowhere

plain_outside : (u : Under) → OutsideUnder u → (m : Mark) → BranchOutside (plain_cases u m) nowhere
plain_outside ground h (plain (fixed kinds.Not)) d t e = absurd d
plain_outside ground h (plain (fixed kinds.LeftRound)) d t e = absurd d
plain_outside (level thing plainly) h (plain (fixed kinds.Not)) d t e = h.1 d.0 t e
plain_outside (level thing plainly) h (plain (fixed kinds.LeftRound)) d t e =
    then_outside (condition_over (literal_over thing)) closed or_goes nowhere (condition_outside (literal_over thing) (narrowed_outside Syntax as_test thing thing_goes h.0)) (λ c d t e. closed_goes c d t) (λ c d t e. closed_first or_goes refl c d) d t e
plain_outside ground h (plain (fixed kinds.True)) d t e = refl
plain_outside ground h (plain (fixed kinds.False)) d t e = refl
plain_outside (level thing plainly) h (plain (fixed kinds.True)) d t e = refl
plain_outside (level thing plainly) h (plain (fixed kinds.False)) d t e = refl
plain_outside ground h _ d t e = absurd d
plain_outside (level thing plainly) h _ d t e = absurd d

thing_outside : (kept : Kind → Bool) (n : ℕ) (u : Under) → OutsideUnder u → (m : Mark) → BranchOutside (thing_cases kept n u m) thing_goes
thing_outside kept n ground h (plain (fixed kinds.Not)) d t e = absurd d
thing_outside kept n ground h (plain (fixed kinds.LeftRound)) d t e = absurd d
thing_outside kept n (level thing plainly) h (plain (fixed kinds.Not)) d t e = h.1 d.0 t refl
thing_outside kept n (level thing plainly) h (plain (fixed kinds.LeftRound)) d t e = brackets_outside kept n thing h.0 d t e
thing_outside kept n ground h (plain (fixed kinds.True)) d t e = refl
thing_outside kept n ground h (plain (fixed kinds.False)) d t e = refl
thing_outside kept n (level thing plainly) h (plain (fixed kinds.True)) d t e = refl
thing_outside kept n (level thing plainly) h (plain (fixed kinds.False)) d t e = refl
thing_outside kept n ground h m d t e = after_outside kept n (factor_cases kept true (below kept n true) m) (below_goes kept n true m) d t e
thing_outside kept n (level thing plainly) h m d t e = after_outside kept n (factor_cases kept true (below kept n true) m) (below_goes kept n true m) d t e

mutual
  unfolding thing_at plain_at

  things_outside : (kept : Kind → Bool) (n : ℕ) → Outside (thing_at kept n) thing_goes
  things_outside kept zero = headed_outside Syntax (thing_cases kept zero ground) thing_goes (thing_outside kept zero ground tt)
  things_outside kept (suc n) = headed_outside Syntax (thing_cases kept (suc n) (level (thing_at kept n) (plain_at kept n))) thing_goes (thing_outside kept (suc n) (level (thing_at kept n) (plain_at kept n)) (things_outside kept n, plains_outside kept n))

  plains_outside : (kept : Kind → Bool) (n : ℕ) → Outside (plain_at kept n) nowhere
  plains_outside kept zero = headed_outside Syntax (plain_cases ground) nowhere (plain_outside ground tt)
  plains_outside kept (suc n) = headed_outside Syntax (plain_cases (level (thing_at kept n) (plain_at kept n))) nowhere (plain_outside (level (thing_at kept n) (plain_at kept n)) (things_outside kept n, plains_outside kept n))

pub condition_ends : (kept : Kind → Bool) (n : ℕ) → Ends (condition_at kept n)
condition_ends kept n = outside_ends (condition_at kept n) or_goes (condition_outside (literal_at kept n) (narrowed_outside Syntax as_test (thing_at kept n) thing_goes (things_outside kept n))) refl

-- a condition does not go on at the end of a text, nor at a ")"
pub condition_stops : (kept : Kind → Bool) (n : ℕ) (d : (condition_at kept n).Of) → (condition_at kept n).goes_on d (Some (plain (fixed kinds.End))) ≡ false
condition_stops kept n d = condition_outside (literal_at kept n) (narrowed_outside Syntax as_test (thing_at kept n) thing_goes (things_outside kept n)) d (Some (plain (fixed kinds.End))) refl

pub condition_closes : (kept : Kind → Bool) (n : ℕ) (d : (condition_at kept n).Of) → (condition_at kept n).goes_on d (Some (plain (fixed kinds.RightRound))) ≡ false
condition_closes kept n d = condition_outside (literal_at kept n) (narrowed_outside Syntax as_test (thing_at kept n) thing_goes (things_outside kept n)) d (Some (plain (fixed kinds.RightRound))) refl
