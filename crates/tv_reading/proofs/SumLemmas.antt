-- Sums are read exactly, and where they go on.
use Rattle.std.proofs.Common.{◌≡◌, ℕ, zero, suc, Bool, true, false, List, [], ◌∷◌, ◌++◌, Option, Some, refl, ap, ◌∙◌, pos}
use Rattle.std.specs.Prelude.{◌&&◌, ◌||◌}
use Rattle.std.proofs.Math.Bool.{or-false}
use Rattle.tv_language.specs.declared.token.TokenKind.TheVariants as kinds
use Rattle.tv_program.specs.Trees as trees
use Rattle.tv_program.specs.Trees.{Expression}
use Rattle.tv_program.specs.Views.{parts_of}
use Rattle.tv_program.specs.Limits.{are_constant}
use Rattle.tv_language.specs.Symbols.{number, name, drawn, fixed}
use Rattle.tv_language.specs.Sums.{gathered}
use Rattle.tv_grammar.specs.Langs.{Lang, unit, then, mapped, headed, turns, OfBranch, goes_at}
use Rattle.tv_grammar.specs.Exact.{Exact, ExactBranch, Goes, BranchGoes, nowhere, Ends}
use Rattle.tv_grammar.proofs.ExactLemmas.{unit_exact, then_exact, mapped_exact, headed_exact}
use Rattle.tv_grammar.proofs.TurnLemmas.{turns_exact}
use Rattle.tv_grammar.proofs.GoesLemmas.{mapped_goes, headed_goes, then_turns_goes, goes_ends}
use Rattle.tv_reading.specs.Marks.{Kind, Syntax, Wide, NotLinear, Mark, plain, refused}
use Rattle.tv_reading.specs.SumGrammar.{Grammar, refuse_by, close_cases, open_cases, closed, brackets, named_by, refused_by, leaf_cases, Inner, bottom, deeper, factor_cases, below, star_cases, product_over, sum_cases, sum_over, factor_at, product_at, sum_at, stars, signs, sum_goes}

-- ---- brackets and leaves

close_branch : {X : Type 0} (x : X) (m : Mark) → ExactBranch (close_cases x m)
close_branch x (plain (fixed kinds.RightRound)) = unit_exact x
close_branch x _ = tt

pub closed_exact : {X : Type 0} (x : X) → Exact (closed x)
closed_exact x = headed_exact Syntax (close_cases x) (close_branch x) (plain (fixed kinds.RightRound)) tt

open_branch : {X : Type 0} (l : Grammar X) → Exact l → (m : Mark) → ExactBranch (open_cases l m)
open_branch l h (plain (fixed kinds.LeftRound)) = h
open_branch l h _ = tt

pub brackets_exact : {X : Type 0} (x : X) → Exact (brackets x)
brackets_exact x = headed_exact Syntax (open_cases (closed x)) (open_branch (closed x) (closed_exact x)) (plain (fixed kinds.LeftRound)) (closed_exact x).some

pub refuse_exact : {T X : Type 0} (b : Bool) (k : Kind) (l : Lang T Kind X) → Exact l → ExactBranch (refuse_by b k l)
refuse_exact true k l h = tt
refuse_exact false k l h = h

named_exact : (free linear : Bool) (l : Grammar Expression) → Exact l → ExactBranch (named_by free linear l)
named_exact true linear l h = h
named_exact false linear l h = refuse_exact linear NotLinear l h

refused_exact : (kept : Kind → Bool) (free : Bool) (k : Kind) (l : Grammar Expression) → Exact l → ExactBranch (refused_by kept free k l)
refused_exact kept true k l h = refuse_exact (kept k) k l h
refused_exact kept false k l h = refuse_exact (kept NotLinear) NotLinear l h

leaf_branch : (kept : Kind → Bool) (free : Bool) (m : Mark) → ExactBranch (leaf_cases kept free m)
leaf_branch kept free (plain (number k)) = unit_exact (trees.number (pos k))
leaf_branch kept free (plain (fixed kinds.Wide)) = refuse_exact (kept Wide) Wide (unit (trees.number (pos 0))) (unit_exact (trees.number (pos 0)))
leaf_branch kept free (plain (name v)) = named_exact free (kept NotLinear) (unit (trees.variable v)) (unit_exact (trees.variable v))
leaf_branch kept free (plain (drawn d)) = named_exact free (kept NotLinear) (brackets (trees.draw d)) (brackets_exact (trees.draw d))
leaf_branch kept free (refused k kinds.Name) = refused_exact kept free k (unit (trees.variable 0)) (unit_exact (trees.variable 0))
leaf_branch kept free (refused k kinds.Nondet) = refused_exact kept free k (brackets (trees.draw 0)) (brackets_exact (trees.draw 0))
leaf_branch kept free _ = tt

-- ---- factors, products and sums

abbrev pub ExactInner : Inner → Type 0
ExactInner bottom = Unit {0}
ExactInner (deeper s f) = Exact s × Exact f

factor_branch : (kept : Kind → Bool) (free : Bool) (i : Inner) → ExactInner i → (m : Mark) → ExactBranch (factor_cases kept free i m)
factor_branch kept free bottom h (plain (fixed kinds.LeftRound)) = tt
factor_branch kept free bottom h (plain (fixed kinds.Minus)) = tt
factor_branch kept free (deeper s f) h (plain (fixed kinds.LeftRound)) = then_exact s closed h.0 closed_exact
factor_branch kept free (deeper s f) h (plain (fixed kinds.Minus)) = mapped_exact trees.minus f h.1
factor_branch kept free bottom h m = leaf_branch kept free m
factor_branch kept free (deeper s f) h m = leaf_branch kept free m

one_number : (kept : Kind → Bool) (free : Bool) (i : Inner) → OfBranch (factor_cases kept free i (plain (number 0)))
one_number kept free bottom = tt
one_number kept free (deeper s f) = tt

factor_exact_over : (kept : Kind → Bool) (free : Bool) (i : Inner) → ExactInner i → Exact (headed Syntax (factor_cases kept free i))
factor_exact_over kept free i h = headed_exact Syntax (factor_cases kept free i) (factor_branch kept free i h) (plain (number 0)) (one_number kept free i)

pub star_branch : (factor : Bool → Grammar Expression) → ((free : Bool) → Exact (factor free)) → (free : Bool) (es : List Expression) (m : Mark) → ExactBranch (star_cases factor free es m)
star_branch factor h free es (plain (fixed kinds.Star)) = mapped_exact (λ e. es ++ e ∷ []) (factor (free && are_constant (parts_of es))) (h (free && are_constant (parts_of es)))
star_branch factor h free es _ = tt

pub stars_exact : (factor : Bool → Grammar Expression) → ((free : Bool) → Exact (factor free)) → (free : Bool) (es : List Expression) → Exact (turns (star_cases factor free) es)
stars_exact factor h free es = turns_exact (star_cases factor free) (star_branch factor h free) es

pub product_exact_over : (factor : Bool → Grammar Expression) → ((free : Bool) → Exact (factor free)) → (free : Bool) → Exact (product_over factor free)
product_exact_over factor h free = then_exact (factor free) (λ e. mapped (gathered trees.product) (turns (star_cases factor free) (e ∷ []))) (h free) (λ e. mapped_exact (gathered trees.product) (turns (star_cases factor free) (e ∷ [])) (stars_exact factor h free (e ∷ [])))

pub sum_branch : (p : Grammar Expression) → Exact p → (es : List Expression) (m : Mark) → ExactBranch (sum_cases p es m)
sum_branch p h es (plain (fixed kinds.Plus)) = mapped_exact (λ e. es ++ e ∷ []) p h
sum_branch p h es (plain (fixed kinds.Minus)) = mapped_exact (λ e. es ++ trees.minus e ∷ []) p h
sum_branch p h es _ = tt

pub signs_exact : (p : Grammar Expression) → Exact p → (es : List Expression) → Exact (turns (sum_cases p) es)
signs_exact p h es = turns_exact (sum_cases p) (sum_branch p h) es

pub sum_exact_over : (p : Grammar Expression) → Exact p → Exact (sum_over p)
sum_exact_over p h = then_exact p (λ e. mapped (gathered trees.sum) (turns (sum_cases p) (e ∷ []))) h (λ e. mapped_exact (gathered trees.sum) (turns (sum_cases p) (e ∷ [])) (signs_exact p h (e ∷ [])))

pub factor_exact : (kept : Kind → Bool) (n : ℕ) (free : Bool) → Exact (factor_at kept n free)
unfolding factor_at
factor_exact kept zero free = factor_exact_over kept free bottom tt
factor_exact kept (suc n) free = factor_exact_over kept free (deeper (sum_over (product_over (factor_at kept n) free)) (factor_at kept n free)) (sum_exact_over (product_over (factor_at kept n) free) (product_exact_over (factor_at kept n) (factor_exact kept n) free), factor_exact kept n free)

pub product_exact : (kept : Kind → Bool) (n : ℕ) (free : Bool) → Exact (product_at kept n free)
product_exact kept n free = product_exact_over (factor_at kept n) (factor_exact kept n) free

pub sum_exact : (kept : Kind → Bool) (n : ℕ) (free : Bool) → Exact (sum_at kept n free)
sum_exact kept n free = sum_exact_over (product_at kept n free) (product_exact kept n free)

below_exact : (kept : Kind → Bool) (n : ℕ) (free : Bool) → ExactInner (below kept n free)
below_exact kept zero free = tt
below_exact kept (suc n) free = (sum_exact kept n free, factor_exact kept n free)

pub below_branch : (kept : Kind → Bool) (n : ℕ) (free : Bool) (m : Mark) → ExactBranch (factor_cases kept free (below kept n free) m)
below_branch kept n free m = factor_branch kept free (below kept n free) (below_exact kept n free) m

-- ---- where a sum goes on

close_goes : {X : Type 0} (x : X) (m : Mark) → BranchGoes (close_cases x m) nowhere
close_goes x (plain (fixed kinds.RightRound)) d u = refl
close_goes x _ d u = absurd d

pub closed_goes : {X : Type 0} (x : X) → Goes (closed x) nowhere
closed_goes x = headed_goes Syntax (close_cases x) nowhere (close_goes x)

pub closed_head : {X : Type 0} (x : X) (d : (closed x).Of) → d.0 ≡ plain (fixed kinds.RightRound)
closed_head x d = head d.0 d.1
  where
    head : (m : Mark) → OfBranch (close_cases x m) → m ≡ plain (fixed kinds.RightRound)
    head (plain (fixed kinds.RightRound)) d = refl
    head _ d = absurd d

open_goes : {X : Type 0} (l : Grammar X) → Goes l nowhere → (m : Mark) → BranchGoes (open_cases l m) nowhere
open_goes l h (plain (fixed kinds.LeftRound)) d u = h d u
open_goes l h _ d u = absurd d

brackets_goes : {X : Type 0} (x : X) → Goes (brackets x) nowhere
brackets_goes x = headed_goes Syntax (open_cases (closed x)) nowhere (open_goes (closed x) (closed_goes x))

in_brackets_goes : (s : Grammar Expression) → Goes s sum_goes → Goes (then s closed) nowhere
in_brackets_goes s h d t = rw (closed_goes (s.value d.0) d.1 t) (h d.0 (Some d.1.0) ∙ ap (λ (m : Mark). sum_goes (Some m)) (closed_head (s.value d.0) d.1))

refuse_goes : {X : Type 0} (b : Bool) (k : Kind) (l : Grammar X) → Goes l nowhere → BranchGoes (refuse_by b k l) nowhere
refuse_goes true k l h d t = absurd d
refuse_goes false k l h d t = h d t

named_goes : (free linear : Bool) (l : Grammar Expression) → Goes l nowhere → BranchGoes (named_by free linear l) nowhere
named_goes true linear l h d t = h d t
named_goes false linear l h d t = refuse_goes linear NotLinear l h d t

refused_goes : (kept : Kind → Bool) (free : Bool) (k : Kind) (l : Grammar Expression) → Goes l nowhere → BranchGoes (refused_by kept free k l) nowhere
refused_goes kept true k l h d t = refuse_goes (kept k) k l h d t
refused_goes kept false k l h d t = refuse_goes (kept NotLinear) NotLinear l h d t

leaf_goes : (kept : Kind → Bool) (free : Bool) (m : Mark) → BranchGoes (leaf_cases kept free m) nowhere
leaf_goes kept free (plain (number k)) d t = refl
leaf_goes kept free (plain (fixed kinds.Wide)) d t = refuse_goes (kept Wide) Wide (unit (trees.number (pos 0))) (λ d t. refl) d t
leaf_goes kept free (plain (name v)) d t = named_goes free (kept NotLinear) (unit (trees.variable v)) (λ d t. refl) d t
leaf_goes kept free (plain (drawn n)) d t = named_goes free (kept NotLinear) (brackets (trees.draw n)) (brackets_goes (trees.draw n)) d t
leaf_goes kept free (refused k kinds.Name) d t = refused_goes kept free k (unit (trees.variable 0)) (λ d t. refl) d t
leaf_goes kept free (refused k kinds.Nondet) d t = refused_goes kept free k (brackets (trees.draw 0)) (brackets_goes (trees.draw 0)) d t
leaf_goes kept free _ d t = absurd d

abbrev GoesInner : Inner → Type 0
GoesInner bottom = Unit {0}
GoesInner (deeper s f) = Goes s sum_goes × Goes f nowhere

factor_goes_over : (kept : Kind → Bool) (free : Bool) (i : Inner) → GoesInner i → (m : Mark) → BranchGoes (factor_cases kept free i m) nowhere
factor_goes_over kept free bottom h (plain (fixed kinds.LeftRound)) d t = absurd d
factor_goes_over kept free bottom h (plain (fixed kinds.Minus)) d t = absurd d
factor_goes_over kept free (deeper s f) h (plain (fixed kinds.LeftRound)) d t = in_brackets_goes s h.0 d t
factor_goes_over kept free (deeper s f) h (plain (fixed kinds.Minus)) d t = mapped_goes trees.minus f nowhere h.1 d t
factor_goes_over kept free bottom h m d t = leaf_goes kept free m d t
factor_goes_over kept free (deeper s f) h m d t = leaf_goes kept free m d t

pub star_is : (factor : Bool → Grammar Expression) (free : Bool) (es : List Expression) (t : Option Mark) → goes_at (star_cases factor free es) t ≡ stars t
star_is factor free es (Some (plain (fixed kinds.Star))) = refl
star_is factor free es _ = refl

pub star_goes : (factor : Bool → Grammar Expression) → ((free : Bool) → Goes (factor free) nowhere) → (free : Bool) (es : List Expression) (m : Mark) → BranchGoes (star_cases factor free es m) nowhere
star_goes factor h free es (plain (fixed kinds.Star)) d u = mapped_goes (λ e. es ++ e ∷ []) (factor (free && are_constant (parts_of es))) nowhere (h (free && are_constant (parts_of es))) d u
star_goes factor h free es _ d u = absurd d

pub sum_is : (p : Grammar Expression) (es : List Expression) (t : Option Mark) → goes_at (sum_cases p es) t ≡ signs t
sum_is p es (Some (plain (fixed kinds.Plus))) = refl
sum_is p es (Some (plain (fixed kinds.Minus))) = refl
sum_is p es _ = refl

pub part_goes : (p : Grammar Expression) → Goes p stars → (es : List Expression) (m : Mark) → BranchGoes (sum_cases p es m) stars
part_goes p h es (plain (fixed kinds.Plus)) d u = mapped_goes (λ e. es ++ e ∷ []) p stars h d u
part_goes p h es (plain (fixed kinds.Minus)) d u = mapped_goes (λ e. es ++ trees.minus e ∷ []) p stars h d u
part_goes p h es _ d u = absurd d

apart : (m : Mark) → signs (Some m) ≡ true → stars (Some m) ≡ false
apart (plain (fixed kinds.Plus)) e = refl
apart (plain (fixed kinds.Minus)) e = refl
apart (plain (fixed kinds.Star)) e = absurd cc
apart _ e = refl

either : (t : Option Mark) → (signs t || stars t) ≡ sum_goes t
either (Some (plain (fixed kinds.Plus))) = refl
either (Some (plain (fixed kinds.Minus))) = refl
either (Some (plain (fixed kinds.Star))) = refl
either _ = refl

pub product_goes_over : (factor : Bool → Grammar Expression) → ((free : Bool) → Goes (factor free) nowhere) → (free : Bool) → Goes (product_over factor free) stars
product_goes_over factor h free d u = then_turns_goes (star_cases factor free) stars nowhere (star_is factor free) (star_goes factor h free) (λ t e. refl) (factor free) (λ e. e ∷ []) (gathered trees.product) (h free) d u ∙ or-false (stars u)

pub sum_goes_over : (p : Grammar Expression) → Goes p stars → Goes (sum_over p) sum_goes
sum_goes_over p h d u = then_turns_goes (sum_cases p) signs stars (sum_is p) (part_goes p h) apart p (λ e. e ∷ []) (gathered trees.sum) h d u ∙ either u

pub factor_goes_on : (kept : Kind → Bool) (n : ℕ) (free : Bool) → Goes (factor_at kept n free) nowhere
unfolding factor_at
factor_goes_on kept zero free = headed_goes Syntax (factor_cases kept free bottom) nowhere (factor_goes_over kept free bottom tt)
factor_goes_on kept (suc n) free = headed_goes Syntax (factor_cases kept free (deeper (sum_over (product_over (factor_at kept n) free)) (factor_at kept n free))) nowhere (factor_goes_over kept free (deeper (sum_over (product_over (factor_at kept n) free)) (factor_at kept n free)) (sum_goes_over (product_over (factor_at kept n) free) (product_goes_over (factor_at kept n) (factor_goes_on kept n) free), factor_goes_on kept n free))

pub product_goes_on : (kept : Kind → Bool) (n : ℕ) (free : Bool) → Goes (product_at kept n free) stars
product_goes_on kept n free = product_goes_over (factor_at kept n) (factor_goes_on kept n) free

pub sum_goes_on : (kept : Kind → Bool) (n : ℕ) (free : Bool) → Goes (sum_at kept n free) sum_goes
sum_goes_on kept n free = sum_goes_over (product_at kept n free) (product_goes_on kept n free)

pub sum_ends : (kept : Kind → Bool) (n : ℕ) (free : Bool) → Ends (sum_at kept n free)
sum_ends kept n free = goes_ends (sum_at kept n free) sum_goes (sum_goes_on kept n free) refl

goes_below : (kept : Kind → Bool) (n : ℕ) (free : Bool) → GoesInner (below kept n free)
goes_below kept zero free = tt
goes_below kept (suc n) free = (sum_goes_on kept n free, factor_goes_on kept n free)

pub below_goes : (kept : Kind → Bool) (n : ℕ) (free : Bool) (m : Mark) → BranchGoes (factor_cases kept free (below kept n free) m) nowhere
below_goes kept n free m = factor_goes_over kept free (below kept n free) (goes_below kept n free) m
