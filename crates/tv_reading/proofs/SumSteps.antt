-- What one step of the code that reads sums does.
use Rattle.std.proofs.Common.{◌≡◌, ℕ, zero, suc, Bool, false, List, [], ◌∷◌, drop, Option, Some, None, Result, Ok, refl, sym, ap, subst, ◌∙◌, arith}
use Rattle.tv_language.specs.declared.token.TokenKind.{TokenKind}
use Rattle.tv_language.specs.declared.token.TokenKind.TheVariants as kinds
use Rattle.tv_program.specs.Trees as trees
use Rattle.tv_program.specs.Trees.{Expression}
use Rattle.tv_language.specs.Symbols.{number, name, label, drawn, fixed}
use Rattle.tv_language.specs.Sums.{gathered}
use Rattle.tv_grammar.specs.Reads.{Fault, ◌>>=◌, fault, next}
use Rattle.tv_grammar.specs.Langs.{unit, branch_read, headed_read, goes_at, then, mapped, turns}
use Rattle.tv_grammar.proofs.TurningLemmas.{loop_ends}
use Rattle.tv_reading.specs.Marks as marks
use Rattle.tv_reading.specs.Marks.{Kind, Mark, plain, refused}
use Rattle.tv_reading.specs.SumGrammar.{Grammar, Behind, every, closed, leaf_cases, factor_cases, below, star_cases, sum_cases, factor_at, product_at, sum_at}
use Rattle.tv_reading.specs.Views.{kind_at}
use Rattle.tv_reading.proofs.SumLemmas.{star_branch, sum_branch, factor_exact, product_exact}

-- at a mark, and at the end
pub at_mark : {X : Type 0} (cases : Mark → Behind X) (ts : List Mark) (m : Mark) → Some m ≡ next ts → headed_read marks.Syntax cases ts ≡ branch_read (cases m) ts (drop 1 ts)
at_mark cases [] m e = absurd cc
at_mark cases (t ∷ ts) m e = let is : m ≡ t = cc in ap (λ (u : Mark). branch_read (cases u) (t ∷ ts) ts) (sym is)

pub at_none : {X : Type 0} (cases : Mark → Behind X) (ts : List Mark) → None ≡ next ts → headed_read marks.Syntax cases ts ≡ fault marks.Syntax ts
at_none cases [] e = refl
at_none cases (t ∷ ts) e = absurd cc

factor_read : (n : ℕ) (free : Bool) (ts : List Mark) → (factor_at every n free).read ts ≡ headed_read marks.Syntax (factor_cases every free (below every n free)) ts
unfolding factor_at
factor_read zero free ts = refl
factor_read (suc n) free ts = refl

pub factor_mark : (n : ℕ) (free : Bool) (ts : List Mark) (m : Mark) → Some m ≡ next ts → (factor_at every n free).read ts ≡ branch_read (factor_cases every free (below every n free) m) ts (drop 1 ts)
factor_mark n free ts m e = factor_read n free ts ∙ at_mark (factor_cases every free (below every n free)) ts m e

pub deep_left : (n : ℕ) (free : Bool) (ts : List Mark) → n ≡ 0 → Some (plain (fixed kinds.LeftRound)) ≡ next ts → (factor_at every n free).read ts ≡ fault marks.Deep ts
deep_left zero free ts e b = factor_mark zero free ts (plain (fixed kinds.LeftRound)) b
deep_left (suc n) free ts e b = absurd (omega arith)

pub deep_minus : (n : ℕ) (free : Bool) (ts : List Mark) → n ≡ 0 → Some (plain (fixed kinds.Minus)) ≡ next ts → (factor_at every n free).read ts ≡ fault marks.Deep ts
deep_minus zero free ts e b = factor_mark zero free ts (plain (fixed kinds.Minus)) b
deep_minus (suc n) free ts e b = absurd (omega arith)

pub left_read : (n m : ℕ) (free : Bool) (ts us : List Mark) → n ≡ suc m → Some (plain (fixed kinds.LeftRound)) ≡ next ts → us ≡ drop 1 ts → (factor_at every n free).read ts ≡ (then (sum_at every m free) closed).read us
left_read n m free ts us is b e = subst (λ (k : ℕ). (factor_at every k free).read ts ≡ (then (sum_at every m free) closed).read us) (sym is) (factor_mark (suc m) free ts (plain (fixed kinds.LeftRound)) b ∙ ap (then (sum_at every m free) closed).read (sym e))

pub minus_read : (n m : ℕ) (free : Bool) (ts us : List Mark) → n ≡ suc m → Some (plain (fixed kinds.Minus)) ≡ next ts → us ≡ drop 1 ts → (factor_at every n free).read ts ≡ (mapped trees.minus (factor_at every m free)).read us
minus_read n m free ts us is b e = subst (λ (k : ℕ). (factor_at every k free).read ts ≡ (mapped trees.minus (factor_at every m free)).read us) (sym is) (factor_mark (suc m) free ts (plain (fixed kinds.Minus)) b ∙ ap (mapped trees.minus (factor_at every m free)).read (sym e))

pub none_read : (n : ℕ) (free : Bool) (ts : List Mark) → None ≡ next ts → (factor_at every n free).read ts ≡ fault marks.Syntax ts
none_read n free ts e = factor_read n free ts ∙ at_none (factor_cases every free (below every n free)) ts e

leaf_at : (n : ℕ) (free : Bool) (m : Mark) → (kind_at (Some m) ≡ kinds.LeftRound → ⊥) → (kind_at (Some m) ≡ kinds.Minus → ⊥) → factor_cases every free (below every n free) m ≡ leaf_cases every free m
leaf_at n free (plain (fixed kinds.LeftRound)) l m = absurd (l refl)
leaf_at n free (plain (fixed kinds.Minus)) l m = absurd (m refl)
leaf_at zero free p l m = refl
leaf_at (suc n) free p l m = refl

pub leaf_read : (n : ℕ) (free : Bool) (ts : List Mark) (p : Mark) (k : TokenKind) → Some p ≡ next ts → k ≡ kind_at (Some p) → (k ≡ kinds.LeftRound → ⊥) → (k ≡ kinds.Minus → ⊥) → (factor_at every n free).read ts ≡ branch_read (leaf_cases every free p) ts (drop 1 ts)
leaf_read n free ts p k b is l m = factor_mark n free ts p b ∙ ap (λ (c : Behind Expression). branch_read c ts (drop 1 ts)) (leaf_at n free p (λ w. l (is ∙ w)) (λ w. m (is ∙ w)))

-- the mark of a kind that stands in the grammar
pub kind_is : (o : Option Mark) (k : TokenKind) → k ≡ kind_at o → (k ≡ kinds.Unread → ⊥) → Some (plain (fixed k)) ≡ o
kind_is None k e n = absurd (n e)
kind_is (Some (plain (fixed j))) k e n = ap (λ (i : TokenKind). Some (plain (fixed i))) e
kind_is (Some (plain (number v))) k e n = absurd (n e)
kind_is (Some (plain (name v))) k e n = absurd (n e)
kind_is (Some (plain (label v))) k e n = absurd (n e)
kind_is (Some (plain (drawn v))) k e n = absurd (n e)
kind_is (Some (refused j kind)) k e n = absurd (n e)

-- ---- a factor and a product with nothing after them

no_star : (factor : Bool → Grammar Expression) (free : Bool) (es : List Expression) (o : Option Mark) → (kind_at o ≡ kinds.Star → ⊥) → goes_at (star_cases factor free es) o ≡ false
no_star factor free es None s = refl
no_star factor free es (Some (plain (fixed kinds.Star))) s = absurd (s refl)
no_star factor free es (Some m) s = refl

no_sign : (product : Grammar Expression) (es : List Expression) (o : Option Mark) → (kind_at o ≡ kinds.Plus → ⊥) → (kind_at o ≡ kinds.Minus → ⊥) → goes_at (sum_cases product es) o ≡ false
no_sign product es None p m = refl
no_sign product es (Some (plain (fixed kinds.Plus))) p m = absurd (p refl)
no_sign product es (Some (plain (fixed kinds.Minus))) p m = absurd (m refl)
no_sign product es (Some s) p m = refl

pub one_factor : (n : ℕ) (free : Bool) (e : Expression) (ts : List Mark) (k : TokenKind) → k ≡ kind_at (next ts) → (k ≡ kinds.Star → ⊥) → (mapped (gathered trees.product) (turns (star_cases (factor_at every n) free) (e ∷ []))).read ts ≡ Ok (e, ts)
one_factor n free e ts k is s =
    ap (λ (r : Result (List Expression × List Mark) (Fault Mark Kind)). r >>= λ x. (unit (gathered trees.product x.0)).read x.1)
    (loop_ends (star_cases (factor_at every n) free) (star_branch (factor_at every n) (factor_exact every n) free) (e ∷ []) ts (no_star (factor_at every n) free (e ∷ []) (next ts) (λ w. s (is ∙ w))))

pub one_product : (n : ℕ) (free : Bool) (e : Expression) (ts : List Mark) (k : TokenKind) → k ≡ kind_at (next ts) → (k ≡ kinds.Plus → ⊥) → (k ≡ kinds.Minus → ⊥) → (mapped (gathered trees.sum) (turns (sum_cases (product_at every n free)) (e ∷ []))).read ts ≡ Ok (e, ts)
one_product n free e ts k is p m =
    ap (λ (r : Result (List Expression × List Mark) (Fault Mark Kind)). r >>= λ x. (unit (gathered trees.sum x.0)).read x.1)
    (loop_ends (sum_cases (product_at every n free)) (sum_branch (product_at every n free) (product_exact every n free)) (e ∷ []) ts (no_sign (product_at every n free) (e ∷ []) (next ts) (λ w. p (is ∙ w)) (λ w. m (is ∙ w))))
