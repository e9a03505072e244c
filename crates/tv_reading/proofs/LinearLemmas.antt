-- Products with one more factor.
use Rattle.std.proofs.Common.{◌≡◌, Bool, true, false, List, [], ◌∷◌, ◌++◌, refl, sym, ap, ◌∙◌}
use Rattle.std.specs.Prelude.{◌&&◌, ◌||◌}
use Rattle.std.specs.Prelude.{not, map}
use Rattle.tv_program.specs.declared.tree.Expr.{Expr}
use Rattle.tv_program.specs.Trees.{Expression, Expressions, product, sum}
use Rattle.tv_program.specs.Views.{parts_of, expression, expressions}
use Rattle.tv_program.specs.Limits.{is_constant, are_constant, is_linear_product}
use Rattle.tv_language.specs.Sums.{gathered}
use Rattle.std.proofs.Math.Bool.{and-true}
use Rattle.std.proofs.lemmas.Bool.{and_from, and_parts}

-- ---- constant lists

constant_step : (a b c : Bool) → (a && (b && c)) ≡ ((a && b) && c)
constant_step true b c = refl
constant_step false b c = refl

pub constant-push : (es : List Expression) (e : Expression) → are_constant (parts_of (es ++ e ∷ [])) ≡ (are_constant (parts_of es) && is_constant e)
constant-push [] e = and-true (is_constant e)
constant-push (x ∷ es) e = ap (λ b. is_constant x && b) (constant-push es e) ∙ constant_step (is_constant x) (are_constant (parts_of es)) (is_constant e)

pub product-constant : (es : List Expression) → is_constant (gathered product es) ≡ are_constant (parts_of es)
product-constant [] = refl
product-constant (e ∷ []) = sym (and-true (is_constant e))
product-constant (e ∷ f ∷ es) = refl

pub sum-constant : (es : List Expression) → is_constant (gathered sum es) ≡ are_constant (parts_of es)
sum-constant [] = refl
sum-constant (e ∷ []) = sym (and-true (is_constant e))
sum-constant (e ∷ f ∷ es) = refl

pub constant_all : (es : List Expression) (e : Expression) → are_constant (parts_of es) ≡ true → is_constant e ≡ true → are_constant (parts_of (es ++ e ∷ [])) ≡ true
constant_all es e h i = constant-push es e ∙ and_from _ _ h i

pub constant_first : (e : Expression) (es : List Expression) → are_constant (parts_of (e ∷ es)) ≡ true → is_constant e ≡ true
constant_first e es h = (and_parts _ _ h).0

pub constant_rest : (e : Expression) (es : List Expression) → are_constant (parts_of (e ∷ es)) ≡ true → are_constant (parts_of es) ≡ true
constant_rest e es h = (and_parts (is_constant e) _ h).1

-- ---- linear products

constant_linear : (es : Expressions) → are_constant es ≡ true → is_linear_product es ≡ true
constant_linear Expressions.no_part h = refl
constant_linear (Expressions.part e es) h = either_right _ _ ((and_parts (is_constant e) _ h).1)
  where
    either_right : (a b : Bool) → b ≡ true → (a || b) ≡ true
    either_right true b h = refl
    either_right false b h = h

-- one more: c e first, L of the rest, C of the rest, and those of the rest with one more
joins : (c l k l' k' ce : Bool) → ((c && l) || k) ≡ true → ((c && k) ≡ false → ce ≡ true) → k' ≡ (k && ce) → (k ≡ true → l ≡ true) → (l ≡ true → (k ≡ false → ce ≡ true) → l' ≡ true) → ((c && l') || k') ≡ true
joins true l true l' k' ce h i e f g = after ce e
  where
    later : l' ≡ true
    later = g (f refl) (λ w. absurd cc)

    after : (ce : Bool) → k' ≡ ce → (l' || k') ≡ true
    after ce e = rw later refl
joins false l true l' k' ce h i e f g = e ∙ i refl
joins true l false l' k' ce h i e f g = let later : l' ≡ true = g (from l h) (λ w. i refl) in rw later refl
  where
    from : (l : Bool) → (l || false) ≡ true → l ≡ true
    from true h = refl
    from false h = absurd cc
joins false l false l' k' ce h i e f g = absurd cc

pub linear-push : (es : List Expression) (e : Expression) → is_linear_product (parts_of es) ≡ true → (are_constant (parts_of es) ≡ false → is_constant e ≡ true) → is_linear_product (parts_of (es ++ e ∷ [])) ≡ true
linear-push [] e h i = at (is_constant e)
  where
    at : (b : Bool) → ((b && true) || true) ≡ true
    at true = refl
    at false = refl
linear-push (x ∷ es) e h i = joins (is_constant x) (is_linear_product (parts_of es)) (are_constant (parts_of es)) (is_linear_product (parts_of (es ++ e ∷ []))) (are_constant (parts_of (es ++ e ∷ []))) (is_constant e) h i (constant-push es e) (constant_linear (parts_of es)) (linear-push es e)

-- after factors that are not all constant each one is
splits : (c l k k' l' ce : Bool) → ((c && l) || k) ≡ true → (c && k') ≡ false → (k ≡ true → (k' ≡ true) × (ce ≡ true)) → (l ≡ true → k' ≡ false → ce ≡ true) → ce ≡ true
splits true l k false l' ce h i f g = from l k h f g
  where
    from : (l k : Bool) → (l || k) ≡ true → (k ≡ true → (false ≡ true) × (ce ≡ true)) → (l ≡ true → false ≡ false → ce ≡ true) → ce ≡ true
    from true k h f g = g refl refl
    from false k h f g = (f h).1
splits true l k true l' ce h i f g = absurd cc
splits false l k k' l' ce h i f g = (f h).1

apart : (es : List Expression) (e : Expression) (more : List Expression) → are_constant (parts_of (es ++ e ∷ more)) ≡ true → (are_constant (parts_of es) ≡ true) × (is_constant e ≡ true)
apart [] e more h = (refl, (and_parts _ _ h).0)
apart (x ∷ es) e more h = let w = apart es e more ((and_parts (is_constant x) _ h).1) in (and_from _ _ ((and_parts _ _ h).0) w.0, w.1)

pub linear-split : (es : List Expression) (e : Expression) (more : List Expression) → is_linear_product (parts_of (es ++ e ∷ more)) ≡ true → are_constant (parts_of es) ≡ false → is_constant e ≡ true
linear-split [] e more h i = absurd cc
linear-split (x ∷ es) e more h i = splits (is_constant x) (is_linear_product (parts_of (es ++ e ∷ more))) (are_constant (parts_of (es ++ e ∷ more))) (are_constant (parts_of es)) true (is_constant e) h i (apart es e more) (linear-split es e more)

-- ---- the same of the program's lists

map-append : (es : List Expr) (e : Expr) → map expression (es ++ e ∷ []) ≡ map expression es ++ expression e ∷ []
map-append [] e = refl
map-append (x ∷ es) e = ap (λ (xs : List Expression). expression x ∷ xs) (map-append es e)

not_or : (n m : Bool) → (not n && not m) ≡ not (n || m)
not_or true m = refl
not_or false m = refl

pub told_added : (es all : List Expr) (e : Expr) (n m b : Bool) → all ≡ es ++ e ∷ [] → b ≡ (n || m) → are_constant (expressions es) ≡ not n → is_constant (expression e) ≡ not m → are_constant (expressions all) ≡ not b
told_added es all e n m b is at h i = ap (λ (xs : List Expr). are_constant (expressions xs)) is ∙ ap (λ (xs : List Expression). are_constant (parts_of xs)) (map-append es e) ∙ constant-push (map expression es) (expression e) ∙ ap (λ (c : Bool). c && is_constant (expression e)) h ∙ ap (λ (c : Bool). not n && c) i ∙ not_or n m ∙ ap not (sym at)
