-- The grammar of sums as it is read from left to right. Faults of the kinds that are not kept are none.
use Rattle.std.specs.Prelude.{ℕ, zero, suc, pos, Bool, true, false, ◌&&◌, List, [], ◌∷◌, ◌++◌, Option, Some}
use Rattle.tv_language.specs.declared.token.TokenKind.TheVariants as kinds
use Rattle.tv_program.specs.Trees as trees
use Rattle.tv_program.specs.Trees.{Expression}
use Rattle.tv_program.specs.Views.{parts_of}
use Rattle.tv_program.specs.Limits.{are_constant}
use Rattle.tv_language.specs.Symbols.{number, name, drawn, fixed}
use Rattle.tv_language.specs.Sums.{gathered}
use Rattle.tv_grammar.specs.Langs.{Lang, unit, then, mapped, Branch, stop, go, headed, turns}
use Rattle.tv_reading.specs.Marks.{Kind, Syntax, Wide, Deep, NotLinear, Mark, plain, refused}

abbrev pub Grammar : Type 0 → Type 1
Grammar X = Lang Mark Kind X

abbrev pub Behind : Type 0 → Type 1
Behind X = Branch Mark Kind X

-- all kinds of fault are kept
abbrev pub every : Kind → Bool
every k = true

-- a fault that is kept, or l
abbrev pub refuse_by : {T X : Type 0} → Bool → Kind → Lang T Kind X → Branch T Kind X
refuse_by true k l = stop k
refuse_by false k l = go l

abbrev pub close_cases : {X : Type 0} → X → Mark → Behind X
close_cases x (plain (fixed kinds.RightRound)) = go (unit x)
close_cases x _ = stop Syntax

abbrev pub open_cases : {X : Type 0} → Grammar X → Mark → Behind X
open_cases l (plain (fixed kinds.LeftRound)) = go l
open_cases l _ = stop Syntax

-- ")"
abbrev pub closed : {X : Type 0} → X → Grammar X
closed x = headed Syntax (close_cases x)

-- "(" ")"
abbrev pub brackets : {X : Type 0} → X → Grammar X
brackets x = headed Syntax (open_cases (closed x))

-- a name or a draw, which may stand where free is true; else an earlier factor has one already
abbrev pub named_by : Bool → Bool → Grammar Expression → Behind Expression
named_by true linear l = go l
named_by false linear l = refuse_by linear NotLinear l

abbrev pub refused_by : (Kind → Bool) → Bool → Kind → Grammar Expression → Behind Expression
refused_by kept true k l = refuse_by (kept k) k l
refused_by kept false k l = refuse_by (kept NotLinear) NotLinear l

-- number | name | "nondet" "(" ")"
abbrev pub leaf_cases : (Kind → Bool) → Bool → Mark → Behind Expression
leaf_cases kept free (plain (number k)) = go (unit (trees.number (pos k)))
leaf_cases kept free (plain (fixed kinds.Wide)) = refuse_by (kept Wide) Wide (unit (trees.number (pos 0)))
leaf_cases kept free (plain (name v)) = named_by free (kept NotLinear) (unit (trees.variable v))
leaf_cases kept free (plain (drawn d)) = named_by free (kept NotLinear) (brackets (trees.draw d))
leaf_cases kept free (refused k kinds.Name) = refused_by kept free k (unit (trees.variable 0))
leaf_cases kept free (refused k kinds.Nondet) = refused_by kept free k (brackets (trees.draw 0))
leaf_cases kept free _ = stop Syntax

-- the sum and the factor of the level below, if there is one
pub data Inner : Type 1 where
  bottom : Inner
  deeper : Grammar Expression → Grammar Expression → Inner

-- factor = leaf | "(" sum ")" | "-" factor
abbrev pub factor_cases : (Kind → Bool) → Bool → Inner → Mark → Behind Expression
factor_cases kept free bottom (plain (fixed kinds.LeftRound)) = stop Deep
factor_cases kept free bottom (plain (fixed kinds.Minus)) = stop Deep
factor_cases kept free (deeper sum factor) (plain (fixed kinds.LeftRound)) = go (then sum closed)
factor_cases kept free (deeper sum factor) (plain (fixed kinds.Minus)) = go (mapped trees.minus factor)
factor_cases kept free bottom m = leaf_cases kept free m
factor_cases kept free (deeper sum factor) m = leaf_cases kept free m

-- product = factor { "*" factor }
abbrev pub star_cases : (Bool → Grammar Expression) → Bool → List Expression → Mark → Behind (List Expression)
star_cases factor free es (plain (fixed kinds.Star)) = go (mapped (λ e. es ++ e ∷ []) (factor (free && are_constant (parts_of es))))
star_cases factor free es _ = stop Syntax

abbrev pub product_over : (Bool → Grammar Expression) → Bool → Grammar Expression
product_over factor free = then (factor free) (λ e. mapped (gathered trees.product) (turns (star_cases factor free) (e ∷ [])))

-- sum = product { ("+" | "-") product }
abbrev pub sum_cases : Grammar Expression → List Expression → Mark → Behind (List Expression)
sum_cases p es (plain (fixed kinds.Plus)) = go (mapped (λ e. es ++ e ∷ []) p)
sum_cases p es (plain (fixed kinds.Minus)) = go (mapped (λ e. es ++ trees.minus e ∷ []) p)
sum_cases p es _ = stop Syntax

abbrev pub sum_over : Grammar Expression → Grammar Expression
sum_over p = then p (λ e. mapped (gathered trees.sum) (turns (sum_cases p) (e ∷ [])))

-- factors that open n levels at most
unfoldable pub factor_at : (Kind → Bool) → ℕ → Bool → Grammar Expression
factor_at kept zero free = headed Syntax (factor_cases kept free bottom)
factor_at kept (suc n) free = headed Syntax (factor_cases kept free (deeper (sum_over (product_over (factor_at kept n) free)) (factor_at kept n free)))

-- the level below n
abbrev pub below : (Kind → Bool) → ℕ → Bool → Inner
below kept zero free = bottom
below kept (suc n) free = deeper (sum_over (product_over (factor_at kept n) free)) (factor_at kept n free)

abbrev pub product_at : (Kind → Bool) → ℕ → Bool → Grammar Expression
product_at kept n free = product_over (factor_at kept n) free

abbrev pub sum_at : (Kind → Bool) → ℕ → Bool → Grammar Expression
sum_at kept n free = sum_over (product_at kept n free)

-- ---- the tokens at which a product and a sum go on

abbrev pub stars : Option Mark → Bool
stars (Some (plain (fixed kinds.Star))) = true
stars _ = false

abbrev pub signs : Option Mark → Bool
signs (Some (plain (fixed kinds.Plus))) = true
signs (Some (plain (fixed kinds.Minus))) = true
signs _ = false

abbrev pub sum_goes : Option Mark → Bool
sum_goes (Some (plain (fixed kinds.Star))) = true
sum_goes (Some (plain (fixed kinds.Plus))) = true
sum_goes (Some (plain (fixed kinds.Minus))) = true
sum_goes _ = false
