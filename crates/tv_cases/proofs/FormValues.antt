-- the linear form of an expression has its value
use Rattle.std.proofs.Common.{◌≡◌, ℕ, zero, suc, ◌+◌, ◌≤◌, ◌∙◌, List, [], ◌∷◌, map, length, get_or, refl, ap, arith, ℤ, pos, neg_ℤ, ◌+ℤ◌, ◌*ℤ◌, true}
use Rattle.std.proofs.lemmas.Int.{ints}
use Rattle.tv_linear.proofs.Ring.{add_assoc_z, mul_assoc_z}
use Rattle.tv_linear.specs.Linear.{Linear, value}
use Rattle.tv_linear.specs.Arithmetic.{constant_row, plus}
use Rattle.tv_program.specs.Trees.{Expression, number, variable, draw, minus, sum, product, Expressions, no_part, part}
use Rattle.tv_program.specs.Meaning.{value_of, sum_of, product_of}
use Rattle.tv_program.specs.Limits.{is_linear_product}
use Rattle.tv_cases.specs.Linearity.{is_linear, are_linear}
use Rattle.tv_cases.specs.Forms.{times, form, sum_form, product_form}
use Rattle.tv_cases.proofs.RowValues.{times-value}
use Rattle.tv_cases.proofs.FormLemmas.{is_alone, alone-first, alone-now, alone-rest}
use Rattle.tv_linear.proofs.RowValues.{value-constant_row, value-column_row, value-plus, value-opposite}
use Rattle.std.proofs.lemmas.Bool.{and_parts}

-- the values of terms at a point
abbrev pub values : List ℤ → List Linear → List ℤ
values point terms = map (λ t. value t point) terms

values-at : (w : ℕ) (point : List ℤ) (terms : List Linear) (v : ℕ) → value (get_or terms v (constant_row w (pos 0))) point ≡ get_or (values point terms) v (pos 0)
values-at w point [] v = value-constant_row w (pos 0) point
values-at w point (t ∷ terms) zero = refl
values-at w point (t ∷ terms) (suc v) = values-at w point terms v

from_zero : (z a : ℤ) → z ≡ pos 0 → z +ℤ a ≡ a
from_zero z a e = omega (arith, ints)

from_one : (z a : ℤ) → z ≡ pos 1 → z *ℤ a ≡ a
from_one z a e = ap (λ y. y *ℤ a) e ∙ omega (arith, ints)

-- the point has one number for each column, and the draws after the first n
module _ (n w : ℕ) (point ds : List ℤ) (terms : List Linear) (wide : length point ≤ w) (drawn : (d : ℕ) → get_or point (n + d) (pos 0) ≡ get_or ds d (pos 0)) where
  mutual
    pub form-value : (e : Expression) → is_linear e ≡ true → value (form n w terms e) point ≡ value_of e (values point terms) ds
    form-value (number z) l = value-constant_row w z point
    form-value (variable v) l = values-at w point terms v
    form-value (draw d) l = value-column_row w (n + d) point wide ∙ drawn d
    form-value (minus e) l = value-opposite (form n w terms e) point ∙ ap neg_ℤ (form-value e l)
    form-value (sum es) l =
        sum_form-value (constant_row w (pos 0)) es l
        ∙ from_zero (value (constant_row w (pos 0)) point) (sum_of es (values point terms) ds) (value-constant_row w (pos 0) point)
    form-value (product es) l =
        let both = and_parts (is_linear_product es) (are_linear es) l in
        product_form-value (constant_row w (pos 1)) es both.1 (alone-first w es both.0)
        ∙ from_one (value (constant_row w (pos 1)) point) (product_of es (values point terms) ds) (value-constant_row w (pos 1) point)

    sum_form-value : (total : Linear) (es : Expressions) → are_linear es ≡ true → value (sum_form n w terms total es) point ≡ value total point +ℤ sum_of es (values point terms) ds
    sum_form-value total no_part l = omega (arith, ints)
    sum_form-value total (part e es) l =
        let both = and_parts (is_linear e) (are_linear es) l in
        sum_form-value (plus total (form n w terms e)) es both.1
        ∙ ap (λ z. z +ℤ sum_of es (values point terms) ds) (value-plus total (form n w terms e) point ∙ ap (λ z. value total point +ℤ z) (form-value e both.0))
        ∙ add_assoc_z (value total point) (value_of e (values point terms) ds) (sum_of es (values point terms) ds)

    product_form-value : (total : Linear) (es : Expressions) → are_linear es ≡ true → is_alone total es ≡ true → value (product_form n w terms total es) point ≡ value total point *ℤ product_of es (values point terms) ds
    product_form-value total no_part l alone = omega (arith, ints)
    product_form-value total (part e es) l alone =
        let both = and_parts (is_linear e) (are_linear es) l in
        product_form-value (times total (form n w terms e)) es both.1 (alone-rest n w terms total e es alone)
        ∙ ap (λ z. z *ℤ product_of es (values point terms) ds) (times-value total (form n w terms e) point (alone-now n w terms total e es alone) ∙ ap (λ z. value total point *ℤ z) (form-value e both.0))
        ∙ mul_assoc_z (value total point) (value_of e (values point terms) ds) (product_of es (values point terms) ds)
