-- forms are as wide as they should be, and a factor without a column is a number
use Rattle.std.proofs.Common.{◌≡◌, ℕ, zero, suc, ◌∙◌, List, [], ◌∷◌, map, refl, ap, arith, ℤ, pos, neg_ℤ, ◌+ℤ◌, ◌*ℤ◌, Bool, true, false}
use Rattle.std.specs.Prelude.{◌&&◌, ◌||◌, cond}
use Rattle.std.specs.List.{list_all}
use Rattle.std.proofs.lemmas.Int.{ints}
use Rattle.tv_linear.specs.Linear.{Linear}
use Rattle.tv_linear.specs.Arithmetic.{zeros, constant_row, plus_each, plus, scaled}
use Rattle.tv_program.specs.Trees.{Expression, number, variable, draw, minus, sum, product, Expressions, no_part, part}
use Rattle.tv_program.specs.Limits.{is_constant, are_constant, is_linear_product}
use Rattle.tv_cases.specs.Forms.{is_zero, is_number, times, form, sum_form, product_form}
use Rattle.tv_cases.proofs.RowValues.{is_zero-true}
use Rattle.std.proofs.lemmas.Bool.{or_right, and_parts}

zeros-number : (w : ℕ) → list_all is_zero (zeros w) ≡ true
zeros-number zero = refl
zeros-number (suc w) = zeros-number w

opposite-number : (cs : List ℤ) → list_all is_zero cs ≡ true → list_all is_zero (map neg_ℤ cs) ≡ true
opposite-number [] h = refl
opposite-number (c ∷ cs) h =
    let both = and_parts (is_zero c) (list_all is_zero cs) h in
    (λ i. is_zero (neg_ℤ (is_zero-true c both.0 i)) && opposite-number cs both.1 i)

plus-number : (cs bs : List ℤ) → list_all is_zero cs ≡ true → list_all is_zero bs ≡ true → list_all is_zero (plus_each cs bs) ≡ true
plus-number [] bs h k = k
plus-number (c ∷ cs) [] h k = h
plus-number (c ∷ cs) (b ∷ bs) h k =
    let m = and_parts (is_zero c) (list_all is_zero cs) h in
    let n = and_parts (is_zero b) (list_all is_zero bs) k in
    (λ i. is_zero (is_zero-true c m.0 i +ℤ is_zero-true b n.0 i) && plus-number cs bs m.1 n.1 i)

pub times_zero : (z : ℤ) → z *ℤ pos 0 ≡ pos 0
times_zero z = omega (arith, ints)

scaled-number : (z : ℤ) (cs : List ℤ) → list_all is_zero cs ≡ true → list_all is_zero (map (λ c. z *ℤ c) cs) ≡ true
scaled-number z [] h = refl
scaled-number z (c ∷ cs) h =
    let both = and_parts (is_zero c) (list_all is_zero cs) h in
    (ap (λ y. is_zero (z *ℤ y) && list_all is_zero (map (λ c. z *ℤ c) cs)) (is_zero-true c both.0)
    ∙ (λ i. is_zero (times_zero z i) && scaled-number z cs both.1 i))

times-number : (r s : Linear) → is_number r ≡ true → is_number s ≡ true → is_number (times r s) ≡ true
times-number r s h k = ap (λ b. is_number (cond b (scaled s.constant r) (scaled r.constant s))) k ∙ scaled-number s.constant r.coefficients h

module _ (n w : ℕ) (terms : List Linear) where
  mutual
    -- an expression without variables and draws is a number
    pub form-number : (e : Expression) → is_constant e ≡ true → is_number (form n w terms e) ≡ true
    form-number (number z) h = zeros-number w
    form-number (variable v) h = cc
    form-number (draw d) h = cc
    form-number (minus e) h = opposite-number (form n w terms e).coefficients (form-number e h)
    form-number (sum es) h = sum-number (constant_row w (pos 0)) es (zeros-number w) h
    form-number (product es) h = product-number (constant_row w (pos 1)) es (zeros-number w) h

    sum-number : (total : Linear) (es : Expressions) → is_number total ≡ true → are_constant es ≡ true → is_number (sum_form n w terms total es) ≡ true
    sum-number total no_part t h = t
    sum-number total (part e es) t h =
        let both = and_parts (is_constant e) (are_constant es) h in
        sum-number (plus total (form n w terms e)) es (plus-number total.coefficients (form n w terms e).coefficients t (form-number e both.0)) both.1

    product-number : (total : Linear) (es : Expressions) → is_number total ≡ true → are_constant es ≡ true → is_number (product_form n w terms total es) ≡ true
    product-number total no_part t h = t
    product-number total (part e es) t h =
        let both = and_parts (is_constant e) (are_constant es) h in
        product-number (times total (form n w terms e)) es (times-number total (form n w terms e) t (form-number e both.0)) both.1

-- ---- at most one factor is not a number

-- the product so far is a number and the rest is linear, or the rest are numbers
abbrev pub is_alone : Linear → Expressions → Bool
is_alone t es = (is_number t && is_linear_product es) || are_constant es

-- t and f: the product and the factor are numbers, u: their product is; k, l, a: the factor is constant, the rest linear, constant
factor_or_rest : (t f k l a : Bool) → (k ≡ true → f ≡ true) → ((t && ((k && l) || a)) || (k && a)) ≡ true → (t || f) ≡ true
factor_or_rest true f k l a h e = refl
factor_or_rest false f true l a h e = h refl
factor_or_rest false f false l a h e = cc

rest_alone : (t f u k l a : Bool) → (k ≡ true → f ≡ true) → (t ≡ true → f ≡ true → u ≡ true) → ((t && ((k && l) || a)) || (k && a)) ≡ true → ((u && l) || a) ≡ true
rest_alone t f u k l true h j e = or_right (u && l) true refl
rest_alone true f u true true false h j e = ap (λ b. (b && true) || false) (j refl (h refl))
rest_alone true f u true false false h j e = cc
rest_alone true f u false l false h j e = cc
rest_alone false f u true l false h j e = cc
rest_alone false f u false l false h j e = cc

module _ (n w : ℕ) (terms : List Linear) (total : Linear) (e : Expression) (es : Expressions) (h : is_alone total (part e es) ≡ true) where
  pub alone-now : (is_number total || is_number (form n w terms e)) ≡ true
  alone-now = factor_or_rest (is_number total) (is_number (form n w terms e)) (is_constant e) (is_linear_product es) (are_constant es) (form-number n w terms e) h

  pub alone-rest : is_alone (times total (form n w terms e)) es ≡ true
  alone-rest =
      rest_alone (is_number total) (is_number (form n w terms e)) (is_number (times total (form n w terms e))) (is_constant e) (is_linear_product es) (are_constant es)
      (form-number n w terms e) (times-number total (form n w terms e)) h

pub alone-first : (w : ℕ) (es : Expressions) → is_linear_product es ≡ true → is_alone (constant_row w (pos 1)) es ≡ true
alone-first w es h = ap (λ b. (b && is_linear_product es) || are_constant es) (zeros-number w) ∙ ap (λ b. b || are_constant es) h
