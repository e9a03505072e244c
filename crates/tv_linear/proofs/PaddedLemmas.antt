-- Rows with more columns, which have 0 there.
use Rattle.std.proofs.Common.{◌≡◌, ℕ, zero, suc, ◌+◌, List, [], ◌∷◌, ◌++◌, length, map, take, get_or, All, arith, refl, sym, ap, ◌∙◌, ℤ, pos, ◌+ℤ◌, ◌*ℤ◌, ◌≤ℤ◌, length-append}
use Rattle.std.proofs.lemmas.Int.{ints}
use Rattle.std.proofs.lemmas.List.Elements.{All-nil, All-cons, All-head, All-tail}
use Rattle.tv_linear.specs.Linear.{Linear, columns, dot, value, scaled_value, IsMet}
use Rattle.tv_linear.specs.Arithmetic.{zeros, padded_row}
use Rattle.tv_linear.specs.Known.{as_given}
use Rattle.tv_linear.specs.Same.{AreSame}
use Rattle.tv_linear.proofs.PlainLists.{length-zeros, get_or-zeros}
use Rattle.tv_linear.proofs.RowValues.{dot-zeros}

get_or-zeros_after : (cs : List ℤ) (m j : ℕ) → get_or (cs ++ zeros m) j (pos 0) ≡ get_or cs j (pos 0)
get_or-zeros_after [] m j = get_or-zeros m j
get_or-zeros_after (c ∷ cs) m zero = refl
get_or-zeros_after (c ∷ cs) m (suc j) = get_or-zeros_after cs m j

-- they have the numbers that they had
pub padded_same : (n more : ℕ) (rows : List Linear) → AreSame n (as_given (map (padded_row more) rows)) (as_given rows)
padded_same n more [] = tt
padded_same n more (r ∷ rows) = (
  record {
    inner = λ j l. sym (get_or-zeros_after r.coefficients more j);
    constant = refl;
    inner_held = λ j l h. tt;
    constant_held = λ h. tt;
  },
  padded_same n more rows,
)

pub padded_even : (n more : ℕ) (rows : List Linear) → All (λ r. columns r ≡ n) rows → All (λ r. columns r ≡ n + more) (map (padded_row more) rows)
padded_even n more [] h = All-nil (λ r. columns r ≡ n + more)
padded_even n more (r ∷ rows) h =
    let e = All-head (λ r. columns r ≡ n) r rows h in
    let a = length-append r.coefficients (zeros more) in
    let z = length-zeros more in
    All-cons (λ r. columns r ≡ n + more) (padded_row more r) (map (padded_row more) rows) (omega (arith, a, z, e)) (padded_even n more rows (All-tail (λ r. columns r ≡ n) r rows h))

-- ---- at a point
pub dot-padded : (m : ℕ) (cs xs : List ℤ) → dot (cs ++ zeros m) xs ≡ dot cs xs
dot-padded m [] xs = dot-zeros m xs
dot-padded m (c ∷ cs) [] = refl
dot-padded m (c ∷ cs) (x ∷ xs) = ap (λ z. (c *ℤ x) +ℤ z) (dot-padded m cs xs)

-- the numbers after the columns of a row do not count
pub dot-take : (n : ℕ) (cs xs : List ℤ) → length cs ≡ n → dot cs (take n xs) ≡ dot cs xs
dot-take n [] xs e = refl
dot-take zero (c ∷ cs) xs e = absurd (omega (arith, e))
dot-take (suc n) (c ∷ cs) [] e = refl
dot-take (suc n) (c ∷ cs) (x ∷ xs) e = ap (λ z. (c *ℤ x) +ℤ z) (dot-take n cs xs (omega (arith, e)))

pub dot-front : (cs xs ds : List ℤ) → length cs ≡ length xs → dot cs (xs ++ ds) ≡ dot cs xs
dot-front [] xs ds e = refl
dot-front (c ∷ cs) [] ds e = absurd (omega (arith, e))
dot-front (c ∷ cs) (x ∷ xs) ds e = ap (λ z. (c *ℤ x) +ℤ z) (dot-front cs xs ds (omega (arith, e)))

pub value-padded : (m : ℕ) (r : Linear) (xs ds : List ℤ) → columns r ≡ length xs → value (padded_row m r) (xs ++ ds) ≡ value r xs
value-padded m r xs ds e = ap (λ z. z +ℤ r.constant) (dot-padded m r.coefficients (xs ++ ds) ∙ dot-front r.coefficients xs ds e)

pub padded_met : (n more : ℕ) (rows : List Linear) (zs : List ℤ) → All (λ r. columns r ≡ n) rows → All (IsMet zs) (map (padded_row more) rows) → All (IsMet (take n zs)) rows
padded_met n more [] zs e h = All-nil (IsMet (take n zs))
padded_met n more (r ∷ rows) zs e h =
    let d = dot-padded more r.coefficients zs in
    let f = dot-take n r.coefficients zs (All-head (λ r. columns r ≡ n) r rows e) in
    let m = All-head (IsMet zs) (padded_row more r) (map (padded_row more) rows) h in
    All-cons (IsMet (take n zs)) r rows (omega (arith, ints, d, f, m)) (padded_met n more rows zs (All-tail (λ r. columns r ≡ n) r rows e) (All-tail (IsMet zs) (padded_row more r) (map (padded_row more) rows) h))

-- and the other way, with numbers after a point
pub met_padded : (n more : ℕ) (rows : List Linear) (xs ds : List ℤ) → All (λ r. columns r ≡ n) rows → length xs ≡ n → All (IsMet xs) rows → All (IsMet (xs ++ ds)) (map (padded_row more) rows)
met_padded n more [] xs ds e w h = All-nil (IsMet (xs ++ ds))
met_padded n more (r ∷ rows) xs ds e w h =
    let wide = All-head (λ r. columns r ≡ n) r rows e in
    let d = dot-padded more r.coefficients (xs ++ ds) in
    let f = dot-front r.coefficients xs ds (wide ∙ sym w) in
    let m = All-head (IsMet xs) r rows h in
    All-cons (IsMet (xs ++ ds)) (padded_row more r) (map (padded_row more) rows) (omega (arith, ints, d, f, m)) (met_padded n more rows xs ds (All-tail (λ r. columns r ≡ n) r rows e) w (All-tail (IsMet xs) r rows h))

-- at a point over a scale
pub padded_below : (more : ℕ) (rows others : List Linear) (xs : List ℤ) (z : ℤ) → All (λ r. scaled_value r xs z ≤ℤ pos 0) (map (padded_row more) rows ++ others) → All (λ r. scaled_value r xs z ≤ℤ pos 0) (rows ++ others)
padded_below more [] others xs z h = h
padded_below more (r ∷ rows) others xs z h =
    let d = dot-padded more r.coefficients xs in
    let m = All-head (λ r. scaled_value r xs z ≤ℤ pos 0) (padded_row more r) (map (padded_row more) rows ++ others) h in
    All-cons (λ r. scaled_value r xs z ≤ℤ pos 0) r (rows ++ others) (omega (arith, ints, d, m)) (padded_below more rows others xs z (All-tail (λ r. scaled_value r xs z ≤ℤ pos 0) (padded_row more r) (map (padded_row more) rows ++ others) h))
