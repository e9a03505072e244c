-- Terms for draws at an integer point.
use Rattle.std.proofs.Common.{◌≡◌, inl, inr, ℕ, zero, suc, ◌+◌, ◌<◌, List, [], ◌∷◌, ◌++◌, length, map, take, drop, get_or, All, arith, refl, sym, ap, ◌∙◌, subst, ℤ, pos, neg_ℤ, ◌+ℤ◌, length-append}
use Rattle.std.specs.Prelude.{Result, Ok, Err, IfOk}
use Rattle.std.proofs.lemmas.Int.{ints}
use Rattle.std.proofs.lemmas.List.{length-map}
use Rattle.tv_linear.specs.Linear.{Linear, columns, dot, value}
use Rattle.tv_linear.specs.Arithmetic.{unit, constant_row}
use Rattle.tv_linear.proofs.PlainLists.{length-zeros}
use Rattle.tv_linear.proofs.RowValues.{value-constant_row, dot-zeros, dot-opposite}
use Rattle.tv_linear.proofs.ListLaws.{length-back, length-front, last_or_below}
use Rattle.tv_choice.specs.ChoicePaths.{GivesAlone, IsTermAt, number, tight, AreTermsAt}

-- ---- what a row gives
dot-front : (n : ℕ) (cs zs : List ℤ) → dot cs zs ≡ dot (take n cs) (take n zs) +ℤ dot (drop n cs) (drop n zs)
dot-front zero cs zs = (let g : dot cs zs ≡ pos 0 +ℤ dot cs zs = omega (arith, ints) in g)
dot-front (suc n) [] zs = refl
dot-front (suc n) (c ∷ cs) [] = dot-none (drop n cs)
  where
    dot-none : (cs : List ℤ) → pos 0 ≡ pos 0 +ℤ dot cs []
    dot-none [] = refl
    dot-none (c ∷ cs) = refl
dot-front (suc n) (c ∷ cs) (z ∷ zs) = (let h = dot-front n cs zs in omega (arith, ints, h))

dot-unit : (d j : ℕ) (ds : List ℤ) → length ds ≡ d → j < d → dot (unit d j) ds ≡ get_or ds j (pos 0)
dot-unit zero j ds e l = absurd (omega (arith, l))
dot-unit (suc d) j [] e l = absurd (omega (arith, e))
dot-unit (suc d) zero (x ∷ ds) e l = (let h = dot-zeros d ds in omega (arith, ints, h))
dot-unit (suc d) (suc j) (x ∷ ds) e l = (let h = dot-unit d j ds (omega (arith, e)) (omega (arith, l)) in omega (arith, ints, h))

get_or-behind : (n : ℕ) (zs : List ℤ) (j : ℕ) → get_or (drop n zs) j (pos 0) ≡ get_or zs (n + j) (pos 0)
get_or-behind zero zs j = ap (λ k. get_or zs k (pos 0)) (let g : j ≡ 0 + j = omega arith in g)
get_or-behind (suc n) [] j = refl
get_or-behind (suc n) (z ∷ zs) j = get_or-behind n zs j ∙ ap (λ k. get_or (z ∷ zs) k (pos 0)) (let g : suc (n + j) ≡ suc n + j = omega arith in g)

alone_value : (n d : ℕ) (r : Linear) (j : ℕ) (t : Linear) (zs : List ℤ) → length zs ≡ n + d → j < d → GivesAlone n d r j t → value r zs ≡ pos 0 → value t (take n zs) ≡ get_or zs (n + j) (pos 0)
alone_value n d r j t zs e l (inl (part, is)) zero_there =
    let f = dot-front n r.coefficients zs in
    let u = ap (λ cs. dot cs (drop n zs)) part ∙ dot-unit d j (drop n zs) (length-back n d zs e) l ∙ get_or-behind n zs j in
    let o = dot-opposite (take n r.coefficients) (take n zs) in
    let v = ap (λ x. value x (take n zs)) is in
    omega (arith, ints, f, u, o, v, zero_there)
alone_value n d r j t zs e l (inr (part, is)) zero_there =
    let f = dot-front n r.coefficients zs in
    let u = ap (λ cs. dot cs (drop n zs)) part ∙ dot-opposite (unit d j) (drop n zs) in
    let w = dot-unit d j (drop n zs) (length-back n d zs e) l ∙ get_or-behind n zs j in
    let v = ap (λ x. value x (take n zs)) is in
    omega (arith, ints, f, u, w, v, zero_there)

-- the value of a term at the point is that of its draw
term_value_is : (n d : ℕ) (rows : List Linear) (zs : List ℤ) (j : ℕ) (t : Linear) → length zs ≡ n + d → j < d → IsTermAt n d rows zs j t → value t (take n zs) ≡ get_or zs (n + j) (pos 0)
term_value_is n d rows zs j t e l number = value-constant_row n (get_or zs (n + j) (pos 0)) (take n zs)
term_value_is n d rows zs j t e l (tight r s among g v) = alone_value n d r j s zs e l g v

alone_even : (n d : ℕ) (r : Linear) (j : ℕ) (t : Linear) → columns r ≡ n + d → GivesAlone n d r j t → columns t ≡ n
alone_even n d r j t e (inl (part, is)) = ap columns is ∙ length-map (take n r.coefficients) neg_ℤ ∙ length-front n d r.coefficients e
alone_even n d r j t e (inr (part, is)) = ap columns is ∙ length-front n d r.coefficients e

term_even : (n d : ℕ) (rows : List Linear) (zs : List ℤ) (j : ℕ) (t : Linear) → All (λ r. columns r ≡ n + d) rows → IsTermAt n d rows zs j t → columns t ≡ n
term_even n d rows zs j t h number = length-zeros n
term_even n d rows zs j t h (tight r s among g v) = alone_even n d r j s (subst (λ x. columns x ≡ n + d) among.2 (h among.0 r among.1)) g

-- ---- all terms
pub terms_even : (n d : ℕ) (rows : List Linear) (zs : List ℤ) (draws : List Linear) → All (λ r. columns r ≡ n + d) rows → AreTermsAt n d rows zs draws → All (λ t. columns t ≡ n) draws
terms_even n d rows zs draws h t j other l = term_even n d rows zs j (get_or draws j other) h (t.each j other (let m = t.many in omega (arith, l, m)))

same_lists : (xs ys : List ℤ) → length xs ≡ length ys → ((j : ℕ) → j < length xs → get_or xs j (pos 0) ≡ get_or ys j (pos 0)) → xs ≡ ys
same_lists [] [] e h = refl
same_lists [] (y ∷ ys) e h = absurd (omega (arith, e))
same_lists (x ∷ xs) [] e h = absurd (omega (arith, e))
same_lists (x ∷ xs) (y ∷ ys) e h = (λ i. h 0 (omega arith) i ∷ same_lists xs ys (omega (arith, e)) (λ j l. h (suc j) (omega (arith, l))) i)

get_or-map : (f : Linear → ℤ) (xs : List Linear) (j : ℕ) (d : Linear) → j < length xs → get_or (map f xs) j (pos 0) ≡ f (get_or xs j d)
get_or-map f [] j d l = absurd (omega (arith, l))
get_or-map f (x ∷ xs) zero d l = refl
get_or-map f (x ∷ xs) (suc j) d l = get_or-map f xs j d (omega (arith, l))

pub terms_values : (n d : ℕ) (rows : List Linear) (zs : List ℤ) (draws : List Linear) → length zs ≡ n + d → AreTermsAt n d rows zs draws → map (λ t. value t (take n zs)) draws ≡ drop n zs
terms_values n d rows zs draws e t = same_lists (map (λ t. value t (take n zs)) draws) (drop n zs) (length-map draws (λ t. value t (take n zs)) ∙ t.many ∙ sym (length-back n d zs e))
    (λ j l. (let m = t.many in let k = length-map draws (λ t. value t (take n zs)) in let inside : j < d = omega (arith, l, m, k) in
    get_or-map (λ t. value t (take n zs)) draws j (constant_row n (pos 0)) (omega (arith, l, k))
    ∙ term_value_is n d rows zs j (get_or draws j (constant_row n (pos 0))) e inside (t.each j (constant_row n (pos 0)) inside)
    ∙ sym (get_or-behind n zs j)))

-- ---- one term more
pub record AreTermsTo (n d : ℕ) (rows : List Linear) (zs : List ℤ) (count : ℕ) (draws : List Linear) : Type 0 where
  pub many : length draws ≡ count
  pub each : (j : ℕ) (other : Linear) → j < count → IsTermAt n d rows zs j (get_or draws j other)

get_or-last : (xs : List Linear) (x other : Linear) → get_or (xs ++ x ∷ []) (length xs) other ≡ x
get_or-last [] x other = refl
get_or-last (y ∷ xs) x other = get_or-last xs x other

get_or-before : (xs : List Linear) (x other : Linear) (j : ℕ) → j < length xs → get_or (xs ++ x ∷ []) j other ≡ get_or xs j other
get_or-before [] x other j l = absurd (omega (arith, l))
get_or-before (y ∷ xs) x other zero l = refl
get_or-before (y ∷ xs) x other (suc j) l = get_or-before xs x other j (omega (arith, l))

pub terms_more : (n d : ℕ) (rows : List Linear) (zs : List ℤ) (count : ℕ) (draws new : List Linear) (t : Linear) → new ≡ draws ++ t ∷ [] → IsTermAt n d rows zs count t → AreTermsTo n d rows zs count draws → AreTermsTo n d rows zs (count + 1) new
terms_more n d rows zs count draws new t e h k = subst (AreTermsTo n d rows zs (count + 1)) (sym e) record {
  many = length-append draws (t ∷ []) ∙ ap (λ m. m + 1) k.many;
  each = λ j other l. elim (last_or_below count j l) [
    | inl same ↦ subst (λ x. IsTermAt n d rows zs j x) (sym (ap (λ i. get_or (draws ++ t ∷ []) i other) (same ∙ sym k.many) ∙ get_or-last draws t other)) (subst (λ i. IsTermAt n d rows zs i t) (sym same) h)
    | inr before ↦ subst (IsTermAt n d rows zs j) (sym (get_or-before draws t other j (let m = k.many in omega (arith, before, m)))) (k.each j other before)
  ];
}

pub terms_all : (n d : ℕ) (rows : List Linear) (zs : List ℤ) (count : ℕ) (draws : List Linear) → count ≡ d → AreTermsTo n d rows zs count draws → AreTermsAt n d rows zs draws
terms_all n d rows zs count draws e h = record { many = h.many ∙ e; each = λ j other l. h.each j other (omega (arith, l, e)) }

-- ---- one term
pub number_for : (n d : ℕ) (rows : List Linear) (zs : List ℤ) (j : ℕ) (v : ℤ) {A : Type 0} (result : Result Linear A) → v ≡ get_or zs (n + j) (pos 0) → IfOk result (λ row. row ≡ constant_row n v) → IfOk result (IsTermAt n d rows zs j)
number_for n d rows zs j v (Ok row) e h = subst (IsTermAt n d rows zs j) (sym (h ∙ ap (constant_row n) e)) number
number_for n d rows zs j v (Err fault) e h = tt
