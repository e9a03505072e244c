-- Linear forms of expressions whose parts are not too wide.
use Rattle.std.proofs.Common.{◌≡◌, ℕ, zero, suc, ◌+◌, ◌<◌, List, [], ◌∷◌, ◌++◌, map, length, take, drop, get_or, append_assoc, refl, sym, ap, ◌∙◌, subst, arith, true, ℤ, pos, neg_ℤ, ◌^◌}
use Rattle.std.specs.Prelude.{◌&&◌, nat_lt, unsigned_abs, Option, Some, None, Result, IfOk}
use Rattle.std.specs.List.{list_all}
use Rattle.std.proofs.lemmas.Bool.{and_parts}
use Rattle.std.proofs.lemmas.Bool.Decides.{nat_tests}
use Rattle.std.proofs.lemmas.Int.{ints}
use Rattle.std.proofs.lemmas.List.{take_more, map-append, append-nil}
use Rattle.tv_program.specs.declared.tree.Expr.{Expr}
use Rattle.tv_program.specs.declared.tree.Relation.{Relation}
use Rattle.tv_program.specs.declared.tree.Relation.TheVariants.{Less, LessEqual, Greater, GreaterEqual, Equal, NotEqual}
use Rattle.tv_program.specs.Trees.{Expression, number, variable, draw, minus, sum, product, Expressions, no_part, part}
use Rattle.tv_program.specs.Views.{expression, expressions, parts_of}
use Rattle.tv_linear.specs.Linear.{Linear, linear, columns, IsWithin}
use Rattle.tv_linear.specs.Arithmetic.{unit, constant_row, column_row, opposite, plus}
use Rattle.tv_linear.specs.Fits.{IsNarrowAt, IsFirstWide}
use Rattle.tv_linear.proofs.Entries.{constant_inner, entry-last}
use Rattle.tv_linear.proofs.PlainLists.{length-zeros}
use Rattle.tv_cases.specs.Comparisons.{own_form, has_form, has_rows}
use Rattle.tv_cases.specs.EdgeCases.{columns_from}
use Rattle.tv_cases.specs.Forms.{is_narrow, is_narrow_number, sum_form, product_form, times}
use Rattle.tv_cases.specs.Linearity.{is_linear}
use Rattle.tv_cases.specs.Lists.{difference, comparison_is_narrow}
use Rattle.tv_cases.proofs.ProductLemmas.{zeros-narrow}
use Rattle.tv_causes.specs.Walks.{have_forms, all_forms, sum_of, product_of, joined}
use Rattle.tv_causes.specs.declared.join.Join.TheVariants.{Sum, Product}
use Rattle.tv_formula.specs.Properties.{compare}
use Rattle.tv_causes.specs.Walks.{TellsBoth}
use Rattle.tv_causes.specs.Widths.{parts, parts_of_all, differences, made_of, HasOwnRows, IsFirstWideOf, TellsWide}
use Rattle.tv_causes.proofs.WideLemmas.{split_narrow, both_narrow, one_narrow, head_narrow, wide_before, wide_after, tells_after, on_ok}
use Rattle.std.proofs.lemmas.List.Elements.{All-nil, All-cons}

-- the forms of parts, one list after another
pub mapped : (n : ℕ) (xs ys : List Expression) → map (own_form n) (xs ++ ys) ≡ map (own_form n) xs ++ map (own_form n) ys
mapped n xs ys = map-append (own_form n) xs ys

split_mapped : (n : ℕ) (xs ys : List Expression) → list_all is_narrow (map (own_form n) (xs ++ ys)) ≡ true →
    (list_all is_narrow (map (own_form n) xs) ≡ true) × (list_all is_narrow (map (own_form n) ys) ≡ true)
split_mapped n xs ys h = split_narrow (map (own_form n) xs) (map (own_form n) ys) (ap (list_all is_narrow) (sym (mapped n xs ys)) ∙ h)

mutual
  -- an expression with narrow parts has a form
  pub has_own : (n : ℕ) (e : Expression) → list_all is_narrow (map (own_form n) (parts e)) ≡ true → has_form n e ≡ true
  has_own n (number z) h = head_narrow (own_form n (number z)) [] h
  has_own n (variable v) h = head_narrow (own_form n (variable v)) [] h
  has_own n (draw d) h = head_narrow (own_form n (draw d)) [] h
  has_own n (minus e) h =
      let both = split_mapped n (parts e) (minus e ∷ []) h in
      (λ i. has_own n e both.0 i && head_narrow (own_form n (minus e)) [] both.1 i)
  has_own n (sum es) h =
      let both = split_mapped n (parts_of_all es) (sum es ∷ []) h in
      (λ i. have_own n es both.0 i && head_narrow (own_form n (sum es)) [] both.1 i)
  has_own n (product es) h =
      let both = split_mapped n (parts_of_all es) (product es ∷ []) h in
      (λ i. have_own n es both.0 i && head_narrow (own_form n (product es)) [] both.1 i)

  pub have_own : (n : ℕ) (es : Expressions) → list_all is_narrow (map (own_form n) (parts_of_all es)) ≡ true → have_forms n es ≡ true
  have_own n no_part h = refl
  have_own n (part e es) h =
      let both = split_mapped n (parts e) (parts_of_all es) h in
      (λ i. has_own n e both.0 i && have_own n es both.1 i)

-- ---- single rows
narrow_number : (z : ℤ) → IsWithin 62 z → is_narrow_number z ≡ true
narrow_number z h = grind (arith, nat_tests)

pub constant_narrow : (n : ℕ) (z : ℤ) → IsWithin 62 z → is_narrow (constant_row n z) ≡ true
constant_narrow n z h = (λ i. zeros-narrow n i && narrow_number z h i)

pub constant_wide : (n : ℕ) (z : ℤ) → (IsWithin 62 z → ⊥) → IsFirstWide (IsNarrowAt (constant_row n z)) (columns (constant_row n z)) n
constant_wide n z h =
    let l = length-zeros n in
    record {
      inside = omega (arith, l);
      wide = λ narrow. h (subst (IsWithin 62) (entry-last (constant_row n z) n (omega (arith, l))) narrow);
      earlier = λ k less. (constant_inner n z k less).0;
    }

unit_narrow : (n column : ℕ) → list_all is_narrow_number (unit n column) ≡ true
unit_narrow zero column = refl
unit_narrow (suc n) zero = zeros-narrow n
unit_narrow (suc n) (suc column) = unit_narrow n column

pub column_narrow : (n column : ℕ) → is_narrow (column_row n column) ≡ true
column_narrow n column = ap (λ b. b && true) (unit_narrow n column)

term_narrow : (w v n k : ℕ) (d : Linear) → is_narrow d ≡ true → is_narrow (get_or (columns_from w v n) k d) ≡ true
term_narrow w v zero k d h = h
term_narrow w v (suc n) zero d h = column_narrow w v
term_narrow w v (suc n) (suc k) d h = term_narrow w (suc v) n k d h

pub variable_narrow : (n v : ℕ) → is_narrow (own_form n (variable v)) ≡ true
variable_narrow n v = term_narrow n 0 n v (constant_row n (pos 0)) (ap (λ b. b && true) (zeros-narrow n))

abs_neg : (z : ℤ) → unsigned_abs (neg_ℤ z) ≡ unsigned_abs z
abs_neg z = omega (arith, ints)

opposite_number : (z : ℤ) → is_narrow_number z ≡ true → is_narrow_number (neg_ℤ z) ≡ true
opposite_number z h = ap (λ k. nat_lt k (2 ^ 62)) (abs_neg z) ∙ h

opposite_numbers : (zs : List ℤ) → list_all is_narrow_number zs ≡ true → list_all is_narrow_number (map neg_ℤ zs) ≡ true
opposite_numbers [] h = refl
opposite_numbers (z ∷ zs) h =
    let both = and_parts (is_narrow_number z) (list_all is_narrow_number zs) h in
    (λ i. opposite_number z both.0 i && opposite_numbers zs both.1 i)

pub opposite_narrow : (r : Linear) → is_narrow r ≡ true → is_narrow (opposite r) ≡ true
opposite_narrow r h =
    let both = and_parts (list_all is_narrow_number r.coefficients) (is_narrow_number r.constant) h in
    (λ i. opposite_numbers r.coefficients both.0 i && opposite_number r.constant both.1 i)

-- a form is the last of those of its parts
pub last_part : (e : Expression) → (front : List Expression) × (parts e ≡ front ++ e ∷ [])
last_part (number z) = ([], refl)
last_part (variable v) = ([], refl)
last_part (draw d) = ([], refl)
last_part (minus e) = (parts e, refl)
last_part (sum es) = (parts_of_all es, refl)
last_part (product es) = (parts_of_all es, refl)

pub own_narrow : (n : ℕ) (e : Expression) → list_all is_narrow (map (own_form n) (parts e)) ≡ true → is_narrow (own_form n e) ≡ true
own_narrow n e h =
    let last = last_part e in
    let both = split_mapped n last.0 (e ∷ []) (ap (λ es. list_all is_narrow (map (own_form n) es)) (sym last.1) ∙ h) in
    head_narrow (own_form n e) [] both.1

-- ---- sums and products
sums : (n : ℕ) (t : Linear) (es : List Expr) → sum_form n n (columns_from n 0 n) t (expressions es) ≡ sum_of t (all_forms n es)
sums n t [] = refl
sums n t (e ∷ es) = sums n (plus t (own_form n (expression e))) es

pub sum_is : (n : ℕ) (es : List Expr) → own_form n (sum (expressions es)) ≡ joined Sum n (all_forms n es)
sum_is n es = sums n (constant_row n (pos 0)) es

products : (n : ℕ) (t : Linear) (es : List Expr) → product_form n n (columns_from n 0 n) t (expressions es) ≡ product_of t (all_forms n es)
products n t [] = refl
products n t (e ∷ es) = products n (times t (own_form n (expression e))) es

pub product_is : (n : ℕ) (es : List Expr) → own_form n (product (expressions es)) ≡ joined Product n (all_forms n es)
product_is n es = products n (constant_row n (pos 1)) es

-- ---- parts of expressions one after the other
pub parts_append : (es : List Expression) (e : Expression) → parts_of_all (parts_of (es ++ e ∷ [])) ≡ parts_of_all (parts_of es) ++ parts e
parts_append [] e = append-nil (parts e)
parts_append (f ∷ es) e = ap (λ xs. parts f ++ xs) (parts_append es e) ∙ sym (append_assoc (parts f) (parts_of_all (parts_of es)) (parts e))

pub parts_more : (es : List Expr) (i : ℕ) (e : Expr) → i < length es → e ≡ get_or es i e → parts_of_all (expressions (take (i + 1) es)) ≡ parts_of_all (expressions (take i es)) ++ parts (expression e)
parts_more es i e l is =
    ap (λ xs. parts_of_all (parts_of xs)) (ap (map expression) (take_more es i e l) ∙ map-append expression (take i es) (get_or es i e ∷ []))
    ∙ parts_append (map expression (take i es)) (expression (get_or es i e))
    ∙ ap (λ (x : Expr). parts_of_all (expressions (take i es)) ++ parts (expression x)) (sym is)

pub parts_at : (es : List Expr) (i : ℕ) (e : Expr) → i < length es → e ≡ get_or es i e →
    parts_of_all (expressions es) ≡ parts_of_all (expressions (take i es)) ++ (parts (expression e) ++ parts_of_all (expressions (drop (suc i) es)))
parts_at [] i e l is = absurd (omega arith)
parts_at (x ∷ es) zero e l is = ap (λ (y : Expr). parts (expression y) ++ parts_of_all (expressions es)) (sym is)
parts_at (x ∷ es) (suc i) e l is =
    ap (λ xs. parts (expression x) ++ xs) (parts_at es i e (omega arith) is)
    ∙ sym (append_assoc (parts (expression x)) (parts_of_all (expressions (take i es))) (parts (expression e) ++ parts_of_all (expressions (drop (suc i) es))))

-- ---- comparisons
two_narrow : (r s : Linear) → list_all is_narrow (r ∷ s ∷ []) ≡ true → (is_narrow r && is_narrow s) ≡ true
two_narrow r s h =
    let both = and_parts (is_narrow r) (is_narrow s && true) h in
    (λ i. both.0 i && head_narrow s [] both.1 i)

rows_narrow : (r : Relation) (a b : Linear) → list_all is_narrow (differences r a b) ≡ true → comparison_is_narrow r a b ≡ true
rows_narrow Less a b h = head_narrow (difference (pos 1) a b) [] h
rows_narrow LessEqual a b h = head_narrow (difference (pos 0) a b) [] h
rows_narrow Greater a b h = head_narrow (difference (pos 1) b a) [] h
rows_narrow GreaterEqual a b h = head_narrow (difference (pos 0) b a) [] h
rows_narrow Equal a b h = two_narrow (difference (pos 0) a b) (difference (pos 0) b a) h
rows_narrow NotEqual a b h = two_narrow (difference (pos 1) a b) (difference (pos 1) b a) h

-- a comparison has rows where nothing that it is made of is too wide
pub made_narrow : (n : ℕ) (r : Relation) (a b : Expression) → (is_linear a && is_linear b) ≡ true → list_all is_narrow (made_of n r a b) ≡ true → has_rows n r a b ≡ true
made_narrow n r a b linear h =
    let first = split_narrow (map (own_form n) (parts a)) (map (own_form n) (parts b) ++ differences r (own_form n a) (own_form n b)) h in
    let second = split_narrow (map (own_form n) (parts b)) (differences r (own_form n a) (own_form n b)) first.1 in
    let left = has_own n a first.0 in
    let right = has_own n b second.0 in
    let rows = rows_narrow r (own_form n a) (own_form n b) second.1 in
    (λ i. linear i && (left i && (right i && rows i)))

-- ---- what is told of the parts of an expression
-- of the negative of an expression, what is told of the expression
pub minus_told : (n : ℕ) (f e : Expression) (found : Option ℕ) → f ≡ minus e → TellsWide (map (own_form n) (parts e)) found → TellsWide (map (own_form n) (parts f)) found
minus_told n f e found is h = subst (λ g. TellsWide (map (own_form n) (parts g)) found) (sym is) (subst (λ rows. TellsWide rows found) (sym (mapped n (parts e) (minus e ∷ []))) (by found h)) where
  by : (found : Option ℕ) → TellsWide (map (own_form n) (parts e)) found → TellsWide (map (own_form n) (parts e) ++ own_form n (minus e) ∷ []) found
  by None k = both_narrow (map (own_form n) (parts e)) (own_form n (minus e) ∷ []) k (one_narrow (own_form n (minus e)) (opposite_narrow (own_form n e) (own_narrow n e k)))
  by (Some column) k = wide_before (map (own_form n) (parts e)) (own_form n (minus e) ∷ []) column k

-- a column of the parts that stand before an expression is one of the expression
pub front_wide : (n : ℕ) (f e : Expression) (front : List Expression) (column : ℕ) → f ≡ e → parts e ≡ front ++ e ∷ [] →
    IsFirstWideOf (map (own_form n) front) column → IsFirstWideOf (map (own_form n) (parts f)) column
front_wide n f e front column is last h =
    subst (λ g. IsFirstWideOf (map (own_form n) (parts g)) column) (sym is)
    (subst (λ rows. IsFirstWideOf rows column) (sym (ap (map (own_form n)) last ∙ mapped n front (e ∷ []))) (wide_before (map (own_form n) front) (own_form n e ∷ []) column h))

-- where these are narrow, what is told of the form of the expression is told of all
pub last_told : {E : Type 0} (n : ℕ) (f e : Expression) (front : List Expression) (row : Linear) (result : Result (Option ℕ) E) → f ≡ e → parts e ≡ front ++ e ∷ [] → own_form n e ≡ row →
    list_all is_narrow (map (own_form n) front) ≡ true → IfOk result (TellsWide (row ∷ [])) → IfOk result (TellsWide (map (own_form n) (parts f)))
last_told n f e front row result is last made narrow h =
    on_ok (TellsWide (row ∷ [])) (TellsWide (map (own_form n) (parts f))) (λ found k.
    subst (λ g. TellsWide (map (own_form n) (parts g)) found) (sym is)
    (subst (λ rows. TellsWide rows found) (sym (ap (map (own_form n)) last ∙ mapped n front (e ∷ []))) (tells_after (map (own_form n) front) (own_form n e ∷ []) found narrow (subst (λ (r : Linear). TellsWide (r ∷ []) found) (sym made) k)))) result h

pub middle_wide : (n : ℕ) (all front middle back : List Expression) (column : ℕ) → all ≡ front ++ (middle ++ back) → list_all is_narrow (map (own_form n) front) ≡ true →
    IsFirstWideOf (map (own_form n) middle) column → IsFirstWideOf (map (own_form n) all) column
middle_wide n all front middle back column is narrow h =
    subst (λ rows. IsFirstWideOf rows column) (sym (ap (map (own_form n)) is ∙ mapped n front (middle ++ back) ∙ ap (λ rows. map (own_form n) front ++ rows) (mapped n middle back)))
    (wide_after (map (own_form n) front) (map (own_form n) middle ++ map (own_form n) back) column narrow (wide_before (map (own_form n) middle) (map (own_form n) back) column h))

pub more_narrow : (n : ℕ) (all front back : List Expression) → all ≡ front ++ back → list_all is_narrow (map (own_form n) front) ≡ true →
    list_all is_narrow (map (own_form n) back) ≡ true → list_all is_narrow (map (own_form n) all) ≡ true
more_narrow n all front back is h k =
    ap (λ es. list_all is_narrow (map (own_form n) es)) is ∙ ap (list_all is_narrow) (mapped n front back) ∙ both_narrow (map (own_form n) front) (map (own_form n) back) h k

-- ---- and of a comparison
pub left_wide : (n : ℕ) (r : Relation) (a b : Expression) (column : ℕ) → IsFirstWideOf (map (own_form n) (parts a)) column → IsFirstWideOf (made_of n r a b ++ []) column
left_wide n r a b column h =
    wide_before (made_of n r a b) [] column (wide_before (map (own_form n) (parts a)) (map (own_form n) (parts b) ++ differences r (own_form n a) (own_form n b)) column h)

pub right_wide : (n : ℕ) (r : Relation) (a b : Expression) (column : ℕ) → list_all is_narrow (map (own_form n) (parts a)) ≡ true →
    IsFirstWideOf (map (own_form n) (parts b)) column → IsFirstWideOf (made_of n r a b ++ []) column
right_wide n r a b column narrow h =
    wide_before (made_of n r a b) [] column
    (wide_after (map (own_form n) (parts a)) (map (own_form n) (parts b) ++ differences r (own_form n a) (own_form n b)) column narrow
    (wide_before (map (own_form n) (parts b)) (differences r (own_form n a) (own_form n b)) column h))

pub rows_told : {E : Type 0} (n : ℕ) (r : Relation) (a b : Expression) (result : Result (Option ℕ) E) → (is_linear a && is_linear b) ≡ true →
    list_all is_narrow (map (own_form n) (parts a)) ≡ true → list_all is_narrow (map (own_form n) (parts b)) ≡ true →
    IfOk result (TellsWide (differences r (own_form n a) (own_form n b))) → IfOk result (TellsBoth n (compare r a b ∷ []))
rows_told n r a b result linear left right h = on_ok (TellsWide (differences r (own_form n a) (own_form n b))) (TellsBoth n (compare r a b ∷ [])) by result h where
  all_told : (found : Option ℕ) → TellsWide (differences r (own_form n a) (own_form n b)) found → TellsWide (made_of n r a b) found
  all_told found k =
      tells_after (map (own_form n) (parts a)) (map (own_form n) (parts b) ++ differences r (own_form n a) (own_form n b)) found left
      (tells_after (map (own_form n) (parts b)) (differences r (own_form n a) (own_form n b)) found right k)

  by : (found : Option ℕ) → TellsWide (differences r (own_form n a) (own_form n b)) found → TellsBoth n (compare r a b ∷ []) found
  by None k = (
    both_narrow (made_of n r a b) [] (all_told None k) refl,
    All-cons (HasOwnRows n) (compare r a b) [] (made_narrow n r a b linear (all_told None k)) (All-nil (HasOwnRows n)),
  )
  by (Some column) k = wide_before (made_of n r a b) [] column (all_told (Some column) k)
