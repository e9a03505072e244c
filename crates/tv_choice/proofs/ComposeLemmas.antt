-- Rows that were composed with terms for the draws have the numbers of what a certificate composes.
use Rattle.std.proofs.Common.{◌≡◌, ℕ, zero, suc, ◌+◌, ◌≤◌, List, [], ◌∷◌, length, map, All, arith, refl, sym, ap, ◌∙◌, subst, ◌+ℤ◌, length-append}
use Rattle.std.proofs.lemmas.List.Elements.{All-head, All-tail}
use Rattle.tv_linear.specs.Linear.{Linear, columns}
use Rattle.tv_linear.specs.Arithmetic.{column_row, combined, composed as composed_row, width_of}
use Rattle.tv_linear.specs.Fits.{FitsComposed}
use Rattle.tv_linear.specs.Known.{Term, kept, put}
use Rattle.tv_linear.specs.Terms.{table, draw_terms}
use Rattle.tv_linear.proofs.Entries.{entry-raised_inner, entry-raised_last, entry-combined, columns-combined}
use Rattle.tv_cases.specs.EdgeCases.{columns_from}
use Rattle.tv_cases.proofs.BeforeLemmas.{IsTerm, AreTerms, PutIn, terms_even, kept_term, put_term, terms_append}
use Rattle.tv_choice.specs.Rows.{put_terms}
use Rattle.tv_cases.proofs.SameSteps.{length-columns_from}

-- ---- terms for the draws
kept_terms : (w v m : ℕ) (f : ℕ → Term) → ((j : ℕ) → f j ≡ kept (v + j)) → AreTerms w (table m f) (columns_from w v m)
kept_terms w v zero f h = tt
kept_terms w v (suc m) f h = (
  subst (λ t. IsTerm w t (column_row w v)) (sym (h 0 ∙ ap kept (let e : v + 0 ≡ v = omega arith in e))) (kept_term w v),
  kept_terms w (suc v) m (λ j. f (suc j)) (λ j. h (suc j) ∙ ap kept (let e : v + suc j ≡ suc v + j = omega arith in e)),
)

put_each : (n : ℕ) (draws : List Linear) → All (λ r. columns r ≡ n) draws → AreTerms n (map (λ d. put d) draws) draws
put_each n [] h = tt
put_each n (d ∷ draws) h = (put_term n d (All-head (λ r. columns r ≡ n) d draws h), put_each n draws (All-tail (λ r. columns r ≡ n) d draws h))

-- the terms that are put in for the variables and the draws of a case
pub drawn_terms : (n : ℕ) (draws : List Linear) → All (λ r. columns r ≡ n) draws → AreTerms n (draw_terms n draws) (put_terms n draws)
drawn_terms n draws h = terms_append n (table n (λ j. kept j)) (map (λ d. put d) draws) (columns_from n 0 n) draws (kept_terms n 0 n (λ j. kept j) (λ j. ap kept (let e : j ≡ 0 + j = omega arith in e))) (put_each n draws h)

-- ---- rows with terms for the draws
width_or_none : (n : ℕ) (terms : List Linear) → All (λ t. columns t ≡ n) terms → (length terms ≡ 0 → n ≡ 0) → width_of terms ≡ n
width_or_none n [] all h = sym (h refl)
width_or_none n (t ∷ terms) all h = All-head (λ t. columns t ≡ n) t terms all

pub length-put_terms : (n : ℕ) (draws : List Linear) → length (put_terms n draws) ≡ n + length draws
length-put_terms n draws = length-append (columns_from n 0 n) draws ∙ ap (λ k. k + length draws) (length-columns_from n 0 n)

pub even_put_terms : (n : ℕ) (draws : List Linear) → All (λ r. columns r ≡ n) draws → All (λ r. columns r ≡ n) (put_terms n draws)
even_put_terms n draws h = terms_even n (draw_terms n draws) (put_terms n draws) (drawn_terms n draws h)

pub width_put_terms : (n : ℕ) (draws : List Linear) → All (λ r. columns r ≡ n) draws → width_of (put_terms n draws) ≡ n
width_put_terms n draws h = width_or_none n (put_terms n draws) (even_put_terms n draws h) (λ e. (let l = length-put_terms n draws in omega (arith, e, l)))

pub put_drawn : (n : ℕ) (r : Linear) (draws : List Linear) → All (λ t. columns t ≡ n) draws → ((column : ℕ) → column ≤ columns (composed_row r (put_terms n draws)) → FitsComposed r (put_terms n draws) column) → PutIn n r (put_terms n draws) (composed_row r (put_terms n draws))
put_drawn n r draws h fits =
    let terms = put_terms n draws in
    let even = even_put_terms n draws h in
    let wn = width_put_terms n draws h in
    let even' = subst (λ m. All (λ t. columns t ≡ m) terms) (sym wn) even in
    let width : columns (composed_row r terms) ≡ n = columns-combined (width_of terms) r.coefficients terms even' ∙ wn in
    let inner_width = columns-combined (width_of terms) r.coefficients terms even' in
    record {
      even = width;
      inner = λ j l. entry-raised_inner r.constant (combined (width_of terms) r.coefficients terms) j (omega (arith, l, inner_width, wn)) ∙ entry-combined (width_of terms) r.coefficients terms j even';
      last = entry-raised_last r.constant (combined (width_of terms) r.coefficients terms) n (omega (arith, inner_width, wn)) ∙ ap (λ z. z +ℤ r.constant) (entry-combined (width_of terms) r.coefficients terms n even');
      held = λ j l. (fits j (omega (arith, l, width))).on_the_way;
      narrow = λ j l. (fits j (omega (arith, l, width))).narrow;
    }
