use Rattle.std.proofs.Common.{◌≡◌, ℕ, zero, suc, ◌+◌, ◌<◌, List, [], ◌∷◌, ◌++◌, map, length, drop, get_or, arith, refl, sym, ap, ◌∙◌, pos, if◌then◌else◌, drop-cons, length-append}
use Rattle.std.proofs.lemmas.List.{length-map, get_or-map}
use Rattle.std.proofs.lemmas.Bool.{eq-eqb, ne_eqb}
use Rattle.tv_linear.specs.Known.{kept, put, unit_number}
use Rattle.tv_linear.specs.Linear.{Linear}
use Rattle.tv_linear.specs.Terms.{update_of, table, draw_terms}
use Rattle.tv_linear.specs.declared.region.Update.{Update}
use Rattle.tv_linear.proofs.PlainLists.{length-table}
use Rattle.tv_linear.proofs.ListLaws.{get_or-table}

pub unit_same : (j v : ℕ) → j ≡ v → pos 1 ≡ unit_number j v
unit_same zero zero e = refl
unit_same zero (suc v) e = absurd (omega arith)
unit_same (suc j) zero e = absurd (omega arith)
unit_same (suc j) (suc v) e = unit_same j v (omega arith)

pub unit_other : (j v : ℕ) → (j ≡ v → ⊥) → pos 0 ≡ unit_number j v
unit_other zero zero n = absurd (n refl)
unit_other zero (suc v) n = refl
unit_other (suc j) zero n = refl
unit_other (suc j) (suc v) n = unit_other j v (λ e. n (ap suc e))

pub get_or-left : {A : Type 0} (xs ys : List A) (v : ℕ) (d : A) → v < length xs → get_or (xs ++ ys) v d ≡ get_or xs v d
get_or-left [] ys v d h = absurd (omega arith)
get_or-left (x ∷ xs) ys zero d h = refl
get_or-left (x ∷ xs) ys (suc v) d h = get_or-left xs ys v d (omega arith)

pub get_or-right : {A : Type 0} (xs ys : List A) (v k : ℕ) (d : A) → v ≡ length xs + k → get_or (xs ++ ys) v d ≡ get_or ys k d
get_or-right [] ys v k d e = ap (λ i. get_or ys i d) (omega arith)
get_or-right (x ∷ xs) ys zero k d e = absurd (omega arith)
get_or-right (x ∷ xs) ys (suc v) k d e = get_or-right xs ys v k d (omega arith)

pub draw_term_first : (n : ℕ) (draws : List Linear) (v : ℕ) → v < n → get_or (draw_terms n draws) v (kept 0) ≡ kept v
draw_term_first n draws v h = get_or-left (table n kept) (map (λ d. put d) draws) v (kept 0) (omega (arith, length-table n (λ j. kept j))) ∙ get_or-table n (λ j. kept j) v (kept 0) h

pub draw_term_later : (n : ℕ) (draws : List Linear) (v k : ℕ) (d : Linear) → v ≡ n + k → k < length draws → get_or (draw_terms n draws) v (kept 0) ≡ put (get_or draws k d)
draw_term_later n draws v k d e h = get_or-right (table n kept) (map (λ d. put d) draws) v k (kept 0) (omega (arith, length-table n (λ j. kept j))) ∙ get_or-map (λ d. put d) draws k d (kept 0) h

pub length-draw_terms : (n : ℕ) (draws : List Linear) → length (draw_terms n draws) ≡ n + length draws
length-draw_terms n draws = length-append (table n kept) (map (λ d. put d) draws) ∙ (λ i. length-table n (λ j. kept j) i + length-map draws (λ d. put d) i)

-- ---- updates
pub update_here : (us : List Update) (i v : ℕ) (u : Update) → i < length us → u ≡ get_or us i u → u.variable ≡ v → update_of (drop i us) v ≡ put u.term
update_here us i v u l e h =
    let a : drop i us ≡ u ∷ drop (suc i) us = drop-cons us i u l ∙ ap (λ x. x ∷ drop (suc i) us) (sym e) in
    ap (λ xs. update_of xs v) a ∙ ap (λ t. if t then put u.term else update_of (drop (suc i) us) v) (eq-eqb u.variable v h)

pub update_past : (us : List Update) (i v : ℕ) (u : Update) → i < length us → u ≡ get_or us i u → (u.variable ≡ v → ⊥) → update_of (drop i us) v ≡ update_of (drop (i + 1) us) v
update_past us i v u l e h =
    let a : drop i us ≡ u ∷ drop (suc i) us = drop-cons us i u l ∙ ap (λ x. x ∷ drop (suc i) us) (sym e) in
    ap (λ xs. update_of xs v) a ∙ ap (λ t. if t then put u.term else update_of (drop (suc i) us) v) (ne_eqb u.variable v h) ∙ ap (λ k. update_of (drop k us) v) (let e : suc i ≡ i + 1 = omega arith in e)
