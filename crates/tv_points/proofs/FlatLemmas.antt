-- the coefficients of the rows that a step owes, where its draws are numbers
use Rattle.std.proofs.Common.{◌≡◌, ◌⊎◌, inl, inr, ℕ, zero, suc, ◌+◌, ◌<◌, List, [], ◌∷◌, ◌++◌, length, All, map, get_or, Bool, true, false, if◌then◌else◌, ◌==◌, Some, arith, refl, sym, ap, subst, ◌∙◌, ℤ, pos, negsuc, neg_ℤ, ◌+ℤ◌, ◌-ℤ◌, ◌*ℤ◌}
use Rattle.std.proofs.lemmas.Int.{ints}
use Rattle.std.proofs.lemmas.List.Elements.{All-nil, All-cons, All-head, All-tail}
use Rattle.std.proofs.Math.ListN.{get_or-map}
use Rattle.tv_linear.specs.declared.region.Update.{Update}
use Rattle.tv_linear.specs.Linear.{Linear, IsWithin, IsNarrow}
use Rattle.tv_linear.specs.Arithmetic.{unit, zeros, constant_row, opposite}
use Rattle.tv_linear.specs.Fits.{IsHeld}
use Rattle.tv_linear.specs.Known.{number, unit_number, place_sum, PlacesHeld, kept, put, Known, given, composed, less, KnownHeld, known_number, term_number}
use Rattle.tv_linear.specs.Terms.{table, update_of, terms_after, draw_terms}
use Rattle.tv_linear.specs.Falls.{zero_row}
use Rattle.tv_linear.proofs.PlainLists.{get_or-zeros}
use Rattle.tv_points.specs.PointRows.{at_most_row, coefficient_of, number_rows}
use Rattle.tv_points.specs.Lines.{IsNarrowIn}
use Rattle.std.proofs.lemmas.List.{map-append}
use Rattle.tv_cases.proofs.FormLemmas.{times_zero}
use Rattle.tv_linear.proofs.ListLaws.{map-table}

-- ---- sums where all products but one are 0
abbrev Nulls : (ℕ → ℤ) → ℕ → List ℤ → Type 0
Nulls f v [] = Unit {0}
Nulls f v (x ∷ xs) = (f v *ℤ x ≡ pos 0) × Nulls f (suc v) xs

abbrev Lone : (ℕ → ℤ) → ℤ → ℕ → List ℤ → Type 0
Lone f y v [] = y ≡ pos 0
Lone f y v (x ∷ xs) = ((f v *ℤ x ≡ y) × Nulls f (suc v) xs) ⊎ ((f v *ℤ x ≡ pos 0) × Lone f y (suc v) xs)

module _ (told : ℕ → Type 0) (all : (w : ℕ) → told w) (f : ℕ → ℤ) where
  nulls_held : (s : ℤ) (v : ℕ) (xs : List ℤ) → IsHeld s → Nulls f v xs → PlacesHeld told f s v xs
  nulls_held s v [] hs h = tt
  nulls_held s v (x ∷ xs) hs h =
      let zero_held : IsHeld (pos 0) = omega arith in
      let same : s +ℤ f v *ℤ x ≡ s = (let e = h.0 in omega (arith, ints, e)) in
      (all v, subst IsHeld (sym h.0) zero_held, subst IsHeld (sym same) hs, subst (λ z. PlacesHeld told f z (suc v) xs) (sym same) (nulls_held s (suc v) xs hs h.1))

  lone_held : (y : ℤ) (v : ℕ) (xs : List ℤ) → IsHeld y → Lone f y v xs → PlacesHeld told f (pos 0) v xs
  lone_held y v [] hy h = tt
  lone_held y v (x ∷ xs) hy (inl h) =
      let same : pos 0 +ℤ f v *ℤ x ≡ y = (let e = h.0 in omega (arith, ints, e)) in
      (all v, subst IsHeld (sym h.0) hy, subst IsHeld (sym same) hy, subst (λ z. PlacesHeld told f z (suc v) xs) (sym same) (nulls_held y (suc v) xs hy h.1))
  lone_held y v (x ∷ xs) hy (inr h) =
      let zero_held : IsHeld (pos 0) = omega arith in
      let same : pos 0 +ℤ f v *ℤ x ≡ pos 0 = (let e = h.0 in omega (arith, ints, e)) in
      (all v, subst IsHeld (sym h.0) zero_held, subst IsHeld (sym same) zero_held, subst (λ z. PlacesHeld told f z (suc v) xs) (sym same) (lone_held y (suc v) xs hy h.1))

nulls_sum : (f g : ℕ → ℤ) (v : ℕ) (xs : List ℤ) → ((j : ℕ) → g j ≡ f (v + j)) → Nulls f v xs → place_sum g xs ≡ pos 0
nulls_sum f g v [] e h = refl
nulls_sum f g v (x ∷ xs) e h =
    let first : g 0 ≡ f v = (let k : v + 0 ≡ v = omega arith in e 0 ∙ ap f k) in
    let here : g 0 *ℤ x ≡ pos 0 = ap (λ z. z *ℤ x) first ∙ h.0 in
    let later = nulls_sum f (λ j. g (suc j)) (suc v) xs (λ j. (let k : v + suc j ≡ suc v + j = omega arith in e (suc j) ∙ ap f k)) h.1 in
    omega (arith, ints, here, later)

lone_sum : (f g : ℕ → ℤ) (y : ℤ) (v : ℕ) (xs : List ℤ) → ((j : ℕ) → g j ≡ f (v + j)) → Lone f y v xs → place_sum g xs ≡ y
lone_sum f g y v [] e h = sym h
lone_sum f g y v (x ∷ xs) e (inl h) =
    let first : g 0 ≡ f v = (let k : v + 0 ≡ v = omega arith in e 0 ∙ ap f k) in
    let here : g 0 *ℤ x ≡ y = ap (λ z. z *ℤ x) first ∙ h.0 in
    let later = nulls_sum f (λ j. g (suc j)) (suc v) xs (λ j. (let k : v + suc j ≡ suc v + j = omega arith in e (suc j) ∙ ap f k)) h.1 in
    omega (arith, ints, here, later)
lone_sum f g y v (x ∷ xs) e (inr h) =
    let first : g 0 ≡ f v = (let k : v + 0 ≡ v = omega arith in e 0 ∙ ap f k) in
    let here : g 0 *ℤ x ≡ pos 0 = ap (λ z. z *ℤ x) first ∙ h.0 in
    let later = lone_sum f (λ j. g (suc j)) y (suc v) xs (λ j. (let k : v + suc j ≡ suc v + j = omega arith in e (suc j) ∙ ap f k)) h.1 in
    omega (arith, ints, here, later)

zero_times : (c z : ℤ) → c ≡ pos 0 → c *ℤ z ≡ pos 0
zero_times c z e = ap (λ d. d *ℤ z) e ∙ (let k : pos 0 *ℤ z ≡ pos 0 = omega (arith, ints) in k)

-- ---- numbers for the draws
zeros_null : (f : ℕ → ℤ) (v n : ℕ) → Nulls f v (zeros n)
zeros_null f v zero = tt
zeros_null f v (suc n) = (times_zero (f v), zeros_null f (suc v) n)

joined_null : (f : ℕ → ℤ) (v n m : ℕ) → Nulls f v (zeros n ++ zeros m)
joined_null f v zero m = zeros_null f v m
joined_null f v (suc n) m = (times_zero (f v), joined_null f (suc v) n m)

unit_lone : (f : ℕ → ℤ) (v n m j : ℕ) → j < n → Lone f (f (v + j)) v (unit n j ++ zeros m)
unit_lone f v zero m j l = absurd (omega (arith, l))
unit_lone f v (suc n) m zero l = inl ((let k : v + 0 ≡ v = omega arith in (let one : f v *ℤ pos 1 ≡ f v = omega (arith, ints) in one ∙ ap f (sym k))), joined_null f (suc v) n m)
unit_lone f v (suc n) m (suc j) l =
    let k : suc v + j ≡ v + suc j = omega arith in
    inr (times_zero (f v), subst (λ w. Lone f (f w) (suc v) (unit n j ++ zeros m)) k (unit_lone f (suc v) n m j (omega (arith, l))))

zero_table : (n : ℕ) → table n (λ w. pos 0) ≡ zeros n
zero_table zero = refl
zero_table (suc n) = ap (λ ys. pos 0 ∷ ys) (zero_table n)

unit_table : (n j : ℕ) → j < n → table n (λ w. unit_number j w) ≡ unit n j
unit_table zero j l = absurd (omega (arith, l))
unit_table (suc n) zero l = ap (λ ys. pos 1 ∷ ys) (zero_table n)
unit_table (suc n) (suc j) l = ap (λ ys. pos 0 ∷ ys) (unit_table n j (omega (arith, l)))

draw_numbers : (n j : ℕ) (ds : List ℤ) → map (term_number (Some j)) (map (λ d. put d) (number_rows n ds)) ≡ zeros (length ds)
draw_numbers n j [] = refl
draw_numbers n j (d ∷ ds) = (λ i. get_or-zeros n j i ∷ draw_numbers n j ds i)

terms_are : (n j : ℕ) (ds : List ℤ) → j < n → map (term_number (Some j)) (draw_terms n (number_rows n ds)) ≡ unit n j ++ zeros (length ds)
terms_are n j ds l =
    map-append (term_number (Some j)) (table n (λ v. kept v)) (map (λ d. put d) (number_rows n ds))
    ∙ (λ i. (map-table (term_number (Some j)) n (λ v. kept v) ∙ unit_table n j l) i ++ draw_numbers n j ds i)

-- a row that is told and narrow keeps its coefficients
pub drawn_flat : (n : ℕ) (ds : List ℤ) (k : Known) (j : ℕ) → j < n → ((w : ℕ) → KnownHeld k (Some w)) → IsWithin 62 (coefficient_of k j) → IsNarrowIn (composed k (draw_terms n (number_rows n ds))) j
drawn_flat n ds k j l told narrow =
    let f = λ (w : ℕ). known_number k (Some w) in
    let lone : Lone f (f j) 0 (map (term_number (Some j)) (draw_terms n (number_rows n ds))) =
    subst (λ ts. Lone f (f j) 0 ts) (sym (terms_are n j ds l)) (subst (λ w. Lone f (f w) 0 (unit n j ++ zeros (length ds))) (let e : 0 + j ≡ j = omega arith in e) (unit_lone f 0 n (length ds) j l)) in (
      lone_held (λ w. KnownHeld k (Some w)) told f (f j) 0 (map (term_number (Some j)) (draw_terms n (number_rows n ds))) (omega (arith, narrow)) lone,
      subst (IsWithin 62) (sym (lone_sum f f (f j) 0 (map (term_number (Some j)) (draw_terms n (number_rows n ds))) (λ i. ap f (let e : i ≡ 0 + i = omega arith in e)) lone)) narrow,
    )

-- ---- rows with one coefficient at most, which is 1 or -1
pub record IsLone (r : Linear) : Type 0 where
  pub at : ℕ
  pub others : (w : ℕ) → (w ≡ at → ⊥) → number (Some w) r ≡ pos 0
  pub small : (number (Some at) r ≡ pos 0) ⊎ ((number (Some at) r ≡ pos 1) ⊎ (number (Some at) r ≡ negsuc 0))

beyond_null : (f : ℕ → ℤ) (v : ℕ) (xs : List ℤ) → ((w : ℕ) → v < suc w → f w ≡ pos 0) → Nulls f v xs
beyond_null f v [] h = tt
beyond_null f v (x ∷ xs) h = (zero_times (f v) x (h v (omega arith)), beyond_null f (suc v) xs (λ w l. h w (omega (arith, l))))

one_lone : (f : ℕ → ℤ) (v p : ℕ) (xs : List ℤ) → ((w : ℕ) → (w ≡ v + p → ⊥) → f w ≡ pos 0) → Lone f (f (v + p) *ℤ get_or xs p (pos 0)) v xs
one_lone f v p [] h = times_zero (f (v + p))
one_lone f v zero (x ∷ xs) h =
    let k : v ≡ v + 0 = omega arith in
    inl (ap (λ w. f w *ℤ x) k, beyond_null f (suc v) xs (λ w l. h w (λ e. omega (arith, l, e))))
one_lone f v (suc p) (x ∷ xs) h =
    let k : suc v + p ≡ v + suc p = omega arith in
    inr (zero_times (f v) x (h v (λ e. omega (arith, e))), subst (λ w. Lone f (f w *ℤ get_or xs p (pos 0)) (suc v) xs) k (one_lone f (suc v) p xs (λ w ne. h w (λ e. ne (omega (arith, e))))))

small_times : (c z : ℤ) → (c ≡ pos 0) ⊎ ((c ≡ pos 1) ⊎ (c ≡ negsuc 0)) → IsWithin 62 z → IsWithin 62 (c *ℤ z)
small_times c z (inl e) h = subst (IsWithin 62) (sym (zero_times c z e)) (omega arith)
small_times c z (inr (inl e)) h = subst (λ d. IsWithin 62 (d *ℤ z)) (sym e) (subst (IsWithin 62) (let k : z ≡ pos 1 *ℤ z = omega (arith, ints) in k) h)
small_times c z (inr (inr e)) h = subst (λ d. IsWithin 62 (d *ℤ z)) (sym e) (subst (IsWithin 62) (let k : neg_ℤ z ≡ negsuc 0 *ℤ z = omega (arith, ints) in k) (let t : IsWithin 62 (neg_ℤ z) = omega (arith, ints, h) in t))

-- ---- the numbers of the terms after the updates
get_narrow : (xs : List ℤ) (p : ℕ) → All (IsWithin 62) xs → IsWithin 62 (get_or xs p (pos 0))
get_narrow [] p h = omega arith
get_narrow (x ∷ xs) zero h = All-head (IsWithin 62) x xs h
get_narrow (x ∷ xs) (suc p) h = get_narrow xs p (All-tail (IsWithin 62) x xs h)

unit_small : (j v : ℕ) → IsWithin 62 (unit_number j v)
unit_small zero zero = omega arith
unit_small zero (suc v) = omega arith
unit_small (suc j) zero = omega arith
unit_small (suc j) (suc v) = unit_small j v

abbrev pub AreNarrowUpdates : List Update → Type 0
AreNarrowUpdates us = All (λ u. IsNarrow u.term) us

update_narrow : (j : ℕ) (us : List Update) (v : ℕ) → AreNarrowUpdates us → IsWithin 62 (term_number (Some j) (update_of us v))
update_narrow j [] v h = unit_small j v
update_narrow j (u ∷ us) v h = by_test (u.variable == v) (All-head (λ u. IsNarrow u.term) u us h) (update_narrow j us v (All-tail (λ u. IsNarrow u.term) u us h))
  where
    by_test : (b : Bool) → IsNarrow u.term → IsWithin 62 (term_number (Some j) (update_of us v)) → IsWithin 62 (term_number (Some j) (if b then put u.term else update_of us v))
    by_test true n k = get_narrow u.term.coefficients j n.coefficients
    by_test false n k = k

table_narrow : (n : ℕ) (f : ℕ → ℤ) → ((v : ℕ) → IsWithin 62 (f v)) → All (IsWithin 62) (table n f)
table_narrow zero f h = All-nil (IsWithin 62)
table_narrow (suc n) f h = All-cons (IsWithin 62) (f 0) (table n (λ j. f (suc j))) (h 0) (table_narrow n (λ j. f (suc j)) (λ v. h (suc v)))

after_narrow : (n j : ℕ) (us : List Update) → AreNarrowUpdates us → All (IsWithin 62) (map (term_number (Some j)) (terms_after n us))
after_narrow n j us h = subst (All (IsWithin 62)) (sym (map-table (term_number (Some j)) n (update_of us))) (table_narrow n (λ v. term_number (Some j) (update_of us v)) (λ v. update_narrow j us v h))

-- a row with one coefficient at most is narrow after the updates
pub after_flat : (n : ℕ) (us : List Update) (r : Linear) (j : ℕ) → IsLone r → AreNarrowUpdates us → KnownHeld (composed (given r) (terms_after n us)) (Some j) × IsWithin 62 (known_number (composed (given r) (terms_after n us)) (Some j))
after_flat n us r j lone h =
    let f = λ (w : ℕ). number (Some w) r in
    let xs = map (term_number (Some j)) (terms_after n us) in
    let p = lone.at in
    let k : 0 + p ≡ p = omega arith in
    let one : Lone f (f p *ℤ get_or xs p (pos 0)) 0 xs = subst (λ w. Lone f (f w *ℤ get_or xs p (pos 0)) 0 xs) k (one_lone f 0 p xs (λ w ne. lone.others w (λ e. ne (e ∙ sym k)))) in
    let narrow : IsWithin 62 (f p *ℤ get_or xs p (pos 0)) = small_times (f p) (get_or xs p (pos 0)) lone.small (get_narrow xs p (after_narrow n j us h)) in (
      lone_held (λ w. Unit {0}) (λ w. tt) f (f p *ℤ get_or xs p (pos 0)) 0 xs (omega (arith, narrow)) one,
      subst (IsWithin 62) (sym (lone_sum f f (f p *ℤ get_or xs p (pos 0)) 0 xs (λ i. ap f (let e : i ≡ 0 + i = omega arith in e)) one)) narrow,
    )

-- so it is where then numbers are put in for the draws
pub changed_flat : (n : ℕ) (us : List Update) (ds : List ℤ) (r : Linear) (j : ℕ) → j < n → IsLone r → AreNarrowUpdates us → IsNarrowIn (composed (composed (given r) (terms_after n us)) (draw_terms n (number_rows n ds))) j
changed_flat n us ds r j l lone h = drawn_flat n ds (composed (given r) (terms_after n us)) j l (λ w. (after_flat n us r w lone h).0) (after_flat n us r j lone h).1

pub guard_flat : (n : ℕ) (ds : List ℤ) (r : Linear) (j : ℕ) → j < n → IsNarrow r → IsNarrowIn (composed (given r) (draw_terms n (number_rows n ds))) j
guard_flat n ds r j l h = drawn_flat n ds (given r) j l (λ w. tt) (get_narrow r.coefficients j h.coefficients)

-- ---- the rows of states and of ranks
unit_other : (n v w : ℕ) → (w ≡ v → ⊥) → get_or (unit n v) w (pos 0) ≡ pos 0
unit_other zero v w ne = refl
unit_other (suc n) zero zero ne = absurd (ne refl)
unit_other (suc n) zero (suc w) ne = get_or-zeros n w
unit_other (suc n) (suc v) zero ne = refl
unit_other (suc n) (suc v) (suc w) ne = unit_other n v w (λ e. ne (ap suc e))

unit_here : (n v : ℕ) → (get_or (unit n v) v (pos 0) ≡ pos 0) ⊎ (get_or (unit n v) v (pos 0) ≡ pos 1)
unit_here zero v = inl refl
unit_here (suc n) zero = inr refl
unit_here (suc n) (suc v) = unit_here n v

pub at_most_lone : (n v : ℕ) (k : ℤ) → IsLone (at_most_row n v k)
at_most_lone n v k = record { at = v; others = λ w ne. unit_other n v w ne; small = elim (unit_here n v) [ inl e ↦ inl e | inr e ↦ inr (inl e) ] }

pub opposite_lone : (n v : ℕ) (k : ℤ) → IsLone (opposite (at_most_row n v k))
opposite_lone n v k = record {
  at = v;
  others = λ w ne. get_or-map neg_ℤ (unit n v) w (pos 0) ∙ ap neg_ℤ (unit_other n v w ne);
  small = elim (unit_here n v) [ inl e ↦ inl (get_or-map neg_ℤ (unit n v) v (pos 0) ∙ ap neg_ℤ e) | inr e ↦ inr (inr (get_or-map neg_ℤ (unit n v) v (pos 0) ∙ ap neg_ℤ e)) ];
}

pub constant_lone : (n : ℕ) (z : ℤ) → IsLone (constant_row n z)
constant_lone n z = record { at = 0; others = λ w ne. get_or-zeros n w; small = inl (get_or-zeros n 0) }

-- ---- falls
pub less_flat : (n : ℕ) (us : List Update) (ds : List ℤ) (f g z : ℤ) (j : ℕ) → j < n → AreNarrowUpdates us → IsNarrowIn (less (composed (composed (given (constant_row n g)) (terms_after n us)) (draw_terms n (number_rows n ds))) (given (constant_row n f)) z) j
less_flat n us ds f g z j l h =
    let c = changed_flat n us ds (constant_row n g) j l (constant_lone n g) h in
    let a = coefficient_of (composed (composed (given (constant_row n g)) (terms_after n us)) (draw_terms n (number_rows n ds))) j in
    let e : a -ℤ get_or (zeros n) j (pos 0) ≡ a = (let k = get_or-zeros n j in omega (arith, ints, k)) in
    ((c.0, tt, subst IsHeld (sym e) (let w = c.1 in omega (arith, w))), subst (IsWithin 62) (sym e) c.1)

pub not_below_flat : (n : ℕ) (f z : ℤ) (j : ℕ) → IsNarrowIn (less (given zero_row) (given (constant_row n f)) z) j
not_below_flat n f z j =
    let e : pos 0 -ℤ get_or (zeros n) j (pos 0) ≡ pos 0 = (let k = get_or-zeros n j in omega (arith, ints, k)) in
    let zero_held : IsHeld (pos 0) = omega arith in
    let zero_narrow : IsWithin 62 (pos 0) = omega arith in
    ((tt, tt, subst IsHeld (sym e) zero_held), subst (IsWithin 62) (sym e) zero_narrow)
