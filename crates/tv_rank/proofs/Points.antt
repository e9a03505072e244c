use Rattle.std.proofs.Common.{inl, inr, ◌≡◌, ℕ, zero, suc, ◌+◌, ◌<◌, ◌≤◌, List, [], ◌∷◌, length, get_or, All, Option, None, Some, Bool, true, false, ◌==◌, if◌then◌else◌, arith, refl, sym, ap, ◌∙◌, subst, ℤ, pos, ◌+ℤ◌, ◌*ℤ◌, ◌≤ℤ◌}
use Rattle.std.proofs.lemmas.Int.{ints}
use Rattle.tv_linear.specs.Linear.{Linear, linear, columns, dot, scaled_value}
use Rattle.tv_linear.specs.Known.{Term, kept, put, number}
use Rattle.tv_linear.specs.Terms.{table, update_of}
use Rattle.tv_linear.specs.declared.region.Update.{Update}
use Rattle.tv_linear.proofs.PlainLists.{length-table}
use Rattle.tv_farkas.proofs.SystemLemmas.{at_of, total-front}
use Rattle.tv_simplex.specs.Sums.{total}
use Rattle.tv_simplex.proofs.Sums.{total-same, total-zero}
use Rattle.tv_rank.specs.Ways.{Way, met_rows}
use Rattle.tv_rank.specs.RankingSystem.{number_of}
use Rattle.tv_rank.specs.Rankings.{term_at, scaled_term, value_before, value_after, IsWayPoint, HasPoint, Ranks}
use Rattle.tv_rank.proofs.Over.{over, Inside, over-same, unit_times}
use Rattle.tv_rank.proofs.Barriers.{value, width, row_of, there_before, there_after, before_at, after_at}
use Rattle.tv_rank.proofs.Excluded.{IsPoint, RanksAt}
use Rattle.tv_linear.proofs.ListLaws.{get_or-table, map-table, table_of}
use Rattle.std.proofs.lemmas.Bool.{cases_lt}
use Rattle.std.proofs.lemmas.List.Elements.{All-from_get_or}
use Rattle.std.proofs.lemmas.List.{get_or_past}

-- the products of two lists, as many as the second has
pub dot-by : (cs xs : List ℤ) → dot cs xs ≡ total (length xs) (λ c. get_or cs c (pos 0) *ℤ get_or xs c (pos 0))
dot-by [] xs = sym (total-zero (length xs) (λ c. pos 0 *ℤ get_or xs c (pos 0)) (λ c l. omega (arith, ints)))
dot-by (c ∷ cs) [] = refl
dot-by (c ∷ cs) (x ∷ xs) = (let h = dot-by cs xs in let f = total-front (length xs) (λ k. get_or (c ∷ cs) k (pos 0) *ℤ get_or (x ∷ xs) k (pos 0)) in omega (arith, ints, h, f))

pub dot-table : (cs : List ℤ) (n : ℕ) (g : ℕ → ℤ) → dot cs (table n g) ≡ total n (λ c. get_or cs c (pos 0) *ℤ g c)
dot-table cs n g =
    dot-by cs (table n g)
    ∙ ap (λ z. total z (λ c. get_or cs c (pos 0) *ℤ get_or (table n g) c (pos 0))) (length-table n g)
    ∙ total-same n (λ c. get_or cs c (pos 0) *ℤ get_or (table n g) c (pos 0)) (λ c. get_or cs c (pos 0) *ℤ g c) (λ c l. ap (λ z. get_or cs c (pos 0) *ℤ z) (get_or-table n g c (pos 0) l))

-- only the first n numbers count
total-short : (m n : ℕ) (cs : List ℤ) (g : ℕ → ℤ) → length cs ≤ n → total (n + m) (λ c. get_or cs c (pos 0) *ℤ g c) ≡ total n (λ c. get_or cs c (pos 0) *ℤ g c)
total-short zero n cs g h = ap (λ z. total z (λ c. get_or cs c (pos 0) *ℤ g c)) (let e : n + 0 ≡ n = omega arith in e)
total-short (suc m) n cs g h =
    ap (λ z. total z (λ c. get_or cs c (pos 0) *ℤ g c)) (let e : n + suc m ≡ suc (n + m) = omega arith in e)
    ∙ (let a = total-short m n cs g h in let b = get_or_past cs (n + m) (pos 0) (omega (arith, h)) in let z : get_or cs (n + m) (pos 0) *ℤ g (n + m) ≡ pos 0 = ap (λ x. x *ℤ g (n + m)) b ∙ omega (arith, ints) in omega (arith, ints, a, z))

-- ---- points as lists and as functions
abbrev pub list_of : ℕ → (Option ℕ → ℤ) → List ℤ
list_of n p = table n (λ c. p (Some c))

abbrev pub point_of : List ℤ → ℤ → Option ℕ → ℤ
point_of xs z None = z
point_of xs z (Some c) = get_or xs c (pos 0)

pub value_listed : (n : ℕ) (r : Linear) (p : Option ℕ → ℤ) → scaled_value r (list_of n p) (p None) ≡ value n (λ c. number c r) p
value_listed n r p = ap (λ z. z +ℤ r.constant *ℤ p None) (dot-table r.coefficients n (λ c. p (Some c)))

pub value_pointed : (r : Linear) (xs : List ℤ) (z : ℤ) → scaled_value r xs z ≡ value (length xs) (λ c. number c r) (point_of xs z)
value_pointed r xs z = ap (λ y. y +ℤ r.constant *ℤ z) (dot-by r.coefficients xs)

-- a point of a function is one of a list
pub listed_point : (v : ℕ) (w : Way) (p : Option ℕ → ℤ) → IsPoint v w p → IsWayPoint v w (list_of (width v w) p) (p None)
listed_point v w p h = record {
  width = length-table (width v w) (λ c. p (Some c));
  meets = record {
    positive = h.positive;
    met = All-from_get_or (λ r. scaled_value r (list_of (width v w) p) (p None) ≤ℤ pos 0) (met_rows w) (linear [] (pos 0)) (λ i l. subst (λ z. z ≤ℤ pos 0) (sym (value_listed (width v w) (get_or (met_rows w) i (linear [] (pos 0))) p)) (h.meets i l));
  };
}

-- and the other way round
pub pointed_at : (v : ℕ) (w : Way) (xs : List ℤ) (z : ℤ) → IsWayPoint v w xs z → IsPoint v w (point_of xs z)
pointed_at v w xs z h = record {
  meets = λ i l. subst (λ n. value n (row_of w i) (point_of xs z) ≤ℤ pos 0) h.width (subst (λ y. y ≤ℤ pos 0) (value_pointed (get_or (met_rows w) i (linear [] (pos 0))) xs z) (at_of (λ r. scaled_value r xs z ≤ℤ pos 0) (met_rows w) (linear [] (pos 0)) h.meets.met i l));
  positive = h.meets.positive;
}

pub pointed : (v : ℕ) (w : Way) → HasPoint v w → (p : Option ℕ → ℤ) × IsPoint v w p
pointed v w (xs, z, h) = (point_of xs z, pointed_at v w xs z h)

-- ---- the terms at points
-- what holds of a kept variable and of every row holds of what the updates put for it
updated : (P : Term → Type 0) (us : List Update) (j : ℕ) → P (kept j) → ((r : Linear) → P (put r)) → P (update_of us j)
updated P [] j k r = k
updated P (u ∷ us) j k r = one (u.variable == j) (updated P us j k r)
  where
    one : (b : Bool) → P (update_of us j) → P (if b then put u.term else update_of us j)
    one true h = r u.term
    one false h = h

term_there : (n j : ℕ) (p : Option ℕ → ℤ) (us : List Update) → j < n → scaled_term (list_of n p) (p None) (update_of us j) ≡ over n (λ c. number_of c (update_of us j) *ℤ p c)
term_there n j p us l = updated (λ t. scaled_term (list_of n p) (p None) t ≡ over n (λ c. number_of c t *ℤ p c)) us j (get_or-table n (λ c. p (Some c)) j (pos 0) l ∙ sym (unit_times n (Some j) p l)) (λ r. value_listed n r p)

abbrev pub numbers_at : List Linear → ℕ → Option ℕ → ℤ
numbers_at terms l m = number m (term_at terms l)

pub before_listed : (v : ℕ) (terms : List Linear) (w : Way) (p : Option ℕ → ℤ) → columns (term_at terms w.taken.from) ≤ v → value_before terms w (list_of (width v w) p) (p None) ≡ before_at v (numbers_at terms) w p
before_listed v terms w p h =
    let f = term_at terms w.taken.from in
    let a = dot-table f.coefficients (width v w) (λ c. p (Some c)) ∙ total-short w.taken.draws v f.coefficients (λ c. p (Some c)) h in
    let b = over-same v (λ m. number m f *ℤ there_before v w p m) (λ m. number m f *ℤ p m) (λ m g. ap (λ z. number m f *ℤ z) (unit_times (width v w) m p (wider m g))) in
    omega (arith, ints, a, b)
  where
    wider : (m : Option ℕ) → Inside v m → Inside (width v w) m
    wider None g = tt
    wider (Some j) g = omega (arith, g)

pub after_listed : (v : ℕ) (terms : List Linear) (w : Way) (p : Option ℕ → ℤ) → value_after v terms w (list_of (width v w) p) (p None) ≡ after_at v (numbers_at terms) w p
after_listed v terms w p =
    let f = term_at terms w.taken.to in
    let a = ap (λ zs. dot f.coefficients zs) (map-table (scaled_term (list_of (width v w) p) (p None)) v (update_of w.taken.updates)) ∙ dot-table f.coefficients v (λ j. scaled_term (list_of (width v w) p) (p None) (update_of w.taken.updates j)) in
    let b = total-same v (λ j. get_or f.coefficients j (pos 0) *ℤ scaled_term (list_of (width v w) p) (p None) (update_of w.taken.updates j)) (λ j. number (Some j) f *ℤ there_after v w p (Some j)) (λ j l. ap (λ z. get_or f.coefficients j (pos 0) *ℤ z) (term_there (width v w) j p w.taken.updates (omega (arith, l)))) in
    let d = ap (λ z. f.constant *ℤ z) (unit_times (width v w) None p tt) in
    omega (arith, ints, a, b, d)

-- terms that rank at points as lists do at points as functions
pub ranks_at : (v many : ℕ) (ways : ℕ → Way) (falling : ℕ) (terms : List Linear) → ((l : ℕ) → columns (term_at terms l) ≤ v) → Ranks v many ways falling terms → RanksAt v many ways falling (numbers_at terms)
ranks_at v many ways falling terms wide h = record {
  grows_nowhere = λ k l p q.
      let g = h.grows_nowhere k l (list_of (width v (ways k)) p) (p None) (listed_point v (ways k) p q) in
      let a = after_listed v terms (ways k) p in
      let b = before_listed v terms (ways k) p (wide (ways k).taken.from) in
      omega (arith, ints, g, a, b);
  bounded = λ p q.
      let g = h.bounded (list_of (width v (ways falling)) p) (p None) (listed_point v (ways falling) p q) in
      let b = before_listed v terms (ways falling) p (wide (ways falling).taken.from) in
      omega (arith, ints, g, b);
  falls = λ p q.
      let g = h.falls (list_of (width v (ways falling)) p) (p None) (listed_point v (ways falling) p q) in
      let a = after_listed v terms (ways falling) p in
      let b = before_listed v terms (ways falling) p (wide (ways falling).taken.from) in
      omega (arith, ints, g, a, b);
}

-- and the other way round
pub before_pointed : (v : ℕ) (terms : List Linear) (w : Way) (xs : List ℤ) (z : ℤ) → columns (term_at terms w.taken.from) ≤ v → length xs ≡ width v w → value_before terms w xs z ≡ before_at v (numbers_at terms) w (point_of xs z)
before_pointed v terms w xs z h e = subst (λ ys. value_before terms w ys z ≡ before_at v (numbers_at terms) w (point_of xs z)) (table_of (width v w) xs e) (before_listed v terms w (point_of xs z) h)

pub after_pointed : (v : ℕ) (terms : List Linear) (w : Way) (xs : List ℤ) (z : ℤ) → length xs ≡ width v w → value_after v terms w xs z ≡ after_at v (numbers_at terms) w (point_of xs z)
after_pointed v terms w xs z e = subst (λ ys. value_after v terms w ys z ≡ after_at v (numbers_at terms) w (point_of xs z)) (table_of (width v w) xs e) (after_listed v terms w (point_of xs z))

pub ranks_listed : (v many : ℕ) (ways : ℕ → Way) (falling : ℕ) (terms : List Linear) → ((l : ℕ) → columns (term_at terms l) ≤ v) → RanksAt v many ways falling (numbers_at terms) → Ranks v many ways falling terms
ranks_listed v many ways falling terms wide h = record {
  grows_nowhere = λ k l xs z q.
      let g = h.grows_nowhere k l (point_of xs z) (pointed_at v (ways k) xs z q) in
      let a = after_pointed v terms (ways k) xs z q.width in
      let b = before_pointed v terms (ways k) xs z (wide (ways k).taken.from) q.width in
      omega (arith, ints, g, a, b);
  bounded = λ xs z q.
      let g = h.bounded (point_of xs z) (pointed_at v (ways falling) xs z q) in
      let b = before_pointed v terms (ways falling) xs z (wide (ways falling).taken.from) q.width in
      omega (arith, ints, g, b);
  falls = λ xs z q.
      let g = h.falls (point_of xs z) (pointed_at v (ways falling) xs z q) in
      let a = after_pointed v terms (ways falling) xs z q.width in
      let b = before_pointed v terms (ways falling) xs z (wide (ways falling).taken.from) q.width in
      omega (arith, ints, g, a, b);
}

pub terms_past : (ts : List Linear) (l : ℕ) → length ts ≤ l → columns (term_at ts l) ≡ 0
terms_past [] l k = refl
terms_past (t ∷ ts) zero k = absurd (omega (arith, k))
terms_past (t ∷ ts) (suc l) k = terms_past ts l (omega (arith, k))

pub terms_wide : (v : ℕ) (terms : List Linear) (l : ℕ) → All (λ t. columns t ≡ v) terms → columns (term_at terms l) ≤ v
terms_wide v terms l h = elim (cases_lt l (length terms)) [
  | inl k ↦ (let e = at_of (λ t. columns t ≡ v) terms (linear [] (pos 0)) h l k in omega (arith, e))
  | inr k ↦ (let e = terms_past terms l k in omega (arith, e))
]
