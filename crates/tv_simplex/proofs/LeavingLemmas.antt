use Rattle.std.proofs.Common.{Option, None, Some, MatchOption, ◌≡◌, ◌⊎◌, inl, inr, ℕ, zero, suc, ◌+◌, ◌-◌, ◌<◌, ◌≤◌, List, [], ◌∷◌, arith, refl, sym, ap, ◌∙◌, subst, ℤ, pos, ◌-ℤ◌, ◌*ℤ◌, ◌<ℤ◌, ◌≤ℤ◌}
use Rattle.std.specs.declared.cmp.Ordering.{Ordering}
use Rattle.std.specs.declared.cmp.Ordering.TheVariants.{Less, Equal, Greater}
use Rattle.std.specs.Ordering.{MatchOrdering, int_cmp}
use Rattle.std.proofs.lemmas.Cmp.{int_ranked}
use Rattle.std.proofs.lemmas.Int.{ints}
use Rattle.tv_fraction.specs.declared.Fraction.{Fraction}
use Rattle.std.proofs.Math.IntN.{*ℤ_comm}
use Rattle.tv_simplex.proofs.Ring.{zero_times, by_sign, is_above, is_zero, times_zero, times_less}
use Rattle.tv_simplex.proofs.RatioLemmas.{value_above, num_above}
use Rattle.tv_simplex.proofs.Shown.{quotients_compared}
use Rattle.tv_simplex.proofs.GoesOn.{least_first, least_skips, least_stays, least_taken, never_tied}
use Rattle.tv_simplex.proofs.Leads.{leads-same}
use Rattle.tv_simplex.specs.Chains.{order, column}
use Rattle.tv_simplex.specs.Orders.{LeastOf, against}
use Rattle.tv_simplex.specs.Ratios.{Ratio, IsRatio, IsQuotient, Shows}
use Rattle.tv_simplex.specs.declared.rows.Entry.{Entry}
use Rattle.tv_simplex.specs.Rows.{ratio, none, entry_in, IsSparse, BeginsWith, IsNextColumn, IsColumn}
use Rattle.tv_simplex.specs.Choosing.{IsSignOf, ComparesAt, difference_at, IsLexicographic, Compares, NoneAbove, IsLeast}
use Rattle.tv_linear.proofs.ListLaws.{last_or_below}
use Rattle.std.proofs.lemmas.Bool.{cases_lt}
use Rattle.tv_fraction.proofs.Products.{product_above}

turned : (k e x y w d : ℤ) → k *ℤ (x -ℤ y) ≡ e *ℤ w → d ≡ pos 0 -ℤ w → k *ℤ (y -ℤ x) ≡ e *ℤ d
turned k e x y w d h g =
    let a = times_less k x y in
    let b = times_less k y x in
    let p = times_less e (pos 0) w in
    let q = ap (λ z. e *ℤ z) g in
    let z = times_zero e (pos 0) refl in
    omega (arith, ints, h, a, b, p, q, z)

sign_of : (o : Ordering) (x y k e w d : ℤ) → MatchOrdering o (x <ℤ y) (x ≡ y) (y <ℤ x) → pos 0 <ℤ k → pos 0 <ℤ e → k *ℤ (x -ℤ y) ≡ e *ℤ w → d ≡ pos 0 -ℤ w → IsSignOf o d
sign_of Less x y k e w d m pk pe h g = is_above e d pe (let p = product_above k (y -ℤ x) pk (omega (arith, ints, m)) in subst (λ z. pos 0 <ℤ z) (turned k e x y w d h g) p)
sign_of Equal x y k e w d m pk pe h g = is_zero e d pe (sym (turned k e x y w d h g) ∙ times_zero k (y -ℤ x) (omega (arith, ints, m)))
sign_of Greater x y k e w d m pk pe h g =
    let p = subst (λ z. pos 0 <ℤ z) h (product_above k (x -ℤ y) pk (omega (arith, ints, m))) in
    let q = is_above e w pe p in
    omega (arith, ints, q, g)

-- what the order of the quotients says of the pictures
pub compares_at : (last c o : ℕ) (first second : ℕ → Ratio) (p q : Fraction) (result : Ordering) → c ≤ last → o ≤ last →
    pos 0 <ℤ (first c).numerator → pos 0 <ℤ (second c).numerator →
    IsQuotient (ratio p) (first o) (first c) → IsQuotient (ratio q) (second o) (second c) →
    result ≡ int_cmp (p.numerator *ℤ q.denominator) (q.numerator *ℤ p.denominator) → ComparesAt last c o first second result
compares_at last c o first second p q result c_in o_in pf ps hp hq e u v scale positive fs gs =
    sign_of result (p.numerator *ℤ q.denominator) (q.numerator *ℤ p.denominator) (u c *ℤ v c) (p.denominator *ℤ q.denominator) (v c *ℤ u o -ℤ u c *ℤ v o) (difference_at c u v o)
    (int_ranked (p.numerator *ℤ q.denominator) (q.numerator *ℤ p.denominator) result e)
    (product_above (u c) (v c) (value_above (first c) (u c) scale positive (fs c c_in) pf) (value_above (second c) (v c) scale positive (gs c c_in) ps))
    (product_above p.denominator q.denominator p.positive q.positive)
    (quotients_compared last c scale positive first second u v c_in fs gs o o_in (ratio p) (ratio q) hp hq)
    (omega (arith, ints))

value_zero : (h : Ratio) (w s : ℤ) → IsRatio h w s → h.numerator ≡ pos 0 → w ≡ pos 0
value_zero h w s r z = is_zero h.denominator w r.positive (*ℤ_comm h.denominator w ∙ sym r.same ∙ zero_times h.numerator s z)

-- where both rows have 0 their quotients are equal
pub both_none : (last c o : ℕ) (first second : ℕ → Ratio) → o ≤ last → (first o).numerator ≡ pos 0 → (second o).numerator ≡ pos 0 → ComparesAt last c o first second Equal
both_none last c o first second o_in fz gz u v scale positive fs gs =
    let a = value_zero (first o) (u o) scale (fs o o_in) fz in
    let b = value_zero (second o) (v o) scale (gs o o_in) gz in
    let d = times_zero (u c) (v o) b in
    let e = times_zero (v c) (u o) a in
    omega (arith, ints, d, e)

pub both_zero : (last c o : ℕ) (first second : ℕ → Ratio) (f g : Fraction) → o ≤ last → ratio f ≡ first o → ratio g ≡ second o → f.numerator ≡ pos 0 → g.numerator ≡ pos 0 → ComparesAt last c o first second Equal
both_zero last c o first second f g o_in fe ge fz gz = both_none last c o first second o_in (sym (ap (λ z. z.numerator) fe) ∙ fz) (sym (ap (λ z. z.numerator) ge) ∙ gz)

pub quotient_of : {f g g' h h' : Ratio} → g ≡ g' → h ≡ h' → IsQuotient f g h → IsQuotient f g' h'
quotient_of {f = f} {g' = g'} {h = h} e d r = subst (λ z. IsQuotient f g' z) d (subst (λ z. IsQuotient f z h) e r)

-- ---- the order of two rows, place by place
module _ (m n c : ℕ) (first second : ℕ → Ratio) where
  pub ends_less : (place : ℕ) → place ≤ m → ((q : ℕ) → q < place → ComparesAt (n + m) c (order m n q) first second Equal) → ComparesAt (n + m) c (order m n place) first second Less → Compares m n c first second Less
  ends_less place l before here u v scale p fs gs = record { place = place; within = l; before = λ q g. before q g u v scale p fs gs; here = here u v scale p fs gs }

  pub ends_greater : (place : ℕ) → place ≤ m → ((q : ℕ) → q < place → ComparesAt (n + m) c (order m n q) first second Equal) → ComparesAt (n + m) c (order m n place) first second Greater → Compares m n c first second Greater
  ends_greater place l before here u v scale p fs gs = record {
    place = place;
    within = l;
    before = λ q g. (let e = before q g u v scale p fs gs in omega (arith, ints, e));
    here = (let e = here u v scale p fs gs in omega (arith, ints, e));
  }

  -- the right sides and the artificial columns before this one compare as equal
  module _ (tied : ComparesAt (n + m) c (n + m) first second Equal) (column : ℕ) (low : n ≤ column) (before : (j : ℕ) → n ≤ j → j < column → ComparesAt (n + m) c j first second Equal) where
    places : (q : ℕ) → q < suc (column - n) → ComparesAt (n + m) c (order m n q) first second Equal
    places zero l = tied
    places (suc p) l = before (n + p) (omega arith) (omega (arith, l, low))

    here_as : (o : Ordering) → ComparesAt (n + m) c column first second o → ComparesAt (n + m) c (n + (column - n)) first second o
    here_as o here = subst (λ z. ComparesAt (n + m) c z first second o) (let e : column ≡ n + (column - n) = omega (arith, low) in e) here

    last_or_before : column ≤ n + m → (column ≡ n + m) ⊎ (column < n + m)
    last_or_before l = grind arith

    pub differs_less : column ≤ n + m → ComparesAt (n + m) c column first second Less → Compares m n c first second Less
    differs_less l here u v scale p fs gs = elim (last_or_before l) [
      | inl e ↦ (let d = subst (λ z. ComparesAt (n + m) c z first second Less) e here u v scale p fs gs in let z = tied u v scale p fs gs in absurd (omega (arith, ints, d, z)))
      | inr g ↦ ends_less (suc (column - n)) (omega (arith, low, g)) places (here_as Less here) u v scale p fs gs
    ]

    pub differs_greater : column ≤ n + m → ComparesAt (n + m) c column first second Greater → Compares m n c first second Greater
    differs_greater l here u v scale p fs gs = elim (last_or_before l) [
      | inl e ↦ (let d = subst (λ z. ComparesAt (n + m) c z first second Greater) e here u v scale p fs gs in let z = tied u v scale p fs gs in absurd (omega (arith, ints, d, z)))
      | inr g ↦ ends_greater (suc (column - n)) (omega (arith, low, g)) places (here_as Greater here) u v scale p fs gs
    ]

    pub differs_nowhere : n + m ≤ column → Compares m n c first second Equal
    differs_nowhere l u v scale p fs gs q q_in = places q (omega (arith, l, q_in)) u v scale p fs gs

  -- the columns in which both rows have nothing compare as equal
  pub none_differ : (from column : ℕ) → column ≤ n + m + 1 → ((j : ℕ) → n ≤ j → j < from → ComparesAt (n + m) c j first second Equal) → ((j : ℕ) → from ≤ j → j < column → (first j ≡ none) × (second j ≡ none)) →
      (j : ℕ) → n ≤ j → j < column → ComparesAt (n + m) c j first second Equal
  none_differ from column high before gap j low up = elim (cases_lt j from) [
    | inl g ↦ before j low g
    | inr g ↦ (let z = gap j g up in both_none (n + m) c j first second (omega (arith, high, up)) (ap (λ z. z.numerator) z.0) (ap (λ z. z.numerator) z.1))
  ]

-- the next column of two rows
pub next_within : (from width column : ℕ) (left right : List Entry) → IsSparse from width left → IsSparse from width right → IsNextColumn left right column → (from ≤ column) × (column < width)
next_within from width column left right h g is = elim is.begins [ inl e ↦ one left h e | inr e ↦ one right g e ]
  where
    one : (es : List Entry) → IsSparse from width es → BeginsWith es column → (from ≤ column) × (column < width)
    one [] s e = absurd e
    one (x ∷ es) s e = (let f = s.0.from in let b = s.0.below in (omega (arith, f, e), omega (arith, b, e)))

-- ---- the least row
pub entry_not_above : (f : Ratio) (v s : ℤ) → pos 0 <ℤ s → IsRatio f v s → f.numerator ≤ℤ pos 0 → v ≤ℤ pos 0
entry_not_above f v s p h l = elim (by_sign v) [
  | inl k ↦ omega (arith, ints, k)
  | inr w ↦ elim w [ inl k ↦ omega (arith, ints, k) | inr k ↦ (let u = num_above f v s p h k in absurd (omega (arith, ints, u, l))) ]
]

module _ (m n : ℕ) (read : ℕ → ℕ → Ratio) (c k : ℕ) (c_in : c ≤ n + m) (k_in : k < m) where
  counted : (a : ℕ → ℕ → ℤ) (b : List ℕ) (bs : List (List ℕ)) (x : Shows a m n b bs read) (r : ℕ) → LeastOf a m n (column b) x.table c (suc k) r → LeastOf a m n (column b) x.table c (k + 1) r
  counted a b bs x r h = (let e : suc k ≡ k + 1 = omega arith in subst (λ z. LeastOf a m n (column b) x.table c z r) e h)

  pub none_more : (read k c).numerator ≤ℤ pos 0 → NoneAbove read c k → NoneAbove read c (k + 1)
  none_more low h i l = elim (last_or_below k i l) [
    | inl e ↦ subst (λ z. (read z c).numerator ≤ℤ pos 0) (sym e) low
    | inr g ↦ h i g
  ]

  pub passed_over : (r : ℕ) → (read k c).numerator ≤ℤ pos 0 → IsLeast m n read c k r → IsLeast m n read c (k + 1) r
  passed_over r low h = record {
    within = (let l = h.within in omega arith);
    above = h.above;
    least = λ a b bs x. counted a b bs x r (least_skips a m n (column b) x.table c k r (entry_not_above (read k c) (x.table.entry k c) x.table.scale x.table.positive (x.rows k c k_in c_in) low) (h.least a b bs x));
  }

  pub best_more : (best : Option ℕ) → (read k c).numerator ≤ℤ pos 0 → MatchOption best (NoneAbove read c k) (λ r. IsLeast m n read c k r) → MatchOption best (NoneAbove read c (k + 1)) (λ r. IsLeast m n read c (k + 1) r)
  best_more None low h = none_more low h
  best_more (Some r) low h = passed_over r low h

  pub first_best : pos 0 <ℤ (read k c).numerator → NoneAbove read c k → IsLeast m n read c (k + 1) k
  first_best above none = record {
    within = omega arith;
    above = above;
    least = λ a b bs x. counted a b bs x k (least_first a m n (column b) x.table c k (value_above (read k c) (x.table.entry k c) x.table.scale x.table.positive (x.rows k c k_in c_in) above)
        (λ i l. entry_not_above (read i c) (x.table.entry i c) x.table.scale x.table.positive (x.rows i c (omega arith) c_in) (none i l)));
  }

  -- what the comparison says of the tableaus that the rows show
  compared_in : (o : Ordering) (r : ℕ) → r < m → Compares m n c (read r) (read k) o → (a : ℕ → ℕ → ℤ) (b : List ℕ) (bs : List (List ℕ)) (x : Shows a m n b bs read) → IsLexicographic m (against a m n (column b) x.table c r k) o
  compared_in o r r_in h a b bs x = h (x.table.entry r) (x.table.entry k) x.table.scale x.table.positive (λ j l. x.rows r j r_in l) (λ j l. x.rows k j k_in l)

  pub taken_over : (r : ℕ) → pos 0 <ℤ (read k c).numerator → Compares m n c (read r) (read k) Greater → IsLeast m n read c k r → IsLeast m n read c (k + 1) k
  taken_over r above less h = record {
    within = omega arith;
    above = above;
    least = λ a b bs x. counted a b bs x k (least_taken a m n (column b) x.table c k r (value_above (read k c) (x.table.entry k c) x.table.scale x.table.positive (x.rows k c k_in c_in) above)
        (leads-same m (λ q. pos 0 -ℤ against a m n (column b) x.table c r k q) (against a m n (column b) x.table c k r) (compared_in Greater r (let l = h.within in omega arith) less a b bs x) (λ q l. omega (arith, ints)))
        (h.least a b bs x));
  }

  pub stays : (o : Ordering) (r : ℕ) → (o ≡ Greater → ⊥) → Compares m n c (read r) (read k) o → IsLeast m n read c k r → IsLeast m n read c (k + 1) r
  stays Greater r never less h = absurd (never refl)
  stays Less r never less h = record {
    within = (let l = h.within in omega arith);
    above = h.above;
    least = λ a b bs x. counted a b bs x r (least_stays a m n (column b) x.table c k r (compared_in Less r (let l = h.within in omega arith) less a b bs x) (h.least a b bs x));
  }
  stays Equal r never less h = record {
    within = (let l = h.within in omega arith);
    above = h.above;
    least = λ a b bs x. absurd (never_tied a m n (column b) x.table c k r k_in (h.least a b bs x) (compared_in Equal r (let l = h.within in omega arith) less a b bs x));
  }

-- a row that is not among the entries of the column has nothing above 0 there
pub nothing_above : (height c : ℕ) (read : ℕ → ℕ → Ratio) (factors : List Entry) → IsColumn height c read factors → (i : ℕ) → i < height → entry_in factors i ≡ none → (read i c).numerator ≤ℤ pos 0
nothing_above height c read factors of i l nothing = (let e = ap (λ f. f.numerator) (sym (of.each i l) ∙ nothing) in omega (arith, ints, e))

-- further rows with nothing above 0
best_further : (m n : ℕ) (read : ℕ → ℕ → Ratio) (c k d : ℕ) → c ≤ n + m → k + d ≤ m → (best : Option ℕ) → ((i : ℕ) → k ≤ i → i < k + d → (read i c).numerator ≤ℤ pos 0) →
    MatchOption best (NoneAbove read c k) (λ r. IsLeast m n read c k r) → MatchOption best (NoneAbove read c (k + d)) (λ r. IsLeast m n read c (k + d) r)
best_further m n read c k zero c_in high best low h = (let e : k ≡ k + 0 = omega arith in subst (λ z. MatchOption best (NoneAbove read c z) (λ r. IsLeast m n read c z r)) e h)
best_further m n read c k (suc d) c_in high best low h =
    let e : k + d + 1 ≡ k + suc d = omega arith in
    subst (λ z. MatchOption best (NoneAbove read c z) (λ r. IsLeast m n read c z r)) e
    (best_more m n read c (k + d) c_in (omega (arith, high)) best (low (k + d) (omega arith) (omega arith)) (best_further m n read c k d c_in (omega (arith, high)) best (λ i from up. low i from (omega (arith, up))) h))

pub best_up : (m n : ℕ) (read : ℕ → ℕ → Ratio) (c k end : ℕ) → c ≤ n + m → k ≤ end → end ≤ m → (best : Option ℕ) → ((i : ℕ) → k ≤ i → i < end → (read i c).numerator ≤ℤ pos 0) →
    MatchOption best (NoneAbove read c k) (λ r. IsLeast m n read c k r) → MatchOption best (NoneAbove read c end) (λ r. IsLeast m n read c end r)
best_up m n read c k end c_in l high best low h =
    let e : k + (end - k) ≡ end = omega (arith, l) in
    subst (λ z. MatchOption best (NoneAbove read c z) (λ r. IsLeast m n read c z r)) e
    (best_further m n read c k (end - k) c_in (omega (arith, l, high)) best (λ i from up. low i from (omega (arith, l, up))) h)

pub not_above_as : (v w : ℤ) → v ≡ w → (pos 0 <ℤ v → ⊥) → w ≤ℤ pos 0
not_above_as v w e h = elim (by_sign v) [
  | inl k ↦ omega (arith, ints, k, e)
  | inr u ↦ elim u [ inl k ↦ omega (arith, ints, k, e) | inr k ↦ absurd (h k) ]
]
