use Rattle.std.proofs.Common.{Bool, true, false, IsTrue, cond, ◌≡◌, inl, inr, ℕ, zero, suc, ◌+◌, ◌-◌, ◌<◌, ◌≤◌, List, [], ◌∷◌, ◌++◌, length, get_or, take, drop, length-drop, take_all, arith, refl, sym, ap, ◌∙◌, subst, ℤ, pos, ◌-ℤ◌, ◌*ℤ◌, ◌<ℤ◌, ◌≤ℤ◌, unsigned_abs}
use Rattle.std.specs.Prelude.{nat_eq}
use Rattle.std.proofs.lemmas.Int.{ints}
use Rattle.std.proofs.lemmas.Bool.Decides.{nat_tests}
use Rattle.std.proofs.Math.IntN.{*ℤ_comm}
use Rattle.std.proofs.Math.Nat.{dvd-zero, dvd_refl}
use Prim.Native.Nat.{◌∣◌}
use Rattle.tv_linear.proofs.Ring.{mul_assoc_z}
use Rattle.tv_fraction.specs.declared.Fraction.{Fraction}
use Rattle.tv_simplex.proofs.Ring.{zero_times, times_zero, less_times, by_sign, is_zero}
use Rattle.tv_simplex.specs.Ratios.{Ratio, IsQuotient, IsLessProduct}
use Rattle.tv_simplex.specs.declared.rows.Entry.{Entry}
use Rattle.tv_simplex.specs.Rows.{ratio, ratio_of, none, entry_in, IsNarrowRatio, IsEntry, IsSparse, IsRow, IsRestOf, BeginsFrom, IsPut, IsDivided, IsTaken, IsMade}
use Rattle.tv_linear.proofs.ListLaws.{last_or_below}
use Rattle.std.proofs.lemmas.Bool.{cases_lt, cases_eq}
use Rattle.tv_fraction.proofs.Products.{product_above}

-- ---- the fraction in a column
pub entry-here : (e : Entry) (es : List Entry) (j : ℕ) → e.column ≡ j → entry_in (e ∷ es) j ≡ ratio_of e
entry-here e es j h = at (nat_eq e.column j) (grind (arith, nat_tests))
  where
    at : (p : Bool) → p ≡ true → cond p (ratio_of e) (entry_in es j) ≡ ratio_of e
    at true g = refl
    at false g = cc

pub entry-behind : (e : Entry) (es : List Entry) (j : ℕ) → (e.column ≡ j → ⊥) → entry_in (e ∷ es) j ≡ entry_in es j
entry-behind e es j h = at (nat_eq e.column j) (grind (arith, nat_tests))
  where
    at : (p : Bool) → p ≡ false → cond p (ratio_of e) (entry_in es j) ≡ entry_in es j
    at false g = refl
    at true g = cc

pub none_before : (first end : ℕ) (es : List Entry) (j : ℕ) → IsSparse first end es → j < first → entry_in es j ≡ none
none_before first end [] j h l = refl
none_before first end (e ∷ es) j h l = (let f = h.0.from in entry-behind e es j (λ g. absurd (omega (arith, f, g, l))) ∙ none_before (e.column + 1) end es j h.1 (omega (arith, f, l)))

pub none_after : (first end : ℕ) (es : List Entry) (j : ℕ) → IsSparse first end es → end ≤ j → entry_in es j ≡ none
none_after first end [] j h l = refl
none_after first end (e ∷ es) j h l = (let b = h.0.below in entry-behind e es j (λ g. absurd (omega (arith, b, g, l))) ∙ none_after (e.column + 1) end es j h.1 l)

pub entry_narrow : (es : List Entry) (j : ℕ) → IsNarrowRatio (entry_in es j)
entry_narrow [] j = (omega arith, omega arith)
entry_narrow (e ∷ es) j = elim (cases_eq e.column j) [
  | inl g ↦ subst (λ z. IsNarrowRatio z) (sym (entry-here e es j g)) (e.number.numerator_bound, e.number.denominator_bound)
  | inr o ↦ subst (λ z. IsNarrowRatio z) (sym (entry-behind e es j o)) (entry_narrow es j)
]

pub entry_above : (es : List Entry) (j : ℕ) → pos 0 <ℤ (entry_in es j).denominator
entry_above [] j = omega (arith, ints)
entry_above (e ∷ es) j = elim (cases_eq e.column j) [
  | inl g ↦ subst (λ z. pos 0 <ℤ z.denominator) (sym (entry-here e es j g)) e.number.positive
  | inr o ↦ subst (λ z. pos 0 <ℤ z.denominator) (sym (entry-behind e es j o)) (entry_above es j)
]

-- a fraction of numerator 0 is 0 over 1
pub zero_is_none : (f : Fraction) → f.numerator ≡ pos 0 → ratio f ≡ none
zero_is_none f e =
    let d = unsigned_abs f.denominator in
    let one : d ≡ 1 = f.reduced d (subst (λ z. d ∣ unsigned_abs z) (sym e) (dvd-zero d)) (dvd_refl d) in
    let p = f.positive in
    let g : f.denominator ≡ pos 1 = grind (arith, ints, one, p) in
    λ i. record { numerator = e i; denominator = g i }

-- ---- sparse rows
pub sparse_from : (first second end : ℕ) (es : List Entry) → IsSparse first end es → BeginsFrom es second → IsSparse second end es
sparse_from first second end [] h g = tt
sparse_from first second end (e ∷ es) h g = (record { from = g; below = h.0.below; nonzero = h.0.nonzero }, h.1)

pub sparse_wider : (first end wider : ℕ) (es : List Entry) → IsSparse first end es → end ≤ wider → IsSparse first wider es
sparse_wider first end wider [] h l = tt
sparse_wider first end wider (e ∷ es) h l = (record { from = h.0.from; below = (let b = h.0.below in omega (arith, b, l)); nonzero = h.0.nonzero }, sparse_wider (e.column + 1) end wider es h.1 l)

sparse_last : (first middle end : ℕ) (es : List Entry) (e : Entry) → IsSparse first middle es → first ≤ middle → IsEntry middle end e → IsSparse first end (es ++ e ∷ [])
sparse_last first middle end [] e h l is = (record { from = (let f = is.from in omega (arith, f, l)); below = is.below; nonzero = is.nonzero }, tt)
sparse_last first middle end (x ∷ es) e h l is =
    let b = h.0.below in
    let f = is.from in
    let g = is.below in
    (record { from = h.0.from; below = omega (arith, b, f, g); nonzero = h.0.nonzero }, sparse_last (x.column + 1) middle end es e h.1 (omega (arith, b)) is)

entry-last : (first end : ℕ) (es : List Entry) (e : Entry) → IsSparse first end es → end ≤ e.column → entry_in (es ++ e ∷ []) e.column ≡ ratio_of e
entry-last first end [] e h l = entry-here e [] e.column refl
entry-last first end (x ∷ es) e h l = (let b = h.0.below in entry-behind x (es ++ e ∷ []) e.column (λ g. absurd (omega (arith, b, g, l))) ∙ entry-last (x.column + 1) end es e h.1 l)

entry-before : (es : List Entry) (e : Entry) (j : ℕ) → (e.column ≡ j → ⊥) → entry_in (es ++ e ∷ []) j ≡ entry_in es j
entry-before [] e j o = entry-behind e [] j o
entry-before (x ∷ es) e j o = elim (cases_eq x.column j) [
  | inl g ↦ entry-here x (es ++ e ∷ []) j g ∙ sym (entry-here x es j g)
  | inr n ↦ entry-behind x (es ++ e ∷ []) j n ∙ entry-before es e j o ∙ sym (entry-behind x es j n)
]

-- ---- a row that is made column by column
module _ (rule : ℕ → Ratio → Type 0) where
  -- further columns in which there is nothing
  pub row_wider : (from end : ℕ) (row : List Entry) → from ≤ end → IsRow rule from row → ((j : ℕ) → from ≤ j → j < end → rule j none) → IsRow rule end row
  row_wider from end row l h gap = record {
    sparse = sparse_wider 0 from end row h.sparse l;
    each = λ j j_in. elim (cases_lt j from) [
      | inl g ↦ h.each j g
      | inr g ↦ subst (rule j) (sym (none_after 0 from row j h.sparse g)) (gap j g j_in)
    ];
  }

  -- one more fraction
  pub row_put : (from column : ℕ) (f : Ratio) (old new : List Entry) → from ≤ column → IsRow rule from old → ((j : ℕ) → from ≤ j → j < column → rule j none) → rule column f → IsPut column f old new → IsRow rule (column + 1) new
  row_put from column f old new l h gap is (inl w) = subst (λ z. IsRow rule (column + 1) z) (sym w.1) (row_wider from (column + 1) old (omega (arith, l)) h (λ j low high. elim (last_or_below column j high) [
    | inl e ↦ subst (λ z. rule z none) (sym e) (subst (rule column) w.0 is)
    | inr g ↦ gap j low g
  ]))
  row_put from column f old new l h gap is (inr w) = subst (λ z. IsRow rule (column + 1) z) (sym w.1.appended) record {
    sparse = sparse_last 0 column (column + 1) old e wider.sparse (omega arith) record { from = omega (arith, k); below = omega (arith, k); nonzero = λ z. w.0 (sym (ap (λ y. y.numerator) w.1.number_is) ∙ z) };
    each = λ j j_in. elim (last_or_below column j j_in) [
      | inl g ↦ subst (λ z. rule z (entry_in (old ++ e ∷ []) z)) (sym g) (subst (rule column) (sym here) is)
      | inr g ↦ subst (rule j) (sym (entry-before old e j (λ q. absurd (omega (arith, k, q, g))))) (wider.each j g)
    ];
  }
    where
      wider : IsRow rule column old
      wider = row_wider from column old l h gap

      e : Entry
      e = w.1.entry

      k : e.column ≡ column
      k = w.1.column_is

      here : entry_in (old ++ e ∷ []) column ≡ f
      here = subst (λ z. entry_in (old ++ e ∷ []) z ≡ ratio_of e) k (entry-last 0 column old e wider.sparse (omega (arith, k))) ∙ w.1.number_is

-- ---- what is left of a row
module _ (row : ℕ → Ratio) (from width : ℕ) where
  pub left_none : IsRestOf row from width [] → (j : ℕ) → from ≤ j → row j ≡ none
  left_none h j l = sym (h.same j l)

  pub left_up : (column : ℕ) (es : List Entry) → from ≤ column → BeginsFrom es column → IsRestOf row from width es → IsRestOf row column width es
  left_up column es l g h = record { sparse = sparse_from from column width es h.sparse g; same = λ j low. h.same j (omega (arith, l, low)) }

  pub left_gap : (column : ℕ) (es : List Entry) → from ≤ column → BeginsFrom es column → IsRestOf row from width es → (j : ℕ) → from ≤ j → j < column → row j ≡ none
  left_gap column es l g h j low high = sym (h.same j low) ∙ none_before column width es j (left_up column es l g h).sparse high

  pub left_front : (e : Entry) (es : List Entry) → IsRestOf row from width (e ∷ es) → row e.column ≡ ratio_of e
  left_front e es h = sym (h.same e.column h.sparse.0.from) ∙ entry-here e es e.column refl

  pub left_behind : (e : Entry) (es : List Entry) → IsRestOf row from width (e ∷ es) → IsRestOf row (e.column + 1) width es
  left_behind e es h = record {
    sparse = h.sparse.1;
    same = λ j low. sym (entry-behind e es j (λ g. absurd (omega (arith, g, low)))) ∙ h.same j (let f = h.sparse.0.from in omega (arith, f, low));
  }

  pub left_of : (column : ℕ) (es rest : List Entry) → from ≤ column → IsRestOf row from width es → IsRestOf (entry_in es) column width rest → IsRestOf row column width rest
  left_of column es rest l h g = record { sparse = g.sparse; same = λ j low. g.same j low ∙ h.same j (omega (arith, l, low)) }

-- nothing is left where no entry is
pub begins_none : (es : List Entry) (column : ℕ) → length es < 1 → BeginsFrom es column
begins_none [] column l = tt
begins_none (e ∷ es) column l = absurd (omega (arith, l))

pub left_ends : (row : ℕ → Ratio) (from width : ℕ) (es : List Entry) → length es < 1 → IsRestOf row from width es → (j : ℕ) → from ≤ j → row j ≡ none
left_ends row from width [] l h j low = left_none row from width h j low
left_ends row from width (e ∷ es) l h j low = absurd (omega (arith, l))

-- ---- both at once
module _ (rule : ℕ → Ratio → Type 0) (old : List Entry) (width from : ℕ) where
  pub made_up : (column : ℕ) (es made : List Entry) → from ≤ column → column ≤ width → BeginsFrom es column → IsMade rule old width from es made → ((j : ℕ) → from ≤ j → j < column → entry_in old j ≡ none → rule j none) → IsMade rule old width column es made
  made_up column es made l high g h gap = record {
    within = high;
    left = left_up (entry_in old) from width column es l g h.left;
    made = row_wider rule from column made l h.made (λ j low up. gap j low up (left_gap (entry_in old) from width column es l g h.left j low up));
  }

  -- one entry more
  pub made_next : (e : Entry) (es : List Entry) (f : Ratio) (made new : List Entry) → IsMade rule old width from (e ∷ es) made → ((j : ℕ) → from ≤ j → j < e.column → entry_in old j ≡ none → rule j none) → rule e.column f → IsPut e.column f made new → IsMade rule old width (e.column + 1) es new
  made_next e es f made new h gap is put = record {
    within = (let b = h.left.sparse.0.below in omega (arith, b));
    left = left_behind (entry_in old) from width e es h.left;
    made = row_put rule from e.column f made new h.left.sparse.0.from h.made
        (λ j low up. gap j low up (left_gap (entry_in old) from width e.column (e ∷ es) h.left.sparse.0.from (omega arith) h.left j low up)) is put;
  }

-- nothing is left
pub made_ends : (rule : ℕ → Ratio → Type 0) (old : List Entry) (width from : ℕ) (es made : List Entry) → length es < 1 → IsMade rule old width from es made → ((j : ℕ) → entry_in old j ≡ none → rule j none) → IsRow rule width made
made_ends rule old width from [] made l h gap = (made_up rule old width from width [] made h.within (omega arith) tt h (λ j low up z. gap j z)).made
made_ends rule old width from (e ∷ es) made l h gap = absurd (omega (arith, l))

-- ---- what becomes of 0
-- nothing is taken away where a factor is 0
pub less_product_zero : (g h k : Ratio) → pos 0 <ℤ g.denominator → (h.numerator *ℤ k.numerator) ≡ pos 0 → IsLessProduct g g h k
less_product_zero g h k p e = record {
  positive = p;
  same = (
      let d = h.denominator *ℤ k.denominator in
      let z = zero_times (h.numerator *ℤ k.numerator) g.denominator e in
      let s = less_times (g.numerator *ℤ d) ((h.numerator *ℤ k.numerator) *ℤ g.denominator) g.denominator in
      let w = zero_times ((h.numerator *ℤ k.numerator) *ℤ g.denominator) g.denominator z in
      let a = mul_assoc_z g.numerator d g.denominator ∙ ap (λ y. g.numerator *ℤ y) (*ℤ_comm d g.denominator) in
      omega (arith, ints, s, w, a));
}

-- a row stays where the factor is 0
pub row_stays : (row pivots : List Entry) (factor : Ratio) (width : ℕ) → IsSparse 0 width row → factor.numerator ≡ pos 0 → IsRow (IsTaken row factor pivots) width row
row_stays row pivots factor width sparse nothing = record {
  sparse = sparse;
  each = λ j l. less_product_zero (entry_in row j) factor (entry_in pivots j) (entry_above row j) (zero_times factor.numerator (entry_in pivots j).numerator nothing);
}

-- what is left of 0 where the factor is 0
pub less_nothing : (f g h k : Ratio) → pos 0 <ℤ g.denominator → pos 0 <ℤ h.denominator → pos 0 <ℤ k.denominator → g.numerator ≡ pos 0 → h.numerator ≡ pos 0 → IsLessProduct f g h k → f.numerator ≡ pos 0
less_nothing f g h k gp hp kp gz hz is =
    let d = h.denominator *ℤ k.denominator in
    let p = product_above g.denominator d gp (product_above h.denominator k.denominator hp kp) in
    let a = zero_times g.numerator d gz in
    let b = zero_times (h.numerator *ℤ k.numerator) g.denominator (zero_times h.numerator k.numerator hz) in
    let c : g.numerator *ℤ d -ℤ (h.numerator *ℤ k.numerator) *ℤ g.denominator ≡ pos 0 = omega (arith, ints, a, b) in
    is_zero (g.denominator *ℤ d) f.numerator p (*ℤ_comm (g.denominator *ℤ d) f.numerator ∙ is.same ∙ zero_times (g.numerator *ℤ d -ℤ (h.numerator *ℤ k.numerator) *ℤ g.denominator) f.denominator c)

-- a number that is 0 is not kept
pub zero_is_left_out : (first end : ℕ) (es : List Entry) (j : ℕ) → IsSparse first end es → (entry_in es j).numerator ≡ pos 0 → entry_in es j ≡ none
zero_is_left_out first end [] j h z = refl
zero_is_left_out first end (e ∷ es) j h z = elim (cases_eq e.column j) [
  | inl g ↦ absurd (h.0.nonzero (sym (ap (λ r. r.numerator) (entry-here e es j g)) ∙ z))
  | inr o ↦ entry-behind e es j o ∙ zero_is_left_out (e.column + 1) end es j h.1 (sym (ap (λ r. r.numerator) (entry-behind e es j o)) ∙ z)
]

pub less_product_of : {f g g' h k k' : Ratio} → g ≡ g' → k ≡ k' → IsLessProduct f g h k → IsLessProduct f g' h k'
less_product_of {f = f} {g' = g'} {h = h} {k = k} e d r = subst (λ z. IsLessProduct f g' h z) d (subst (λ z. IsLessProduct f z h k) e r)

pub divided_none : (old : List Entry) (divisor : Ratio) (j : ℕ) → entry_in old j ≡ none → IsDivided old divisor j none
divided_none old divisor j e = subst (λ z. IsQuotient none z divisor) (sym e) record {
  positive = omega (arith, ints);
  same = zero_times (pos 0) (pos 1 *ℤ divisor.numerator) refl ∙ sym (zero_times (pos 0 *ℤ divisor.denominator) (pos 1) (zero_times (pos 0) divisor.denominator refl));
}

-- where the pivot row has 0 the row stays
pub taken_same : (old : List Entry) (factor : Ratio) (pivots : List Entry) (j : ℕ) → entry_in pivots j ≡ none → IsTaken old factor pivots j (entry_in old j)
taken_same old factor pivots j e = subst (λ z. IsLessProduct (entry_in old j) (entry_in old j) factor z) (sym e) (less_product_zero (entry_in old j) factor none (entry_above old j) (times_zero factor.numerator (pos 0) refl))

pub taken_none : (old : List Entry) (factor : Ratio) (pivots : List Entry) (j : ℕ) → entry_in pivots j ≡ none → entry_in old j ≡ none → IsTaken old factor pivots j none
taken_none old factor pivots j e g = subst (IsTaken old factor pivots j) g (taken_same old factor pivots j e)

-- ---- a row as it is searched
at_from : (first end i : ℕ) (es : List Entry) (e : Entry) → IsSparse first end es → i < length es → e ≡ get_or es i e → first ≤ e.column
at_from first end i [] e h l is = absurd (omega (arith, l))
at_from first end zero (x ∷ es) e h l is = (let f = h.0.from in let g = ap (λ z. z.column) is in omega (arith, f, g))
at_from first end (suc i) (x ∷ es) e h l is = (let f = h.0.from in let g = at_from (x.column + 1) end i es e h.1 (omega (arith, l)) is in omega (arith, f, g))

below_take : (first end column i : ℕ) (es : List Entry) (e : Entry) → IsSparse first end es → i < length es → e ≡ get_or es i e → e.column < column → IsSparse first column (take (suc i) es)
below_take first end column i [] e h l is b = absurd (omega (arith, l))
below_take first end column zero (x ∷ es) e h l is b = (record { from = h.0.from; below = (let g = ap (λ z. z.column) is in omega (arith, g, b)); nonzero = h.0.nonzero }, tt)
below_take first end column (suc i) (x ∷ es) e h l is b =
    let g = at_from (x.column + 1) end i es e h.1 (omega (arith, l)) is in
    (record { from = h.0.from; below = omega (arith, g, b); nonzero = h.0.nonzero }, below_take (x.column + 1) end column i es e h.1 (omega (arith, l)) is b)

pub below_found : (end column i : ℕ) (es : List Entry) (e : Entry) → IsSparse 0 end es → i < length es → e ≡ get_or es i e → e.column < column → IsSparse 0 column (take (i + 1) es)
below_found end column i es e h l is b = subst (λ k. IsSparse 0 column (take k es)) (let k : suc i ≡ i + 1 = omega arith in k) (below_take 0 end column i es e h l is b)

below_place : (first end column i : ℕ) (es : List Entry) (e : Entry) → IsSparse first end es → i < length es → e ≡ get_or es i e → e.column ≤ column → IsSparse first column (take i es)
below_place first end column zero es e h l is b = tt
below_place first end column (suc i) [] e h l is b = absurd (omega (arith, l))
below_place first end column (suc i) (x ∷ es) e h l is b =
    let g = at_from (x.column + 1) end i es e h.1 (omega (arith, l)) is in
    (record { from = h.0.from; below = omega (arith, g, b); nonzero = h.0.nonzero }, below_place (x.column + 1) end column i es e h.1 (omega (arith, l)) is b)

pub below_last : (end column : ℕ) (es : List Entry) (e : Entry) → IsSparse 0 end es → e ≡ get_or es (length es - 1) e → e.column ≤ column → IsSparse 0 column (take (length es - 1) es)
below_last end column [] e h is b = tt
below_last end column (x ∷ es) e h is b = below_place 0 end column (length (x ∷ es) - 1) (x ∷ es) e h (omega arith) is b

pub from_found : (first end column i : ℕ) (es : List Entry) (e : Entry) → IsSparse first end es → i < length es → e ≡ get_or es i e → column ≤ e.column → IsSparse column end (drop i es)
from_found first end column i [] e h l is b = absurd (omega (arith, l))
from_found first end column zero (x ∷ es) e h l is b = sparse_from first column end (x ∷ es) h (let g = ap (λ z. z.column) is in omega (arith, g, b))
from_found first end column (suc i) (x ∷ es) e h l is b = from_found (x.column + 1) end column i es e h.1 (omega (arith, l)) is b

entry-dropped : (first column i : ℕ) (es : List Entry) (j : ℕ) → IsSparse first column (take i es) → column ≤ j → entry_in (drop i es) j ≡ entry_in es j
entry-dropped first column zero es j h l = refl
entry-dropped first column (suc i) [] j h l = refl
entry-dropped first column (suc i) (x ∷ es) j h l = (let b = h.0.below in entry-dropped (x.column + 1) column i es j h.1 l ∙ sym (entry-behind x es j (λ g. absurd (omega (arith, b, g, l)))))

pub left_found : (column width i k : ℕ) (es : List Entry) → i ≡ k → IsSparse 0 column (take i es) → IsSparse column width (drop k es) → IsRestOf (entry_in es) column width (take (length es - i) (drop i es))
left_found column width i k es e h g = subst (λ z. IsRestOf (entry_in es) column width z) (sym (take_all (length es - i) (drop i es) (let n = length-drop i es in omega (arith, n))))
    record { sparse = subst (λ z. IsSparse column width (drop z es)) (sym e) g; same = λ j l. entry-dropped 0 column i es j h l }

pub not_negative : (v : ℤ) → (v <ℤ pos 0 → ⊥) → pos 0 ≤ℤ v
not_negative v h = elim (by_sign v) [
  | inl k ↦ absurd (h k)
  | inr w ↦ elim w [ inl k ↦ omega (arith, ints, k) | inr k ↦ omega (arith, ints, k) ]
]

-- what a test that came out false says, and one that came out true
pub tested_false : {P : Type 0} (b : Bool) → (IsTrue b → P) × (P → IsTrue b) → b ≡ false → P → ⊥
tested_false b h e p = (let k : b ≡ true = h.1 p in cc)

pub tested_true : {P : Type 0} (b : Bool) → (IsTrue b → P) × (P → IsTrue b) → b ≡ true → P
tested_true b h e = h.0 e

-- another column than that of the first entry has nothing, if it is no later
pub front_other : (es : List Entry) (e : Entry) (column width : ℕ) → 0 < length es → e ≡ get_or es 0 e → (e.column ≡ column → ⊥) → IsSparse column width es → entry_in es column ≡ none
front_other [] e column width l is o h = absurd (omega (arith, l))
front_other (x ∷ es) e column width l is o h =
    let n : x.column ≡ column → ⊥ = λ g. o (ap (λ z. z.column) is ∙ g) in
    entry-behind x es column n ∙ none_before (x.column + 1) width es column h.1 (let f = h.0.from in strictly x.column column f n)
  where
    strictly : (p q : ℕ) → q ≤ p → (p ≡ q → ⊥) → q < p + 1
    strictly p q a b = omega (arith, a)

-- the first of a list, and the others
pub first_and_others : (es : List Entry) (e : Entry) → 1 ≤ length es → e ≡ get_or es 0 e → es ≡ e ∷ take (length es - 1) (drop 1 es)
first_and_others [] e l is = absurd (omega (arith, l))
first_and_others (x ∷ es) e l is =
    let n : length (x ∷ es) - 1 ≡ length es = omega arith in
    (λ i. sym is i ∷ es) ∙ ap (λ z. e ∷ z) (sym (ap (λ z. take z es) n ∙ take_all (length es) es (omega arith)))
