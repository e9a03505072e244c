use Rattle.std.proofs.Common.{FitsSigned, ◌≡◌, inl, inr, ℕ, suc, ◌+◌, ◌<◌, ◌≤◌, ◌^◌, List, [], ◌∷◌, ◌++◌, length, length-append, get_or, set, arith, sym, ap, ◌∙◌, subst, ℤ, pos, ◌+ℤ◌, ◌*ℤ◌, unsigned_abs}
use Rattle.std.specs.Int.{w128}
use Rattle.std.proofs.lemmas.Int.{ints, fits_signed_from_abs}
use Rattle.std.proofs.lemmas.List.{length-set, get_or-set_same, get_or-set_other}
use Rattle.tv_fraction.specs.declared.Fraction.{Fraction}
use Rattle.tv_simplex.proofs.Ring.{zero_times}
use Rattle.tv_simplex.proofs.Sums.{total-zero, delta-same, delta-other, total-last}
use Rattle.tv_simplex.specs.Sums.{total, delta}
use Rattle.tv_simplex.specs.Systems.{Equations, sign}
use Rattle.tv_simplex.specs.Chains.{column}
use Rattle.tv_simplex.specs.Ratios.{Ratio}
use Rattle.tv_simplex.specs.Outcomes.{IsShort}
use Rattle.tv_simplex.proofs.ScaleLemmas.{get_or-append-last, get_or-append-before, at_end, before_end}
use Rattle.tv_simplex.specs.Rows.{ratio}
use Rattle.tv_simplex.specs.Scales.{AreBounded, ratio_at}
use Rattle.tv_simplex.specs.Walking.{AreOfColumn, IsLessOne, AreOfObjective, AreDistinct, AreValues, AreSigned}
use Rattle.tv_linear.proofs.ListLaws.{last_or_below}
use Rattle.std.proofs.lemmas.Bool.{cases_eq}

-- ---- lists of fractions
pub bounded_more : (fractions : List Fraction) (f : Fraction) (n : ℕ) → length fractions ≡ n → AreBounded fractions → unsigned_abs f.numerator < 2 ^ 41 → AreBounded (fractions ++ f ∷ [])
bounded_more fractions f n size h bound i l = elim (last_or_below n i (let s = length-append fractions (f ∷ []) in omega (arith, s, size, l))) [
  | inl k ↦ subst (λ j. unsigned_abs (ratio_at (fractions ++ f ∷ []) j).numerator < 2 ^ 41) (sym k) (subst (λ r. unsigned_abs r.numerator < 2 ^ 41) (sym (at_end fractions f n size)) bound)
  | inr k ↦ subst (λ r. unsigned_abs r.numerator < 2 ^ 41) (sym (before_end fractions f i (omega (arith, size, k)))) (h i (omega (arith, size, k)))
]

pub column_more : (n c : ℕ) (read : ℕ → ℕ → Ratio) (fractions new : List Fraction) (f : Fraction) → AreOfColumn n c read fractions → new ≡ fractions ++ f ∷ [] → ratio f ≡ read n c → unsigned_abs f.numerator < 2 ^ 41 → AreOfColumn (n + 1) c read new
column_more n c read fractions new f h e g bound = subst (λ r. AreOfColumn (n + 1) c read r) (sym e) record {
  size = length-append fractions (f ∷ []) ∙ (let s = h.size in let k : length fractions + 1 ≡ n + 1 = omega (arith, s) in k);
  same = λ i l. elim (last_or_below n i l) [
    | inl k ↦ subst (λ j. ratio_at (fractions ++ f ∷ []) j ≡ read j c) (sym k) (at_end fractions f n h.size ∙ g)
    | inr k ↦ before_end fractions f i (let s = h.size in omega (arith, s, k)) ∙ h.same i k
  ];
  bounded = bounded_more fractions f n h.size h.bounded bound;
}

pub objective_more : (n c : ℕ) (objective : ℕ → Ratio) (fractions new : List Fraction) (f : Fraction) → AreOfObjective n c objective fractions → new ≡ fractions ++ f ∷ [] → IsLessOne (ratio f) (objective (c + n)) → unsigned_abs f.numerator < 2 ^ 41 → AreOfObjective (n + 1) c objective new
objective_more n c objective fractions new f h e g bound = subst (λ r. AreOfObjective (n + 1) c objective r) (sym e) record {
  size = length-append fractions (f ∷ []) ∙ (let s = h.size in let k : length fractions + 1 ≡ n + 1 = omega (arith, s) in k);
  same = λ i l. elim (last_or_below n i l) [
    | inl k ↦ subst (λ j. IsLessOne (ratio_at (fractions ++ f ∷ []) j) (objective (c + j))) (sym k) (subst (λ r. IsLessOne r (objective (c + n))) (sym (at_end fractions f n h.size)) g)
    | inr k ↦ subst (λ r. IsLessOne r (objective (c + i))) (sym (before_end fractions f i (let s = h.size in omega (arith, s, k)))) (h.same i k)
  ];
  bounded = bounded_more fractions f n h.size h.bounded bound;
}

-- ---- values
pub values_more : (n columns : ℕ) (basis : List ℕ) (numbers values : List ℤ) (count : ℕ) → n < count → AreDistinct count basis → column basis n < columns → IsShort (get_or numbers n (pos 0)) → AreValues n columns basis numbers values → AreValues (n + 1) columns basis numbers (set values (column basis n) (get_or numbers n (pos 0)))
values_more n columns basis numbers values count n_in distinct inside short h = record {
  size = length-set values (column basis n) (get_or numbers n (pos 0)) ∙ h.size;
  short = λ j l. elim (cases_eq j (column basis n)) [
    | inl e ↦ subst (λ z. IsShort z) (sym (at e)) short
    | inr o ↦ subst (λ z. IsShort z) (sym (other j o)) (h.short j l)
  ];
  sums = λ j l. elim (cases_eq j (column basis n)) [
    | inl e ↦
        let none = total-zero n (λ i. delta (column basis i) j *ℤ get_or numbers i (pos 0)) (λ i g. zero_times (delta (column basis i) j) (get_or numbers i (pos 0)) (delta-other (column basis i) j (λ k. distinct n i n_in g (sym e ∙ sym k)))) in
        let one : delta (column basis n) j ≡ pos 1 = ap (λ z. delta (column basis n) z) e ∙ delta-same (column basis n) in
        let m = ap (λ z. z *ℤ get_or numbers n (pos 0)) one in
        let s = total-last n (λ i. delta (column basis i) j *ℤ get_or numbers i (pos 0)) in
        at e ∙ omega (arith, ints, none, m, s)
    | inr o ↦
        let m = zero_times (delta (column basis n) j) (get_or numbers n (pos 0)) (delta-other (column basis n) j (λ k. o (sym k))) in
        let s = total-last n (λ i. delta (column basis i) j *ℤ get_or numbers i (pos 0)) in
        let v = h.sums j l in
        other j o ∙ v ∙ omega (arith, ints, m, s)
  ];
}
  where
    at : {j : ℕ} → j ≡ column basis n → get_or (set values (column basis n) (get_or numbers n (pos 0))) j (pos 0) ≡ get_or numbers n (pos 0)
    at {j = j} e = ap (λ z. get_or (set values (column basis n) (get_or numbers n (pos 0))) z (pos 0)) e ∙ get_or-set_same values (column basis n) (get_or numbers n (pos 0)) (pos 0) (let s = h.size in omega (arith, s, inside))

    other : (j : ℕ) → (j ≡ column basis n → ⊥) → get_or (set values (column basis n) (get_or numbers n (pos 0))) j (pos 0) ≡ get_or values j (pos 0)
    other j o = get_or-set_other values (column basis n) j (get_or numbers n (pos 0)) (pos 0) o

pub values_same : (n columns : ℕ) (basis : List ℕ) (numbers values : List ℤ) → columns ≤ column basis n → AreValues n columns basis numbers values → AreValues (n + 1) columns basis numbers values
values_same n columns basis numbers values outside h = record {
  size = h.size;
  short = h.short;
  sums = λ j l.
      let m = zero_times (delta (column basis n) j) (get_or numbers n (pos 0)) (delta-other (column basis n) j (λ k. absurd (omega (arith, outside, l, k)))) in
      let s : total (n + 1) (λ i. delta (column basis i) j *ℤ get_or numbers i (pos 0)) ≡ total n (λ i. delta (column basis i) j *ℤ get_or numbers i (pos 0)) +ℤ (delta (column basis n) j *ℤ get_or numbers n (pos 0)) =
      (let e : n + 1 ≡ suc n = omega arith in ap (λ z. total z (λ i. delta (column basis i) j *ℤ get_or numbers i (pos 0))) e) in
      let v = h.sums j l in
      v ∙ omega (arith, ints, m, s);
}

pub signed_more : (s : Equations) (n : ℕ) (numbers y new : List ℤ) (z : ℤ) → AreSigned s n numbers y → new ≡ y ++ z ∷ [] → z ≡ sign s n *ℤ get_or numbers n (pos 0) → IsShort z → AreSigned s (n + 1) numbers new
signed_more s n numbers y new z h e g short = subst (λ r. AreSigned s (n + 1) numbers r) (sym e) record {
  size = length-append y (z ∷ []) ∙ (let k = h.size in let m : length y + 1 ≡ n + 1 = omega (arith, k) in m);
  short = λ k l. elim (last_or_below n k l) [
    | inl i ↦ subst (λ j. IsShort (get_or (y ++ z ∷ []) j (pos 0))) (sym i) (subst (λ v. IsShort v) (sym (get_or-append-last y z n (pos 0) h.size)) short)
    | inr i ↦ subst (λ v. IsShort v) (sym (get_or-append-before y z k (pos 0) (let m = h.size in omega (arith, m, i)))) (h.short k i)
  ];
  same = λ k l. elim (last_or_below n k l) [
    | inl i ↦ subst (λ j. get_or (y ++ z ∷ []) j (pos 0) ≡ sign s j *ℤ get_or numbers j (pos 0)) (sym i) (get_or-append-last y z n (pos 0) h.size ∙ g)
    | inr i ↦ get_or-append-before y z k (pos 0) (let m = h.size in omega (arith, m, i)) ∙ h.same k i
  ];
}

pub short_fits : (z : ℤ) → IsShort z → FitsSigned w128 z
short_fits z h = fits_signed_from_abs w128 z (let l : unsigned_abs z < 2 ^ 127 = omega (arith, h) in l)
