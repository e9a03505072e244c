use Rattle.std.proofs.Common.{◌≡◌, inl, inr, ℕ, suc, ◌+◌, ◌*◌, ◌^◌, ◌<◌, ◌≤◌, List, length, get_or, set, arith, sym, ap, ◌∙◌, subst, ℤ, pos, ◌+ℤ◌, unsigned_abs}
use Rattle.std.proofs.lemmas.Bool.{cases_lt}
use Rattle.std.proofs.lemmas.Bool.Decides.{nat_tests}
use Rattle.std.proofs.lemmas.Int.{ints}
use Rattle.std.proofs.lemmas.List.{length-set, get_or-set_same, get_or-set_other}
use Rattle.tv_simplex.specs.Sums.{total}
use Rattle.tv_simplex.specs.Systems.{Equations, matrix}
use Rattle.tv_simplex.specs.Starting.{IsSum, AreSums, AreZero, first_slot, last}
use Rattle.tv_linear.proofs.ListLaws.{last_or_below}

-- the sums to which the numbers of row n were added at the first k slots
pub record SumsTo (s : Equations) (n k : ℕ) (sums : List ℤ) : Type 0 where
  pub size : length sums ≡ s.columns + 1
  pub added : (j : ℕ) → j < k → j < s.columns + 1 → IsSum s (n + 1) j (get_or sums j (pos 0))
  pub left : (j : ℕ) → k ≤ j → j < s.columns + 1 → IsSum s n j (get_or sums j (pos 0))

total_more : (n : ℕ) (f : ℕ → ℤ) → total n f +ℤ f n ≡ total (n + 1) f
total_more n f = let e : suc n ≡ n + 1 = omega arith in ap (λ k. total k f) e

pub one_added : (s : Equations) (n k : ℕ) (sums : List ℤ) (z : ℤ) → k < length sums → SumsTo s n k sums → z ≡ get_or sums k (pos 0) +ℤ matrix s n (first_slot s k) → unsigned_abs z ≤ 2 ^ 40 * (n + 1) → SumsTo s n (k + 1) (set sums k z)
one_added s n k sums z k_in h e bound = record {
  size = length-set sums k z ∙ h.size;
  added = λ j below l. elim (last_or_below k j below) [
    | inl at ↦ subst (λ i. IsSum s (n + 1) i (get_or (set sums k z) i (pos 0))) (sym at) (subst (λ x. IsSum s (n + 1) k x) (sym (get_or-set_same sums k z (pos 0) k_in)) record {
      value = e ∙ ap (λ x. x +ℤ matrix s n (first_slot s k)) (h.left k (omega arith) (let w = h.size in omega (arith, w, k_in))).value ∙ total_more n (λ i. matrix s i (first_slot s k));
      bound = bound;
    })
    | inr before ↦ subst (λ x. IsSum s (n + 1) j x) (sym (get_or-set_other sums k j z (pos 0) (λ w. absurd (omega (arith, w, before))))) (h.added j before l)
  ];
  left = λ j from l. subst (λ x. IsSum s n j x) (sym (get_or-set_other sums k j z (pos 0) (λ w. absurd (omega (arith, w, from))))) (h.left j (omega (arith, from)) l);
}

pub slot_inside : (s : Equations) (k : ℕ) → k < s.columns → first_slot s k ≡ k
slot_inside s k l = grind (arith, nat_tests)

pub slot_last : (s : Equations) → first_slot s s.columns ≡ last s
slot_last s = grind (arith, nat_tests)

no_more : (x y : ℤ) → y ≡ pos 0 → x ≡ x +ℤ y
no_more x y e = omega (arith, ints, e)

-- numbers that are 0 change no sum
pub none_added : (s : Equations) (n from to : ℕ) (sums : List ℤ) → to ≤ s.columns → AreZero (matrix s n) from to → from ≤ to → SumsTo s n from sums → SumsTo s n to sums
none_added s n from to sums within zeros up h = record {
  size = h.size;
  added = λ j below l. elim (cases_lt j from) [
    | inl g ↦ h.added j g l
    | inr g ↦ zero_added j (zeros j g below) (omega (arith, within, below)) (h.left j g l)
  ];
  left = λ j low l. h.left j (omega (arith, up, low)) l;
}
  where
    zero_added : (j : ℕ) → matrix s n j ≡ pos 0 → j < s.columns → IsSum s n j (get_or sums j (pos 0)) → IsSum s (n + 1) j (get_or sums j (pos 0))
    zero_added j e l is =
        let f : ℕ → ℤ = λ i. matrix s i (first_slot s j) in
        let zero : f n ≡ pos 0 = ap (matrix s n) (slot_inside s j l) ∙ e in
        let b = is.bound in
        record {
          value = is.value ∙ no_more (total n f) (f n) zero ∙ total_more n f;
          bound = omega (arith, b);
        }

-- every sum has the number of its column
pub all_added : (s : Equations) (n : ℕ) (sums : List ℤ) → SumsTo s n (s.columns + 1) sums → AreSums s (n + 1) sums
all_added s n sums h = record { size = h.size; each = λ j l. h.added j l l }
