-- numbers added place by place
use Rattle.std.proofs.Common.{◌≡◌, ℕ, ◌+◌, ◌<◌, ◌≤◌, ◌∙◌, List, ⊎_elim, length, get_or, set, sym, ap, arith, subst, ℤ, pos, ◌+ℤ◌}
use Rattle.std.specs.Prelude.{unsigned_abs}
use Rattle.std.proofs.lemmas.Bool.{cases_lt}
use Rattle.std.proofs.lemmas.List.{same_lists, get_or_default, length-set, get_or-set_same, get_or-set_other}
use Rattle.tv_linear.specs.Arithmetic.{plus_each}
use Rattle.tv_linear.proofs.PlainLists.{length-plus_each, get_or-plus_each}

-- the sums stand before a place, and the numbers of the first list from there on
pub record IsAddedTo (old numbers now : List ℤ) (i : ℕ) : Type 0 where
  pub counted : length now ≡ length old
  pub before : (k : ℕ) → k < i → get_or now k (pos 0) ≡ get_or old k (pos 0) +ℤ get_or numbers k (pos 0)
  pub after : (k : ℕ) → i ≤ k → get_or now k (pos 0) ≡ get_or old k (pos 0)

module _ (old numbers now : List ℤ) (i : ℕ) (so_far : IsAddedTo old numbers now i) where
  pub one_added : (sum : ℤ) → i < length old → sum ≡ get_or now i (pos 0) +ℤ get_or numbers i (pos 0) → IsAddedTo old numbers (set now i sum) (i + 1)
  one_added sum inside is =
      let counted = so_far.counted in
      let here : get_or (set now i sum) i (pos 0) ≡ get_or old i (pos 0) +ℤ get_or numbers i (pos 0) =
      get_or-set_same now i sum (pos 0) (omega arith) ∙ is ∙ ap (λ z. z +ℤ get_or numbers i (pos 0)) (so_far.after i (omega arith)) in
      record {
        counted = length-set now i sum ∙ counted;
        before = λ k h. ⊎_elim
            (λ l. get_or-set_other now i k sum (pos 0) (λ e. absurd (omega arith)) ∙ so_far.before k l)
            (λ l. let e : i ≡ k = omega arith in subst (λ k. get_or (set now i sum) k (pos 0) ≡ get_or old k (pos 0) +ℤ get_or numbers k (pos 0)) e here)
            (cases_lt k i);
        after = λ k h. get_or-set_other now i k sum (pos 0) (λ e. absurd (omega arith)) ∙ so_far.after k (omega arith);
      }

  pub all_added : length old ≡ length numbers → length old ≤ i → now ≡ plus_each old numbers
  all_added even past =
      let counted = so_far.counted in
      same_lists now (plus_each old numbers) (counted ∙ sym (length-plus_each old numbers even)) (λ k d h.
      get_or_default now k d (pos 0) h ∙ so_far.before k (omega arith) ∙ sym (get_or-plus_each old numbers k (pos 0) (pos 0) even)
      ∙ get_or_default (plus_each old numbers) k (pos 0) d (omega (arith, h, length-plus_each old numbers even)))

-- one more sum is small
pub small-more : (bound : ℕ) (now : List ℤ) (i : ℕ) (sum : ℤ) → i < length now → ((k : ℕ) → k < i → unsigned_abs (get_or now k (pos 0)) ≤ bound) → unsigned_abs sum ≤ bound → (k : ℕ) → k < i + 1 → unsigned_abs (get_or (set now i sum) k (pos 0)) ≤ bound
small-more bound now i sum inside before here k h =
    ⊎_elim
    (λ l. rw (get_or-set_other now i k sum (pos 0) (λ e. absurd (omega arith))) (before k l))
    (λ l. let e : i ≡ k = omega arith in subst (λ k. unsigned_abs (get_or (set now i sum) k (pos 0)) ≤ bound) e (rw (get_or-set_same now i sum (pos 0) inside) here))
    (cases_lt k i)
