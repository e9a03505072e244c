-- numbers changed place by place, as far as each can be told
use Rattle.std.proofs.Common.{◌≡◌, ℕ, ◌+◌, ◌<◌, ◌≤◌, ◌∙◌, List, ⊎_elim, length, get_or, set, refl, sym, ap, arith, subst, ℤ, pos, true, false}
use Rattle.std.proofs.lemmas.Bool.{cases_lt}
use Rattle.std.proofs.lemmas.List.{length-set, get_or-set_same, get_or-set_other}
use Rattle.tv_refute.specs.Blocks.{AreTold}

module _ (told : ℕ → ℤ → Type 0) (value : ℕ → ℤ → ℤ) (old : List ℤ) where
  -- the changed numbers stand before a place, and those of the first list from there on
  pub record AreChanged (now : List ℤ) (i : ℕ) : Type 0 where
    pub counted : length now ≡ length old
    pub before : (k : ℕ) → k < i → told k (get_or old k (pos 0)) × (get_or now k (pos 0) ≡ value k (get_or old k (pos 0)))
    pub after : (k : ℕ) → i ≤ k → get_or now k (pos 0) ≡ get_or old k (pos 0)

  pub none_changed : AreChanged old 0
  none_changed = record { counted = refl; before = λ k h. absurd (omega arith); after = λ k h. refl }

  module _ (now : List ℤ) (i : ℕ) (so_far : AreChanged now i) where
    pub one_changed : (z : ℤ) → i < length old → told i (get_or now i (pos 0)) → z ≡ value i (get_or now i (pos 0)) → AreChanged (set now i z) (i + 1)
    one_changed z inside held is =
        let counted = so_far.counted in
        let there = so_far.after i (omega arith) in
        let here : get_or (set now i z) i (pos 0) ≡ value i (get_or old i (pos 0)) =
        get_or-set_same now i z (pos 0) (omega arith) ∙ is ∙ ap (value i) there in
        record {
          counted = length-set now i z ∙ counted;
          before = λ k h. ⊎_elim
              (λ l. let w = so_far.before k l in (w.0, get_or-set_other now i k z (pos 0) (λ e. absurd (omega arith)) ∙ w.1))
              (λ l. let e : i ≡ k = omega arith in subst (λ k. told k (get_or old k (pos 0)) × (get_or (set now i z) k (pos 0) ≡ value k (get_or old k (pos 0)))) e (subst (told i) there held, here))
              (cases_lt k i);
          after = λ k h. get_or-set_other now i k z (pos 0) (λ e. absurd (omega arith)) ∙ so_far.after k (omega arith);
        }

    -- a number that is to stay as it is
    pub one_kept : i < length old → told i (get_or now i (pos 0)) → get_or now i (pos 0) ≡ value i (get_or now i (pos 0)) → AreChanged now (i + 1)
    one_kept inside held is =
        let there = so_far.after i (omega arith) in
        record {
          counted = so_far.counted;
          before = λ k h. ⊎_elim
              (λ l. so_far.before k l)
              (λ l. let e : i ≡ k = omega arith in subst (λ k. told k (get_or old k (pos 0)) × (get_or now k (pos 0) ≡ value k (get_or old k (pos 0)))) e (subst (told i) there held, is ∙ ap (value i) there))
              (cases_lt k i);
          after = λ k h. so_far.after k (omega arith);
        }

    pub not_changed : (count : ℕ) → i < count → (told i (get_or now i (pos 0)) → ⊥) → AreTold false count (λ k. told k (get_or old k (pos 0))) (λ k. value k (get_or old k (pos 0))) now
    not_changed count inside never = λ all. never (subst (told i) (sym (so_far.after i (omega arith))) (all i inside))

    pub all_changed : (count : ℕ) → count ≤ i → AreTold true count (λ k. told k (get_or old k (pos 0))) (λ k. value k (get_or old k (pos 0))) now
    all_changed count past = λ k h. so_far.before k (omega arith)
