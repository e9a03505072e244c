-- a sum of products, as far as it has come
use Rattle.std.proofs.Common.{◌≡◌, ◌↔◌, ℕ, ◌+◌, ◌<◌, ◌∙◌, List, ◌∷◌, length, drop, get_or, sym, ap, arith, subst, ℤ, pos, ◌+ℤ◌, ◌*ℤ◌}
use Rattle.std.proofs.lemmas.Int.{ints}
use Rattle.std.proofs.lemmas.List.{drop_more}
use Rattle.tv_linear.specs.Linear.{dot}
use Rattle.tv_linear.specs.Fits.{IsHeld, SumsHeld}

-- what is left to add from place i on
pub record IsSummedTo (cs xs : List ℤ) (start sum : ℤ) (i : ℕ) : Type 0 where
  pub held : SumsHeld start cs xs ↔ SumsHeld sum (drop i cs) (drop i xs)
  pub total : start +ℤ dot cs xs ≡ sum +ℤ dot (drop i cs) (drop i xs)

module _ (cs xs : List ℤ) (start sum : ℤ) (i : ℕ) (so_far : IsSummedTo cs xs start sum i) where
  module _ (c x : ℤ) (in_cs : i < length cs) (in_xs : i < length xs) (c_is : c ≡ get_or cs i (pos 0)) (x_is : x ≡ get_or xs i (pos 0)) where
    rest_cs : drop i cs ≡ c ∷ drop (i + 1) cs
    rest_cs = drop_more cs i (pos 0) in_cs ∙ ap (λ z. z ∷ drop (i + 1) cs) (sym c_is)

    rest_xs : drop i xs ≡ x ∷ drop (i + 1) xs
    rest_xs = drop_more xs i (pos 0) in_xs ∙ ap (λ z. z ∷ drop (i + 1) xs) (sym x_is)

    split : SumsHeld sum (drop i cs) (drop i xs) ≡ (IsHeld (c *ℤ x) × IsHeld (sum +ℤ (c *ℤ x)) × SumsHeld (sum +ℤ (c *ℤ x)) (drop (i + 1) cs) (drop (i + 1) xs))
    split = (λ k. SumsHeld sum (rest_cs k) (rest_xs k))

    pub held_here : SumsHeld start cs xs → IsHeld (c *ℤ x) × IsHeld (sum +ℤ (c *ℤ x)) × SumsHeld (sum +ℤ (c *ℤ x)) (drop (i + 1) cs) (drop (i + 1) xs)
    held_here h = subst (λ (t : Type 0). t) split (so_far.held.0 h)

    pub one_summed : (next : ℤ) → IsHeld (c *ℤ x) → IsHeld (sum +ℤ (c *ℤ x)) → next ≡ sum +ℤ (c *ℤ x) → IsSummedTo cs xs start next (i + 1)
    one_summed next product sum_held is = subst (λ z. IsSummedTo cs xs start z (i + 1)) (sym is) (record {
      held = (λ h. (held_here h).2, λ h. so_far.held.1 (subst (λ (t : Type 0). t) (sym split) (product, sum_held, h)));
      total = (
          let before = so_far.total in
          let here : dot (drop i cs) (drop i xs) ≡ (c *ℤ x) +ℤ dot (drop (i + 1) cs) (drop (i + 1) xs) = (λ k. dot (rest_cs k) (rest_xs k)) in
          omega (arith, ints, before, here));
    })
