use Rattle.std.proofs.Common.{◌↔◌, ℕ, ◌≤◌, List, [], ◌∷◌, arith}
use Rattle.std.specs.Prelude.{All}
use Rattle.std.proofs.lemmas.List.Elements.{All-nil, All-cons, All-head, All-tail}
use Rattle.tv_linear.specs.Depth.{splits}
use Rattle.tv_linear.specs.ChoiceDepth.{most_splits}
use Rattle.tv_linear.specs.declared.cover.CoverTree.{CoverTree}

-- the covers have at most `most` splits exactly where each has
pub most_splits-all : (most : ℕ) (covers : List CoverTree) → All (λ cover. splits cover ≤ most) covers ↔ (most_splits covers ≤ most)
most_splits-all most covers = (below covers, each covers) where
  below : (covers : List CoverTree) → All (λ cover. splits cover ≤ most) covers → most_splits covers ≤ most
  below [] h = omega arith
  below (cover ∷ covers) h =
      let here = All-head (λ cover. splits cover ≤ most) cover covers h in
      let later = below covers (All-tail (λ cover. splits cover ≤ most) cover covers h) in
      omega arith

  each : (covers : List CoverTree) → most_splits covers ≤ most → All (λ cover. splits cover ≤ most) covers
  each [] h = All-nil (λ cover. splits cover ≤ most)
  each (cover ∷ covers) h = All-cons (λ cover. splits cover ≤ most) cover covers (omega arith) (each covers (omega arith))
