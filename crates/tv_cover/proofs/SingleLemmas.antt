-- A cover that was found is one into its one target.
use Rattle.std.proofs.Common.{◌≡◌, ℕ, ◌≤◌, List, [], ◌∷◌, ◌++◌, arith, ap, ◌∙◌, subst}
use Rattle.tv_linear.specs.Linear.{Linear, columns}
use Rattle.tv_linear.specs.Known.{as_given}
use Rattle.tv_linear.specs.Covers.{IsMetCover}
use Rattle.tv_linear.specs.declared.cover.CoverTree.{CoverTree}
use Rattle.tv_linear.specs.declared.cover.CoverTree as cover
use Rattle.tv_linear.specs.declared.region.Poly.{Poly}
use Rattle.tv_farkas.specs.Trees.{TreeRows}
use Rattle.tv_cover.specs.Covering.{IsHole, IsCovered, IsShallow, IsShortCovered, IsSplitRow, HasSplitRows}
use Rattle.tv_cover.specs.declared.covered.Covered.{Covered}
use Rattle.tv_cover.specs.declared.covered.Covered.TheVariants.{Tree, Hole}
use Rattle.tv_cover.specs.Targets.{owed_lists, lists_of}
use Rattle.tv_cover.specs.Single.{IsCoveredByOne}

pub one_target : (targets new old : List Poly) (p : Poly) → targets ≡ new → new ≡ old ++ p ∷ [] → old ≡ [] → lists_of targets ≡ p.rows.items ∷ []
one_target targets new old p e f g = ap lists_of (e ∙ f ∙ ap (λ z. z ++ p ∷ []) g)

pub rows_even : (n : ℕ) (lists : List (List Linear)) (tree : CoverTree) → TreeRows (IsSplitRow n lists) tree → TreeRows (λ r. columns r ≡ n) tree
rows_even n lists (cover.Split' r p a q b) h = (h.0.even, rows_even n lists a h.1, rows_even n lists b h.2)
rows_even n lists (cover.Empty ms) h = tt
rows_even n lists (cover.Into target fall ls) h = tt

pub covered_one : (n most : ℕ) (rows target : List Linear) (lists : List (List Linear)) (found : Covered) → lists ≡ target ∷ [] → most ≤ 128 → IsCovered n lists rows found → IsShallow most found → IsShortCovered found → HasSplitRows n lists found → IsCoveredByOne n rows target found
covered_one n most rows target lists (Tree tree) e bounded met shallow short split = record {
  met = subst (λ z. IsMetCover n (owed_lists z) (as_given rows) tree) e met;
  shallow = omega (arith, shallow, bounded);
  short = short;
  even = rows_even n lists tree split;
}
covered_one n most rows target lists (Hole values) e bounded hole shallow short split = subst (λ z. IsHole n z rows values.items) e hole
