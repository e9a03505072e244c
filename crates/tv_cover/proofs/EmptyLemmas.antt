-- A cover without targets shows that rows have no integer point.
use Rattle.std.proofs.Common.{◌≡◌, inl, inr, ℕ, zero, suc, List, [], ◌∷◌, ◌++◌, Option, None, Some, Vec, arith, ap, ◌∙◌, subst, ℤ, slice_get}
use Rattle.tv_linear.specs.Linear.{Linear, columns}
use Rattle.tv_linear.specs.declared.cover.CoverTree.{CoverTree, Split', Empty, Into}
use Rattle.tv_farkas.specs.declared.branch.Branch.{Branch}
use Rattle.tv_farkas.specs.declared.fault.CoverFault.{CoverFault}
use Rattle.tv_farkas.specs.declared.fault.CoverFault.TheVariants.{Splits, Solve, Wide, Memory}
use Rattle.tv_farkas.specs.Trees.{TreeRows}
use Rattle.tv_farkas.specs.Paths.{TakenOnce, IsPointSplit, SplitsAt, rows_after}
use Rattle.tv_farkas.specs.EmptyPaths.{IsEmptyPath, IsEmptyFault, IsWholePointOf}
use Rattle.tv_cover.specs.Targets.{IsInTarget, IsTargetRow}
use Rattle.tv_cover.specs.CoverPaths.{SplitsBy, IsCoverPath}
use Rattle.tv_cover.specs.Covering.{IsPointAfter, IsSplitRow, IsOneMore, IsCoverFault}
use Rattle.std.proofs.lemmas.List.{append-nil}

-- no row is one of a target, and no point lies in one
no_row : (r : Linear) → IsTargetRow [] r → ⊥
no_row r h = let l = h.target.1 in absurd (omega (arith, l))

pub in_none : (xs : List ℤ) → IsInTarget [] xs → ⊥
in_none xs h = let l = h.target.1 in absurd (omega (arith, l))

nothing_at : {A : Type 0} (k : ℕ) (x : A) → slice_get [] k ≡ Some x → ⊥
nothing_at zero x e = cc
nothing_at (suc k) x e = cc

-- ---- paths
unsettled : (n : ℕ) (above : List Linear) (row : Linear) (values : List ℤ) (scale : ℤ) → IsPointSplit n (IsInTarget []) above row values scale → IsPointSplit n (λ xs. ⊥) above row values scale
unsettled n above row values scale h = record {
  kept = h.kept;
  taken = h.taken;
  point = h.point;
  met = h.met;
  short = h.short;
  scale_short = h.scale_short;
  column = h.column;
  floor = h.floor;
  fraction = h.fraction;
  side = elim h.side [ inl e ↦ inl e | inr g ↦ inr (g.0, λ xs p m. in_none xs (g.1 xs p m)) ];
}

at_point : {A : Type 0} (n : ℕ) (above : List Linear) (row : Linear) (point : Option (Vec ℤ A × ℤ)) → SplitsBy n [] above row point → SplitsAt n (λ xs. ⊥) above row point
at_point n above row None h = absurd (no_row h.at h.of_target)
at_point n above row (Some (values, scale)) h = unsettled n above row values.items scale h.split

pub empty_path : (n : ℕ) (above : List Linear) (path : List Branch) → IsCoverPath n [] above path → IsEmptyPath n above path
empty_path n above [] h = tt
empty_path n above (b ∷ path) h = (at_point n above b.row b.point h.0.splits, empty_path n (above ++ b.row ∷ []) path h.1)

-- ---- answers
pub whole_point : (n : ℕ) (rows : List Linear) (xs : List ℤ) → IsPointAfter n [] rows xs → IsWholePointOf n rows xs
whole_point n rows xs h = record {
  as_many = h.as_many;
  path = h.path;
  is_path = empty_path n rows h.path h.is_path;
  kept = h.kept;
  taken = h.taken;
  values = h.values;
  scale = h.scale;
  point = h.point;
  whole = h.whole;
}

pub even_splits : (n : ℕ) (tree : CoverTree) → TreeRows (IsSplitRow n []) tree → TreeRows (λ r. columns r ≡ n) tree
even_splits n (Split' r p holds q fails) h = (h.0.even, even_splits n holds h.1, even_splits n fails h.2)
even_splits n (Empty ms) h = tt
even_splits n (Into target fall lists) h = tt

-- ---- refusals
no_more : (n : ℕ) (above kept more : List Linear) → IsOneMore [] more → TakenOnce (above ++ more) kept → TakenOnce above kept
no_more n above kept more h t = elim h [
  | inl e ↦ subst (λ k. TakenOnce k kept) (ap (λ m. above ++ m) e ∙ append-nil above) t
  | inr g ↦ absurd (no_row g.1.0 g.1.1)
]

pub empty_fault : (n : ℕ) (rows : List Linear) (pivots most : ℕ) (fault : CoverFault) → IsCoverFault n [] rows pivots most fault → IsEmptyFault n rows pivots most fault
empty_fault n rows pivots most (Splits path) h = (empty_path n rows path.items h.0, h.1)
empty_fault n rows pivots most (Solve kept fault) h = record {
  path = h.path;
  is_path = empty_path n rows h.path h.is_path;
  taken = no_more n (rows_after rows h.path) kept.items h.more h.is_more h.taken;
  fault = h.fault;
}
empty_fault n rows pivots most (Wide column) h = nothing_at h.wide.number h.wide.target h.wide.found
empty_fault n rows pivots most Memory h = tt
