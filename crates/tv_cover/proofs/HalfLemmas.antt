use Rattle.std.proofs.Common.{◌≡◌, inl, inr, ℕ, zero, suc, ◌<◌, ◌≤◌, ◌^◌, List, [], ◌∷◌, ◌++◌, length, map, get_or, All, Option, None, Some, Vec, arith, refl, sym, ap, ◌∙◌, subst, ℤ, pos, neg_ℤ, ◌-ℤ◌, ◌*ℤ◌, ◌<ℤ◌, ◌≤ℤ◌, unsigned_abs}
use Rattle.std.specs.List.{Contains}
use Rattle.std.proofs.lemmas.Int.{ints}
use Rattle.tv_linear.specs.Linear.{Linear, columns, IsMet, scaled_value, IsScaledPoint}
use Rattle.tv_linear.specs.Arithmetic.{unit, denial}
use Rattle.tv_linear.specs.Known.{given, denied, KnownHeld}
use Rattle.tv_linear.proofs.PlainLists.{length-unit}
use Rattle.tv_farkas.specs.Paths.{TakenOnce, IsWholePoint, IsFirstFraction, IsPointSplit, at_most_row, at_least_row}
use Rattle.tv_farkas.specs.Halving.{IsFractionAt}
use Rattle.tv_farkas.specs.Stretching.{IsFloor, IsSide}
use Rattle.tv_farkas.proofs.SideLemmas.{low_value, high_value, fresh, high_side, get_or-neg}
use Rattle.tv_farkas.proofs.TakenLemmas.{all_taken}
use Rattle.tv_farkas.specs.declared.splitting.Halves.{Halves}
use Rattle.tv_cover.specs.Targets.{HasPoint, IsTargetRow, IsInTarget, IsNarrowRow}
use Rattle.tv_cover.specs.CoverPaths.{IsShut, IsLeftOpen, IsRowSplit, IsCoordinateSplit, SplitsBy}
use Rattle.tv_farkas.specs.Halving.{Keeps, ArePointSides}
use Rattle.tv_cover.specs.Halving.{IsBare, AreRowSides}
use Rattle.tv_cover.specs.Stepping.{AreHalves}
use Rattle.tv_cover.proofs.PointLemmas.{point_above, point_front, open_above, shut_above, denied_new, met_new}
use Rattle.std.proofs.Math.IntN.{neg_ℤ-neg_ℤ}
use Rattle.tv_linear.proofs.HeldLemmas.{opposite_held, less_held}
use Rattle.std.proofs.lemmas.List.{length-map, get_or_past}

-- ---- a row and its denial
pub narrow_inner : (cs : List ℤ) (k : ℤ) → ((column : ℕ) → column ≤ length cs → unsigned_abs (get_or cs column k) < 2 ^ 62) → (j : ℕ) → unsigned_abs (get_or cs j (pos 0)) < 2 ^ 62
narrow_inner [] k h j = omega arith
narrow_inner (c ∷ cs) k h zero = h 0 (omega arith)
narrow_inner (c ∷ cs) k h (suc j) = narrow_inner cs k (λ i l. h (suc i) (omega (arith, l))) j

pub less_twice : (k : ℤ) → pos 1 -ℤ (pos 1 -ℤ k) ≡ k
less_twice k = omega (arith, ints)

-- the row has the numbers of its denial's denial
row_side : (n : ℕ) (row : Linear) → IsNarrowRow (denial row) → IsSide n row (denied (given (denial row)))
row_side n row narrow = record {
  inner = λ j l. ap neg_ℤ (get_or-neg row.coefficients j) ∙ neg_ℤ-neg_ℤ (get_or row.coefficients j (pos 0));
  constant = less_twice row.constant;
  held = held;
}
  where
    held : (column : Option ℕ) → KnownHeld (denied (given (denial row))) column
    held None = (tt, less_held (pos 1 -ℤ row.constant) (subst (λ z. unsigned_abs z < 2 ^ 62) (get_or_past (map neg_ℤ row.coefficients) (columns (denial row)) (pos 1 -ℤ row.constant) (omega arith)) (narrow (columns (denial row)) (omega arith))))
    held (Some j) = (tt, opposite_held (get_or (map neg_ℤ row.coefficients) j (pos 0)) (narrow_inner (map neg_ℤ row.coefficients) (pos 1 -ℤ row.constant) narrow j))

bare_splits : (n : ℕ) (lists : List (List Linear)) (above : List Linear) (row : Linear) {A : Type 0} (o : Option (Vec ℤ A × ℤ)) → IsBare o → IsRowSplit n lists above row → SplitsBy n lists above row o
bare_splits n lists above row None b h = h
bare_splits n lists above row (Some p) b h = absurd b

keeps_splits : (n : ℕ) (lists : List (List Linear)) (above : List Linear) (row : Linear) (values : List ℤ) (scale : ℤ) {A : Type 0} (o : Option (Vec ℤ A × ℤ)) → Keeps values scale o → IsCoordinateSplit n lists above row values scale → SplitsBy n lists above row o
keeps_splits n lists above row values scale None b h = absurd b
keeps_splits n lists above row values scale (Some p) b h = subst (λ v. IsCoordinateSplit n lists above row v p.1) (sym b.0) (subst (λ z. IsCoordinateSplit n lists above row values z) (sym b.1) h)

-- ---- the sides of a row
pub row_halves : (n : ℕ) (lists : List (List Linear)) (kept : List Linear) (row : Linear) (halves : Halves) → AreRowSides row halves → columns row ≡ n → IsTargetRow lists row → HasPoint n (kept ++ row ∷ []) → HasPoint n (kept ++ denial row ∷ []) → All (IsLeftOpen n kept) lists → AreHalves n lists kept halves
row_halves n lists kept row halves s e of_target met is_denied left_open = record {
  first_even = subst (λ r. columns r ≡ n) (sym s.first_row) (length-map row.coefficients neg_ℤ ∙ e);
  second_even = subst (λ r. columns r ≡ n) (sym s.second_row) e;
  first_new = subst (λ r. Contains kept r → ⊥) (sym s.first_row) (met_new n kept row met);
  second_new = subst (λ r. Contains kept r → ⊥) (sym s.second_row) (denied_new n kept row is_denied);
  opposite = subst (λ r. IsSide n r (denied (given halves.first.row))) (sym s.second_row) (subst (λ r. IsSide n row (denied (given r))) (sym s.first_row) (row_side n row s.narrow));
  first_splits = λ above t. record {
    point = point_front n above (row ∷ []) (point_above n above kept (row ∷ []) t met);
    left_open = open_above n above kept t lists left_open;
    splits = bare_splits n lists above halves.first.row halves.first.point s.first_bare record {
      at = row;
      of_target = of_target;
      narrow = s.narrow;
      met = point_above n above kept (row ∷ []) t met;
      denied = point_above n above kept (denial row ∷ []) t is_denied;
      side = inl s.first_row;
    };
  };
  second_splits = λ above t settled. record {
    point = point_front n above (row ∷ []) (point_above n above kept (row ∷ []) t met);
    left_open = open_above n above kept t lists left_open;
    splits = bare_splits n lists above halves.second.row halves.second.point s.second_bare record {
      at = row;
      of_target = of_target;
      narrow = s.narrow;
      met = point_above n above kept (row ∷ []) t met;
      denied = point_above n above kept (denial row ∷ []) t is_denied;
      side = inr (s.second_row, λ xs p m. settled xs p (subst (λ r. IsMet xs r) (sym s.first_row) m));
    };
  };
}

-- ---- the sides of a coordinate
module _ (n : ℕ) (lists : List (List Linear)) (kept : List Linear) (c : ℕ) (values : List ℤ) (scale k : ℤ) (f : IsFractionAt n kept c values scale) (floor : IsFloor (get_or values c (pos 0)) scale k) where
  first_fraction : IsFirstFraction n values scale c k
  first_fraction = record {
    within = f.within;
    before = f.before;
    fraction = f.fraction;
    below = floor.below;
    above = floor.above;
  }

  above_met : (above : List Linear) → TakenOnce above kept → IsScaledPoint above values scale
  above_met above t = record {
    positive = f.met.positive;
    met = all_taken (λ r. scaled_value r values scale ≤ℤ pos 0) above kept t f.met.met;
  }

  above_floor : pos 0 <ℤ (get_or values c (pos 0) -ℤ k *ℤ scale)
  above_floor = strictly (k *ℤ scale) (get_or values c (pos 0)) floor.below (λ e. f.fraction (k, sym e))
    where
      strictly : (a b : ℤ) → a ≤ℤ b → (a ≡ b → ⊥) → pos 0 <ℤ (b -ℤ a)
      strictly a b h g = grind (arith, ints)

  low_new : Contains kept (at_most_row n c k) → ⊥
  low_new = fresh kept (at_most_row n c k) values scale f.met (subst (λ z. pos 0 <ℤ z) (sym (low_value n c k values scale f.size)) above_floor)

  high_new : Contains kept (at_least_row n c k) → ⊥
  high_new = fresh kept (at_least_row n c k) values scale f.met (subst (λ z. pos 0 <ℤ z) (sym (high_value n c k values scale f.size)) (let a = floor.above in omega (arith, ints, a)))

  low_split : (above : List Linear) → TakenOnce above kept → IsPointSplit n (IsInTarget lists) above (at_most_row n c k) values scale
  low_split above t = record {
    kept = kept;
    taken = t;
    point = f.point;
    met = above_met above t;
    short = f.short;
    scale_short = f.scale_short;
    column = c;
    floor = k;
    fraction = first_fraction;
    side = inl refl;
  }

  high_split : (above : List Linear) → TakenOnce above kept → ((xs : List ℤ) → IsWholePoint n above xs → IsMet xs (at_most_row n c k) → IsInTarget lists xs) → IsPointSplit n (IsInTarget lists) above (at_least_row n c k) values scale
  high_split above t settled = record {
    kept = kept;
    taken = t;
    point = f.point;
    met = above_met above t;
    short = f.short;
    scale_short = f.scale_short;
    column = c;
    floor = k;
    fraction = first_fraction;
    side = inr (refl, settled);
  }

  above_point : (above : List Linear) → TakenOnce above kept → HasPoint n above
  above_point above t = record { values = values; scale = scale; size = f.size; meets = above_met above t }

pub point_halves : (n : ℕ) (lists : List (List Linear)) (kept : List Linear) (c : ℕ) (values : List ℤ) (scale : ℤ) (halves : Halves) → ArePointSides n c values scale halves → IsFractionAt n kept c values scale → All (IsShut n kept) lists → All (IsLeftOpen n kept) lists → AreHalves n lists kept halves
point_halves n lists kept c values scale halves s f shut left_open = record {
  first_even = subst (λ r. columns r ≡ n) (sym s.first_row) (length-unit n c);
  second_even = subst (λ r. columns r ≡ n) (sym s.second_row) (length-map (unit n c) neg_ℤ ∙ length-unit n c);
  first_new = subst (λ r. Contains kept r → ⊥) (sym s.first_row) (low_new n lists kept c values scale s.floor f s.is_floor);
  second_new = subst (λ r. Contains kept r → ⊥) (sym s.second_row) (high_new n lists kept c values scale s.floor f s.is_floor);
  opposite = subst (λ r. IsSide n r (denied (given halves.first.row))) (sym s.second_row) (subst (λ r. IsSide n (at_least_row n c s.floor) (denied (given r))) (sym s.first_row) (high_side n c s.floor s.short));
  first_splits = λ above t. record {
    point = above_point n lists kept c values scale s.floor f s.is_floor above t;
    left_open = open_above n above kept t lists left_open;
    splits = keeps_splits n lists above halves.first.row values scale halves.first.point s.first_keeps record {
      split = subst (λ r. IsPointSplit n (IsInTarget lists) above r values scale) (sym s.first_row) (low_split n lists kept c values scale s.floor f s.is_floor above t);
      shut = shut_above n above kept t lists shut;
    };
  };
  second_splits = λ above t settled. record {
    point = above_point n lists kept c values scale s.floor f s.is_floor above t;
    left_open = open_above n above kept t lists left_open;
    splits = keeps_splits n lists above halves.second.row values scale halves.second.point s.second_keeps record {
      split = subst (λ r. IsPointSplit n (IsInTarget lists) above r values scale) (sym s.second_row) (high_split n lists kept c values scale s.floor f s.is_floor above t (λ xs p m. settled xs p (subst (λ r. IsMet xs r) (sym s.first_row) m)));
      shut = shut_above n above kept t lists shut;
    };
  };
}
