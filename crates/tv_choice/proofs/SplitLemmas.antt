-- The two sides of a split.
use Rattle.std.proofs.Common.{◌≡◌, ℕ, ◌<◌, List, [], ◌∷◌, ◌++◌, length, get_or, All, Option, None, Some, inl, inr, arith, refl, sym, ap, ◌∙◌, subst, ℤ, pos, neg_ℤ, ◌≤ℤ◌, Vec}
use Rattle.std.specs.Prelude.{Contains}
use Rattle.std.proofs.lemmas.List.{length-map, get_or_default}
use Rattle.tv_linear.specs.Linear.{Linear, columns, IsMet, scaled_value}
use Rattle.tv_linear.specs.Arithmetic.{denial, unit}
use Rattle.tv_linear.specs.Known.{given, denied}
use Rattle.tv_linear.proofs.PlainLists.{length-unit, unit-narrow}
use Rattle.tv_linear.specs.Same.{SameNumbers}
use Rattle.tv_simplex.specs.Outcomes.{IsShort}
use Rattle.tv_farkas.specs.Paths.{IsWholePoint, IsPointSplit, at_most_row, at_least_row}
use Rattle.tv_farkas.specs.Judging.{IsPointAt}
use Rattle.tv_farkas.specs.Stretching.{IsFloor, IsFirstOpen}
use Rattle.tv_farkas.specs.Halving.{IsFractionAt, Keeps, ArePointSides}
use Rattle.tv_farkas.specs.declared.splitting.Halves.{Halves}
use Rattle.tv_farkas.proofs.SideLemmas.{small_at, get_or-neg, constant_held}
use Rattle.tv_cover.specs.Targets.{HasPoint, IsNarrowRow}
use Rattle.tv_cover.specs.CoverPaths.{IsLeftOpen, IsShut}
use Rattle.tv_cover.specs.Halving.{IsBare, AreRowSides}
use Rattle.tv_cover.proofs.PointLemmas.{all_kept, point_front}
use Rattle.tv_choice.specs.Leading.{Query, IsServed}
use Rattle.tv_choice.specs.ChoicePaths.{IsWayRows, IsRowSplit, IsCoordinateSplit, SplitsBy}
use Rattle.tv_choice.specs.Targets.{targets}
use Rattle.tv_choice.specs.Looking.{AreEntered}
use Rattle.tv_choice.specs.Settling.{AreHalves}
use Rattle.tv_choice.proofs.SameLemmas.{small_number, small_constant}
use Rattle.tv_choice.proofs.SettleLemmas.{denial_met, row_met}
use Rattle.std.proofs.Math.IntN.{neg_ℤ-neg_ℤ}
use Rattle.tv_linear.proofs.HeldLemmas.{opposite_held, less_held}
use Rattle.tv_cover.proofs.HalfLemmas.{less_twice}

-- ---- the numbers of the second side
-- a row has the numbers of its denial's denial
row_opposite : (w : ℕ) (row : Linear) → IsNarrowRow (denial row) → SameNumbers w (given row) (denied (given (denial row)))
row_opposite w row narrow = record {
  inner = λ j l. ap neg_ℤ (get_or-neg row.coefficients j) ∙ neg_ℤ-neg_ℤ (get_or row.coefficients j (pos 0));
  constant = less_twice row.constant;
  inner_held = λ j l g. (tt, opposite_held (get_or (denial row).coefficients j (pos 0)) (small_number (denial row) narrow j));
  constant_held = λ g. (tt, less_held (denial row).constant (small_constant (denial row) narrow));
}

-- the upper side has the numbers of the denial of the lower one
high_opposite : (w n c : ℕ) (k : ℤ) → IsShort k → SameNumbers w (given (at_least_row n c k)) (denied (given (at_most_row n c k)))
high_opposite w n c k short = record {
  inner = λ j l. sym (get_or-neg (unit n c) j);
  constant = refl;
  inner_held = λ j l g. (tt, opposite_held (get_or (unit n c) j (pos 0)) (small_at (unit n c) (unit-narrow n c) j));
  constant_held = λ g. (tt, constant_held k short);
}

-- ---- the rule of each side
bare_splits : (n : ℕ) (q : Query) (above : List Linear) (row : Linear) {A : Type 0} (o : Option (Vec ℤ A × ℤ)) → IsBare o → IsRowSplit n q above row → SplitsBy n q above row o
bare_splits n q above row None b h = h
bare_splits n q above row (Some p) b h = absurd b

keeps_splits : (n : ℕ) (q : Query) (above : List Linear) (row : Linear) (values : List ℤ) (scale : ℤ) {A : Type 0} (o : Option (Vec ℤ A × ℤ)) → Keeps values scale o → IsCoordinateSplit n q above row values scale → SplitsBy n q above row o
keeps_splits n q above row values scale None b h = absurd b
keeps_splits n q above row values scale (Some p) b h = subst (λ v. IsCoordinateSplit n q above row v p.1) (sym b.0) (subst (λ z. IsCoordinateSplit n q above row values z) (sym b.1) h)

all_entered : (P : Linear → Type 0) (rows : List Linear) → ((r : Linear) → Contains rows r → P r) → All P rows
all_entered P rows h i d l = h (get_or rows i d) (i, l, get_same rows i d l)
  where
    get_same : (rows : List Linear) (i : ℕ) (d : Linear) → i < length rows → get_or rows i (get_or rows i d) ≡ get_or rows i d
    get_same rows i d l = get_or_default rows i (get_or rows i d) d l

pub row_halves : (n : ℕ) (q : Query) (above way : List Linear) (row : Linear) (halves : Halves) → AreRowSides row halves → columns row ≡ n → IsWayRows n q above way → Contains way row → AreEntered n above way → HasPoint n (above ++ denial row ∷ []) → All (IsLeftOpen n above) (targets n q) → AreHalves n q above halves
row_halves n q above way row halves s e w among entered is_denied left_open = record {
  first_even = subst (λ r. columns r ≡ n) (sym s.first_row) (length-map row.coefficients neg_ℤ ∙ e);
  second_even = subst (λ r. columns r ≡ n) (sym s.second_row) e;
  opposite = λ v. subst (λ r. SameNumbers v (given r) (denied (given halves.first.row))) (sym s.second_row) (subst (λ r. SameNumbers v (given row) (denied (given r))) (sym s.first_row) (row_opposite v row s.narrow));
  either = λ xs not. subst (IsMet xs) (sym s.second_row) (row_met row xs (λ m. not (subst (IsMet xs) (sym s.first_row) m)));
  first_splits = record {
    point = point_front n above (denial row ∷ []) is_denied;
    left_open = left_open;
    splits = bare_splits n q above halves.first.row halves.first.point s.first_bare record {
      rows = way;
      way = w;
      entered = all_entered (λ r. HasPoint n (above ++ r ∷ [])) way entered;
      at = row;
      among = among;
      narrow = s.narrow;
      denied = is_denied;
      side = inl s.first_row;
    };
  };
  second_splits = λ settled. record {
    point = point_front n above (denial row ∷ []) is_denied;
    left_open = left_open;
    splits = bare_splits n q above halves.second.row halves.second.point s.second_bare record {
      rows = way;
      way = w;
      entered = all_entered (λ r. HasPoint n (above ++ r ∷ [])) way entered;
      at = row;
      among = among;
      narrow = s.narrow;
      denied = is_denied;
      side = inr (s.second_row, λ xs p m. settled xs p (subst (IsMet xs) (sym s.first_row) m));
    };
  };
}

-- ---- at a coordinate
pub fraction_at : (n : ℕ) (rows : List Linear) (column : ℕ) (values : List ℤ) (scale : ℤ) (h : IsPointAt n rows values scale) → IsFirstOpen values scale column → IsFractionAt n h.kept column values scale
fraction_at n rows column values scale h o = record {
  point = h.point;
  met = record { positive = h.met.positive; met = all_kept (λ r. scaled_value r values scale ≤ℤ pos 0) rows h.kept h.taken h.met.met };
  size = h.point.as_many;
  short = h.short;
  scale_short = h.scale_short;
  within = (let a = o.0 in let e = h.point.as_many in omega (arith, a, e));
  before = o.1;
  fraction = o.2;
}

module _ (n : ℕ) (q : Query) (above : List Linear) (c : ℕ) (values : List ℤ) (scale k : ℤ) (h : IsPointAt n above values scale) (o : IsFirstOpen values scale c) (floor : IsFloor (get_or values c (pos 0)) scale k) where
  low_split : IsPointSplit n (IsServed q) above (at_most_row n c k) values scale
  low_split = record {
    kept = h.kept;
    taken = h.taken;
    point = h.point;
    met = h.met;
    short = h.short;
    scale_short = h.scale_short;
    column = c;
    floor = k;
    fraction = record { within = (let a = o.0 in let e = h.point.as_many in omega (arith, a, e)); before = o.1; fraction = o.2; below = floor.below; above = floor.above };
    side = inl refl;
  }

  high_split : ((xs : List ℤ) → IsWholePoint n above xs → IsMet xs (at_most_row n c k) → IsServed q xs) → IsPointSplit n (IsServed q) above (at_least_row n c k) values scale
  high_split settled = record {
    kept = h.kept;
    taken = h.taken;
    point = h.point;
    met = h.met;
    short = h.short;
    scale_short = h.scale_short;
    column = c;
    floor = k;
    fraction = record { within = (let a = o.0 in let e = h.point.as_many in omega (arith, a, e)); before = o.1; fraction = o.2; below = floor.below; above = floor.above };
    side = inr (refl, settled);
  }

pub point_halves : (n : ℕ) (q : Query) (above : List Linear) (c : ℕ) (values : List ℤ) (scale : ℤ) (halves : Halves) → ArePointSides n c values scale halves → IsPointAt n above values scale → IsFirstOpen values scale c → All (IsShut n above) (targets n q) → All (IsLeftOpen n above) (targets n q) → AreHalves n q above halves
point_halves n q above c values scale halves s h o shut left_open = record {
  first_even = subst (λ r. columns r ≡ n) (sym s.first_row) (length-unit n c);
  second_even = subst (λ r. columns r ≡ n) (sym s.second_row) (length-map (unit n c) neg_ℤ ∙ length-unit n c);
  opposite = λ v. subst (λ r. SameNumbers v (given r) (denied (given halves.first.row))) (sym s.second_row) (subst (λ r. SameNumbers v (given (at_least_row n c s.floor)) (denied (given r))) (sym s.first_row) (high_opposite v n c s.floor s.short));
  either = λ xs not. subst (IsMet xs) (sym s.second_row) (denial_met (at_most_row n c s.floor) xs (λ m. not (subst (IsMet xs) (sym s.first_row) m)));
  first_splits = record {
    point = here;
    left_open = left_open;
    splits = keeps_splits n q above halves.first.row values scale halves.first.point s.first_keeps record {
      split = subst (λ r. IsPointSplit n (IsServed q) above r values scale) (sym s.first_row) (low_split n q above c values scale s.floor h o s.is_floor);
      shut = shut;
    };
  };
  second_splits = λ settled. record {
    point = here;
    left_open = left_open;
    splits = keeps_splits n q above halves.second.row values scale halves.second.point s.second_keeps record {
      split = subst (λ r. IsPointSplit n (IsServed q) above r values scale) (sym s.second_row) (high_split n q above c values scale s.floor h o s.is_floor (λ xs p m. settled xs p (subst (IsMet xs) (sym s.first_row) m)));
      shut = shut;
    };
  };
}
  where
    here : HasPoint n above
    here = record { values = values; scale = scale; size = h.point.as_many; meets = h.met }
