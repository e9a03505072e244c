use Rattle.std.proofs.Common.{◌≡◌, ◌⊎◌, inl, inr, ℕ, zero, suc, ◌+◌, ◌-◌, ◌<◌, ◌≤◌, ◌^◌, List, [], ◌∷◌, ◌++◌, take, vec_len, length, length-append, map, get_or, All, Bool, Option, None, Some, Vec, arith, refl, sym, ap, ◌∙◌, subst, append_assoc, ℤ, pos, neg_ℤ, ◌-ℤ◌, ◌≤ℤ◌, unsigned_abs, slice_get}
use Rattle.std.specs.List.{Contains}
use Rattle.std.specs.Option.{option_map}
use Rattle.std.proofs.lemmas.Int.{ints}
use Rattle.std.proofs.lemmas.List.Elements.{All-push, All-weaker}
use Rattle.tv_linear.proofs.Covered.{covered}
use Rattle.tv_linear.proofs.KnownLemmas.{met-as_given, as_given-append}
use Rattle.tv_linear.specs.Arithmetic.{denial}
use Rattle.tv_linear.specs.Covers.{Shown, ShownAt, IsMetCover}
use Rattle.tv_linear.specs.declared.cover.CoverTree.{CoverTree, Split', Empty, Into}
use Rattle.tv_linear.specs.Refutation.{Refutes}
use Rattle.tv_linear.specs.Depth.{splits}
use Rattle.tv_linear.specs.Linear.{Linear, columns, IsMet, scaled_value}
use Rattle.tv_linear.specs.Known.{Known, given, denied, as_given, KnownHeld, IsKnownMet}
use Rattle.tv_linear.proofs.ListLaws.{all_front}
use Rattle.tv_farkas.specs.declared.branch.Branch.{Branch}
use Rattle.tv_farkas.specs.declared.fault.CoverFault.{CoverFault}
use Rattle.tv_farkas.specs.declared.fault.CoverFault.TheVariants as faults
use Rattle.tv_farkas.specs.Refuting.{AreShort}
use Rattle.tv_farkas.specs.Trees.{TreeRows, TreeNumbers}
use Rattle.tv_farkas.specs.Paths.{TakenOnce, first, IsWholePoint, rows_after}
use Rattle.tv_farkas.specs.Stretching.{IsTakenBy, stretched, IsSide, AreSides, IsSplitOf, rows_of}
use Rattle.tv_farkas.proofs.StretchLemmas.{stretched_refutes}
use Rattle.tv_farkas.proofs.TakenLemmas.{all_taken}
use Rattle.tv_farkas.proofs.PathLemmas.{after_is, after_more, path_more, rows_more}
use Rattle.tv_farkas.proofs.SideLemmas.{given_side, given_sides, sides_more, get_or-neg, popped, whole_met}
use Rattle.tv_cover.specs.declared.covering.Place.{Place}
use Rattle.tv_cover.specs.declared.covering.Found.{Found}
use Rattle.tv_cover.specs.declared.covering.Found.TheVariants.{Tree, Hole}
use Rattle.tv_farkas.specs.declared.splitting.Halves.{Halves}
use Rattle.tv_cover.specs.Targets.{AreEven, IsInTarget, IsOutside, HasPoint, IsNarrowRow, owed_lists}
use Rattle.tv_cover.specs.CoverPaths.{IsShut, IsSplit, SplitsBy}
use Rattle.tv_cover.specs.Trying.{IsShownRow, IsOpenTarget, IsWideAt}
use Rattle.tv_cover.specs.Covering.{IsRowOrDenial, IsCoordinateRow, IsSplitRow, IsCoverFault}
use Rattle.tv_cover.specs.Looking.{IsShowing, AreShowing, IsPlaceFault}
use Rattle.tv_cover.specs.Stepping.{IsLeaf, IsHoleAt, AreHalves}
use Rattle.tv_cover.specs.Searching.{Searches, SearchesAt, IsTreeOf, IsSideTree, IsHoleFound, IsFound, IsSideFound, MaySplit, IsSearched}
use Rattle.tv_cover.proofs.PointLemmas.{all_kept, point_above, point_kept, point_with}
use Rattle.tv_cover.proofs.LookLemmas.{showing_short}
use Rattle.tv_cover.proofs.HalfLemmas.{narrow_inner}
use Rattle.std.proofs.lemmas.List.{append-nil, get_or_past}
use Rattle.std.proofs.lemmas.Option.{same_Some}
use Rattle.tv_linear.proofs.HeldLemmas.{narrow_held}

-- ---- a target that is entered
in_target : (lists : List (List Linear)) (k j : ℕ) (rows : List Known) (xs : List ℤ) → owed_lists lists k j ≡ Some rows → All (IsKnownMet xs) rows → IsInTarget lists xs
in_target [] k zero rows xs e h = cc
in_target [] k (suc j) rows xs e h = cc
in_target (l ∷ lists) k (suc j) rows xs e h = cc
in_target (l ∷ lists) zero zero rows xs e h = record {
  rows = l;
  target = (0, omega arith, refl);
  met = (met-as_given xs l).1 (subst (λ ks. All (IsKnownMet xs) ks) (sym (same_Some (as_given l) rows e)) h);
}
in_target (l ∷ lists) (suc k) zero rows xs e h =
    let t = in_target lists k zero rows xs e h in record {
      rows = t.rows;
      target = (let c = t.target in (suc c.0, (let i = c.1 in omega (arith, i)), c.2));
      met = t.met;
    }

-- an integer point of the known rows of a met cover lies in a target
pub known_covered : (n : ℕ) (lists : List (List Linear)) (known : List Known) (tree : CoverTree) (xs : List ℤ) → IsMetCover n (owed_lists lists) known tree → length xs ≡ n → All (IsKnownMet xs) known → IsInTarget lists xs
known_covered n lists known tree xs h e m = (let c = covered n (owed_lists lists) known tree xs h e m in in_target lists c.0 c.1 c.2 xs c.3 c.4)

-- each integer point of the rows above that meets a side with a tree lies in a target
pub side_covered : (n : ℕ) (lists : List (List Linear)) (rows : List Linear) (left : ℕ) (old new : Place) (row : Linear) (tree : CoverTree) → IsSideTree n lists rows left old new row tree → (xs : List ℤ) → IsWholePoint n (rows_after rows old.path.items) xs → IsMet xs row → IsInTarget lists xs
side_covered n lists rows left old new row tree h xs p m =
    let path = rows_of old.path.items in
    let known = h.met (as_given path) (given row) (given_sides n path) (given_side n row) in
    let met = subst (λ rs. All (IsMet xs) rs) (after_is rows old.path.items) p.met in
    let all = (met-as_given xs ((rows ++ path) ++ row ∷ [])).0 (All-push (IsMet xs) (rows ++ path) row met m) in
    let e : as_given ((rows ++ path) ++ row ∷ []) ≡ (as_given rows ++ as_given path) ++ given row ∷ [] = as_given-append (rows ++ path) (row ∷ []) ∙ ap (λ ks. ks ++ given row ∷ []) (as_given-append rows path) in
    known_covered n lists _ tree xs known p.width (subst (λ ks. All (IsKnownMet xs) ks) e all)

-- ---- places
-- a place with the same rows and the same path
pub same_search : (n : ℕ) (lists : List (List Linear)) (rows : List Linear) (marks : List Bool) (old new : Place) → new.rows.items ≡ old.rows.items → new.path.items ≡ old.path.items → SearchesAt n lists rows marks old → SearchesAt n lists rows marks new
same_search n lists rows marks old new e g h = subst (λ p. Searches n lists rows marks new.rows.items p) (sym g) (subst (λ r. Searches n lists rows marks r old.path.items) (sym e) h)

-- one branch more on the path
pub side_search : (n : ℕ) (lists : List (List Linear)) (rows : List Linear) (marks : List Bool) (place : Place) (b : Branch) (kept : List Linear) (path : List Branch) → SearchesAt n lists rows marks place → MaySplit n lists rows place b → kept ≡ place.rows.items ++ b.row ∷ [] → path ≡ place.path.items ++ b ∷ [] → Searches n lists rows marks kept path
side_search n lists rows marks place b kept path s m k p =
    subst (λ q. Searches n lists rows marks kept q) (sym p) (subst (λ q. Searches n lists rows marks q (place.path.items ++ b ∷ [])) (sym k) record {
      even = All-push (λ r. columns r ≡ n) place.rows.items b.row s.even m.even;
      first = s.first;
      parts = ap (λ q. q ++ b.row ∷ []) s.parts ∙ append_assoc s.first (rows_of place.path.items) (b.row ∷ []) ∙ ap (λ q. s.first ++ q) (sym (rows_more place.path.items b));
      marked = s.marked;
      taken = subst (λ q. TakenOnce q (place.rows.items ++ b.row ∷ [])) (sym (after_more rows place.path.items b)) (first (rows_after rows place.path.items) place.rows.items b.row s.taken m.fresh);
      is_path = path_more (IsSplit n lists) rows place.path.items b s.is_path m.splits_by;
    })

-- a copy of a row at the end
pub pushed : (old new : List Linear) (copy row : Linear) → new ≡ old ++ copy ∷ [] → copy ≡ row → new ≡ old ++ row ∷ []
pushed old new copy row e g = e ∙ ap (λ r. old ++ r ∷ []) g

pub one_branch : (old : List Branch) (b : Branch) (new : List Branch) (left : ℕ) → new ≡ old ++ b ∷ [] → length new + left ≡ length old + (left + 1)
one_branch old b new left e = let h = ap length e ∙ length-append old (b ∷ []) in omega (arith, h)

-- the sides of a split
pub first_side : (n : ℕ) (lists : List (List Linear)) (rows : List Linear) (marks : List Bool) (place : Place) (halves : Halves) → SearchesAt n lists rows marks place → AreHalves n lists place.rows.items halves → MaySplit n lists rows place halves.first
first_side n lists rows marks place halves s h = record {
  even = h.first_even;
  fresh = h.first_new;
  splits_by = h.first_splits (rows_after rows place.path.items) s.taken;
}

pub second_side : (n : ℕ) (lists : List (List Linear)) (rows : List Linear) (marks : List Bool) (left : ℕ) (place mid : Place) (halves : Halves) (tree : CoverTree) → SearchesAt n lists rows marks place → AreHalves n lists place.rows.items halves → IsSideTree n lists rows left place mid halves.first.row tree → MaySplit n lists rows mid halves.second
second_side n lists rows marks left place mid halves tree s h t = record {
  even = h.second_even;
  fresh = subst (λ k. Contains k halves.second.row → ⊥) (sym t.same_rows) h.second_new;
  splits_by = subst (λ p. IsSplit n lists (rows_after rows p) halves.second) (sym t.same_path) (h.second_splits (rows_after rows place.path.items) s.taken (side_covered n lists rows left place mid halves.first.row tree t));
}

-- the row of a split
row_origin : (n : ℕ) (lists : List (List Linear)) (above : List Linear) (row : Linear) {A : Type 0} (o : Option (Vec ℤ A × ℤ)) → SplitsBy n lists above row o → IsRowOrDenial lists row ⊎ IsCoordinateRow n row
row_origin n lists above row None h = elim h.side [
  | inl e ↦ inl (h.at, h.of_target, inr (e, h.narrow))
  | inr e ↦ inl (h.at, h.of_target, inl e.0)
]
row_origin n lists above row (Some p) h = elim h.split.side [
  | inl e ↦ inr (h.split.column, h.split.floor, inl e)
  | inr e ↦ inr (h.split.column, h.split.floor, inr e.0)
]

pub split_row : (n : ℕ) (lists : List (List Linear)) (rows : List Linear) (place : Place) (b : Branch) → MaySplit n lists rows place b → IsSplitRow n lists b.row
split_row n lists rows place b m = record { even = m.even; origin = row_origin n lists (rows_after rows place.path.items) b.row b.point m.splits_by.splits }

-- a split at the row of the first side
pub split_tree : (n : ℕ) (lists : List (List Linear)) (rows : List Linear) (left : ℕ) (old mid new : Place) (row second : Linear) (holds fails tree : CoverTree) → IsSplitRow n lists row → IsSide n second (denied (given row)) → IsSideTree n lists rows left old mid row holds → IsSideTree n lists rows left mid new second fails → IsSplitOf row holds fails tree → IsTreeOf n lists rows (left + 1) old new tree
split_tree n lists rows left old mid new row second holds fails (Empty ms) kept side l u h = absurd h
split_tree n lists rows left old mid new row second holds fails (Into target fall ls) kept side l u h = absurd h
split_tree n lists rows left old mid new row second holds fails (Split' r p a q b) kept side l u h = record {
  met = λ sides s. (
    subst (λ x. IsMetCover n (owed_lists lists) ((as_given rows ++ sides) ++ given x ∷ []) a) (sym h.0) (subst (λ t. IsMetCover n (owed_lists lists) ((as_given rows ++ sides) ++ given row ∷ []) t) (sym h.1) (l.met sides (given row) s (given_side n row))),
    subst (λ x. IsMetCover n (owed_lists lists) ((as_given rows ++ sides) ++ denied (given x) ∷ []) b) (sym h.0) (subst (λ t. IsMetCover n (owed_lists lists) ((as_given rows ++ sides) ++ denied (given row) ∷ []) t) (sym h.2) (u.met sides (denied (given row)) (subst (λ k. AreSides n (rows_of k) sides) (sym l.same_path) s) side)),
  );
  shallow = (let x = subst (λ t. splits t ≤ left) (sym h.1) l.shallow in let y = subst (λ t. splits t ≤ left) (sym h.2) u.shallow in grind (arith, x, y));
  short = (subst (λ t. TreeNumbers AreShort t) (sym h.1) l.short, subst (λ t. TreeNumbers AreShort t) (sym h.2) u.short);
  split_rows = (
    subst (λ x. IsSplitRow n lists x) (sym h.0) kept,
    subst (λ t. TreeRows (IsSplitRow n lists) t) (sym h.1) l.split_rows,
    subst (λ t. TreeRows (IsSplitRow n lists) t) (sym h.2) u.split_rows,
  );
  same_rows = u.same_rows ∙ l.same_rows;
  same_path = u.same_path ∙ l.same_path;
}

-- the side of a place with one more branch
side_tree : (n : ℕ) (lists : List (List Linear)) (rows : List Linear) (left : ℕ) (old mid inner new : Place) (b : Branch) (tree : CoverTree) → mid.path.items ≡ old.path.items ++ b ∷ [] → new.rows.items ≡ old.rows.items → new.path.items ≡ old.path.items → IsTreeOf n lists rows left mid inner tree → IsSideTree n lists rows left old new b.row tree
side_tree n lists rows left old mid inner new b tree g r p h = record {
  met = λ sides side a d. subst (λ ks. IsMetCover n (owed_lists lists) ks tree) (sym (append_assoc (as_given rows) sides (side ∷ [])))
      (h.met (sides ++ side ∷ []) (subst (λ q. AreSides n q (sides ++ side ∷ [])) (sym (rows_more old.path.items b) ∙ ap rows_of (sym g)) (sides_more n (rows_of old.path.items) sides b.row side a d)));
  shallow = h.shallow;
  short = h.short;
  split_rows = h.split_rows;
  same_rows = r;
  same_path = p;
}

-- what a side has
pub side_found : (n : ℕ) (lists : List (List Linear)) (rows : List Linear) (left : ℕ) (old mid inner new : Place) (b : Branch) (found : Found) → IsFound n lists rows left mid inner found → mid.rows.items ≡ old.rows.items ++ b.row ∷ [] → mid.path.items ≡ old.path.items ++ b ∷ [] → new.rows.items ≡ take (vec_len inner.rows - 1) inner.rows.items → new.path.items ≡ take (vec_len inner.path - 1) inner.path.items → IsSideFound n lists rows left old new b.row found
side_found n lists rows left old mid inner new b (Tree tree) h g p gr gp =
    side_tree n lists rows left old mid inner new b tree p (popped old.rows.items b.row mid.rows.items inner.rows.items new.rows.items g h.same_rows (gr ∙ ap (λ k. take (k - 1) inner.rows.items) inner.rows.ok.0)) (popped old.path.items b mid.path.items inner.path.items new.path.items p h.same_path (gp ∙ ap (λ k. take (k - 1) inner.path.items) inner.path.ok.0)) h
side_found n lists rows left old mid inner new b (Hole values) h g p gr gp = h

-- ---- leaves
pub less_and_more : (k : ℕ) → (k ≡ 0 → ⊥) → k - 1 + 1 ≡ k
less_and_more zero g = absurd (g refl)
less_and_more (suc k) g = omega arith

denial_side : (n : ℕ) (row : Linear) → IsNarrowRow (denial row) → IsSide n (denial row) (denied (given row))
denial_side n row narrow = record {
  inner = λ j l. sym (get_or-neg row.coefficients j);
  constant = refl;
  held = held;
}
  where
    held : (column : Option ℕ) → KnownHeld (denied (given row)) column
    held None = (tt, narrow_held (pos 1 -ℤ row.constant) (subst (λ z. unsigned_abs z < 2 ^ 62) (get_or_past (map neg_ℤ row.coefficients) (columns (denial row)) (pos 1 -ℤ row.constant) (omega arith)) (narrow (columns (denial row)) (omega arith))))
    held (Some j) = (tt, narrow_held (neg_ℤ (get_or row.coefficients j (pos 0))) (subst (λ z. unsigned_abs z < 2 ^ 62) (get_or-neg row.coefficients j) (narrow_inner (map neg_ℤ row.coefficients) (pos 1 -ℤ row.constant) narrow j)))

module _ (n : ℕ) (marks : List Bool) (rows kept first path : List Linear) (sides : List Known) (marked : IsTakenBy marks rows first) (parts : kept ≡ first ++ path) (s : AreSides n path sides) where
  one_shown : (row : Linear) (numbers : List ℤ) → IsShowing n marks kept row numbers → Refutes n ((as_given rows ++ sides) ++ denied (given row) ∷ []) numbers
  one_shown row numbers h =
      let known = denied (given row) in
      let more = sides_more n path sides (denial row) known s (denial_side n row h.narrow) in
      let e : kept ++ denial row ∷ [] ≡ first ++ (path ++ denial row ∷ []) = ap (λ k. k ++ denial row ∷ []) parts ∙ append_assoc first path (denial row ∷ []) in
      let r = stretched_refutes n marks rows first (path ++ denial row ∷ []) (sides ++ known ∷ []) h.multipliers marked more (subst (λ k. Refutes n (as_given k) h.multipliers) e h.refutes) in
      subst (λ m. Refutes n ((as_given rows ++ sides) ++ known ∷ []) m) (sym h.stretch) (subst (λ k. Refutes n k (stretched marks h.multipliers)) (sym (append_assoc (as_given rows) sides (known ∷ []))) r)

  all_shown : (target : List Linear) (lists : List (List ℤ)) → AreShowing n marks kept target lists → Shown n (as_given rows ++ sides) (as_given target) lists
  all_shown [] [] h = tt
  all_shown [] (ms ∷ lists) h = absurd h
  all_shown (r ∷ target) [] h = absurd h
  all_shown (r ∷ target) (ms ∷ lists) h = (one_shown r ms h.0, all_shown target lists h.1)

owed_target : (lists : List (List Linear)) (number fall : ℕ) (target : List Linear) → fall ≡ 0 → slice_get lists number ≡ Some target → owed_lists lists number fall ≡ Some (as_given target)
owed_target lists number fall target e f = ap (owed_lists lists number) e ∙ found (slice_get lists number) f
  where
    found : (o : Option (List Linear)) → o ≡ Some target → option_map as_given o ≡ Some (as_given target)
    found o g = ap (option_map as_given) g

pub leaf_tree : (n : ℕ) (lists : List (List Linear)) (rows : List Linear) (marks : List Bool) (left : ℕ) (old new : Place) (tree : CoverTree) → SearchesAt n lists rows marks old → IsLeaf n lists marks old.rows.items tree → new.rows.items ≡ old.rows.items → new.path.items ≡ old.path.items → IsTreeOf n lists rows left old new tree
leaf_tree n lists rows marks left old new (Split' r p a q b) s h e g = absurd h
leaf_tree n lists rows marks left old new (Empty all) s h e g = record {
  met = λ sides a. subst (λ m. Refutes n (as_given rows ++ sides) m) (sym h.stretch) (stretched_refutes n marks rows s.first (rows_of old.path.items) sides h.multipliers s.marked a (subst (λ k. Refutes n (as_given k) h.multipliers) s.parts h.refutes));
  shallow = omega arith;
  short = h.short;
  split_rows = tt;
  same_rows = e;
  same_path = g;
}
leaf_tree n lists rows marks left old new (Into number fall refutations) s h e g = record {
  met = λ sides a. subst (λ o. ShownAt n (as_given rows ++ sides) o (map (λ l. l.items) refutations.items)) (sym (owed_target lists number fall h.target h.no_fall h.found))
      (all_shown n marks rows old.rows.items s.first (rows_of old.path.items) sides s.marked s.parts a h.target (map (λ l. l.items) refutations.items) h.shown);
  shallow = omega arith;
  short = showing_short n marks old.rows.items h.target (map (λ l. l.items) refutations.items) h.shown;
  split_rows = tt;
  same_rows = e;
  same_path = g;
}

-- ---- holes
pub hole_found : (n : ℕ) (lists : List (List Linear)) (rows : List Linear) (marks : List Bool) (place : Place) (xs : List ℤ) → SearchesAt n lists rows marks place → IsHoleAt n lists place.rows.items xs → IsHoleFound n lists rows xs
hole_found n lists rows marks place xs s h =
    let kept = place.rows.items in
    let met : All (IsMet xs) kept = All-weaker (λ r. scaled_value r h.values h.scale ≤ℤ pos 0) (IsMet xs) (λ r m. whole_met r h.values xs h.scale h.here.meets.positive (h.here.size ∙ sym h.divided.size) (λ j l. h.divided.same j (let e = h.divided.size in omega (arith, e, l))) m) kept h.here.meets.met in record {
      hole = record {
        point = record {
          width = h.divided.size;
          met = all_front (IsMet xs) rows (rows_of place.path.items) (subst (λ k. All (IsMet xs) k) (after_is rows place.path.items) (all_taken (IsMet xs) (rows_after rows place.path.items) kept s.taken met));
        };
        outside = All-weaker (IsShut n kept) (IsOutside xs) (λ target o. (o.0, o.1, λ m. o.2 (whole_point o.0 met m))) lists h.shut;
      };
      short = λ j l. h.divided.short j (let g = h.divided.size in omega (arith, g, l));
      origin = record {
        as_many = h.divided.size;
        path = place.path.items;
        is_path = s.is_path;
        kept = kept;
        taken = s.taken;
        values = h.values;
        scale = h.scale;
        point = h.here.point;
        whole = h.divided.same;
      };
    }
  where
    over_one : (r : Linear) → IsMet xs r → scaled_value r xs (pos 1) ≤ℤ pos 0
    over_one r m = omega (arith, ints, m)

    whole_point : (r : Linear) → All (IsMet xs) place.rows.items → IsMet xs r → HasPoint n (place.rows.items ++ r ∷ [])
    whole_point r all m = point_with n place.rows.items r xs (pos 1) h.divided.size record {
      positive = omega (arith, ints);
      met = All-weaker (IsMet xs) (λ q. scaled_value q xs (pos 1) ≤ℤ pos 0) over_one place.rows.items all;
    } (over_one r m)

-- ---- refusals
-- a row that is shown, and a target that is open, at the kept rows is so at all of them
shown_above : (n : ℕ) (above kept : List Linear) → TakenOnce above kept → (rows : List Linear) → All (IsShownRow n kept) rows → All (IsShownRow n above) rows
shown_above n above kept t rows h = All-weaker (IsShownRow n kept) (IsShownRow n above) (λ row o. (o.0, λ p. o.1 (point_kept n above kept (denial row ∷ []) t p))) rows h

open_target_above : (n : ℕ) (lists : List (List Linear)) (above kept : List Linear) (number place : ℕ) → TakenOnce above kept → IsOpenTarget n lists kept number place → IsOpenTarget n lists above number place
open_target_above n lists above kept number place t o = record {
  target = o.target;
  found = o.found;
  here = record {
    row = o.here.row;
    found = o.here.found;
    shown = shown_above n above kept t (take place o.target) o.here.shown;
    narrow = o.here.narrow;
    point = point_above n above kept (denial o.here.row ∷ []) t o.here.point;
  };
}

wide_above : (n : ℕ) (lists : List (List Linear)) (above kept : List Linear) (column : ℕ) → TakenOnce above kept → IsWideAt n lists kept column → IsWideAt n lists above column
wide_above n lists above kept column t w = record {
  point = subst (λ k. HasPoint n k) (append-nil above) (point_above n above kept [] t (subst (λ k. HasPoint n k) (sym (append-nil kept)) w.point));
  number = w.number;
  target = w.target;
  found = w.found;
  earlier = λ k l. (let e = w.earlier k l in (e.0, open_target_above n lists above kept k e.0 t e.1));
  here = record {
    place = w.here.place;
    row = w.here.row;
    found = w.here.found;
    shown = shown_above n above kept t (take w.here.place w.target) w.here.shown;
    wide = w.here.wide;
  };
}

pub place_fault : (n : ℕ) (lists : List (List Linear)) (rows : List Linear) (marks : List Bool) (kept : List Linear) (path : List Branch) (pivots splits : ℕ) (fault : CoverFault) → Searches n lists rows marks kept path → IsPlaceFault (IsWideAt n lists kept) n lists kept pivots fault → IsCoverFault n lists rows pivots splits fault
place_fault n lists rows marks kept path pivots splits (faults.Splits p) s h = absurd h
place_fault n lists rows marks kept path pivots splits (faults.Wide column) s h = record { path = path; is_path = s.is_path; wide = wide_above n lists (rows_after rows path) kept column s.taken h }
place_fault n lists rows marks kept path pivots splits faults.Memory s h = tt
place_fault n lists rows marks kept path pivots splits (faults.Solve list f) s h = elim h.0 [
  | inl e ↦ record {
    path = path;
    is_path = s.is_path;
    more = [];
    is_more = inl refl;
    taken = subst (λ k. TakenOnce (rows_after rows path ++ []) k) (sym e) (subst (λ k. TakenOnce k kept) (sym (append-nil (rows_after rows path))) s.taken);
    fault = h.1;
  }
  | inr one ↦ record {
    path = path;
    is_path = s.is_path;
    more = one.more ∷ [];
    is_more = inr (one.more, one.row, refl);
    taken = subst (λ k. TakenOnce (rows_after rows path ++ one.more ∷ []) k) (sym one.same) (first (rows_after rows path) kept one.more s.taken one.new);
    fault = h.1;
  }
]

-- ---- the first place
pub first_search : (n : ℕ) (lists : List (List Linear)) (rows : List Linear) (marks : List Bool) (place : Place) → AreEven n rows → TakenOnce rows place.rows.items → IsTakenBy marks rows place.rows.items → place.path.items ≡ [] → SearchesAt n lists rows marks place
first_search n lists rows marks place even t m e = subst (λ p. Searches n lists rows marks place.rows.items p) (sym e) record {
  even = all_kept (λ r. columns r ≡ n) rows place.rows.items t even;
  first = place.rows.items;
  parts = sym (append-nil place.rows.items);
  marked = m;
  taken = t;
  is_path = tt;
}

-- what the first place has
pub cover_of : (n : ℕ) (lists : List (List Linear)) (rows : List Linear) (left : ℕ) (old new : Place) (found : Found) → old.path.items ≡ [] → IsFound n lists rows left old new found → IsSearched n lists rows left found
cover_of n lists rows left old new (Hole values) e h = h
cover_of n lists rows left old new (Tree tree) e h =
    let met : IsMetCover n (owed_lists lists) (as_given rows) tree = subst (λ k. IsMetCover n (owed_lists lists) k tree) (append-nil (as_given rows)) (h.met [] (subst (λ p. AreSides n (rows_of p) []) (sym e) tt)) in record {
      met = met;
      none = λ xs p. known_covered n lists (as_given rows) tree xs met p.width ((met-as_given xs rows).0 p.met);
      shallow = h.shallow;
      short = h.short;
      split_rows = h.split_rows;
    }

-- what a place has that stands as another
pub same_found : (n : ℕ) (lists : List (List Linear)) (rows : List Linear) (left : ℕ) (old mid new : Place) (found : Found) → mid.rows.items ≡ old.rows.items → mid.path.items ≡ old.path.items → IsFound n lists rows left mid new found → IsFound n lists rows left old new found
same_found n lists rows left old mid new (Hole values) e g h = h
same_found n lists rows left old mid new (Tree tree) e g h = record {
  met = λ sides a. h.met sides (subst (λ p. AreSides n (rows_of p) sides) (sym g) a);
  shallow = h.shallow;
  short = h.short;
  split_rows = h.split_rows;
  same_rows = h.same_rows ∙ e;
  same_path = h.same_path ∙ g;
}
