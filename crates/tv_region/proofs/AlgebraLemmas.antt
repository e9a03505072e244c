-- The intersection, the union and the complement of regions.
use Rattle.std.proofs.Common.{◌≡◌, ◌⊎◌, inl, inr, ℕ, zero, suc, ◌+◌, ◌-◌, ◌*◌, ◌^◌, ◌<◌, ◌≤◌, List, [], ◌∷◌, length, refl, sym, ap, ◌∙◌, subst, arith, ℤ, Bool, true, false, cond}
use Rattle.std.specs.Prelude.{◌==◌, ◌&&◌, ◌||◌, not, All, Vec, Result, Ok, Err, IfOk}
use Rattle.std.specs.Result.{IfErr}
use Rattle.std.specs.Global.{Global}
use Rattle.std.specs.List.{Contains}
use Rattle.std.proofs.lemmas.List.Elements.{All-head, All-tail}
use Rattle.tv_linear.specs.Linear.{Linear, columns}
use Rattle.tv_linear.specs.Regions.{InPiece, InRegion}
use Rattle.tv_linear.specs.declared.region.Piece.{Piece}
use Rattle.tv_linear.specs.declared.region.Region.{Region}
use Rattle.tv_farkas.specs.declared.budget.Budget.{Budget}
use Rattle.tv_farkas.specs.Refuting.{IsSystemFault}
use Rattle.tv_linear.specs.declared.row.Row.{Row}
use Rattle.tv_cases.specs.Given.{row_lists}
use Rattle.tv_cases.proofs.ContainsLemmas.{Contains-here, Contains-later, Contains-cases, Contains-none}
use Rattle.tv_region.specs.Met.{all_met, some_met, InSome}
use Rattle.tv_region.specs.Adding.{AreReduced, IsProduct, IsUnion, IsComplement, IsDenied, IsWideDenial, IsListFault, row_product}
use Rattle.tv_region.specs.Regions.{IsPieceOf, IsRegion, lists_at, count_at, HasRowAt, HasRow, IsReduced, capped, IsSameFault, IsRegionFault, IsAssembled}
use Rattle.tv_region.specs.Algebra.{OfEither, OfRest, IsBoth, IsEither, IsRest, denied_count}
use Rattle.tv_region.specs.AlgebraAt.{has_state, InBoth, OutOfBoth, InEither, OutOfEither, InRest, OutOfRest, IsBothAt, IsEitherAt, IsRestAt}
use Rattle.tv_region.specs.declared.limits.Limits.{Limits}
use Rattle.tv_region.specs.declared.fault.ListFault.{ListFault}
use Rattle.tv_region.specs.declared.fault.ListFault.TheVariants as lists
use Rattle.tv_region.specs.declared.fault.RegionFault.{RegionFault}
use Rattle.tv_region.specs.declared.fault.RegionFault.TheVariants as regions
use Rattle.tv_region.specs.declared.fault.RegionFault.TheVariants.{Memory}
use Rattle.tv_region.specs.Differences.{IsDifference, IsOfDifferences}
use Rattle.tv_region.proofs.MetLemmas.{all_met-all, all-all_met, has_all, no_and_yes}
use Rattle.tv_region.proofs.AddLemmas.{none_reduced, denied_more}
use Rattle.tv_region.proofs.DifferenceLemmas.{denial_difference}
use Rattle.std.proofs.lemmas.Bool.{or_right, cases_lt, and_parts, and_from, or_cases, or_left, eq-eqb, eqb-true}

-- ---- states of a region
kept_in : (t : Bool) (xs : List ℤ) (rows : List Linear) (ls : List (List Linear)) → t ≡ true → all_met xs rows ≡ true → some_met xs (cond t (rows ∷ ls) ls) ≡ true
kept_in true xs rows ls e h = or_left (all_met xs rows) (some_met xs ls) h
kept_in false xs rows ls e h = cc

kept_later : (t : Bool) (xs : List ℤ) (rows : List Linear) (ls : List (List Linear)) → some_met xs ls ≡ true → some_met xs (cond t (rows ∷ ls) ls) ≡ true
kept_later true xs rows ls h = or_right (all_met xs rows) (some_met xs ls) h
kept_later false xs rows ls h = h

kept_out : (t : Bool) (xs : List ℤ) (rows : List Linear) (ls : List (List Linear)) → some_met xs (cond t (rows ∷ ls) ls) ≡ true → ((t ≡ true) × (all_met xs rows ≡ true)) ⊎ (some_met xs ls ≡ true)
kept_out true xs rows ls h = elim (or_cases (all_met xs rows) (some_met xs ls) h) [ inl k ↦ inl (refl, k) | inr k ↦ inr k ]
kept_out false xs rows ls h = inr h

module _ (l : ℕ) (xs : List ℤ) where
  met_in : (pieces : List Piece) (p : Piece) → Contains pieces p → InPiece l xs p → some_met xs (lists_at l pieces) ≡ true
  met_in [] p h k = absurd (Contains-none p h)
  met_in (q ∷ pieces) p h k =
      elim (Contains-cases q p pieces h) [
        | inl e ↦ (
            let j = subst (InPiece l xs) (sym e) k in
            kept_in (q.location == l) xs q.poly.rows.items (lists_at l pieces) (eq-eqb q.location l (sym j.place)) (all-all_met xs q.poly.rows.items j.inside))
        | inr m ↦ kept_later (q.location == l) xs q.poly.rows.items (lists_at l pieces) (met_in pieces p m k)
      ]

  in_met : (pieces : List Piece) → some_met xs (lists_at l pieces) ≡ true → (p : Piece) × Contains pieces p × InPiece l xs p
  in_met [] h = cc
  in_met (q ∷ pieces) h =
      elim (kept_out (q.location == l) xs q.poly.rows.items (lists_at l pieces) h) [
        | inl w ↦ (q, Contains-here q pieces, record { place = sym (eqb-true q.location l w.0); inside = all_met-all xs q.poly.rows.items w.1 })
        | inr k ↦ (let w = in_met pieces k in (w.0, Contains-later q w.0 pieces w.1, w.2))
      ]

  pub state_in : (region : Region) → InRegion l xs region → has_state region l xs ≡ true
  state_in region h = met_in region.pieces.items h.0 h.1 h.2

  pub in_state : (region : Region) → has_state region l xs ≡ true → InRegion l xs region
  in_state region h = in_met region.pieces.items h

-- ---- widths
width_by_test : (n : ℕ) (r : Linear) (t : Bool) (rows : List Linear) (ls : List (List Linear)) → All (λ s. columns s ≡ n) rows → (InSome ls r → columns r ≡ n) → InSome (cond t (rows ∷ ls) ls) r → columns r ≡ n
width_by_test n r true rows ls even later (inl k) = has_all (λ (s : Linear). columns s ≡ n) rows r even k
width_by_test n r true rows ls even later (inr k) = later k
width_by_test n r false rows ls even later k = later k

row_width : (n m l : ℕ) (r : Linear) (pieces : List Piece) → All (IsPieceOf n m) pieces → InSome (lists_at l pieces) r → columns r ≡ n
row_width n m l r [] all h = absurd h
row_width n m l r (p ∷ pieces) all h =
    width_by_test n r (p.location == l) p.poly.rows.items (lists_at l pieces) (All-head (IsPieceOf n m) p pieces all).even (row_width n m l r pieces (All-tail (IsPieceOf n m) p pieces all)) h

pub width_in : (n m : ℕ) (region : Region) → IsRegion n m region → (l : ℕ) (ls : List (List Linear)) → ls ≡ lists_at l region.pieces.items → (r : Linear) → InSome ls r → columns r ≡ n
width_in n m region h l ls e r k = row_width n m l r region.pieces.items h.pieces (subst (λ x. InSome x r) e k)

pub row_in : (region : Region) (l : ℕ) (ls : List (List Linear)) → ls ≡ lists_at l region.pieces.items → (r : Linear) → InSome ls r → HasRowAt region l r
row_in region l ls e r k = subst (λ x. InSome x r) e k

pub has_width : (n m : ℕ) (region : Region) → IsRegion n m region → (r : Linear) → HasRow region r → columns r ≡ n
has_width n m region h r k = row_width n m k.0 r region.pieces.items h.pieces k.1

-- ---- faults
pub region_fault : (w : Limits) (n : ℕ) (M : Linear → Type 0) (N : ℕ → Linear → Type 0) (W V : ℕ → Type 0) (C : ℕ → ℕ → Type 0) (budget : Budget) (l count : ℕ) (f : ListFault) (r : RegionFault) → w.columns ≡ n → w.pivots ≡ budget.pivots → (w.most < 2 ^ 64 - 1 → budget.disjuncts < count) → C l count → ((x : Linear) → M x → N l x) → ((c : ℕ) → W c → V c) → IsListFault w M W f → IsSameFault l count f r → IsRegionFault n N V C budget r
region_fault w n M N W V C budget l count lists.Full r e p most is g k h s = subst (IsRegionFault n N V C budget) (sym s) (is, most h)
region_fault w n M N W V C budget l count (lists.Wide column) r e p most is g k h s = subst (IsRegionFault n N V C budget) (sym s) (k column h)
region_fault w n M N W V C budget l count (lists.Solve rows why) r e p most is g k h s =
    subst (IsRegionFault n N V C budget) (sym s) (
      l,
      record { made = λ x m. g x (h.made x m); once = h.once; unsolved = subst (λ x. IsSystemFault x rows.items budget.pivots why) e (subst (λ x. IsSystemFault w.columns rows.items x why) p h.unsolved) },
    )
region_fault w n M N W V C budget l count lists.Memory r e p most is g k h s = subst (IsRegionFault n N V C budget) (sym s) tt

pub region_weaker : (n : ℕ) (M N : ℕ → Linear → Type 0) (W V : ℕ → Type 0) (C D : ℕ → ℕ → Type 0) (budget : Budget) → ((l : ℕ) (x : Linear) → M l x → N l x) → ((c : ℕ) → W c → V c) → ((l k : ℕ) → C l k → D l k) → (r : RegionFault) → IsRegionFault n M W C budget r → IsRegionFault n N V D budget r
region_weaker n M N W V C D budget f g e (regions.Disjuncts l k) h = (e l k h.0, h.1)
region_weaker n M N W V C D budget f g e (regions.Wide c) h = g c h
region_weaker n M N W V C D budget f g e (regions.Solve rows why) h = (h.0, record { made = λ x m. f h.0 x (h.1.made x m); once = h.1.once; unsolved = h.1.unsolved })
region_weaker n M N W V C D budget f g e regions.Memory h = tt

pub passed_on : (n : ℕ) (N : ℕ → Linear → Type 0) (V : ℕ → Type 0) (C : ℕ → ℕ → Type 0) (budget : Budget) (r : RegionFault) → (r ≡ Memory) ⊎ IsRegionFault n N V C budget r → IsRegionFault n N V C budget r
passed_on n N V C budget r (inl e) = subst (IsRegionFault n N V C budget) (sym e) tt
passed_on n N V C budget r (inr h) = h

-- ---- the lists of a location
pub both_is : (a b : Region) (l : ℕ) (first second lists : List (List Linear)) → IsRegion a.variables a.locations a → IsRegion a.variables a.locations b → first ≡ lists_at l a.pieces.items → second ≡ lists_at l b.pieces.items → IsProduct a.variables first second lists → IsBothAt a b l lists
both_is a b l first second lists fa fb e f h = record {
  only = λ xs k m. sym (same xs k) ∙ m;
  out = λ xs k m. sym (same xs k) ∙ m;
  reduced = h.reduced;
  made = λ r m. elim (h.from r m) [ inl x ↦ inl (row_in a l first e r x) | inr x ↦ inr (row_in b l second f r x) ];
  wide = λ r m. elim (h.from r m) [ inl x ↦ width_in a.variables a.locations a fa l first e r x | inr x ↦ width_in a.variables a.locations b fb l second f r x ];
  bounded = subst (λ x. length lists ≤ length x * length (lists_at l b.pieces.items)) e (subst (λ x. length lists ≤ length first * length x) f h.bounded);
}
  where
    same : (xs : List ℤ) → length xs ≡ a.variables → some_met xs lists ≡ (has_state a l xs && has_state b l xs)
    same xs k = h.met xs k ∙ (λ i. some_met xs (e i) && some_met xs (f i))

pub either_is : (a b : Region) (l : ℕ) (first second lists : List (List Linear)) → IsRegion a.variables a.locations a → IsRegion a.variables a.locations b → first ≡ lists_at l a.pieces.items → second ≡ lists_at l b.pieces.items → IsUnion a.variables first second lists → IsEitherAt a b l lists
either_is a b l first second lists fa fb e f h = record {
  only = λ xs k m. sym (same xs k) ∙ m;
  out = λ xs k m. sym (same xs k) ∙ m;
  reduced = h.reduced;
  made = λ r m. elim (h.from r m) [ inl x ↦ inl (row_in a l first e r x) | inr x ↦ inr (row_in b l second f r x) ];
  wide = λ r m. elim (h.from r m) [ inl x ↦ width_in a.variables a.locations a fa l first e r x | inr x ↦ width_in a.variables a.locations b fb l second f r x ];
  bounded = subst (λ x. length lists ≤ length x + length (lists_at l b.pieces.items)) e (subst (λ x. length lists ≤ length first + length x) f h.bounded);
}
  where
    same : (xs : List ℤ) → length xs ≡ a.variables → some_met xs lists ≡ (has_state a l xs || has_state b l xs)
    same xs k = h.met xs k ∙ (λ i. some_met xs (e i) || some_met xs (f i))

module _ (a : Region) (l : ℕ) (pieces : List (List Linear)) (f : IsRegion a.variables a.locations a) (e : pieces ≡ lists_at l a.pieces.items) where
  pub denied_in : (r : Linear) → IsDenied (InSome pieces) r → OfRest a l r
  denied_in r h = denied_more (InSome pieces) (HasRowAt a l) (row_in a l pieces e) r h

  pub wide_in : (c : ℕ) → IsWideDenial (InSome pieces) c → IsWideDenial (HasRow a) c
  wide_in c h = (h.0, (l, row_in a l pieces e h.0 h.1), h.2)

  pub rest_is : (lists : List (List Linear)) → IsComplement a.variables pieces lists → ((r : Linear) → OfRest a l r → columns r ≡ a.variables) → IsRestAt a l lists
  rest_is lists h wide = record {
    only = λ xs k m. sym (same xs k) ∙ m;
    out = λ xs k m. sym (same xs k) ∙ m;
    reduced = h.reduced;
    made = λ r m. denied_in r (h.from r m);
    wide = λ r m. wide r (denied_in r (h.from r m));
    bounded = subst (λ x. length lists ≤ row_product x) e h.bounded;
  }
    where
      same : (xs : List ℤ) → length xs ≡ a.variables → some_met xs lists ≡ not (has_state a l xs)
      same xs k = h.met xs k ∙ (λ i. not (some_met xs (e i)))

pub zero_factor : (x y : ℕ) → x * y ≡ 0 → (x ≡ 0) ⊎ (y ≡ 0)
zero_factor zero y h = inl refl
zero_factor (suc x) zero h = inr refl
zero_factor (suc x) (suc y) h = absurd (grind arith)

no_rows : (xs : List ℤ) (rows : List Linear) → length rows ≡ 0 → all_met xs rows ≡ true
no_rows xs [] h = refl
no_rows xs (r ∷ rows) h = absurd (omega arith)

all_there : (xs : List ℤ) (ls : List (List Linear)) → row_product ls ≡ 0 → some_met xs ls ≡ true
all_there xs [] h = absurd (omega arith)
all_there xs (rows ∷ ls) h = elim (zero_factor (length rows) (row_product ls) h) [
  | inl k ↦ or_left (all_met xs rows) (some_met xs ls) (no_rows xs rows k)
  | inr k ↦ or_right (all_met xs rows) (some_met xs ls) (all_there xs ls k)
]

-- a list without rows is met everywhere
pub complement_zero : (n : ℕ) (ls : List (List Linear)) → row_product ls ≡ 0 → IsComplement n ls []
complement_zero n ls z = record { met = λ xs e. ap not (sym (all_there xs ls z)); reduced = none_reduced n; from = λ r m. absurd m; bounded = omega arith }

-- ---- whole regions
module _ (n m : ℕ) (Only Out : ℕ → List ℤ → Type 0) (Made : ℕ → Linear → Type 0) (Few : ℕ → ℕ → Type 0) (region : Region) (h : IsAssembled n m Only Out Made Few region) where
  pub row_made : (l : ℕ) (r : Linear) → HasRowAt region l r → Made l r
  row_made l r k = elim (cases_lt l m) [ inl b ↦ (h.at l b).made r k | inr b ↦ absurd (subst (λ ls. InSome ls r) (h.none l b) k) ]

  pub reduced_pieces : IsReduced region
  reduced_pieces l = subst (λ k. AreReduced k (lists_at l region.pieces.items)) (sym h.fits.variables) (elim (cases_lt l m) [
    | inl b ↦ (h.at l b).reduced
    | inr b ↦ subst (AreReduced n) (sym (h.none l b)) (none_reduced n)
  ])

  pub few_pieces : ((l : ℕ) → Few l 0) → (l : ℕ) → Few l (count_at l region)
  few_pieces zero_few l = elim (cases_lt l m) [ inl b ↦ (h.at l b).bounded | inr b ↦ subst (Few l) (sym (ap length (h.none l b))) (zero_few l) ]

not_out : (b goal : Bool) → (b ≡ false → goal ≡ false) → goal ≡ true → b ≡ true
not_out true goal h k = refl
not_out false goal h k = absurd (let x = sym (h refl) ∙ k in cc)

of_both : (a b : Region) → IsOfDifferences a → IsOfDifferences b → (l : ℕ) (r : Linear) → OfEither a b l r → IsDifference r
of_both a b d f l r (inl h) = d r (l, h)
of_both a b d f l r (inr h) = f r (l, h)

pub both_region : (a b region : Region) → IsAssembled a.variables a.locations (InBoth a b) (OutOfBoth a b) (OfEither a b) (λ l k. k ≤ count_at l a * count_at l b) region → IsBoth a b region
both_region a b region h = record {
  fits = h.fits;
  exact = λ l xs p. (
    λ k. (let w = and_parts (has_state a l xs) (has_state b l xs) ((h.at l p.location).only xs p.values (state_in l xs region k)) in (in_state l xs a w.0, in_state l xs b w.1)),
    λ k. in_state l xs region (not_out (has_state region l xs) (has_state a l xs && has_state b l xs) ((h.at l p.location).out xs p.values) (and_from (has_state a l xs) (has_state b l xs) (state_in l xs a k.0) (state_in l xs b k.1))),
  );
  reduced = reduced_pieces a.variables a.locations (InBoth a b) (OutOfBoth a b) (OfEither a b) (λ l k. k ≤ count_at l a * count_at l b) region h;
  from = row_made a.variables a.locations (InBoth a b) (OutOfBoth a b) (OfEither a b) (λ l k. k ≤ count_at l a * count_at l b) region h;
  bounded = few_pieces a.variables a.locations (InBoth a b) (OutOfBoth a b) (OfEither a b) (λ l k. k ≤ count_at l a * count_at l b) region h (λ l. omega arith);
  differences = λ d f r m. of_both a b d f m.0 r (row_made a.variables a.locations (InBoth a b) (OutOfBoth a b) (OfEither a b) (λ l k. k ≤ count_at l a * count_at l b) region h m.0 r m.1);
}

pub either_region : (a b region : Region) → IsAssembled a.variables a.locations (InEither a b) (OutOfEither a b) (OfEither a b) (λ l k. k ≤ count_at l a + count_at l b) region → IsEither a b region
either_region a b region h = record {
  fits = h.fits;
  exact = λ l xs p. (
    λ k. elim (or_cases (has_state a l xs) (has_state b l xs) ((h.at l p.location).only xs p.values (state_in l xs region k))) [ inl w ↦ inl (in_state l xs a w) | inr w ↦ inr (in_state l xs b w) ],
    λ k. in_state l xs region (not_out (has_state region l xs) (has_state a l xs || has_state b l xs) ((h.at l p.location).out xs p.values) (elim k [ inl w ↦ or_left (has_state a l xs) (has_state b l xs) (state_in l xs a w) | inr w ↦ or_right (has_state a l xs) (has_state b l xs) (state_in l xs b w) ])),
  );
  reduced = reduced_pieces a.variables a.locations (InEither a b) (OutOfEither a b) (OfEither a b) (λ l k. k ≤ count_at l a + count_at l b) region h;
  from = row_made a.variables a.locations (InEither a b) (OutOfEither a b) (OfEither a b) (λ l k. k ≤ count_at l a + count_at l b) region h;
  bounded = few_pieces a.variables a.locations (InEither a b) (OutOfEither a b) (OfEither a b) (λ l k. k ≤ count_at l a + count_at l b) region h (λ l. omega arith);
  differences = λ d f r m. of_both a b d f m.0 r (row_made a.variables a.locations (InEither a b) (OutOfEither a b) (OfEither a b) (λ l k. k ≤ count_at l a + count_at l b) region h m.0 r m.1);
}

true_not : (b : Bool) → (b ≡ true → ⊥) → not b ≡ true
true_not true h = absurd (h refl)
true_not false h = refl

pub rest_region : (a region : Region) → IsAssembled a.variables a.locations (InRest a) (OutOfRest a) (OfRest a) (λ l k. k ≤ denied_count a l) region → IsRest a region
rest_region a region h = record {
  fits = h.fits;
  exact = λ l xs p. (
    λ k j. no_and_yes (has_state a l xs) ((h.at l p.location).only xs p.values (state_in l xs region k)) (state_in l xs a j),
    λ k. in_state l xs region (not_out (has_state region l xs) (not (has_state a l xs)) ((h.at l p.location).out xs p.values) (true_not (has_state a l xs) (λ j. k (in_state l xs a j)))),
  );
  reduced = reduced_pieces a.variables a.locations (InRest a) (OutOfRest a) (OfRest a) (λ l k. k ≤ denied_count a l) region h;
  from = row_made a.variables a.locations (InRest a) (OutOfRest a) (OfRest a) (λ l k. k ≤ denied_count a l) region h;
  bounded = few_pieces a.variables a.locations (InRest a) (OutOfRest a) (OfRest a) (λ l k. k ≤ denied_count a l) region h (λ l. omega arith);
  differences = λ d r m. (let w = row_made a.variables a.locations (InRest a) (OutOfRest a) (OfRest a) (λ l k. k ≤ denied_count a l) region h m.0 r m.1 in subst IsDifference w.is (denial_difference w.row (d w.row (m.0, w.among))));
}

lists_length : (vs : List (Vec Row Global)) → length (row_lists vs) ≡ length vs
lists_length [] = refl
lists_length (v ∷ vs) = ap suc (lists_length vs)

pub many_at : (vs : List (Vec Row Global)) (k : ℕ) (ls : List (List Linear)) → k ≡ length vs → row_lists vs ≡ ls → k ≡ length ls
many_at vs k ls h e = h ∙ sym (lists_length vs) ∙ ap length e

pub capped_small : (k n : ℕ) → k ≡ n → k < 2 ^ 64 → k ≡ capped n
capped_small k n e f = omega (arith, e, f)

pub capped_zero : (n : ℕ) → capped n ≡ 0 → n ≡ 0
capped_zero n h = omega (arith, h)

pub if_ok : {A E : Type 0} (r : Result A E) {P Q : A → Type 0} → ((a : A) → P a → Q a) → IfOk r P → IfOk r Q
if_ok (Ok a) f h = f a h
if_ok (Err e) f h = tt

pub if_err : {A E : Type 0} (r : Result A E) {P Q : E → Type 0} → ((e : E) → P e → Q e) → IfErr r P → IfErr r Q
if_err (Ok a) f h = tt
if_err (Err e) f h = f e h
