-- the rows that a choice solves and splits at are derived
use Rattle.std.proofs.Common.{◌≡◌, inl, inr, ℕ, zero, suc, ◌+◌, ◌<◌, ◌≤◌, List, [], ◌∷◌, ◌++◌, length, map, take, drop, get_or, All, refl, sym, ap, ◌∙◌, subst, arith, ℤ, pos, negsuc, neg_ℤ, ◌-ℤ◌}
use Rattle.std.specs.Prelude.{Option, Some, None, Vec, Bool, true, ◌==◌, slice_get}
use Rattle.std.specs.List.{Contains}
use Rattle.std.proofs.lemmas.List.Elements.{All-filter, All-contains_itself, filter_passes, Contains-append_left, Contains-append_right, Contains-append_cases, All-contains}
use Rattle.tv_linear.specs.Linear.{Linear, linear, columns}
use Rattle.tv_linear.specs.Arithmetic.{unit, opposite, denial, composed as with_terms, padded_row}
use Rattle.tv_linear.specs.declared.region.Piece.{Piece}
use Rattle.tv_cases.specs.LinearCases.{LinearCase, CaseSystem, from_of, leaving}
use Rattle.tv_cases.specs.Before.{before}
use Rattle.tv_cases.proofs.ContainsLemmas.{Contains-here, Contains-later, Contains-map, Contains-from_map}
use Rattle.tv_farkas.specs.declared.branch.Branch.{Branch}
use Rattle.tv_farkas.specs.declared.fault.CoverFault.TheVariants.{Splits, Solve, Wide, Memory}
use Rattle.tv_farkas.specs.Paths.{rows_after, at_most_row, at_least_row}
use Rattle.tv_farkas.specs.EmptyPaths.{IsWholePointOf, IsEmptyPath}
use Rattle.tv_farkas.specs.Refuting.{IsSystemFault}
use Rattle.tv_simplex.specs.declared.fault.SolveFault.{SolveFault}
use Rattle.std.proofs.lemmas.Option.{slice_get_within, get_or_from_slice_get}
use Rattle.std.proofs.lemmas.Bool.{eqb-true}
use Rattle.tv_cover.specs.Targets.{AreEven, IsNarrowRow}
use Rattle.tv_choice.specs.Rows.{fixes, case_rows, put_terms}
use Rattle.tv_choice.specs.Leading.{IsServed, IsEntry, place_of, piece_rows, pieces_at}
use Rattle.tv_choice.specs.Targets.{front, term_by, term_of, one_term, terms_given, draw_choices, IsFirstWidePut, with_these, with_later, IsWideInto, reading, putting, IsFirstWideInto, into_this, into_later, IsFirstWideFrom, by_this, by_later}
use Rattle.tv_choice.specs.ChoicePaths.{starting_rows, stepping_rows, IsPointHere, own as own_point, start as start_point, AreDrawTerms, by_rows, at_point, IsTermAt, number as number_there, tight as tight_there, IsWayIn, IsWayRows, SplitsBy, IsSplit, IsChoicePath, IsInner, starting, stepping}
use Rattle.tv_choice.specs.Refusals.{IsTried, IsUnsolvedHere, place as at_place, tried as with_tried, inner as of_inner, IsWideHere, entering, drawing, denying, IsWideChoice, target, behind}
use Rattle.tv_derived.specs.Scopes.{Scope, scope, at_location, over_case, width_at, with_more, Placed}
use Rattle.tv_derived.specs.Derived.{IsDerived, IsMade, IsDrawTerm, IsListed, AreListed, guard, made, denied, composed, drawn, below as term_below, above as term_above, value as term_value, derived, fixed, unsplit, IsFixing, false_row}
use Rattle.tv_derived.specs.Faults.{IsWideStep, IsUnsolvedList, number as wide_number, before_case, put_terms as put_wide}
use Rattle.tv_derived.specs.Laws.{IsTargetSplit}
use Rattle.tv_derived.proofs.Carried.{monotone}
use Rattle.tv_derived.proofs.Steps.{listed_over, with_none, none_more}
use Rattle.tv_derived.proofs.Listing.{one_more, handed_list, path_listed, point_split, goes_on, target_listed}
use Rattle.tv_choice_refusals.specs.Choices.{asked_of, ChoiceRefuses}
use Rattle.tv_cases.proofs.OptionLemmas.{some_same}

found_among : (rows : List Linear) (k : ℕ) (r : Linear) → slice_get rows k ≡ Some r → Contains rows r
found_among rows k r e = (k, slice_get_within rows k r e, get_or_from_slice_get rows k r r e)

-- ---- the row that gives a term for a draw
-- a row over n columns and one more
split_row : (n : ℕ) (cs : List ℤ) (z : ℤ) → length cs ≡ n + 1 → get_or cs n (pos 0) ≡ z → cs ≡ take n cs ++ z ∷ []
split_row zero [] z l e = absurd (omega (arith, l))
split_row zero (c ∷ []) z l e = ap (λ x. x ∷ []) e
split_row zero (c ∷ d ∷ cs) z l e = absurd (omega (arith, l))
split_row (suc n) [] z l e = absurd (omega (arith, l))
split_row (suc n) (c ∷ cs) z l e = ap (λ xs. c ∷ xs) (split_row n cs z (omega (arith, l)) e)

with_one : (n : ℕ) (r : Linear) (z : ℤ) → columns r ≡ n + 1 → get_or r.coefficients n (pos 0) ≡ z → r ≡ with_more (front n r) (z ∷ [])
with_one n r z l e = ap (λ cs. linear cs r.constant) (split_row n r.coefficients z l e)

row_with : (n : ℕ) (r : Linear) (part : List ℤ) → drop n r.coefficients ≡ part → r ≡ with_more (front n r) part
row_with n r part e = ap (λ cs. linear cs r.constant) (sym (front_back n r.coefficients) ∙ ap (λ cs. take n r.coefficients ++ cs) e)
  where
    front_back : (n : ℕ) (cs : List ℤ) → take n cs ++ drop n cs ≡ cs
    front_back zero cs = refl
    front_back (suc n) [] = refl
    front_back (suc n) (c ∷ cs) = ap (λ ds. c ∷ ds) (front_back n cs)

-- what the coefficient at the draw gives
data GivesTerm (n : ℕ) (r : Linear) : Linear → Type 0 where
  plus : r ≡ with_more (front n r) (pos 1 ∷ []) → GivesTerm n r (opposite (front n r))
  minus : r ≡ with_more (front n r) (negsuc 0 ∷ []) → GivesTerm n r (front n r)

term_given : (n : ℕ) (r t : Linear) (z : ℤ) → columns r ≡ n + 1 → get_or r.coefficients n (pos 0) ≡ z → term_by z (front n r) ≡ Some t → GivesTerm n r t
term_given n r t (pos zero) l e h = absurd (no_term t h)
  where
    no_term : (t : Linear) → ◌≡◌ {A = Option Linear} None (Some t) → ⊥
    no_term t e = cc
term_given n r t (pos (suc zero)) l e h = subst (GivesTerm n r) (some_same (opposite (front n r)) t h) (plus (with_one n r (pos 1) l e))
term_given n r t (pos (suc (suc k))) l e h = absurd (no_term t h)
  where
    no_term : (t : Linear) → ◌≡◌ {A = Option Linear} None (Some t) → ⊥
    no_term t e = cc
term_given n r t (negsuc zero) l e h = subst (GivesTerm n r) (some_same (front n r) t h) (minus (with_one n r (negsuc 0) l e))
term_given n r t (negsuc (suc k)) l e h = absurd (no_term t h)
  where
    no_term : (t : Linear) → ◌≡◌ {A = Option Linear} None (Some t) → ⊥
    no_term t e = cc

-- the list of one term, and the row of it
record IsOneTerm (n : ℕ) (rows draws : List Linear) : Type 0 where
  pub row : Linear
  pub among : Contains rows row
  pub term : Linear
  pub gives : GivesTerm n row term
  pub is : draws ≡ term ∷ []

one_given : (n : ℕ) (r : Linear) (rows draws : List Linear) (o : Option Linear) → columns r ≡ n + 1 → term_of n r ≡ o → Contains (one_term o) draws → IsOneTerm n (r ∷ rows) draws
one_given n r rows draws None l e c = absurd (let k = c.1 in omega (arith, k))
one_given n r rows draws (Some t) l e (zero, k, is) = record { row = r; among = (0, omega arith, refl); term = t; gives = term_given n r t (get_or r.coefficients n (pos 0)) l refl e; is = sym is }
one_given n r rows draws (Some t) l e (suc i, k, is) = absurd (omega (arith, k))

later_given : (n : ℕ) (r : Linear) (rows draws : List Linear) → IsOneTerm n rows draws → IsOneTerm n (r ∷ rows) draws
later_given n r rows draws h = record { row = h.row; among = (let c = h.among in (suc c.0, (let l = c.1 in omega (arith, l)), c.2)); term = h.term; gives = h.gives; is = h.is }

any_given : (n : ℕ) (rows draws : List Linear) → All (λ r. columns r ≡ n + 1) rows → Contains (terms_given n rows) draws → IsOneTerm n rows draws
any_given n [] draws e c = absurd (let l = c.1 in omega (arith, l))
any_given n (r ∷ rows) draws e c = elim (Contains-append_cases (one_term (term_of n r)) (terms_given n rows) draws c) [
  | inl here ↦ one_given n r rows draws (term_of n r) (e 0 r (omega arith)) refl here
  | inr later ↦ later_given n r rows draws (any_given n rows draws (λ i d l. e (suc i) d (omega (arith, l))) later)
]

-- ---- fixed columns
record IsFix (w column : ℕ) (xs : List ℤ) (row : Linear) : Type 0 where
  pub place : ℕ
  pub inside : place < length xs
  pub fixing : IsFixing w (column + place) (get_or xs place (pos 0)) row

later_fix : (w column : ℕ) (x : ℤ) (xs : List ℤ) (row : Linear) → IsFix w (suc column) xs row → IsFix w column (x ∷ xs) row
later_fix w column x xs row h = record {
  place = suc h.place;
  inside = (let i = h.inside in omega (arith, i));
  fixing = subst (λ c. IsFixing w c (get_or xs h.place (pos 0)) row) (let g : suc column + h.place ≡ column + suc h.place = omega arith in g) h.fixing;
}

fix_of : (w column : ℕ) (xs : List ℤ) (row : Linear) → Contains (fixes w column xs) row → IsFix w column xs row
fix_of w column [] row c = absurd (let l = c.1 in omega (arith, l))
fix_of w column (x ∷ xs) row (zero, l, e) = record { place = 0; inside = omega arith; fixing = inl (sym e ∙ ap (λ c. at_most_row w c x) (let g : column ≡ column + 0 = omega arith in g)) }
fix_of w column (x ∷ xs) row (suc zero, l, e) = record { place = 0; inside = omega arith; fixing = inr (sym e ∙ ap (λ c. at_least_row w c (x -ℤ pos 1)) (let g : column ≡ column + 0 = omega arith in g)) }
fix_of w column (x ∷ xs) row (suc (suc i), l, e) = later_fix w column x xs row (fix_of w (suc column) xs row (i, omega (arith, l), e))

get_or-take : (n : ℕ) (zs : List ℤ) (j : ℕ) → j < n → get_or (take n zs) j (pos 0) ≡ get_or zs j (pos 0)
get_or-take zero zs j l = absurd (omega (arith, l))
get_or-take (suc n) [] j l = refl
get_or-take (suc n) (z ∷ zs) zero l = refl
get_or-take (suc n) (z ∷ zs) (suc j) l = get_or-take n zs j (omega (arith, l))

length-take : (n : ℕ) (zs : List ℤ) → length (take n zs) ≤ n
length-take zero zs = omega arith
length-take (suc n) [] = omega arith
length-take (suc n) (z ∷ zs) = let e = length-take n zs in omega (arith, e)

-- ---- rows of ways
module _ (about : CaseSystem) (base : List Placed) (h l : ℕ) (stop : Bool) (pieces : List Piece) (into : (p : Piece) → Contains pieces p → (r : Linear) → Contains (piece_rows p) r → IsDerived about base (at_location (place_of p)) h r) (even : All (λ p. AreEven about.variables (piece_rows p)) pieces) where
  -- the rows of a case and a piece at its end
  piece_there : (c : LinearCase) (p : Piece) → IsEntry (asked_of about l stop pieces) c p → (place_of p ≡ c.to) × Contains pieces p
  piece_there c p e =
      let test : Piece → Bool = λ x. place_of x == c.to in
      let k = e.enters.0 in
      let within = e.enters.1 in
      let is = e.enters.2 in
      (eqb-true (place_of p) c.to (subst (λ x. test x ≡ true) is (filter_passes test pieces k p within)), subst (Contains pieces) is (All-filter test (Contains pieces) pieces (All-contains_itself pieces) k p within))

  owed_derived : (c : LinearCase) (p : Piece) (r : Linear) → IsEntry (asked_of about l stop pieces) c p → Contains (piece_rows p) r → IsDerived about base (at_location c.to) h r
  owed_derived c p r e among = let t = piece_there c p e in subst (λ k. IsDerived about base (at_location k) h r) t.0 (into p t.1 r among)

  owed_even : (c : LinearCase) (p : Piece) (r : Linear) → IsEntry (asked_of about l stop pieces) c p → Contains (piece_rows p) r → columns r ≡ about.variables
  owed_even c p r e among = let t = piece_there c p e in All-contains (λ x. columns x ≡ about.variables) (piece_rows p) r (All-contains (λ x. AreEven about.variables (piece_rows x)) pieces p even t.1) among

  -- a row of a piece read before the case
  before_made : (c : LinearCase) (p : Piece) (r : Linear) → IsEntry (asked_of about l stop pieces) c p → Contains (piece_rows p) r → IsMade about base (over_case c) (suc h) (before r c)
  before_made c p r e among =
      subst (λ x. IsMade about base (over_case c) (suc h) x) (with_none (before r c))
      (subst (λ k. IsMade about base (scope c.from (c ∷ []) k) (suc h) (with_more (before r c) [])) (none_more c.draws)
      (composed c r [] e.among (owed_even c p r e among) (subst (λ x. IsDerived about base (at_location c.to) h x) (sym (with_none r)) (owed_derived c p r e among)) (omega arith)))

  case_derived : (c : LinearCase) (p : Piece) → IsWayIn about.variables (asked_of about l stop pieces) c p → (r : Linear) → Contains (case_rows c (piece_rows p)) r → IsDerived about base (over_case c) (suc h) r
  case_derived c p w r among = elim (Contains-append_cases c.guards (map (λ x. before x c) (piece_rows p)) r among) [
    | inl of ↦ guard c r w.entry.among of
    | inr of ↦
        let found = Contains-from_map (λ x. before x c) (piece_rows p) r of in
        subst (λ x. IsDerived about base (over_case c) (suc h) x) found.2
        (made (before found.0 c) (before_made c p found.0 w.entry found.1)
        (All-contains IsNarrowRow (case_rows c (piece_rows p)) (before found.0 c) w.narrow (Contains-append_right c.guards (map (λ x. before x c) (piece_rows p)) (before found.0 c) (Contains-map (λ x. before x c) (piece_rows p) found.0 found.1))))
  ]

  -- ---- what is asked over the columns of a case
  starting_listed : (above : List Linear) (c : LinearCase) → Contains about.cases c → c.from ≡ l → AreListed about base (at_location l) (suc h) above → AreListed about base (over_case c) (suc h) (starting_rows above c)
  starting_listed above c among from listed r of = elim (Contains-append_cases (map (padded_row c.draws) above) c.guards r of) [
    | inl known ↦
        let found = Contains-from_map (padded_row c.draws) above r known in
        subst (λ x. IsListed about base (over_case c) (suc h) x) found.2
        (listed_over about base c (suc h) found.0 among (subst (λ k. IsListed about base (at_location k) (suc h) found.0) (sym from) (listed found.0 found.1)))
    | inr g ↦ unsplit r (derived r (guard c r among g))
  ]

  -- where the values come from that are taken at the rows above
  record IsPointFrom (xs : List ℤ) : Type 0 where
    pub scope_of : Scope
    pub rows : List Linear
    pub listed : AreListed about base scope_of (suc h) rows
    pub zs : List ℤ
    pub whole : IsWholePointOf (width_at about scope_of) rows zs
    pub bounded : length xs ≤ about.variables
    pub same : (j : ℕ) → j < length xs → get_or xs j (pos 0) ≡ get_or zs j (pos 0)

  point_from : (above : List Linear) (xs : List ℤ) → AreListed about base (at_location l) (suc h) above → IsPointHere about.variables (asked_of about l stop pieces) above xs → IsPointFrom xs
  point_from above xs listed (own_point ys w) = record {
    scope_of = at_location l;
    rows = above;
    listed = listed;
    zs = ys;
    whole = subst (λ k. IsWholePointOf k above ys) (sym (none_more about.variables)) w;
    bounded = (let e = w.as_many in omega (arith, e));
    same = λ j i. refl;
  }
  point_from above xs listed (start_point c zs s among from w) = record {
    scope_of = over_case c;
    rows = starting_rows above c;
    listed = starting_listed above c among from listed;
    zs = zs;
    whole = w;
    bounded = length-take about.variables zs;
    same = λ j i. get_or-take about.variables zs j (let a = length-take about.variables zs in omega (arith, i, a));
  }

  stepping_listed : (above : List Linear) (c : LinearCase) (p : Piece) (xs : List ℤ) → AreListed about base (at_location l) (suc h) above → IsWayIn about.variables (asked_of about l stop pieces) c p → IsPointHere about.variables (asked_of about l stop pieces) above xs → AreListed about base (over_case c) (suc h) (stepping_rows about.variables xs c p)
  stepping_listed above c p xs listed w here r of = elim (Contains-append_cases (fixes (about.variables + c.draws) 0 xs) (case_rows c (piece_rows p)) r of) [
    | inl fix ↦
        let f = fix_of (about.variables + c.draws) 0 xs r fix in
        let o = point_from above xs listed here in
        unsplit r (fixed o.scope_of f.place r o.rows o.zs (let a = f.inside in let b = o.bounded in omega (arith, a, b)) o.listed o.whole
        (subst (λ z. IsFixing (width_at about (over_case c)) f.place z r) (o.same f.place f.inside)
        (subst (λ k. IsFixing (about.variables + c.draws) k (get_or xs f.place (pos 0)) r) (let g : 0 + f.place ≡ f.place = omega arith in g) f.fixing)))
    | inr row ↦ unsplit r (derived r (case_derived c p w r row))
  ]

  -- ---- terms for draws
  -- one for each draw
  record AreTerms (c : LinearCase) (draws : List Linear) : Type 0 where
    pub many : length draws ≡ c.draws
    pub each : (j : ℕ) → j < c.draws → IsDrawTerm about base (over_case c) (suc h) j (get_or draws j (false_row 0))

  one_term_is : (c : LinearCase) (p : Piece) (draws : List Linear) → IsWayIn about.variables (asked_of about l stop pieces) c p → c.draws ≡ 1 → IsOneTerm about.variables (case_rows c (piece_rows p)) draws → AreTerms c draws
  one_term_is c p draws w one t = record {
    many = ap length t.is ∙ sym one;
    each = λ j i. subst (λ ds. IsDrawTerm about base (over_case c) (suc h) j (get_or ds j (false_row 0))) (sym t.is) (at_zero j (omega (arith, i, one)) t.row t.term t.among t.gives);
  }
    where
      first : (row term : Linear) → Contains (case_rows c (piece_rows p)) row → GivesTerm about.variables row term → IsDrawTerm about base (over_case c) (suc h) 0 term
      first row term among (plus e) =
          term_below 0 (front about.variables row) (subst (λ d. IsDerived about base (over_case c) (suc h) (with_more (front about.variables row) (unit d 0))) (sym one)
          (subst (λ r. IsDerived about base (over_case c) (suc h) r) e (case_derived c p w row among)))
      first row term among (minus e) =
          term_above 0 (front about.variables row) (subst (λ d. IsDerived about base (over_case c) (suc h) (with_more (front about.variables row) (map neg_ℤ (unit d 0)))) (sym one)
          (subst (λ r. IsDerived about base (over_case c) (suc h) r) e (case_derived c p w row among)))

      at_zero : (j : ℕ) → j < 1 → (row term : Linear) → Contains (case_rows c (piece_rows p)) row → GivesTerm about.variables row term → IsDrawTerm about base (over_case c) (suc h) j (get_or (term ∷ []) j (false_row 0))
      at_zero zero i row term among g = first row term among g
      at_zero (suc j) i row term among g = absurd (omega (arith, i))

  terms_by : (d : ℕ) (c : LinearCase) (p : Piece) (draws : List Linear) → c.draws ≡ d → IsWayIn about.variables (asked_of about l stop pieces) c p → Contains (draw_choices d about.variables (case_rows c (piece_rows p))) draws → AreTerms c draws
  terms_by zero c p draws e w (zero, i, is) = record { many = ap length (sym is) ∙ sym e; each = λ j k. absurd (omega (arith, k, e)) }
  terms_by zero c p draws e w (suc k, i, is) = absurd (omega (arith, i))
  terms_by (suc zero) c p draws e w among = one_term_is c p draws w e (any_given about.variables (case_rows c (piece_rows p)) draws (subst (λ d. All (λ r. columns r ≡ about.variables + d) (case_rows c (piece_rows p))) e w.even) among)
  terms_by (suc (suc k)) c p draws e w among = absurd (let i = among.1 in omega (arith, i))

  terms_of : (above : List Linear) (c : LinearCase) (p : Piece) (draws : List Linear) → AreListed about base (at_location l) (suc h) above → IsWayIn about.variables (asked_of about l stop pieces) c p → AreDrawTerms about.variables (asked_of about l stop pieces) above c p draws → AreTerms c draws
  terms_of above c p draws listed w (by_rows ds among) = terms_by c.draws c p ds refl w among
  terms_of above c p draws listed w (at_point ds earlier later xs zs e here whole terms) = record {
    many = terms.many;
    each = λ j i. term_at j (get_or ds j (false_row 0)) (terms.each j (false_row 0) i);
  }
    where
      before_listed : AreListed about base (at_location l) (suc h) earlier
      before_listed r of = listed r (subst (λ rs. Contains rs r) (sym e) (Contains-append_left earlier later r of))

      term_at : (j : ℕ) (t : Linear) → IsTermAt about.variables c.draws (case_rows c (piece_rows p)) zs j t → IsDrawTerm about base (over_case c) (suc h) j t
      term_at j t number_there = term_value j (stepping_rows about.variables xs c p) zs (stepping_listed earlier c p xs before_listed w here) whole
      term_at j t (tight_there r s among (inl (part, is)) v) =
          subst (λ x. IsDrawTerm about base (over_case c) (suc h) j x) (sym is)
          (term_below j (front about.variables r) (subst (λ x. IsDerived about base (over_case c) (suc h) x) (row_with about.variables r (unit c.draws j) part) (case_derived c p w r among)))
      term_at j t (tight_there r s among (inr (part, is)) v) =
          subst (λ x. IsDrawTerm about base (over_case c) (suc h) j x) (sym is)
          (term_above j (front about.variables r) (subst (λ x. IsDerived about base (over_case c) (suc h) x) (row_with about.variables r (map neg_ℤ (unit c.draws j)) part) (case_derived c p w r among)))

  way_derived : (above rows : List Linear) (r : Linear) → AreListed about base (at_location l) (suc h) above → IsWayRows about.variables (asked_of about l stop pieces) above rows → Contains rows r → IsDerived about base (at_location l) (suc h) r
  way_derived above rows r listed w among =
      let c = w.case in
      let terms = terms_of above c w.piece w.draws listed w.way_in w.terms in
      let found = Contains-from_map (λ x. with_terms x (put_terms about.variables w.draws)) (case_rows c (piece_rows w.piece)) r (subst (λ rs. Contains rs r) w.same among) in
      let narrow = All-contains IsNarrowRow rows r w.narrow among in
      subst (λ k. IsDerived about base (at_location k) (suc h) r) w.way_in.entry.leaves
      (subst (λ x. IsDerived about base (at_location c.from) (suc h) x) found.2
      (made (with_terms found.0 (put_terms about.variables w.draws)) (drawn found.0 w.draws (case_derived c w.piece w.way_in found.0 found.1) terms.many terms.each) (subst IsNarrowRow (sym found.2) narrow)))

  tried_split : (above : List Linear) (row : Linear) → AreListed about base (at_location l) (suc h) above → IsTried about.variables (asked_of about l stop pieces) above row → IsTargetSplit about base (at_location l) (suc h) row
  tried_split above row listed t = (t.at, way_derived above t.rows t.at listed t.way t.among, t.is)

  split_listed : (above : List Linear) (b : Branch) → AreListed about base (at_location l) (suc h) above → IsSplit about.variables (asked_of about l stop pieces) above b → IsListed about base (at_location l) (suc h) b.row
  split_listed above b listed is = at_kept b.point is.splits
    where
      at_kept : {A : Type 0} (kept : Option (Vec ℤ A × ℤ)) → SplitsBy about.variables (asked_of about l stop pieces) above b.row kept → IsListed about base (at_location l) (suc h) b.row
      at_kept None s = target_listed b.row (s.at, way_derived above s.rows s.at listed s.way s.among, elim s.side [ inl opposed ↦ inr (opposed, s.narrow) | inr same ↦ inl same.0 ])
      at_kept (Some (values, scale)) s = point_split about.variables (IsServed (asked_of about l stop pieces)) above b.row values.items scale (sym (none_more about.variables)) listed s.split

  path_is_listed : (rows : List Linear) (path : List Branch) → AreListed about base (at_location l) (suc h) rows → IsChoicePath about.variables (asked_of about l stop pieces) rows path → AreListed about base (at_location l) (suc h) (rows_after rows path)
  path_is_listed rows path listed is = path_listed (IsSplit about.variables (asked_of about l stop pieces)) split_listed rows path listed is

  inner_listed : (above : List Linear) (w : ℕ) (asked : List Linear) → AreListed about base (at_location l) (suc h) above → IsInner about.variables (asked_of about l stop pieces) above w asked → (c : LinearCase) × (w ≡ width_at about (over_case c)) × AreListed about base (over_case c) (suc h) asked
  inner_listed above w asked listed (starting c s among from) = (c, refl, starting_listed above c among from listed)
  inner_listed above w asked listed (stepping c p xs way here) = (c, refl, stepping_listed above c p xs listed way here)

  -- ---- refusals
  unsolved : (above kept : List Linear) (pivots : ℕ) (fault : SolveFault) → AreListed about base (at_location l) (suc h) above → IsUnsolvedHere about.variables (asked_of about l stop pieces) above kept pivots fault → (f : Scope) × IsUnsolvedList about base f (suc h) pivots kept fault
  unsolved above kept pivots fault listed (at_place t u) = (
    at_location l,
    record { list = handed_list above kept t listed; unsolved = subst (λ k. IsSystemFault k kept pivots fault) (sym (none_more about.variables)) u },
  )
  unsolved above kept pivots fault listed (with_tried r tr t u) = (
    at_location l,
    record {
      list = handed_list (above ++ r ∷ []) kept t (one_more above r listed (target_listed r (tried_split above r listed tr)));
      unsolved = subst (λ k. IsSystemFault k kept pivots fault) (sym (none_more about.variables)) u;
    },
  )
  unsolved above kept pivots fault listed (of_inner w asked i u) =
      let o = inner_listed above w asked listed i in (
        over_case o.0,
        record {
          list = goes_on about base (over_case o.0) (suc h) asked kept u.path o.2 (subst (λ k. IsEmptyPath k asked u.path) o.1 u.is_path) u.taken;
          unsolved = subst (λ k. IsSystemFault k kept pivots fault) o.1 u.fault;
        },
      )

  wide : (above : List Linear) (column : ℕ) → AreListed about base (at_location l) (suc h) above → IsWideHere about.variables (asked_of about l stop pieces) above column → IsWideStep about base (suc h) column
  wide above column listed (entering c p e w) =
      let among = found_among (piece_rows p) w.place w.row w.found in
      before_case 0 h [] c w.row [] e.among (owed_even c p w.row e among) (subst (λ x. IsDerived about base (at_location c.to) h x) (sym (with_none w.row)) (owed_derived c p w.row e among)) (omega arith) w.wide.inside w.wide.wide
  wide above column listed (drawing c p draws way t w) =
      let rows = case_rows c (piece_rows p) in
      let among = found_among rows w.place w.row w.found in
      let terms = terms_of above c p draws listed way t in
      put_wide (over_case c) w.row draws (case_derived c p way w.row among) terms.many terms.each w.wide.inside w.wide.wide
  wide above column listed (denying rows way w) =
      wide_number (at_location l) (denial w.row) (denied w.row (way_derived above rows w.row listed way (found_among rows w.place w.row w.found))) w.wide.inside w.wide.wide

  -- ---- targets that are too wide
  put_too_wide : (c : LinearCase) (p : Piece) (column : ℕ) → IsWayIn about.variables (asked_of about l stop pieces) c p → (rest : List (List Linear)) → ((draws : List Linear) → Contains rest draws → Contains (draw_choices c.draws about.variables (case_rows c (piece_rows p))) draws) → IsFirstWidePut about.variables (case_rows c (piece_rows p)) column rest → IsWideStep about base (suc h) column
  put_too_wide c p column way rest among (with_these draws later w) =
      let rows = case_rows c (piece_rows p) in
      let terms = terms_by c.draws c p draws refl way (among draws (Contains-here draws later)) in
      put_wide (over_case c) w.row draws (case_derived c p way w.row (found_among rows w.place w.row w.found)) terms.many terms.each w.wide.inside w.wide.wide
  put_too_wide c p column way rest among (with_later draws later fit w) = put_too_wide c p column way later (λ ds k. among ds (Contains-later draws ds later k)) w

  into_too_wide : (c : LinearCase) (p : Piece) (column : ℕ) → IsEntry (asked_of about l stop pieces) c p → IsWideInto about.variables c p column → IsWideStep about base (suc h) column
  into_too_wide c p column e (reading w) =
      let among = found_among (piece_rows p) w.place w.row w.found in
      before_case 0 h [] c w.row [] e.among (owed_even c p w.row e among) (subst (λ x. IsDerived about base (at_location c.to) h x) (sym (with_none w.row)) (owed_derived c p w.row e among)) (omega arith) w.wide.inside w.wide.wide
  into_too_wide c p column e (putting read wide_of narrow w) =
      put_too_wide c p column record { entry = e; even = wide_of; narrow = narrow } (draw_choices c.draws about.variables (case_rows c (piece_rows p))) (λ draws k. k) w

  pieces_too_wide : (c : LinearCase) (column : ℕ) → Contains about.cases c → c.from ≡ l → (rest : List Piece) → ((p : Piece) → Contains rest p → Contains (pieces_at pieces c.to) p) → IsFirstWideInto about.variables c column rest → IsWideStep about base (suc h) column
  pieces_too_wide c column among from rest there (into_this p later w) = into_too_wide c p column record { among = among; leaves = from; enters = there p (Contains-here p later) } w
  pieces_too_wide c column among from rest there (into_later p later fits w) = pieces_too_wide c column among from later (λ x k. there x (Contains-later p x later k)) w

  cases_too_wide : (column : ℕ) (rest : List LinearCase) → ((c : LinearCase) → Contains rest c → Contains about.cases c × (c.from ≡ l)) → IsFirstWideFrom about.variables pieces column rest → IsWideStep about base (suc h) column
  cases_too_wide column rest there (by_this c later w) = let t = there c (Contains-here c later) in pieces_too_wide c column t.0 t.1 (pieces_at pieces c.to) (λ p k. k) w
  cases_too_wide column rest there (by_later c later fits w) = cases_too_wide column later (λ x k. there x (Contains-later c x later k)) w

  leaves_there : (c : LinearCase) → Contains (leaving l about.cases) c → Contains about.cases c × (c.from ≡ l)
  leaves_there c of =
      let test : LinearCase → Bool = λ x. from_of x == l in
      let k = of.0 in
      let within = of.1 in
      let is = of.2 in
      (subst (Contains about.cases) is (All-filter test (Contains about.cases) about.cases (All-contains_itself about.cases) k c within), eqb-true (from_of c) l (subst (λ x. test x ≡ true) is (filter_passes test about.cases k c within)))

  choice_too_wide : (rows : List Linear) (column : ℕ) → AreListed about base (at_location l) (suc h) rows → IsWideChoice about.variables (asked_of about l stop pieces) rows column → IsWideStep about base (suc h) column
  choice_too_wide rows column listed (target w) = cases_too_wide column (leaving l about.cases) leaves_there w
  choice_too_wide rows column listed (behind path is w) = wide (rows_after rows path) column (path_is_listed rows path listed is) w

pub refusal : (about : CaseSystem) (base : List Placed) (many h l : ℕ) (stop : Bool) (rows : List Linear) (pieces : List Piece) → ChoiceRefuses about base many h l stop rows pieces
refusal about base many h l stop rows pieces pivots splits (Splits path) given is = record {
  location = l;
  rows = rows;
  pieces = pieces;
  question = record { ambient = given.ambient; into = λ p among r of. monotone (suc h) (omega arith) (given.into p among r of); are_few = given.are_few };
  is_path = is.0;
  spent = is.1;
}
refusal about base many h l stop rows pieces pivots splits (Solve kept fault) given is =
    unsolved about base h l stop pieces given.into given.even (rows_after rows is.own) kept.items pivots fault
    (path_is_listed about base h l stop pieces given.into given.even rows is.own (λ r c. unsplit r (given.ambient r c)) is.is_path) is.here
refusal about base many h l stop rows pieces pivots splits (Wide column) given is =
    choice_too_wide about base h l stop pieces given.into given.even rows column (λ r c. unsplit r (given.ambient r c)) is
refusal about base many h l stop rows pieces pivots splits Memory given is = tt
