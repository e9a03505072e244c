-- Covers of steps, and why there is no hole where each step leads inside.
use Rattle.std.proofs.Common.{◌≡◌, ℕ, zero, suc, ◌+◌, ◌≤◌, List, [], ◌∷◌, ◌++◌, length, map, take, drop, All, Option, None, Some, Bool, true, false, cond, slice_get, ◌==◌, arith, refl, sym, ap, ◌∙◌, subst, ℤ, pos, ◌≤ℤ◌}
use Rattle.std.specs.Prelude.{Contains}
use Rattle.std.specs.Option.{option_map}
use Rattle.std.proofs.lemmas.List.Elements.{All-nil, All-cons, All-head, All-tail, All-contains}
use Rattle.std.proofs.lemmas.Option.{slice_get_within, get_or_from_slice_get}
use Rattle.tv_linear.specs.Linear.{Linear, columns, value, IsMet}
use Rattle.tv_linear.specs.Arithmetic.{padded_row}
use Rattle.tv_linear.specs.Known.{Known, as_given, term_value}
use Rattle.tv_linear.specs.Terms.{terms_after}
use Rattle.tv_linear.specs.Covers.{IsMetCover}
use Rattle.tv_linear.specs.Depth.{splits}
use Rattle.tv_linear.specs.declared.cover.CoverTree.{CoverTree}
use Rattle.tv_linear.specs.declared.region.Piece.{Piece}
use Rattle.tv_linear.specs.Same.{AreSame, OwedSame}
use Rattle.tv_linear.proofs.SameLemmas.{cover_same}
use Rattle.tv_linear.proofs.PaddedLemmas.{padded_met}
use Rattle.tv_linear.proofs.ListLaws.{length-back, length-front, all_back, all_front}
use Rattle.tv_farkas.specs.Trees.{TreeRows}
use Rattle.tv_cases.specs.Before.{before, FitsBefore, rows_before}
use Rattle.tv_cases.specs.LinearCases.{LinearCase, CaseSystem, IsCase}
use Rattle.tv_cases.proofs.BeforeValue.{before-value}
use Rattle.tv_cases.proofs.ContainsLemmas.{Contains-here, Contains-later, Contains-map}
use Rattle.tv_cases.proofs.BeforeLemmas.{all_before_same, all_before_even}
use Rattle.tv_cert.specs.declared.node.Marked.{Marked}
use Rattle.tv_cert.specs.Obligations.{case_change}
use Rattle.tv_cert.specs.Pieces.{rows_of, pieces_at}
use Rattle.tv_cert.specs.Targets.{owed_into, target_rows, no_fall}
use Rattle.tv_cover.specs.Targets.{owed_lists, IsInTarget, AreEven}
use Rattle.tv_cover.specs.Covering.{IsHole}
use Rattle.tv_formula.specs.declared.tree.Path.TheVariants.{Every}
use Rattle.tv_region.specs.Regions.{IsPieceOf, lists_at}
use Rattle.tv_shape.specs.Narrow.{CoverNarrow}
use Rattle.tv_choice.specs.Leading.{piece_rows, state}
use Rattle.tv_rank.specs.Ways.{Way}
use Rattle.tv_lexrank.proofs.MetLemmas.{padded_rows_same, rows_even}
use Rattle.tv_lexrank.proofs.OfferLemmas.{met_shape}
use Rattle.tv_pre.specs.Pieces.{AreMarked, ArePieces, InPieces}
use Rattle.tv_pre.specs.Inclusions.{OfPiece, LeadsTo}
use Rattle.tv_pre.specs.Offers.{ShowsStep}
use Rattle.tv_pre.specs.Questions.{step_rows}
use Rattle.tv_pre.specs.Targets.{AreBefore}
use Rattle.tv_pre.proofs.OfferLemmas.{lists_marked, got_mapped, no_hole}
use Rattle.std.proofs.lemmas.List.{take-append-drop}
use Rattle.std.proofs.lemmas.Bool.{eq-eqb}

-- ---- the pieces at a location

kept_later : (b : Bool) (a : List Linear) (ls : List (List Linear)) (x : List Linear) → Contains ls x → Contains (cond b (a ∷ ls) ls) x
kept_later true a ls x c = Contains-later a x ls c
kept_later false a ls x c = c

pub listed : (qs : List Piece) (q : Piece) (l : ℕ) → q.location ≡ l → Contains qs q → Contains (lists_at l qs) (piece_rows q)
listed [] q l e c = absurd (omega (arith, c))
listed (a ∷ qs) q l e (zero, s, is) =
    let t : (a.location == l) ≡ true = eq-eqb a.location l (ap (λ p. p.location) is ∙ e) in
    subst (λ b. Contains (cond b (piece_rows a ∷ lists_at l qs) (lists_at l qs)) (piece_rows q)) (sym t)
    (subst (λ p. Contains (piece_rows a ∷ lists_at l qs) (piece_rows p)) is (Contains-here (piece_rows a) (lists_at l qs)))
listed (a ∷ qs) q l e (suc k, s, is) = kept_later (a.location == l) (piece_rows a) (lists_at l qs) (piece_rows q) (listed qs q l e (k, omega (arith, s), is))

pub in_lists : (l : ℕ) (xs : List ℤ) (qs : List Piece) → InPieces qs (state l xs) → IsInTarget (lists_at l qs) xs
in_lists l xs qs (q, among, inside) = record { rows = piece_rows q; target = listed qs q l (sym inside.place) among; met = inside.inside }

cond_all : (P : List Linear → Type 0) (b : Bool) (rows : List Linear) (ls : List (List Linear)) → P rows → All P ls → All P (cond b (rows ∷ ls) ls)
cond_all P true rows ls h g = All-cons P rows ls h g
cond_all P false rows ls h g = g

pub lists_even : (n m l : ℕ) (qs : List Piece) → All (IsPieceOf n m) qs → All (AreEven n) (lists_at l qs)
lists_even n m l [] h = All-nil (AreEven n)
lists_even n m l (q ∷ qs) h = cond_all (AreEven n) (q.location == l) (piece_rows q) (lists_at l qs) (All-head (IsPieceOf n m) q qs h).even (lists_even n m l qs (All-tail (IsPieceOf n m) q qs h))

-- ---- rows over the columns of a case

before_met : (n : ℕ) (c : LinearCase) (owed : List Linear) (xs ds : List ℤ) → All (λ r. columns r ≡ n) owed → length xs ≡ n → length ds ≡ c.draws → All (IsMet (map (term_value (xs ++ ds)) (terms_after n c.updates))) owed → All (IsMet (xs ++ ds)) (rows_before c owed)
before_met n c [] xs ds even e d h = All-nil (IsMet (xs ++ ds))
before_met n c (r ∷ owed) xs ds even e d h =
    let wide = All-head (λ r. columns r ≡ n) r owed even in
    let v = before-value r c xs ds (e ∙ sym wide) d ∙ ap (λ k. value r (map (term_value (xs ++ ds)) (terms_after k c.updates))) e in
    All-cons (IsMet (xs ++ ds)) (before r c) (rows_before c owed)
    (subst (λ z. z ≤ℤ pos 0) (sym v) (All-head (IsMet (map (term_value (xs ++ ds)) (terms_after n c.updates))) r owed h))
    (before_met n c owed xs ds (All-tail (λ r. columns r ≡ n) r owed even) e d (All-tail (IsMet (map (term_value (xs ++ ds)) (terms_after n c.updates))) r owed h))

-- ---- what is owed
append_none : (n : ℕ) (xs ys : List Known) → AreSame n xs ys → AreSame n xs (ys ++ [])
append_none n [] [] h = tt
append_none n [] (y ∷ ys) h = absurd h
append_none n (x ∷ xs) [] h = absurd h
append_none n (x ∷ xs) (y ∷ ys) h = (h.0, append_none n xs ys h.1)

-- the rows of a list have n columns, and before the case they fit
abbrev IsFit : ℕ → LinearCase → List Linear → Type 0
IsFit n c rows = All (λ r. columns r ≡ n) rows × All (FitsBefore c) rows

step_owed : (n : ℕ) (c : LinearCase) (found : Option Marked) → All (λ u. columns u.term ≡ n + c.draws) c.updates → ((q : Marked) → found ≡ Some q → IsFit n c (rows_of q)) →
    OwedSame (n + c.draws) (option_map as_given (option_map (rows_before c) (option_map rows_of found))) (target_rows (case_change n c) no_fall found 0)
step_owed n c None us h = tt
step_owed n c (Some q) us h = append_none (n + c.draws) (as_given (rows_before c (rows_of q))) (map (case_change n c) (rows_of q)) (all_before_same n c (rows_of q) (h q refl).0 us (h q refl).1)

-- a step cover: a case, a piece and the pieces of a region
module _ (about : CaseSystem) (c : LinearCase) (case : IsCase about.variables about.locations c) (q : Piece) (piece : IsPieceOf about.variables about.locations q) (into : List Piece) (pieces : ArePieces about into) where
  abbrev n : ℕ
  n = about.variables

  abbrev w : ℕ
  w = about.variables + c.draws

  abbrev rows : List Linear
  rows = piece_rows q

  abbrev way : Way
  way = record { taken = c; known = rows }

  even : All (AreEven n) (lists_at c.to into)
  even = lists_even n about.locations c.to into pieces

  each : (lists : List (List Linear)) → AreBefore c (lists_at c.to into) lists → (ps : List Marked) → AreMarked ps into → (k : ℕ) (p : Marked) → slice_get (pieces_at ps c.to) k ≡ Some p → IsFit n c (rows_of p)
  each lists t ps ms k p e =
      let g : slice_get (lists_at c.to into) k ≡ Some (rows_of p) = ap (λ ls. slice_get ls k) (sym (lists_marked c.to ps into ms)) ∙ got_mapped rows_of (pieces_at ps c.to) k ∙ ap (option_map rows_of) e in
      let there : Contains (lists_at c.to into) (rows_of p) = (k, slice_get_within (lists_at c.to into) k (rows_of p) g, get_or_from_slice_get (lists_at c.to into) k (rows_of p) (rows_of p) g) in
      (All-contains (AreEven n) (lists_at c.to into) (rows_of p) even there, All-contains (All (FitsBefore c)) (lists_at c.to into) (rows_of p) t.fits there)

  owed : (lists : List (List Linear)) → AreBefore c (lists_at c.to into) lists → (ps : List Marked) → AreMarked ps into → (k j : ℕ) → OwedSame w (owed_lists lists k j) (owed_into ps c.to (case_change n c) no_fall k j)
  owed lists t ps ms k zero =
      subst (λ z. OwedSame w (option_map as_given z) (owed_into ps c.to (case_change n c) no_fall k 0))
      (sym (ap (λ ls. slice_get ls k) t.exact ∙ got_mapped (rows_before c) (lists_at c.to into) k ∙ ap (option_map (rows_before c)) (ap (λ ls. slice_get ls k) (sym (lists_marked c.to ps into ms)) ∙ got_mapped rows_of (pieces_at ps c.to) k)))
      (step_owed n c (slice_get (pieces_at ps c.to) k) case.terms (each lists t ps ms k))
  owed lists t ps ms k (suc j) = tt

  pub shows_step : (lists : List (List Linear)) (all : List Linear) (m : ℕ) (tree : CoverTree) → AreBefore c (lists_at c.to into) lists → all ≡ step_rows c rows → m ≡ w → IsMetCover m (owed_lists lists) (as_given all) tree → TreeRows (λ r. columns r ≡ m) tree → CoverNarrow tree → splits tree ≤ 128 → ShowsStep about q c into tree
  shows_step lists all m tree t e wide met own narrow shallow number p ps mp ms =
      record {
        shape = (met_shape w (owed_into ps c.to (case_change n c) no_fall) (as_given (rows_of p) ++ as_given c.guards) tree (subst (λ v. TreeRows (λ r. columns r ≡ v) tree) wide own) there, shallow);
        met = there;
        narrow = narrow;
      }
    where
      at_piece : IsMetCover w (owed_into ps c.to (case_change n c) no_fall) (as_given rows ++ as_given c.guards) tree
      at_piece =
          cover_same w (owed_lists lists) (owed_into ps c.to (case_change n c) no_fall) (owed lists t ps ms) (as_given (step_rows c rows)) (as_given rows ++ as_given c.guards) (padded_rows_same w way) tree
          (subst (λ v. IsMetCover v (owed_lists lists) (as_given (step_rows c rows)) tree) wide (subst (λ rs. IsMetCover m (owed_lists lists) (as_given rs) tree) e met))

      there : IsMetCover w (owed_into ps c.to (case_change n c) no_fall) (as_given (rows_of p) ++ as_given c.guards) tree
      there = subst (λ rs. IsMetCover w (owed_into ps c.to (case_change n c) no_fall) (as_given rs ++ as_given c.guards) tree) (sym mp.1) at_piece

  pub step_even : (all : List Linear) → all ≡ step_rows c rows → All (λ r. columns r ≡ w) all
  step_even all e = subst (All (λ r. columns r ≡ w)) (sym e) (rows_even n way piece.even case.guards)

  before_even : (ls : List (List Linear)) → All (AreEven n) ls → All (All (FitsBefore c)) ls → All (AreEven w) (map (rows_before c) ls)
  before_even [] h fits = All-nil (AreEven w)
  before_even (rs ∷ ls) h fits =
      All-cons (AreEven w) (rows_before c rs) (map (rows_before c) ls) (all_before_even n c rs (All-head (AreEven n) rs ls h) case.terms (All-head (All (FitsBefore c)) rs ls fits))
      (before_even ls (All-tail (AreEven n) rs ls h) (All-tail (All (FitsBefore c)) rs ls fits))

  pub targets_even : (lists : List (List Linear)) → AreBefore c (lists_at c.to into) lists → All (AreEven w) lists
  targets_even lists t = subst (All (AreEven w)) (sym t.exact) (before_even (lists_at c.to into) even t.fits)

  pub step_whole : (lists : List (List Linear)) (all : List Linear) (m : ℕ) (zs : List ℤ) → Contains about.cases c → c.from ≡ q.location → OfPiece about q (LeadsTo about Every (InPieces into)) → AreBefore c (lists_at c.to into) lists → all ≡ step_rows c rows → m ≡ w → IsHole m lists all zs → ⊥
  step_whole lists all m zs among from inside t e wide h =
      let hole = subst (λ rs. IsHole w lists rs zs) e (subst (λ v. IsHole v lists all zs) wide h) in
      let size = hole.point.width in
      let xs = take n zs in
      let ds = drop n zs in
      let lx = length-front n c.draws zs size in
      let ld = length-back n c.draws zs size in
      let whole : zs ≡ xs ++ ds = sym (take-append-drop n zs) in
      let place = padded_met n c.draws rows zs piece.even (all_front (IsMet zs) (map (padded_row c.draws) rows) c.guards hole.point.met) in
      let guards = subst (λ ys. All (IsMet ys) c.guards) whole (all_back (IsMet zs) (map (padded_row c.draws) rows) c.guards hole.point.met) in
      let ys = map (term_value (xs ++ ds)) (terms_after n c.updates) in
      let i = in_lists c.to ys into (inside xs (record { width = lx; met = place }) (state c.to ys) (record {
        taken = c;
        among = among;
        draws = ds;
        does = record { leaves = sym from; enters = refl; drawn = ld; guards = guards; gives = ap (λ k. map (term_value (xs ++ ds)) (terms_after k c.updates)) (sym lx) };
      })) in
      let met = before_met n c i.rows xs ds (All-contains (AreEven n) (lists_at c.to into) i.rows even i.target) lx ld i.met in
      no_hole w lists (step_rows c rows) zs (record {
        rows = rows_before c i.rows;
        target = subst (λ ls. Contains ls (rows_before c i.rows)) (sym t.exact) (Contains-map (rows_before c) (lists_at c.to into) i.rows i.target);
        met = subst (λ ys. All (IsMet ys) (rows_before c i.rows)) (sym whole) met;
      }) hole
