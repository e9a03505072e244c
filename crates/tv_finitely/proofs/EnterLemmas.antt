-- What a met cover of a step shows of the states before and after it.
use Rattle.std.proofs.Common.{◌≡◌, ℕ, suc, ◌+◌, ◌≤◌, List, [], ◌∷◌, ◌++◌, length, All, map, Option, None, Some, arith, refl, subst, sym, ap, ◌∙◌, ℤ, pos, ◌+ℤ◌, ◌*ℤ◌, slice_get, length-append}
use Rattle.std.specs.Prelude.{Contains}
use Rattle.std.specs.Option.{option_map}
use Rattle.std.proofs.lemmas.List.{length-map, get_or_past}
use Rattle.std.proofs.lemmas.Int.{ints}
use Rattle.std.proofs.lemmas.List.Elements.{All-nil, All-cons, All-head, All-tail, All-append}
use Rattle.tv_linear.specs.declared.cover.CoverTree.{CoverTree}
use Rattle.tv_linear.specs.Linear.{Linear, columns}
use Rattle.tv_linear.specs.Known.{place_sum, number, Term, Known, given, composed, known_value, term_value, IsKnownMet, as_given}
use Rattle.tv_linear.specs.Terms.{update_of, terms_after}
use Rattle.tv_linear.specs.Covers.{IsMetCover}
use Rattle.tv_linear.proofs.Covered.{covered}
use Rattle.tv_linear.proofs.KnownLemmas.{value-composed, met-as_given}
use Rattle.tv_linear.proofs.PlainLists.{length-table}
use Rattle.tv_program.specs.Steps.{State}
use Rattle.tv_cases.specs.LinearCases.{LinearCase, CaseDoes}
use Rattle.tv_cert.specs.declared.node.Marked.{Marked}
use Rattle.tv_cert.specs.Pieces.{place_of, rows_of, ranks_of, InMarked, pieces_at}
use Rattle.tv_cert.specs.Targets.{owed_into, target_rows}
use Rattle.tv_cert.specs.Obligations.{case_change}
use Rattle.tv_cert.specs.Fits.{PieceFits}
use Rattle.tv_cert.proofs.PieceLemmas.{piece_got}
use Rattle.tv_linear.proofs.ListLaws.{all_back, all_front}

-- a step cover: the piece, over the case, into the pieces
pub record StepCovered (n : ℕ) (p : Marked) (c : LinearCase) (into : List Marked) (fall : Marked → ℕ → Option (List Known)) : Type 0 where
  pub tree : CoverTree
  pub met : IsMetCover (n + c.draws) (owed_into into c.to (case_change n c) fall) (as_given (rows_of p) ++ as_given c.guards) tree

-- ---- lists

-- rows in front of others that there may be
pub joined_is : (rows : List Known) (r : Option (List Known)) (out : List Known) → option_map (λ falls. rows ++ falls) r ≡ Some out → (falls : List Known) × (r ≡ Some falls) × (rows ++ falls ≡ out)
joined_is rows None out e = cc
joined_is rows (Some falls) out e = (falls, refl, cc)

-- the rows of a piece at a state in it
pub seen : (p : Marked) (s : State) → InMarked p s → All (IsKnownMet s.values) (as_given (rows_of p))
seen p s h = (met-as_given s.values (rows_of p)).0 h.rows

-- ---- a point that a cover leads into a target

-- a piece at the location, whose changed rows the point meets, and the rows of a fall
pub record Entered (xs : List ℤ) (into : List Marked) (l : ℕ) (change : Linear → Known) (fall : Marked → ℕ → Option (List Known)) : Type 0 where
  pub piece : Marked
  pub among : Contains into piece
  pub place : place_of piece ≡ l
  pub rows : All (IsKnownMet xs) (map change (rows_of piece))
  pub number : ℕ
  pub falls : List Known
  pub fell : fall piece number ≡ Some falls
  pub met : All (IsKnownMet xs) falls

entered_some : (xs : List ℤ) (into : List Marked) (l : ℕ) (change : Linear → Known) (fall : Marked → ℕ → Option (List Known)) (q : Marked) (k j : ℕ) (rows : List Known) → slice_get (pieces_at into l) k ≡ Some q → option_map (λ falls. map change (rows_of q) ++ falls) (fall q j) ≡ Some rows → All (IsKnownMet xs) rows → Entered xs into l change fall
entered_some xs into l change fall q k j rows g e h =
    let got = piece_got into l k q g in
    let w = joined_is (map change (rows_of q)) (fall q j) rows e in
    let all = subst (All (IsKnownMet xs)) (sym w.2) h in
    record {
      piece = q;
      among = got.1;
      place = got.0;
      rows = all_front (IsKnownMet xs) (map change (rows_of q)) w.0 all;
      number = j;
      falls = w.0;
      fell = w.1;
      met = all_back (IsKnownMet xs) (map change (rows_of q)) w.0 all;
    }

no_rows : {rows : List Known} → None ≡ Some rows → ⊥
no_rows e = cc

pub entered_at : (xs : List ℤ) (into : List Marked) (l : ℕ) (change : Linear → Known) (fall : Marked → ℕ → Option (List Known)) (k j : ℕ) (rows : List Known) → All (IsKnownMet xs) rows → (q : Option Marked) → slice_get (pieces_at into l) k ≡ q → target_rows change fall q j ≡ Some rows → Entered xs into l change fall
entered_at xs into l change fall k j rows h None g e = absurd (no_rows e)
entered_at xs into l change fall k j rows h (Some q) g e = entered_some xs into l change fall q k j rows g e h

pub entered : (n : ℕ) (xs : List ℤ) (into : List Marked) (l : ℕ) (change : Linear → Known) (fall : Marked → ℕ → Option (List Known)) (known : List Known) (tree : CoverTree) → IsMetCover n (owed_into into l change fall) known tree → length xs ≡ n → All (IsKnownMet xs) known → Entered xs into l change fall
entered n xs into l change fall known tree met e k =
    let c = covered n (owed_into into l change fall) known tree xs met e k in
    entered_at xs into l change fall c.0 c.1 c.2 c.4 (slice_get (pieces_at into l) c.0) refl c.3

-- ---- a point with draws after the values

place_sum-longer : (f : ℕ → ℤ) (xs ds : List ℤ) → ((j : ℕ) → length xs ≤ j → f j ≡ pos 0) → place_sum f (xs ++ ds) ≡ place_sum f xs
place_sum-longer f [] [] h = refl
place_sum-longer f [] (d ∷ ds) h =
    let here = ap (λ z. z *ℤ d) (h 0 (omega arith)) in
    let later = place_sum-longer (λ j. f (suc j)) [] ds (λ j k. h (suc j) (omega arith)) in
    omega (arith, ints, here, later)
place_sum-longer f (x ∷ xs) ds h =
    let later = place_sum-longer (λ j. f (suc j)) xs ds (λ j k. h (suc j) (omega arith)) in
    omega (arith, ints, later)

pub value-longer : (xs ds : List ℤ) (r : Linear) → columns r ≤ length xs → known_value (xs ++ ds) (given r) ≡ known_value xs (given r)
value-longer xs ds r h = ap (λ z. z +ℤ r.constant) (place_sum-longer (λ j. number (Some j) r) xs ds (λ j k. get_or_past r.coefficients j (pos 0) (omega arith)))

pub met-longer : (xs ds : List ℤ) (rows : List Linear) → All (λ r. columns r ≤ length xs) rows → All (IsKnownMet xs) (as_given rows) → All (IsKnownMet (xs ++ ds)) (as_given rows)
met-longer xs ds [] w h = All-nil (IsKnownMet (xs ++ ds))
met-longer xs ds (r ∷ rows) w h =
    All-cons (IsKnownMet (xs ++ ds)) (given r) (as_given rows)
    (rw (value-longer xs ds r (All-head (λ r. columns r ≤ length xs) r rows w)) (All-head (IsKnownMet xs) (given r) (as_given rows) h))
    (met-longer xs ds rows (All-tail (λ r. columns r ≤ length xs) r rows w) (All-tail (IsKnownMet xs) (given r) (as_given rows) h))

-- ---- what a case does to rows and ranks

pub met-after : (pt : List ℤ) (terms : List Term) (rows : List Linear) → All (IsKnownMet pt) (map (λ r. composed (given r) terms) rows) → All (IsKnownMet (map (term_value pt) terms)) (as_given rows)
met-after pt terms [] h = All-nil (IsKnownMet (map (term_value pt) terms))
met-after pt terms (r ∷ rows) h =
    let change = λ (r : Linear). composed (given r) terms in
    All-cons (IsKnownMet (map (term_value pt) terms)) (given r) (as_given rows)
    (rw (← (value-composed pt (given r) terms)) (All-head (IsKnownMet pt) (change r) (map change rows) h))
    (met-after pt terms rows (All-tail (IsKnownMet pt) (change r) (map change rows) h))

ranks-after : (pt : List ℤ) (terms : List Term) (ranks : List Linear) → map (known_value pt) (map (λ r. composed (given r) terms) ranks) ≡ map (known_value (map (term_value pt) terms)) (as_given ranks)
ranks-after pt terms [] = refl
ranks-after pt terms (r ∷ ranks) = (λ i. value-composed pt (given r) terms i ∷ ranks-after pt terms ranks i)

ranks-longer : (xs ds : List ℤ) (ranks : List Linear) → All (λ r. columns r ≤ length xs) ranks → map (known_value (xs ++ ds)) (as_given ranks) ≡ map (known_value xs) (as_given ranks)
ranks-longer xs ds [] w = refl
ranks-longer xs ds (r ∷ ranks) w = (λ i. value-longer xs ds r (All-head (λ r. columns r ≤ length xs) r ranks w) i ∷ ranks-longer xs ds ranks (All-tail (λ r. columns r ≤ length xs) r ranks w) i)

-- ---- a step into a piece

module _ (n : ℕ) (p : Marked) (c : LinearCase) (ds : List ℤ) (s t : State) (wide : length s.values ≡ n) (inside : InMarked p s) (does : CaseDoes c ds s t) (m : ℕ) (fits : PieceFits n m p) where
  narrow : (rows : List Linear) → All (λ r. columns r ≤ n) rows → All (λ r. columns r ≤ length s.values) rows
  narrow rows w = rw wide w

  known_met : All (IsKnownMet (s.values ++ ds)) (as_given (rows_of p) ++ as_given c.guards)
  known_met =
      All-append (IsKnownMet (s.values ++ ds)) (as_given (rows_of p)) (as_given c.guards)
      (met-longer s.values ds (rows_of p) (narrow (rows_of p) fits.rows) (seen p s inside))
      ((met-as_given (s.values ++ ds) c.guards).0 does.guards)

  point_long : length (s.values ++ ds) ≡ n + c.draws
  point_long = let e = length-append s.values ds in let d = does.drawn in omega (arith, e, d, wide)

  gives : t.values ≡ map (term_value (s.values ++ ds)) (terms_after n c.updates)
  gives = rw (← wide) does.gives

  -- where a step cover is met, the state after the step is in some piece
  pub step_entered : (into : List Marked) (fall : Marked → ℕ → Option (List Known)) → StepCovered n p c into fall → Entered (s.values ++ ds) into c.to (case_change n c) fall
  step_entered into fall h = entered (n + c.draws) (s.values ++ ds) into c.to (case_change n c) fall (as_given (rows_of p) ++ as_given c.guards) h.tree h.met point_long known_met

  pub inside_after : (into : List Marked) (fall : Marked → ℕ → Option (List Known)) (e : Entered (s.values ++ ds) into c.to (case_change n c) fall) → InMarked e.piece t
  inside_after into fall e = record {
    place = does.enters ∙ sym e.place;
    rows = (met-as_given t.values (rows_of e.piece)).1 (rw gives (met-after (s.values ++ ds) (terms_after n c.updates) (rows_of e.piece) e.rows));
  }

  -- the ranks before and after, at the point with the draws
  pub ranks_before : map (known_value (s.values ++ ds)) (as_given (ranks_of p)) ≡ map (known_value s.values) (as_given (ranks_of p))
  ranks_before = ranks-longer s.values ds (ranks_of p) (narrow (ranks_of p) fits.ranks)

  pub ranks_now : (q : Marked) → map (known_value (s.values ++ ds)) (map (case_change n c) (ranks_of q)) ≡ map (known_value t.values) (as_given (ranks_of q))
  ranks_now q = ranks-after (s.values ++ ds) (terms_after n c.updates) (ranks_of q) ∙ (λ i. map (known_value (sym gives i)) (as_given (ranks_of q)))

pub wide_after : (n : ℕ) (c : LinearCase) (ds : List ℤ) (s t : State) → CaseDoes c ds s t → length s.values ≡ n → length t.values ≡ n
wide_after n c ds s t does wide = ap length does.gives ∙ length-map (terms_after (length s.values) c.updates) (term_value (s.values ++ ds)) ∙ length-table (length s.values) (update_of c.updates) ∙ wide
