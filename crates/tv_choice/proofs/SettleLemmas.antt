-- What rows have: trees and holes.
use Rattle.std.proofs.Common.{◌≡◌, ℕ, suc, ◌+◌, ◌<◌, ◌≤◌, ◌^◌, List, [], ◌∷◌, ◌++◌, length, map, get_or, All, None, Some, slice_get, IsTrue, ◌==◌, ◌⊎◌, inl, inr, arith, refl, sym, ap, ◌∙◌, subst, ℤ, pos, ◌*ℤ◌, ◌<ℤ◌, ◌≤ℤ◌, Vec, length-append}
use Rattle.std.specs.Prelude.{Contains}
use Rattle.std.specs.Global.{Global}
use Rattle.std.specs.Option.{option_map}
use Rattle.std.proofs.lemmas.Int.{ints}
use Rattle.std.proofs.lemmas.List.{length-map, map-append, length_push}
use Rattle.std.proofs.lemmas.Option.{slice_get_within, get_or_from_slice_get}
use Rattle.std.proofs.lemmas.List.Elements.{All-nil, All-cons, All-head, All-tail, All-push, All-contains, All-contains_itself, Contains-append_left}
use Rattle.std.proofs.lemmas.Bool.{eq-eqb}
use Rattle.tv_linear.specs.Linear.{Linear, columns, value, IsMet, scaled_value}
use Rattle.tv_linear.specs.Arithmetic.{denial}
use Rattle.tv_linear.specs.Known.{Known, given, denied, as_given, term_value}
use Rattle.tv_linear.specs.Terms.{terms_after}
use Rattle.tv_linear.specs.Refutation.{Refutes}
use Rattle.tv_linear.specs.Covers.{ShownAt}
use Rattle.tv_linear.specs.ChoiceDepth.{choice_splits}
use Rattle.tv_linear.specs.declared.choice.ChoiceTree.{ChoiceTree, Split', Empty, NoStep, Take}
use Rattle.tv_linear.specs.declared.cover.CoverTree.{CoverTree}
use Rattle.tv_linear.specs.declared.region.Piece.{Piece}
use Rattle.tv_linear.proofs.KnownLemmas.{refuted, met-as_given, length-given}
use Rattle.tv_linear.proofs.RowValues.{value-denial}
use Rattle.tv_linear.specs.Same.{SameNumbers, AreSame}
use Rattle.tv_linear.proofs.SameLemmas.{same_self, refutes_same}
use Rattle.tv_linear.proofs.ListLaws.{all_front, all_back}
use Rattle.tv_simplex.proofs.Ring.{by_sign}
use Rattle.tv_farkas.specs.Refuting.{AreShort}
use Rattle.tv_farkas.specs.Paths.{IsWholePoint}
use Rattle.tv_farkas.specs.Judging.{IsPointAt}
use Rattle.tv_farkas.specs.Stretching.{AreDivided}
use Rattle.tv_farkas.proofs.SideLemmas.{whole_met}
use Rattle.tv_farkas.proofs.StretchLemmas.{short_all}
use Rattle.tv_cover.specs.CoverPaths.{IsShut}
use Rattle.tv_cases.specs.LinearCases.{LinearCase}
use Rattle.tv_cases.specs.Before.{before}
use Rattle.tv_cert.specs.Choices.{TakeMet, IsMetChoice, drawn_change, drawn_guards}
use Rattle.tv_cert.specs.Shapes.{ChoiceShape, TakeShape, ListsShape}
use Rattle.tv_shape.specs.Narrow.{AreNarrow, ListsNarrow, CountNarrow, RowNarrow, ChoiceNarrow}
use Rattle.tv_choice.specs.declared.ways.Way.{Way}
use Rattle.tv_choice.specs.Rows.{case_rows}
use Rattle.tv_choice.specs.Same.{AreKnown}
use Rattle.tv_choice.specs.Leading.{Query, place_of, piece_rows, pieces_at, region_owes, state, LeadsInto}
use Rattle.tv_choice.specs.ChoicePaths.{own}
use Rattle.tv_choice.specs.Targets.{targets}
use Rattle.tv_choice.specs.Looking.{AreShown}
use Rattle.tv_choice.specs.Ways.{way_rows, lists_of, IsWay, AreWays, AreDifferentOf}
use Rattle.tv_choice.specs.Stepping.{IsWayFrom, IsStepInto}
use Rattle.tv_choice.specs.Stopping.{AreStopTrees}
use Rattle.tv_choice.specs.Settling.{IsTreeAt, IsHoleAt, IsSplitOf, IsTakeOf, IsGoing}
use Rattle.tv_choice.proofs.SameLemmas.{known_more, shown_same}
use Rattle.tv_choice.proofs.PieceLemmas.{piece_got}
use Rattle.tv_choice.proofs.FitLemmas.{place_fits}
use Rattle.tv_choice.proofs.WayLemmas.{put_met, met_before, all_map}
use Rattle.tv_shape.proofs.NumberLemmas.{narrow_count, rows_narrow}
use Rattle.tv_cases.proofs.ContainsLemmas.{Contains-filter}

-- ---- rows and denials
met_or_not : (z : ℤ) → (z ≤ℤ pos 0) ⊎ (z ≤ℤ pos 0 → ⊥)
met_or_not z = elim (by_sign z) [
  | inl low ↦ inl (omega (arith, ints, low))
  | inr w ↦ elim w [
    | inl same ↦ inl (omega (arith, ints, same))
    | inr high ↦ inr (λ h. omega (arith, ints, high, h))
  ]
]

above_none : (z : ℤ) → (z ≤ℤ pos 0 → ⊥) → pos 0 <ℤ z
above_none z h = elim (by_sign z) [
  | inl low ↦ absurd (h (omega (arith, ints, low)))
  | inr w ↦ elim w [
    | inl same ↦ absurd (h (omega (arith, ints, same)))
    | inr high ↦ high
  ]
]

pub denial_met : (r : Linear) (xs : List ℤ) → (IsMet xs r → ⊥) → IsMet xs (denial r)
denial_met r xs h = (let d = value-denial r xs in let a = above_none (value r xs) h in omega (arith, ints, d, a))

pub row_met : (r : Linear) (xs : List ℤ) → (IsMet xs (denial r) → ⊥) → IsMet xs r
row_met r xs h = (let d = value-denial r xs in let a = above_none (value (denial r) xs) h in omega (arith, ints, d, a))

-- ---- the pieces that a way leads into
-- where the rows of a way are met some step leads into a piece
pub way_leads : (n : ℕ) (q : Query) (above : List Linear) (w : Way) (xs : List ℤ) → IsWay n q above w → length xs ≡ n → All (IsMet xs) (way_rows w) → LeadsInto q.system q.location q.pieces xs
way_leads n q above w xs h e met = record {
  next = state c.to (map (term_value (xs ++ ds)) (terms_after (length xs) c.updates));
  step = record {
    taken = c;
    among = (w.taken, slice_get_within q.system.cases w.taken c h.found, get_or_from_slice_get q.system.cases w.taken c c h.found);
    draws = ds;
    does = record {
      leaves = sym h.leaves;
      enters = refl;
      drawn = many;
      guards = all_front (IsMet (xs ++ ds)) c.guards (map (λ r. before r c) (piece_rows h.piece)) rows;
      gives = refl;
    };
  };
  piece = h.piece;
  among = got.1;
  inside = record {
    place = sym got.0;
    inside = subst (λ k. All (IsMet (map (term_value (xs ++ ds)) (terms_after k c.updates))) (piece_rows h.piece)) (sym e)
        (met_before n c (piece_rows h.piece) xs ds h.owed e many (all_back (IsMet (xs ++ ds)) c.guards (map (λ r. before r c) (piece_rows h.piece)) rows));
  };
}
  where
    c : LinearCase
    c = h.case

    ds : List ℤ
    ds = map (λ t. value t xs) w.draws.items

    many : length ds ≡ c.draws
    many = length-map w.draws.items (λ t. value t xs) ∙ h.drawn

    got : (place_of h.piece ≡ c.to) × Contains q.pieces h.piece
    got = piece_got q.pieces c.to w.target h.piece h.enters

    rows : All (IsMet (xs ++ ds)) (case_rows c (piece_rows h.piece))
    rows = put_met n w.draws.items xs (case_rows c (piece_rows h.piece)) e (subst (All (IsMet xs)) h.exact met)

-- rows that are shown are met by each integer point
pub shown_met : (n : ℕ) (rows owed : List Linear) (lists : List (List ℤ)) (xs : List ℤ) → AreShown n rows owed lists → IsWholePoint n rows xs → All (IsMet xs) owed
shown_met n rows [] lists xs h p = All-nil (IsMet xs)
shown_met n rows (r ∷ owed) [] xs h p = absurd h
shown_met n rows (r ∷ owed) (ms ∷ lists) xs h p =
    All-cons (IsMet xs) r owed
    (row_met r xs (λ d. refuted n (as_given (rows ++ denial r ∷ [])) ms xs h.0.refutes p.width ((met-as_given xs (rows ++ denial r ∷ [])).0 (All-push (IsMet xs) rows (denial r) p.met d))))
    (shown_met n rows owed lists xs h.1 p)

-- ---- shapes
shown_many : (n : ℕ) (rows owed : List Linear) (lists : List (List ℤ)) → AreShown n rows owed lists → length lists ≡ length owed
shown_many n rows [] [] h = refl
shown_many n rows [] (ms ∷ lists) h = absurd h
shown_many n rows (r ∷ owed) [] h = absurd h
shown_many n rows (r ∷ owed) (ms ∷ lists) h = ap suc (shown_many n rows owed lists h.1)

shown_each : (n : ℕ) (rows owed : List Linear) (lists : List (List ℤ)) → AreShown n rows owed lists → All (λ ms. length ms ≡ length rows + 1) lists
shown_each n rows [] [] h = All-nil (λ ms. length ms ≡ length rows + 1)
shown_each n rows [] (ms ∷ lists) h = absurd h
shown_each n rows (r ∷ owed) [] h = absurd h
shown_each n rows (r ∷ owed) (ms ∷ lists) h =
    All-cons (λ ms. length ms ≡ length rows + 1) ms lists
    (h.0.refutes.as_many ∙ length-given (rows ++ denial r ∷ []) ∙ length-append rows (denial r ∷ []))
    (shown_each n rows owed lists h.1)

shown_short : (n : ℕ) (rows owed : List Linear) (lists : List (Vec ℤ Global)) → AreShown n rows owed (map (λ l. l.items) lists) → ListsNarrow lists
shown_short n rows [] [] h = All-nil (λ (l : Vec ℤ Global). AreNarrow l.items)
shown_short n rows [] (ms ∷ lists) h = absurd h
shown_short n rows (r ∷ owed) [] h = absurd h
shown_short n rows (r ∷ owed) (ms ∷ lists) h = All-cons (λ (l : Vec ℤ Global). AreNarrow l.items) ms lists (short_all ms.items h.0.short) (shown_short n rows owed lists h.1)

fewer_pieces : (ps : List Piece) (l k : ℕ) (p : Piece) → length ps < 2 ^ 32 → slice_get (pieces_at ps l) k ≡ Some p → k < 2 ^ 32
fewer_pieces ps l k p bounded e = (let a = place_fits ps l k p bounded e in omega (arith, a))

module _ (n : ℕ) (q : Query) where
  -- ---- trees
  pub empty_leaf : (rows : List Linear) (left : ℕ) (ms : Vec ℤ Global) → Refutes n (as_given rows) ms.items → AreShort ms.items → IsTreeAt n q rows left (Empty ms)
  empty_leaf rows left ms h s = record {
    met = λ known k. refutes_same n (as_given rows) known ms.items (k n) h;
    shallow = omega arith;
    shape = h.as_many ∙ length-given rows;
    narrow = short_all ms.items s;
    none = λ xs p hole. refuted n (as_given rows) ms.items xs h p.width ((met-as_given xs rows).0 p.met);
  }

  pub stop_leaf : (rows : List Linear) (left : ℕ) (covers : Vec CoverTree Global) → IsTrue q.stop → AreStopTrees n q rows left covers.items → IsTreeAt n q rows left (NoStep covers)
  stop_leaf rows left covers s h = record {
    met = λ known k. (s, h.met known k);
    shallow = h.shallow;
    shape = (s, h.shape);
    narrow = h.narrow;
    none = λ xs p hole. h.none xs p (hole.some s);
  }

  way_taken : (rows : List Linear) (w : Way) (lists : List (List ℤ)) (known : List Known) → IsWay n q rows w → AreShown n rows (way_rows w) lists → AreKnown rows known → TakeMet n q.location (region_owes n q.pieces) known (slice_get q.system.cases w.taken) w.target 0 w.draws.items lists
  way_taken rows w lists known h s k =
      let c = h.case in
      let ds = w.draws.items in
      subst (λ o. TakeMet n q.location (region_owes n q.pieces) known o w.target 0 ds lists) (sym h.found) (
        h.leaves,
        h.drawn,
        subst (λ o. ShownAt n known (option_map (λ rows. drawn_guards n c ds ++ rows) (option_map (λ p. map (drawn_change n c ds) (piece_rows p)) o)) lists) (sym h.enters)
            (shown_same n rows (way_rows w) lists known (drawn_guards n c ds ++ map (drawn_change n c ds) (piece_rows h.piece)) s (k n) h.seen),
      )

  seen_many : (ks qs : List Known) → AreSame n ks qs → length ks ≡ length qs
  seen_many [] [] h = refl
  seen_many [] (x ∷ qs) h = absurd h
  seen_many (k ∷ ks) [] h = absurd h
  seen_many (k ∷ ks) (x ∷ qs) h = ap suc (seen_many ks qs h.1)

  way_shaped : (rows : List Linear) (w : Way) (lists : List (List ℤ)) → IsWay n q rows w → AreShown n rows (way_rows w) lists → TakeShape n q.location (region_owes n q.pieces) (length rows) (slice_get q.system.cases w.taken) w.target 0 w.draws.items lists
  way_shaped rows w lists h s =
      let c = h.case in
      let ds = w.draws.items in
      subst (λ o. TakeShape n q.location (region_owes n q.pieces) (length rows) o w.target 0 ds lists) (sym h.found) (
        h.leaves,
        h.drawn,
        h.terms,
        subst (λ o. ListsShape (length rows + 1) (option_map (λ rows. length c.guards + length rows) (option_map (λ p. map (drawn_change n c ds) (piece_rows p)) o)) lists) (sym h.enters) (
          shown_many n rows (way_rows w) lists s
              ∙ sym (length-given (way_rows w))
              ∙ seen_many (as_given (way_rows w)) (drawn_guards n c ds ++ map (drawn_change n c ds) (piece_rows h.piece)) h.seen
              ∙ length-append (drawn_guards n c ds) (map (drawn_change n c ds) (piece_rows h.piece))
              ∙ ap (λ m. m + length (map (drawn_change n c ds) (piece_rows h.piece))) (length-map c.guards _),
          shown_each n rows (way_rows w) lists s,
        ),
      )

  pub take_leaf : (rows : List Linear) (left : ℕ) (w : Way) (all : Vec (Vec ℤ Global) Global) (tree : ChoiceTree) → length q.system.cases ≤ 8192 → length q.pieces < 2 ^ 32 → IsWay n q rows w → AreShown n rows (way_rows w) (map (λ x. x.items) all.items) → IsTakeOf w all tree → IsTreeAt n q rows left tree
  take_leaf rows left w all (Split' r p a z b) bounded pieces h s e = absurd e
  take_leaf rows left w all (Empty ms) bounded pieces h s e = absurd e
  take_leaf rows left w all (NoStep covers) bounded pieces h s e = absurd e
  take_leaf rows left w all (Take taken target fall draws lists) bounded pieces h s (et, eg, ef, ed, el, en) = record {
    met = λ known k.
        subst (λ i. TakeMet n q.location (region_owes n q.pieces) known (slice_get q.system.cases i) target fall draws.items (map (λ x. x.items) lists.items)) (sym et)
        (subst (λ i. TakeMet n q.location (region_owes n q.pieces) known (slice_get q.system.cases w.taken) i fall draws.items (map (λ x. x.items) lists.items)) (sym eg)
        (subst (λ i. TakeMet n q.location (region_owes n q.pieces) known (slice_get q.system.cases w.taken) w.target i draws.items (map (λ x. x.items) lists.items)) (sym ef)
        (subst (λ i. TakeMet n q.location (region_owes n q.pieces) known (slice_get q.system.cases w.taken) w.target 0 i (map (λ x. x.items) lists.items)) (sym ed)
        (subst (λ i. TakeMet n q.location (region_owes n q.pieces) known (slice_get q.system.cases w.taken) w.target 0 w.draws.items (map (λ x. x.items) i.items)) (sym el)
        (way_taken rows w (map (λ x. x.items) all.items) known h s k)))));
    shallow = omega arith;
    shape =
        subst (λ i. TakeShape n q.location (region_owes n q.pieces) (length rows) (slice_get q.system.cases i) target fall draws.items (map (λ x. x.items) lists.items)) (sym et)
        (subst (λ i. TakeShape n q.location (region_owes n q.pieces) (length rows) (slice_get q.system.cases w.taken) i fall draws.items (map (λ x. x.items) lists.items)) (sym eg)
        (subst (λ i. TakeShape n q.location (region_owes n q.pieces) (length rows) (slice_get q.system.cases w.taken) w.target i draws.items (map (λ x. x.items) lists.items)) (sym ef)
        (subst (λ i. TakeShape n q.location (region_owes n q.pieces) (length rows) (slice_get q.system.cases w.taken) w.target 0 i (map (λ x. x.items) lists.items)) (sym ed)
        (subst (λ i. TakeShape n q.location (region_owes n q.pieces) (length rows) (slice_get q.system.cases w.taken) w.target 0 w.draws.items (map (λ x. x.items) i.items)) (sym el)
        (way_shaped rows w (map (λ x. x.items) all.items) h s)))));
    narrow = (
      subst CountNarrow (sym et) (narrow_count w.taken (let l = slice_get_within q.system.cases w.taken h.case h.found in omega (arith, l, bounded))),
      subst CountNarrow (sym eg) (narrow_count w.target (fewer_pieces q.pieces h.case.to w.target h.piece pieces h.enters)),
      subst CountNarrow (sym ef) (narrow_count 0 (omega arith)),
      subst (All RowNarrow) (sym ed) (rows_narrow w.draws.items en),
      subst (λ i. ListsNarrow i.items) (sym el) (shown_short n rows (way_rows w) all.items s),
    );
    none = λ xs p hole. hole.none (way_leads n q rows w xs h p.width (shown_met n rows (way_rows w) (map (λ x. x.items) all.items) xs s p));
  }

  pub split_leaf : (rows : List Linear) (left : ℕ) (row second : Linear) (holds fails tree : ChoiceTree) → columns row ≡ n → ((w : ℕ) → SameNumbers w (given second) (denied (given row))) → ((xs : List ℤ) → (IsMet xs row → ⊥) → IsMet xs second) → IsTreeAt n q (rows ++ row ∷ []) left holds → IsTreeAt n q (rows ++ second ∷ []) left fails → IsSplitOf row holds fails tree → IsTreeAt n q rows (left + 1) tree
  split_leaf rows left row second holds fails (Split' r p a z b) wide opposite either h g (er, ea, eb, en) = record {
    met = λ known k. (
      subst (λ x. IsMetChoice n q.system.cases q.location q.stop (region_owes n q.pieces) (known ++ given x ∷ []) a) (sym er)
          (subst (λ t. IsMetChoice n q.system.cases q.location q.stop (region_owes n q.pieces) (known ++ given row ∷ []) t) (sym ea) (h.met (known ++ given row ∷ []) (known_more rows row known (given row) (λ w. same_self w (given row)) k))),
      subst (λ x. IsMetChoice n q.system.cases q.location q.stop (region_owes n q.pieces) (known ++ denied (given x) ∷ []) b) (sym er)
          (subst (λ t. IsMetChoice n q.system.cases q.location q.stop (region_owes n q.pieces) (known ++ denied (given row) ∷ []) t) (sym eb) (g.met (known ++ denied (given row) ∷ []) (known_more rows second known (denied (given row)) opposite k))),
    );
    shallow = (let x = subst (λ t. choice_splits t ≤ left) (sym ea) h.shallow in let y = subst (λ t. choice_splits t ≤ left) (sym eb) g.shallow in grind (arith, x, y));
    shape = (
      ap columns er ∙ wide,
      subst (λ t. ChoiceShape n q.system.cases q.location q.stop (region_owes n q.pieces) (length rows + 1) t) (sym ea) (subst (λ k. ChoiceShape n q.system.cases q.location q.stop (region_owes n q.pieces) k holds) (length_push rows row) h.shape),
      subst (λ t. ChoiceShape n q.system.cases q.location q.stop (region_owes n q.pieces) (length rows + 1) t) (sym eb) (subst (λ k. ChoiceShape n q.system.cases q.location q.stop (region_owes n q.pieces) k fails) (length_push rows second) g.shape),
    );
    narrow = (
      subst RowNarrow (sym er) record { coefficients = en.coefficients; constant = en.constant },
      subst ChoiceNarrow (sym ea) h.narrow,
      subst ChoiceNarrow (sym eb) g.narrow,
    );
    none = λ xs pt. elim (met_or_not (value row xs)) [
      | inl met ↦ h.none xs record { width = pt.width; met = All-push (IsMet xs) rows row pt.met met }
      | inr not ↦ g.none xs record { width = pt.width; met = All-push (IsMet xs) rows second pt.met (either xs not) }
    ];
  }
  split_leaf rows left row second holds fails (Empty ms) wide opposite either h g e = absurd e
  split_leaf rows left row second holds fails (NoStep covers) wide opposite either h g e = absurd e
  split_leaf rows left row second holds fails (Take taken target fall draws lists) wide opposite either h g e = absurd e

  -- ---- holes
  pub hole_of_side : (rows : List Linear) (r : Linear) (xs : List ℤ) → IsHoleAt n q (rows ++ r ∷ []) xs → IsHoleAt n q rows xs
  hole_of_side rows r xs h = record { inside = record { width = h.inside.width; met = all_front (IsMet xs) rows (r ∷ []) h.inside.met }; hole = h.hole; short = h.short }

  pub no_step_hole : (rows : List Linear) (xs : List ℤ) → IsGoing n q rows xs → IsStepInto n q rows xs None → IsHoleAt n q rows xs
  no_step_hole rows xs g h = record {
    inside = g.inside;
    hole = record {
      none = λ s. never s;
      some = g.leads;
    };
    short = g.short;
  }
    where
      never : LeadsInto q.system q.location q.pieces xs → ⊥
      never s =
          let c = s.step.taken in
          let d = s.step.does in
          let gives = d.gives ∙ ap (λ k. map (term_value (xs ++ s.step.draws)) (terms_after k c.updates)) g.inside.width in
          h c s.step.among (sym d.leaves) s.piece
          (Contains-filter (λ p. place_of p == c.to) q.pieces s.piece (eq-eqb (place_of s.piece) c.to (sym s.inside.place ∙ d.enters)) s.among)
          s.step.draws d.drawn d.guards (subst (λ vs. All (IsMet vs) (piece_rows s.piece)) gives s.inside.inside)

  whole_scaled : (rows : List Linear) (xs : List ℤ) → All (IsMet xs) rows → All (λ r. scaled_value r xs (pos 1) ≤ℤ pos 0) rows
  whole_scaled [] xs h = All-nil (λ r. scaled_value r xs (pos 1) ≤ℤ pos 0)
  whole_scaled (r ∷ rows) xs h =
      All-cons (λ r. scaled_value r xs (pos 1) ≤ℤ pos 0) r rows
      (let m = All-head (IsMet xs) r rows h in let o : r.constant *ℤ pos 1 ≡ r.constant = omega (arith, ints) in omega (arith, ints, m, o))
      (whole_scaled rows xs (All-tail (IsMet xs) r rows h))

  -- a way that an integer point has is not excluded
  pub never_excluded : (rows : List Linear) (xs : List ℤ) (w : Way) → IsGoing n q rows xs → IsWayFrom n q rows xs w → IsShut n rows (way_rows w) → ⊥
  never_excluded rows xs w g f (r, among, none) =
      let met = subst (IsMet xs) among.2 (f.met among.0 r among.1) in
      none record { values = xs; scale = pos 1; size = g.inside.width; meets = record { positive = omega (arith, ints); met = whole_scaled (rows ++ r ∷ []) xs (All-push (IsMet xs) rows r g.inside.met met) } }

  -- ---- the integer point of rows

  pub whole_going : (rows : List Linear) (values : List ℤ) (scale : ℤ) (xs : List ℤ) → IsPointAt n rows values scale → AreDivided n values scale xs → (IsTrue q.stop → ⊥) → IsGoing n q rows xs
  whole_going rows values scale xs h d s = record {
    inside = record {
      width = d.size;
      met = all_map (λ r. scaled_value r values scale ≤ℤ pos 0) (IsMet xs) rows (λ r m. whole_met r values xs scale h.met.positive (h.point.as_many ∙ sym d.size) (λ j l. d.same j (let e = d.size in omega (arith, e, l))) m) h.met.met;
    };
    short = λ j l. d.short j (let e = d.size in omega (arith, e, l));
    leads = λ t. absurd (s t);
    here = own xs record { as_many = d.size; path = []; is_path = tt; kept = h.kept; taken = h.taken; values = values; scale = scale; point = h.point; whole = d.same };
  }

  -- ---- the targets are among the ways
  pub of_targets : (P : List Linear → Type 0) (rows : List Linear) (ways : List Way) → AreWays n q rows ways → ((w : Way) → Contains ways w → P (way_rows w)) → All P (targets n q)
  of_targets P rows ways h f = each_of (targets n q) (λ t k. All-contains P (lists_of ways) t (all_lists ways f) (h.targets_there t k))
    where
      all_lists : (ws : List Way) → ((w : Way) → Contains ws w → P (way_rows w)) → All P (lists_of ws)
      all_lists [] g = All-nil P
      all_lists (w ∷ ws) g = All-cons P (way_rows w) (lists_of ws) (g w (0, omega arith, refl)) (all_lists ws (λ v k. g v (suc k.0, (let l = k.1 in omega (arith, l)), k.2)))

      each_of : (ts : List (List Linear)) → ((t : List Linear) → Contains ts t → P t) → All P ts
      each_of [] g = All-nil P
      each_of (t ∷ ts) g = All-cons P t ts (g t (0, omega arith, refl)) (each_of ts (λ v k. g v (suc k.0, (let l = k.1 in omega (arith, l)), k.2)))

  -- one more way
  pub ways_more : (rows : List Linear) (ways new : List Way) (w : Way) → new ≡ ways ++ w ∷ [] → IsWay n q rows w → AreWays n q rows ways → AreWays n q rows new
  ways_more rows ways new w e h k = subst (AreWays n q rows) (sym e) record {
    each = All-push (IsWay n q rows) ways w k.each h;
    targets_there = λ t c. subst (λ ls. Contains ls t) (sym (map-append way_rows ways (w ∷ []))) (Contains-append_left (lists_of ways) (way_rows w ∷ []) t (k.targets_there t c));
  }

  -- ways that differ, one for each target
  pub different_ways : (rows : List Linear) (ways new : List Way) → All (IsWay n q rows) ways → lists_of ways ≡ targets n q → AreDifferentOf ways new → AreWays n q rows new
  different_ways rows ways new each are h = record {
    each = λ k d l. All-contains (IsWay n q rows) ways _ each (h.among (get_or new k d) (All-contains_itself new k d l));
    targets_there = λ t c. h.rows t (subst (λ ls. Contains ls t) (sym are) c);
  }
