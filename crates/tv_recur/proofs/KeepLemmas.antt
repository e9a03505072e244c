-- Loops, and ways to come to them.
use Rattle.std.proofs.Common.{◌≡◌, ◌≢◌, inl, inr, ℕ, ◌+◌, ◌<◌, List, [], ◌∷◌, ◌++◌, length, length-append, map, All, Bool, true, false, ◌==◌, if◌then◌else◌, Option, None, Some, slice_get, refl, sym, ◌∙◌, subst, ℤ}
use Rattle.std.specs.Prelude.{Result, Ok, Err, IfOk, MatchOption}
use Rattle.std.specs.List.{AllZip}
use Rattle.std.proofs.lemmas.List.{append-nil}
use Rattle.std.proofs.lemmas.List.Elements.{All-nil, All-cons, All-append}
use Rattle.std.proofs.lemmas.Bool.{eq-eqb, ne_eqb}
use Rattle.tv_linear.specs.Linear.{Linear, columns, IsMet, IsWithin}
use Rattle.tv_linear.specs.Known.{term_value}
use Rattle.tv_linear.specs.Terms.{terms_after}
use Rattle.tv_linear.specs.declared.choice.ChoiceTree.{ChoiceTree}
use Rattle.tv_program.specs.Steps.{State}
use Rattle.tv_cases.specs.LinearCases.{LinearCase, CaseSystem, CaseSteps}
use Rattle.tv_cases.specs.Before.{rows_before}
use Rattle.tv_cases.proofs.BeforeLemmas.{all_before_even}
use Rattle.tv_cert.specs.declared.node.Marked.{Marked}
use Rattle.tv_cert.specs.declared.node.Node.{Node}
use Rattle.tv_cert.specs.declared.node.Proof.{Proof}
use Rattle.tv_cert.specs.declared.node.Proof.TheVariants.{Chosen}
use Rattle.tv_cert.specs.Nodes.{pieces_of}
use Rattle.tv_cert.specs.Pieces.{place_of, rows_of, pieces_at}
use Rattle.tv_cert.specs.Shapes.{PieceShape}
use Rattle.tv_farkas.specs.Paths.{IsWholePoint}
use Rattle.tv_farkas.specs.EmptyPaths.{IsWholePointOf}
use Rattle.tv_farkas.specs.Refuting.{AreShort}
use Rattle.tv_farkas.specs.declared.fault.CoverFault.{CoverFault}
use Rattle.tv_known.specs.Cycles.{IsInitialAt}
use Rattle.tv_known.specs.Recurrences.{IsKeptLoop, IsEntered, HasSimpleRecurrence}
use Rattle.tv_known.proofs.RankedEnds.{values_kept}
use Rattle.tv_points.specs.Nodes.{IsInside}
use Rattle.tv_recur.specs.Making.{rows_put, drawn_terms}
use Rattle.tv_recur.specs.OwedRows.{Enters, IsLeft}
use Rattle.tv_recur.specs.Choosing.{LeadsInto, IsChoiceAt}
use Rattle.tv_recur.specs.Staying.{NeverStaysBelow}
use Rattle.tv_recur.specs.Keeping.{IsKeptBy, entering_rows, AreEntering, IsEntry, IsStem, NoEntryBelow, NoLoopAt, NoLoopBelow}
use Rattle.tv_recur.specs.Nodes.{on_piece, GoesOn}
use Rattle.tv_recur.specs.Recurring.{IsRecurrence}
use Rattle.tv_recur.specs.declared.entering.Entry.{Entry}
use Rattle.tv_recur.specs.declared.entering.Stem.{Stem}
use Rattle.tv_recur.specs.declared.recurrence.Recurrence.{Recurrence}
use Rattle.tv_recur.proofs.ReadLemmas.{read_at, same_read}
use Rattle.tv_recur.proofs.OwedLemmas.{put_met_back, before_met, before_met_back}
use Rattle.tv_recur.proofs.StayLemmas.{split_met}

-- ---- a loop that is kept
pub not_kept : (about : CaseSystem) (c : LinearCase) (ds : List ℤ) (from into : List Linear) → ds ≡ [] → from ≡ c.guards → into ≡ c.guards → IsLeft about.variables c ds from into → IsKeptLoop about c → ⊥
not_kept about c ds from into none f g left loop =
    let xs = left.values in
    let met = subst (All (IsMet xs)) f left.point.met in
    let back = sym (append-nil xs) in
    let many = sym left.point.width in
    left.leaves (subst (λ z. Enters c z into xs) (sym none) (subst (λ z. Enters c [] z xs) (sym g) (record {
      guards = subst (λ ys. All (IsMet ys) c.guards) back met;
      into = subst (λ ys. All (IsMet ys) c.guards) (λ i. map (term_value (back i)) (terms_after (many i) c.updates)) (loop.again xs left.point.width met);
    })))

-- ---- ways to come to it
pub not_entered_here : (about : CaseSystem) (c : LinearCase) → c.from ≡ about.start → ((xs : List ℤ) → IsWholePoint about.variables c.guards xs → ⊥) → IsEntered about c → ⊥
not_entered_here about c here none (s, initial, inl may) = none s.values (record { width = initial.counted; met = may.1 })
not_entered_here about c here none (s, initial, inr (t, st, may)) =
    none t.values (record { width = values_kept st.taken st.draws s t st.does ∙ initial.counted; met = may.1 })

entry_point : (about : CaseSystem) (c : LinearCase) (s t : State) (st : CaseSteps about s t) → IsInitialAt about s → All (λ r. columns r ≡ about.variables) c.guards → All (IsMet t.values) c.guards → IsWholePoint (about.variables + st.taken.draws) (entering_rows st.taken c.guards) (s.values ++ st.draws)
entry_point about c s t st initial wide met = record {
  width = length-append s.values st.draws ∙ (λ i. initial.counted i + st.does.drawn i);
  met = All-append (IsMet (s.values ++ st.draws)) st.taken.guards (rows_before st.taken c.guards) st.does.guards
      (before_met about.variables st.taken s.values st.draws initial.counted st.does.drawn c.guards wide (subst (λ ys. All (IsMet ys) c.guards) st.does.gives met));
}

pub not_entered : (about : CaseSystem) (c : LinearCase) → All (λ r. columns r ≡ about.variables) c.guards → c.from ≢ about.start → NoEntryBelow about c (length about.cases) → IsEntered about c → ⊥
not_entered about c wide away none (s, initial, inl may) = away (sym may.0 ∙ initial.place)
not_entered about c wide away none (s, initial, inr (t, st, may)) =
    none st.among.0 st.among.1 st.taken (read_at about.cases st.among.0 st.taken st.among.1 st.among.2) (sym st.does.leaves ∙ initial.place) (sym st.does.enters ∙ may.0) (s.values ++ st.draws) (entry_point about c s t st initial wide may.1)

-- at an integer point of the rows with the numbers put in, the case leads to where the guards are met
pub never_left : (n : ℕ) (c : LinearCase) (ds : List ℤ) (guards rows drawn from into : List Linear) → AreEntering c guards rows → All (λ r. columns r ≡ n) guards → drawn ≡ rows_put (drawn_terms n ds) rows → from ≡ drawn → into ≡ guards → length ds ≡ c.draws → IsLeft n c ds from into → ⊥
never_left n c ds guards rows drawn from into entering wide made f g counted left =
    let xs = left.values in
    let met = subst (All (IsMet xs)) (f ∙ made) left.point.met in
    let back = subst (All (IsMet (xs ++ ds))) entering.exact (put_met_back n ds xs left.point.width rows met) in
    let parts = split_met (xs ++ ds) c.guards (rows_before c guards) back in
    left.leaves (subst (λ z. Enters c ds z xs) (sym g) (record {
      guards = parts.0;
      into = before_met_back n c xs ds left.point.width counted guards wide parts.1;
    }))

-- ---- no recurrence
pub no_recurrence : (about : CaseSystem) → NeverStaysBelow about (length about.cases) → NoLoopBelow about (length about.cases) → HasSimpleRecurrence about → ⊥
no_recurrence about stays loops (inl (s, initial, st)) =
    stays st.among.0 st.among.1 st.taken (read_at about.cases st.among.0 st.taken st.among.1 st.among.2) s initial st.draws st.does
no_recurrence about stays loops (inr (c, loop, entered)) =
    loops loop.among.0 loop.among.1 c (read_at about.cases loop.among.0 c loop.among.1 loop.among.2) loop entered

-- ---- pieces
by_test : {A : Type 0} (b : Bool) (x : A) (xs : List A) → b ≡ true → slice_get (if b then x ∷ xs else xs) 0 ≡ Some x
by_test true x xs e = refl
by_test false x xs e = absurd cc

by_no_test : {A : Type 0} (b : Bool) (x y : A) (xs : List A) → b ≡ false → slice_get xs 0 ≡ Some y → slice_get (if b then x ∷ xs else xs) 0 ≡ Some y
by_no_test true x y xs e h = absurd cc
by_no_test false x y xs e h = h

pub first_there : (p : Marked) (ps : List Marked) (l : ℕ) → place_of p ≡ l → slice_get (pieces_at (p ∷ ps) l) 0 ≡ Some p
first_there p ps l e = by_test (place_of p == l) p (pieces_at ps l) (eq-eqb (place_of p) l e)

pub second_there : (p q : Marked) (l : ℕ) → place_of p ≢ l → place_of q ≡ l → slice_get (pieces_at (p ∷ q ∷ []) l) 0 ≡ Some q
second_there p q l away e = by_no_test (place_of p == l) p q (pieces_at (q ∷ []) l) (ne_eqb (place_of p) l away) (first_there q [] l e)

pub piece_shape : (about : CaseSystem) (l : ℕ) (rows : List Linear) → l < about.locations → All (λ r. columns r ≡ about.variables) rows → PieceShape about 0 false (on_piece about.variables l rows)
piece_shape about l rows inside wide = record {
  place = inside;
  poly = refl;
  rows = wide;
  ranks = All-nil (λ r. columns r ≡ about.variables);
  many = refl;
  marks = λ e. refl;
}

-- ---- one piece
pub lone_goes : (about : CaseSystem) (c : LinearCase) (rows : List Linear) (choice : ChoiceTree) (ps : List Marked) (proofs : List Proof) → ps ≡ on_piece about.variables c.from rows ∷ [] → proofs ≡ Chosen choice ∷ [] → c.from ≡ c.to → LeadsInto about c 0 rows rows choice → AllZip (GoesOn about ps) ps proofs
lone_goes about c rows choice ps proofs e f back leads =
    let p = on_piece about.variables c.from rows in
    subst (λ x. x) (sym (λ i. AllZip (GoesOn about (e i)) (e i) (f i))) (leads (p ∷ []) p (first_there p [] c.to back) refl, tt)

-- ---- two pieces
module _ (about : CaseSystem) (kept : LinearCase) (choice : ChoiceTree) (stem : Stem) (ps : List Marked) (keeps : IsKeptBy about kept choice) (is : IsStem about kept stem) (pieces : ps ≡ on_piece about.variables kept.from kept.guards ∷ on_piece about.variables about.start stem.rows.now ∷ []) where
  abbrev goal : Marked
  goal = on_piece about.variables kept.from kept.guards

  abbrev first : Marked
  first = on_piece about.variables about.start stem.rows.now

  pub stem_shape : kept.from < about.locations → about.start < about.locations → All (λ r. columns r ≡ about.variables) kept.guards → All (PieceShape about 0 false) ps
  stem_shape inside starts wide = subst (All (PieceShape about 0 false)) (sym pieces)
      (All-cons (PieceShape about 0 false) goal (first ∷ []) (piece_shape about kept.from kept.guards inside wide)
      (All-cons (PieceShape about 0 false) first [] (piece_shape about about.start stem.rows.now starts is.even) (All-nil (PieceShape about 0 false))))

  pub stem_goes : (proofs : List Proof) → proofs ≡ Chosen choice ∷ Chosen stem.choice ∷ [] → AllZip (GoesOn about ps) ps proofs
  stem_goes proofs e = subst (λ x. x) (sym (λ i. AllZip (GoesOn about (pieces i)) (pieces i) (e i))) (
    keeps.leads (goal ∷ first ∷ []) goal (first_there goal (first ∷ []) kept.to keeps.loop) refl,
    (subst (λ l. IsChoiceAt about (goal ∷ first ∷ []) l stem.rows.now stem.choice) is.starts (is.leads (goal ∷ first ∷ []) goal (first_there goal (first ∷ []) stem.case.now.to (sym is.ends)) refl), tt),
  )

-- ---- values of the recurrence
pub inside_piece : (about : CaseSystem) (ps : List Marked) (root : Node) (piece : Marked) (values : List ℤ) → pieces_of root ≡ ps → slice_get (pieces_at ps about.start) 0 ≡ Some piece → length values ≡ about.variables → All (IsWithin 62) values → All (IsMet values) (rows_of piece) → IsInside about (pieces_of root) 0 values
inside_piece about ps root piece values e there many narrow met = record {
  many = many;
  narrow = narrow;
  piece = piece;
  found = subst (λ z. slice_get (pieces_at z about.start) 0 ≡ Some piece) (sym e) there;
  met = met;
}

-- ---- what the calls give
pub keep_gives : (about : CaseSystem) (c : LinearCase) (v : ℕ) (ds : List ℤ) (from into : List Linear) (o : Option ChoiceTree) → v ≡ about.variables → ds ≡ [] → from ≡ c.guards → into ≡ c.guards → c.from ≡ c.to → c.draws ≡ 0 → MatchOption o (IsLeft v c ds from into) (LeadsInto about c 0 from into) → MatchOption o (IsKeptLoop about c → ⊥) (IsKeptBy about c)
keep_gives about c v ds from into None e none f g back undrawn h = not_kept about c ds from into none f g (subst (λ k. IsLeft k c ds from into) e h)
keep_gives about c v ds from into (Some tree) e none f g back undrawn h = record {
  loop = back;
  no_draws = undrawn;
  leads = subst (λ z. LeadsInto about c 0 z c.guards tree) f (subst (λ z. LeadsInto about c 0 from z tree) g h);
}

pub loop_gives : (about : CaseSystem) (c : LinearCase) (k : ℕ) (r : Result (Option Recurrence) CoverFault) → slice_get about.cases k ≡ Some c → IfOk r (λ found. MatchOption found (IsEntered about c → ⊥) (IsRecurrence about)) → IfOk r (λ found. MatchOption found (NoLoopAt about k) (IsRecurrence about))
loop_gives about c k (Ok None) found h = λ other e loop entered. h (subst (IsEntered about) (sym (same_read (slice_get about.cases k) c other found e)) entered)
loop_gives about c k (Ok (Some x)) found h = h
loop_gives about c k (Err x) found h = h

-- ---- a way in, at its case
pub record IsEntryBy (about : CaseSystem) (kept case : LinearCase) (rows : List Linear) (point : List ℤ) : Type 0 where
  pub starts : case.from ≡ about.start
  pub ends : case.to ≡ kept.from
  pub entering : AreEntering case kept.guards rows
  pub point_is : IsWholePoint (about.variables + case.draws) rows point
  pub first : IsWholePointOf (about.variables + case.draws) rows point
  pub short : AreShort point

pub entry_by : (about : CaseSystem) (kept : LinearCase) (entry : Entry) (case : LinearCase) (rows : List Linear) → IsEntry about kept entry → slice_get about.cases entry.number ≡ Some case → rows ≡ entry.rows.items → IsEntryBy about kept case rows entry.point.items
entry_by about kept entry case rows e found f =
    subst (λ z. IsEntryBy about kept z rows entry.point.items) (same_read (slice_get about.cases entry.number) e.case case e.found found)
    (subst (λ z. IsEntryBy about kept e.case z entry.point.items) (sym f)
    (record { starts = e.starts; ends = e.leads; entering = e.rows; point_is = e.point; first = e.first; short = e.short }))

pub entering_wide : (n : ℕ) (c : LinearCase) (into rows : List Linear) → AreEntering c into rows → All (λ r. columns r ≡ n + c.draws) c.guards → All (λ u. columns u.term ≡ n + c.draws) c.updates → All (λ r. columns r ≡ n) into → All (λ r. columns r ≡ n + c.draws) rows
entering_wide n c into rows h guards us wide =
    subst (All (λ r. columns r ≡ n + c.draws)) (sym h.exact)
    (All-append (λ r. columns r ≡ n + c.draws) c.guards (rows_before c into) guards (all_before_even n c into wide us h.fits))
