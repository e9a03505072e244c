-- Refusals, in terms of the rows that come from the cases.
use Rattle.std.proofs.Common.{◌≡◌, inl, inr, ℕ, suc, ◌+◌, ◌<◌, List, [], ◌∷◌, ◌++◌, length, get_or, All, zero, arith, refl, sym, ap, ◌∙◌, subst, ℤ, pos}
use Rattle.std.specs.Prelude.{Contains, Ok, Err}
use Rattle.std.proofs.lemmas.List.{length-map}
use Rattle.std.proofs.lemmas.List.Elements.{All-nil, All-cons, All-head, All-tail, All-append, All-contains, All-contains_itself, All-weaker}
use Rattle.tv_linear.specs.Linear.{Linear, columns, IsNarrow}
use Rattle.tv_linear.specs.Arithmetic.{composed, constant_row}
use Rattle.tv_linear.specs.declared.fault.RowFault.TheVariants as row
use Rattle.tv_linear.specs.declared.region.Update.{Update}
use Rattle.tv_cases.specs.LinearCases.{LinearCase, CaseSystem}
use Rattle.tv_cases.specs.Before.{before as case_before, FitsBefore, rows_before}
use Rattle.tv_farkas.specs.EmptyPaths.{IsEmptyFault, IsWholePointOf}
use Rattle.tv_farkas.specs.declared.branch.Branch.{Branch}
use Rattle.tv_farkas.specs.declared.budget.Budget.{Budget}
use Rattle.tv_farkas.specs.declared.fault.CoverFault.{CoverFault}
use Rattle.tv_farkas.specs.declared.fault.CoverFault.TheVariants.{Splits, Solve, Wide, Memory}
use Rattle.tv_cover.specs.Covering.{IsCoverFault}
use Rattle.tv_derived.specs.Derived.{IsDerived, IsDrawTerm, guard, made, settled, added as added_step, taken_off as taken_off_step, derived, unsplit, value, IsLoopUpdate, false_row}
use Rattle.tv_derived.specs.Faults.{IsRefusalOf}
use Rattle.tv_derived.specs.Scopes.{Scope, scope, at_location, over_case, width_at}
use Rattle.tv_derived.proofs.Carried.{monotone}
use Rattle.tv_derived.proofs.Steps.{narrow_all, after_step, after_before, after_terms}
use Rattle.tv_derived.proofs.Listing.{empty_refusal}
use Rattle.tv_cover_refusals.proofs.Refusals.{refusal}
use Rattle.tv_points.specs.PointRows.{number_rows}
use Rattle.tv_recur.specs.Making.{FitsPut, rows_put, ArePut, drawn_terms, IsUnmade, RefusesBefore, RefusesPut}
use Rattle.tv_recur.specs.Keeping.{AreEntering}
use Rattle.tv_recur.specs.OwedRows.{AreOwed}
use Rattle.tv_recur.specs.Refusing.{IsSpent, IsRefusal, AreFrom, MayPut, MayPutAt, IsUnmadeUpdate, IsUnmadeAmong}
use Rattle.tv_recur.specs.Staying.{added, taken_off, unchanged_rows, staying_rows}

weaker : (about : CaseSystem) (pivots : ℕ) (spent more : List Branch → Type 0) (fault : CoverFault) → ((path : List Branch) → spent path → more path) → IsRefusalOf about [] 2 pivots spent fault → IsRefusalOf about [] 2 pivots more fault
weaker about pivots spent more (Splits path) k h = k path.items h
weaker about pivots spent more (Solve kept fault) k h = h
weaker about pivots spent more (Wide column) k h = h
weaker about pivots spent more Memory k h = h

module _ (about : CaseSystem) (b : Budget) where
  abbrev n : ℕ
  n = about.variables

  -- ---- rows that come from the cases
  pub guards_from : (c : LinearCase) (h : ℕ) → Contains about.cases c → AreFrom about (over_case c) h c.guards
  guards_from c h among = All-weaker (Contains c.guards) (IsDerived about [] (over_case c) h) (λ r of. guard c r among of) c.guards (All-contains_itself c.guards)

  -- those of a case without draws are over the variables alone
  pub undrawn_from : (c : LinearCase) (h : ℕ) → Contains about.cases c → c.draws ≡ 0 → AreFrom about (at_location c.from) h c.guards
  undrawn_from c h among none =
      All-weaker (IsDerived about [] (over_case c) h) (IsDerived about [] (at_location c.from) h)
      (λ r d. settled r (subst (λ k. IsDerived about [] (scope c.from (c ∷ []) k) h r) none d)) c.guards (guards_from c h among)

  module _ (h : ℕ) (c : LinearCase) (ds : List ℤ) (counted : length ds ≡ c.draws) (may : MayPutAt h about c ds) where
    put_all : (rows : List Linear) → AreFrom about (over_case c) h rows → All (FitsPut (drawn_terms n ds)) rows → AreFrom about (at_location c.from) h (rows_put (drawn_terms n ds) rows)
    put_all [] d fits = All-nil (IsDerived about [] (at_location c.from) h)
    put_all (r ∷ rows) d fits =
        All-cons (IsDerived about [] (at_location c.from) h) (composed r (drawn_terms n ds)) (rows_put (drawn_terms n ds) rows)
        (after_terms (over_case c) h r (number_rows n ds) (Ok (composed r (drawn_terms n ds))) (All-head (IsDerived about [] (over_case c) h) r rows d) (length-map ds (λ d. constant_row n d) ∙ counted) may
        (record { same = refl; fits = All-head (FitsPut (drawn_terms n ds)) r rows fits }))
        (put_all rows (All-tail (IsDerived about [] (over_case c) h) r rows d) (All-tail (FitsPut (drawn_terms n ds)) r rows fits))

    pub made_from : (terms rows all : List Linear) → terms ≡ drawn_terms n ds → AreFrom about (over_case c) h rows → ArePut terms rows all → AreFrom about (at_location c.from) h all
    made_from terms rows all e d put =
        subst (AreFrom about (at_location c.from) h) (sym (put.exact ∙ ap (λ ts. rows_put ts rows) e)) (put_all rows d (subst (λ ts. All (FitsPut ts) rows) e put.fits))

  module _ (c : LinearCase) (ds : List ℤ) (counted : length ds ≡ c.draws) (may : MayPut about c ds) where
    many : length (number_rows n ds) ≡ c.draws
    many = length-map ds (λ d. constant_row n d) ∙ counted

    pub put_from : (rows : List Linear) → AreFrom about (over_case c) 2 rows → All (FitsPut (drawn_terms n ds)) rows → AreFrom about (at_location c.from) 2 (rows_put (drawn_terms n ds) rows)
    put_from = put_all 2 c ds counted may

    pub put_refused : (rows terms : List Linear) (fault : CoverFault) → terms ≡ drawn_terms n ds → AreFrom about (over_case c) 2 rows → IsUnmade (RefusesPut terms) rows fault → IsRefusal about b fault
    put_refused rows terms (Splits path) e d h = absurd h
    put_refused rows terms (Solve kept fault) e d h = absurd h
    put_refused rows terms (Wide column) e d (r, among, g) =
        after_terms (over_case c) 2 r (number_rows n ds) (Err (row.Wide column)) (All-contains (IsDerived about [] (over_case c) 2) rows r d among) many may (subst (λ ts. RefusesPut ts r (row.Wide column)) e g)
    put_refused rows terms Memory e d h = tt

  pub before_from : (c : LinearCase) → Contains about.cases c → (rows : List Linear) → All (λ r. columns r ≡ n) rows → AreFrom about (at_location c.to) 1 rows → All (FitsBefore c) rows → AreFrom about (over_case c) 2 (rows_before c rows)
  before_from c among [] wide d fits = All-nil (IsDerived about [] (over_case c) 2)
  before_from c among (r ∷ rows) wide d fits =
      All-cons (IsDerived about [] (over_case c) 2) (case_before r c) (rows_before c rows)
      (after_before r c among (All-head (λ r. columns r ≡ n) r rows wide) (Ok (case_before r c)) (All-head (IsDerived about [] (at_location c.to) 1) r rows d) (record { same = refl; fits = All-head (FitsBefore c) r rows fits }))
      (before_from c among rows (All-tail (λ r. columns r ≡ n) r rows wide) (All-tail (IsDerived about [] (at_location c.to) 1) r rows d) (All-tail (FitsBefore c) r rows fits))

  -- the rows of a way into other rows
  pub entering_from : (c : LinearCase) (into rows : List Linear) → Contains about.cases c → All (λ r. columns r ≡ n) into → AreFrom about (at_location c.to) 1 into → AreEntering c into rows → AreFrom about (over_case c) 2 rows
  entering_from c into rows among wide d h =
      subst (AreFrom about (over_case c) 2) (sym h.exact)
      (All-append (IsDerived about [] (over_case c) 2) c.guards (rows_before c into) (guards_from c 2 among) (before_from c among into wide d h.fits))

  pub before_refused : (c : LinearCase) (rows : List Linear) (fault : CoverFault) → Contains about.cases c → All (λ r. columns r ≡ n) rows → AreFrom about (at_location c.to) 1 rows → IsUnmade (RefusesBefore c) rows fault → IsRefusal about b fault
  before_refused c rows (Splits path) of wide d h = absurd h
  before_refused c rows (Solve kept fault) of wide d h = absurd h
  before_refused c rows (Wide column) of wide d (r, among, g) =
      after_before r c of (All-contains (λ r. columns r ≡ n) rows r wide among) (Err (row.Wide column)) (All-contains (IsDerived about [] (at_location c.to) 1) rows r d among) g
  before_refused c rows Memory of wide d h = tt

  -- the rows that are owed
  pub owed_from : (c : LinearCase) (ds : List ℤ) (into target : List Linear) → Contains about.cases c → length ds ≡ c.draws → MayPut about c ds → All (λ r. columns r ≡ n) into → AreFrom about (at_location c.to) 1 into → AreOwed n c ds into target → AreFrom about (at_location c.from) 2 target
  owed_from c ds into target among counted may wide d owed =
      subst (AreFrom about (at_location c.from) 2) (sym owed.exact)
      (All-append (IsDerived about [] (at_location c.from) 2) (rows_put (drawn_terms n ds) c.guards) (rows_put (drawn_terms n ds) (rows_before c into))
      (put_from c ds counted may c.guards (guards_from c 2 among) owed.guards)
      (put_from c ds counted may (rows_before c into) (before_from c among into wide d owed.before) owed.put))

  -- more cases on the way
  pub more_from : (f : Scope) (rows : List Linear) → AreFrom about f 1 rows → AreFrom about f 2 rows
  more_from f rows d = All-weaker (IsDerived about [] f 1) (IsDerived about [] f 2) (λ r h. monotone 2 (omega arith) h) rows d

  -- ---- questions
  none_more : (m : ℕ) → m + 0 ≡ m
  none_more m = omega arith

  one_target : (f : Scope) (target : List Linear) → AreFrom about f 2 target → (t : List Linear) → Contains (target ∷ []) t → (r : Linear) → Contains t r → IsDerived about [] f 2 r
  one_target f target d t (k, l, e) r of = All-contains (IsDerived about [] f 2) target r d (subst (λ z. Contains z r) (only k l e) of)
    where
      only : (k : ℕ) → k < length (target ∷ []) → get_or (target ∷ []) k t ≡ t → t ≡ target
      only zero l e = sym e
      only (suc k) l e = absurd (omega arith)

  pub cover_refused : (l : ℕ) (rows target : List Linear) (m : ℕ) (fault : CoverFault) → m ≡ n → AreFrom about (at_location l) 2 rows → AreFrom about (at_location l) 2 target → IsCoverFault m (target ∷ []) rows b.pivots b.splits fault → IsRefusal about b fault
  cover_refused l rows target m fault e d g h =
      weaker about b.pivots _ (IsSpent about b.splits) fault (λ path s. inl s)
      (refusal about [] (at_location l) 2 (target ∷ []) (one_target (at_location l) target g) 1 rows b.pivots b.splits fault
      (λ r of. derived r (All-contains (IsDerived about [] (at_location l) 2) rows r d of)) (omega arith)
      (subst (λ k. IsCoverFault k (target ∷ []) rows b.pivots b.splits fault) (e ∙ sym (none_more n)) h))

  pub empty_refused : (f : Scope) (rows : List Linear) (m : ℕ) (fault : CoverFault) → m ≡ width_at about f → AreFrom about f 2 rows → IsEmptyFault m rows b.pivots b.splits fault → IsRefusal about b fault
  empty_refused f rows m fault e d h =
      weaker about b.pivots _ (IsSpent about b.splits) fault (λ path s. inr s)
      (empty_refusal about [] f 2 rows b.pivots b.splits fault (λ r of. derived r (All-contains (IsDerived about [] f 2) rows r d of)) (subst (λ k. IsEmptyFault k rows b.pivots b.splits fault) e h))

  -- the numbers of an integer point of such rows may be put in for the draws
  pub may_put : (h : ℕ) (c : LinearCase) (rows : List Linear) (zs ds : List ℤ) (m : ℕ) → m ≡ n + c.draws → AreFrom about (over_case c) h rows → IsWholePointOf m rows zs → length ds ≡ c.draws → ((j : ℕ) → j < c.draws → get_or ds j (pos 0) ≡ get_or zs (n + j) (pos 0)) → MayPutAt h about c ds
  may_put h c rows zs ds m e d point counted same j l =
      subst (λ t. IsDrawTerm about [] (over_case c) h j t) (sym (number_at ds j (let q = counted in omega (arith, l, q)) ∙ ap (constant_row n) (same j l)))
      (value j rows zs (λ r of. unsplit r (derived r (All-contains (IsDerived about [] (over_case c) h) rows r d of))) (subst (λ k. IsWholePointOf k rows zs) e point))
    where
      number_at : (ds : List ℤ) (j : ℕ) → j < length ds → get_or (number_rows n ds) j (false_row 0) ≡ constant_row n (get_or ds j (pos 0))
      number_at [] j l = absurd (omega (arith, l))
      number_at (d ∷ ds) zero l = refl
      number_at (d ∷ ds) (suc j) l = number_at ds j (omega (arith, l))

  -- ---- the rows of a step from an initial state to itself
  module _ (c : LinearCase) (among : Contains about.cases c) (starts : c.from ≡ about.start) (ends : c.to ≡ about.start) where
    loop_update : (u : Update) → Contains c.updates u → IsLoopUpdate about c u
    loop_update u of = record { among = among; leaves = starts; enters = ends; updates = of }

    unchanged_from : (us : List Update) → All (Contains c.updates) us → All IsNarrow (unchanged_rows (n + c.draws) us) → AreFrom about (over_case c) 1 (unchanged_rows (n + c.draws) us)
    unchanged_from [] of narrow = All-nil (IsDerived about [] (over_case c) 1)
    unchanged_from (u ∷ us) of narrow =
        let w = n + c.draws in
        let rest = All-tail IsNarrow (added w u) (taken_off w u ∷ unchanged_rows w us) narrow in
        let l = loop_update u (All-head (Contains c.updates) u us of) in
        All-cons (IsDerived about [] (over_case c) 1) (added w u) (taken_off w u ∷ unchanged_rows w us)
        (made (added w u) (added_step c u l) (narrow_all (added w u) (All-head IsNarrow (added w u) (taken_off w u ∷ unchanged_rows w us) narrow)))
        (All-cons (IsDerived about [] (over_case c) 1) (taken_off w u) (unchanged_rows w us)
        (made (taken_off w u) (taken_off_step c u l) (narrow_all (taken_off w u) (All-head IsNarrow (taken_off w u) (unchanged_rows w us) rest)))
        (unchanged_from us (All-tail (Contains c.updates) u us of) (All-tail IsNarrow (taken_off w u) (unchanged_rows w us) rest)))

    pub staying_from : (rows : List Linear) → rows ≡ staying_rows n c → All IsNarrow rows → AreFrom about (over_case c) 1 rows
    staying_from rows e narrow =
        subst (AreFrom about (over_case c) 1) (sym e)
        (All-append (IsDerived about [] (over_case c) 1) c.guards (unchanged_rows (n + c.draws) c.updates) (guards_from c 1 among)
        (unchanged_from c.updates (All-contains_itself c.updates) (later c.guards (subst (All IsNarrow) e narrow))))
      where
        later : (gs : List Linear) → All IsNarrow (gs ++ unchanged_rows (n + c.draws) c.updates) → All IsNarrow (unchanged_rows (n + c.draws) c.updates)
        later [] h = h
        later (g ∷ gs) h = later gs (All-tail IsNarrow g (gs ++ unchanged_rows (n + c.draws) c.updates) h)

    update_refused : (u : Update) (fault : CoverFault) → IsLoopUpdate about c u → IsUnmadeUpdate (n + c.draws) u fault → IsRefusal about b fault
    update_refused u (Splits path) l h = absurd h
    update_refused u (Solve kept fault) l h = absurd h
    update_refused u (Wide column) l (inl g) = after_step {f = over_case c} {h = 2} (added (n + c.draws) u) (Err (row.Wide column)) (added_step c u l) g
    update_refused u (Wide column) l (inr g) = after_step {f = over_case c} {h = 2} (taken_off (n + c.draws) u) (Err (row.Wide column)) (taken_off_step c u l) g
    update_refused u Memory l h = tt

    pub updates_refused : (w : ℕ) (us : List Update) (fault : CoverFault) → w ≡ n + c.draws → us ≡ c.updates → IsUnmadeAmong w us fault → IsRefusal about b fault
    updates_refused w us fault e f (inl m) = subst (IsRefusal about b) (sym m) tt
    updates_refused w us fault e f (inr (u, of, h)) = update_refused u fault (loop_update u (subst (λ z. Contains z u) f of)) (subst (λ k. IsUnmadeUpdate k u fault) e h)
