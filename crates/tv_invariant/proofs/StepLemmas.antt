-- Candidates before and after a case.
use Rattle.std.proofs.Common.{◌≡◌, ◌⊎◌, inl, inr, ℕ, ◌+◌, List, [], ◌∷◌, ◌++◌, length, map, take, drop, All, arith, refl, sym, ap, ◌∙◌, subst, pos, ◌≤ℤ◌, length-append, Bool, true, false, cond, ◌==◌}
use Rattle.std.specs.List.{filter, Contains}
use Rattle.std.proofs.lemmas.List.Elements.{All-nil, All-cons, All-head, All-tail, All-append, All-contains}
use Rattle.tv_linear.specs.Linear.{Linear, columns, value, IsMet}
use Rattle.tv_linear.specs.Arithmetic.{padded_row}
use Rattle.tv_linear.specs.Known.{term_value}
use Rattle.tv_linear.specs.Terms.{terms_after}
use Rattle.tv_linear.proofs.PaddedLemmas.{value-padded, padded_even}
use Rattle.tv_linear.proofs.ListLaws.{all_front, all_back}
use Rattle.tv_farkas.specs.Paths.{IsWholePoint}
use Rattle.tv_farkas.specs.declared.fault.CoverFault.{CoverFault}
use Rattle.tv_farkas.specs.declared.fault.CoverFault.TheVariants.{Memory}
use Rattle.tv_cover.specs.Covering.{IsCoverFault}
use Rattle.tv_cases.specs.Before.{before, GivesBefore}
use Rattle.tv_cases.specs.LinearCases.{LinearCase}
use Rattle.tv_cases.proofs.BeforeValue.{before-value}
use Rattle.tv_candidates.specs.declared.candidate.Candidate.{Candidate}
use Rattle.tv_invariant.specs.Rows.{IsStronger}
use Rattle.tv_invariant.specs.Places.{place_of, row_of, rows_at, step_rows}
use Rattle.tv_invariant.specs.Seen.{IsSettled}
use Rattle.tv_invariant.specs.Sieves.{Sieved}
use Rattle.tv_invariant.specs.Falling.{KeptBy, IsFallen, IsUnmade, IsStepRefusal}
use Rattle.tv_invariant.specs.Passes.{AreOver}
use Rattle.tv_cases.proofs.ContainsLemmas.{Contains-cases, Contains-here, Contains-later, Contains-none}
use Rattle.tv_invariant.proofs.ListLemmas.{all_by, length-front, length-back}
use Rattle.tv_invariant.proofs.SieveLemmas.{sieved_map}
use Rattle.std.specs.Prelude.{Vec, Result, Ok, Err, IfOk}
use Rattle.std.specs.Result.{IfErr}
use Rattle.std.proofs.lemmas.List.{take-append-drop}
use Rattle.std.proofs.lemmas.Bool.{eq-eqb, eqb-true}

module _ (w l : ℕ) where
  all_rows : List Candidate → List Linear
  all_rows cs = map (padded_row w) (map row_of cs)

  cond_all : (P : Linear → Type 0) (b : Bool) (c : Candidate) (cs : List Candidate) → (b ≡ true → P (padded_row w c.row)) → All P (map (padded_row w) (map row_of cs)) → All P (map (padded_row w) (map row_of (cond b (c ∷ cs) cs)))
  cond_all P true c cs h t = All-cons P (padded_row w c.row) (map (padded_row w) (map row_of cs)) (h refl) t
  cond_all P false c cs h t = t

  pub all_at : (P : Linear → Type 0) (now : List Candidate) → ((c : Candidate) → Contains now c → c.location ≡ l → P (padded_row w c.row)) → All P (map (padded_row w) (rows_at l now))
  all_at P [] h = All-nil P
  all_at P (c ∷ now) h = cond_all P (place_of c == l) c (filter (λ d. place_of d == l) now) (λ e. h c (Contains-here c now) (eqb-true (place_of c) l e)) (all_at P now (λ d a e. h d (Contains-later c d now a) e))

  cond_head : (b : Bool) (c : Candidate) (cs : List Candidate) → b ≡ true → Contains (map (padded_row w) (map row_of (cond b (c ∷ cs) cs))) (padded_row w c.row)
  cond_head true c cs e = Contains-here (padded_row w c.row) (map (padded_row w) (map row_of cs))
  cond_head false c cs e = absurd cc

  cond_tail : (b : Bool) (c : Candidate) (cs : List Candidate) (r : Linear) → Contains (map (padded_row w) (map row_of cs)) r → Contains (map (padded_row w) (map row_of (cond b (c ∷ cs) cs))) r
  cond_tail true c cs r a = Contains-later (padded_row w c.row) r (map (padded_row w) (map row_of cs)) a
  cond_tail false c cs r a = a

  pub in_rows : (now : List Candidate) (c : Candidate) → Contains now c → c.location ≡ l → Contains (map (padded_row w) (rows_at l now)) (padded_row w c.row)
  in_rows [] c a e = absurd (Contains-none c a)
  in_rows (d ∷ now) c a e = elim (Contains-cases d c now a) [
    | inl same ↦ subst (λ r. Contains (map (padded_row w) (rows_at l (d ∷ now))) (padded_row w r)) (ap row_of same) (cond_head (place_of d == l) d (filter (λ x. place_of x == l) now) (eq-eqb (place_of d) l (ap place_of same ∙ e)))
    | inr r ↦ cond_tail (place_of d == l) d (filter (λ x. place_of x == l) now) (padded_row w c.row) (in_rows now c r e)
  ]

module _ (n : ℕ) (case : LinearCase) (now : List Candidate) (c : Candidate) (rows : List Linear) (over : AreOver n now) (wide : columns c.row ≡ n) (strong : IsStronger (step_rows case now) rows) where
  pub settled_kept : (c.location ≡ case.to → IsSettled (n + case.draws) rows (before c.row case) true) → KeptBy n case now c
  settled_kept h s t draws size does meets at =
      let zs = s.values ++ draws in
      let long = length-append s.values draws in
      let drawn = does.drawn in
      let front = all_at case.draws case.from (IsMet zs) now (λ d a e.
      let v = value-padded case.draws d.row s.values draws (All-contains (λ x. columns x.row ≡ n) now d over a ∙ sym size) in
      subst (λ z. z ≤ℤ pos 0) (sym v) (meets d a (does.leaves ∙ sym e))) in
      let all = All-append (IsMet zs) (map (padded_row case.draws) (rows_at case.from now)) case.guards front does.guards in
      let whole : IsWholePoint (n + case.draws) rows zs = record {
        width = omega (arith, long, drawn, size);
        met = all_by (IsMet zs) rows (λ r a. All-contains (IsMet zs) (step_rows case now) r all (strong.from r a));
      } in
      let v = before-value c.row case s.values draws (size ∙ sym wide) does.drawn ∙ ap (value c.row) (sym does.gives) in
      subst (λ z. z ≤ℤ pos 0) v (h (sym at ∙ does.enters) zs whole)

  pub unsettled_fallen : c.location ≡ case.to → IsSettled (n + case.draws) rows (before c.row case) false → IsFallen n case now c
  unsettled_fallen at h =
      let zs = h.0 in
      let size = h.1.width in
      let all = strong.met zs h.1.met in
      let xs = take n zs in
      let ds = drop n zs in
      let lx = length-front n case.draws zs size in
      let ld = length-back n case.draws zs size in
      let same : xs ++ ds ≡ zs = take-append-drop n zs in
      let front = all_front (IsMet zs) (map (padded_row case.draws) (rows_at case.from now)) case.guards all in
      let guards = all_back (IsMet zs) (map (padded_row case.draws) (rows_at case.from now)) case.guards all in
      let v = before-value c.row case xs ds (lx ∙ sym wide) ld in
      record {
        old = record { location = case.from; values = xs };
        new = record { location = case.to; values = map (term_value (xs ++ ds)) (terms_after (length xs) case.updates) };
        draws = ds;
        wide = lx;
        does = record {
          leaves = refl;
          enters = refl;
          drawn = ld;
          guards = subst (λ ys. All (IsMet ys) case.guards) (sym same) guards;
          gives = refl;
        };
        meets = λ d a e.
            let m = All-contains (IsMet zs) (map (padded_row case.draws) (rows_at case.from now)) (padded_row case.draws d.row) front (in_rows case.draws case.from now d a (sym e)) in
            let u = value-padded case.draws d.row xs ds (All-contains (λ x. columns x.row ≡ n) now d over a ∙ sym lx) in
            subst (λ z. z ≤ℤ pos 0) u (subst (λ ys. IsMet ys (padded_row case.draws d.row)) (sym same) m);
        place = sym at;
        unmet = λ m. h.2 (subst (λ ys. IsMet ys (before c.row case)) same (subst (λ z. z ≤ℤ pos 0) (sym v) m));
      }

-- ---- widths

at_even : (n l : ℕ) (now : List Candidate) → AreOver n now → All (λ r. columns r ≡ n) (rows_at l now)
at_even n l [] h = All-nil (λ r. columns r ≡ n)
at_even n l (c ∷ now) h = cond_even (place_of c == l) (filter (λ d. place_of d == l) now) (All-head (λ d. columns d.row ≡ n) c now h) (at_even n l now (All-tail (λ d. columns d.row ≡ n) c now h))
  where
    cond_even : (b : Bool) (cs : List Candidate) → columns c.row ≡ n → All (λ r. columns r ≡ n) (map row_of cs) → All (λ r. columns r ≡ n) (map row_of (cond b (c ∷ cs) cs))
    cond_even true cs e t = All-cons (λ r. columns r ≡ n) c.row (map row_of cs) e t
    cond_even false cs e t = t

pub step_even : (n : ℕ) (case : LinearCase) (now : List Candidate) (rows : List Linear) → AreOver n now → All (λ r. columns r ≡ n + case.draws) case.guards → IsStronger (step_rows case now) rows → All (λ r. columns r ≡ n + case.draws) rows
step_even n case now rows over guards strong =
    let all = All-append (λ r. columns r ≡ n + case.draws) (map (padded_row case.draws) (rows_at case.from now)) case.guards (padded_even n case.draws (rows_at case.from now) (at_even n case.from now over)) guards in
    all_by (λ r. columns r ≡ n + case.draws) rows (λ r a. All-contains (λ q. columns q ≡ n + case.draws) (step_rows case now) r all (strong.from r a))

-- ---- what a sieve after a case gives

module _ (n : ℕ) (case : LinearCase) (now : List Candidate) (rows : List Linear) (over : AreOver n now) (strong : IsStronger (step_rows case now) rows) where
  wide : (c : Candidate) → Contains now c → columns c.row ≡ n
  wide c a = All-contains (λ x. columns x.row ≡ n) now c over a

  step_sieved : (new : List Candidate) → Sieved (λ c. c.location ≡ case.to → IsSettled (n + case.draws) rows (before c.row case) true) (λ c. (c.location ≡ case.to) × IsSettled (n + case.draws) rows (before c.row case) false) now new → Sieved (KeptBy n case now) (IsFallen n case now) now new
  step_sieved new h =
      sieved_map (λ c. c.location ≡ case.to → IsSettled (n + case.draws) rows (before c.row case) true) (λ c. (c.location ≡ case.to) × IsSettled (n + case.draws) rows (before c.row case) false) (KeptBy n case now) (IsFallen n case now) now new
      (λ c a s. settled_kept n case now c rows over (wide c a) strong s)
      (λ c a s. unsettled_fallen n case now c rows over (wide c a) strong s.0 s.1) h

  pub sieved_step : {A E : Type 0} (result : Result (Vec Candidate A) E) → IfOk result (λ v. Sieved (λ c. c.location ≡ case.to → IsSettled (n + case.draws) rows (before c.row case) true) (λ c. (c.location ≡ case.to) × IsSettled (n + case.draws) rows (before c.row case) false) now v.items) → IfOk result (λ v. Sieved (KeptBy n case now) (IsFallen n case now) now v.items)
  sieved_step (Ok v) h = step_sieved v.items h
  sieved_step (Err e) h = tt

  refused : (pivots splits : ℕ) (fault : CoverFault) (c : Candidate) → (c.location ≡ case.to) × (IsUnmade c.row case fault ⊎ ((row : Linear) × GivesBefore c.row case (Ok row) × IsCoverFault (n + case.draws) ((row ∷ []) ∷ []) rows pivots splits fault)) → IsStepRefusal n case now pivots splits c fault
  refused pivots splits fault c h = record {
    place = h.0;
    refused = elim h.1 [
      | inl u ↦ inl u
      | inr r ↦ inr record { row = r.0; made = r.1; rows = rows; from = strong.from; refused = r.2 }
    ];
  }

  pub step_refused : {A : Type 0} (pivots splits : ℕ) (result : Result A CoverFault) → IfErr result (λ f. (f ≡ Memory) ⊎ ((c : Candidate) × Contains now c × ((c.location ≡ case.to) × (IsUnmade c.row case f ⊎ ((row : Linear) × GivesBefore c.row case (Ok row) × IsCoverFault (n + case.draws) ((row ∷ []) ∷ []) rows pivots splits f))))) → IfErr result (λ f. (f ≡ Memory) ⊎ ((c : Candidate) × Contains now c × IsStepRefusal n case now pivots splits c f))
  step_refused pivots splits (Ok x) h = tt
  step_refused pivots splits (Err f) h = elim h [
    | inl m ↦ inl m
    | inr r ↦ inr (r.0, r.1, refused pivots splits f r.0 r.2)
  ]
