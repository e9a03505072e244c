-- the rows that are asked of come from the rows that are known
use Rattle.std.proofs.Common.{◌≡◌, inl, inr, ℕ, zero, suc, ◌+◌, ◌-◌, ◌<◌, List, [], ◌∷◌, length, map, All, arith, refl, sym, subst}
use Rattle.std.specs.Prelude.{Ok, Err}
use Rattle.std.specs.List.{Contains}
use Rattle.std.proofs.lemmas.List.{get_or_default}
use Rattle.std.proofs.lemmas.List.Elements.{All-contains, Contains-append_cases, Contains-append_left, Contains-append_right}
use Rattle.tv_linear.specs.Linear.{Linear, columns}
use Rattle.tv_linear.specs.Arithmetic.{padded_row}
use Rattle.tv_linear.specs.declared.fault.RowFault.TheVariants as row
use Rattle.tv_linear.specs.declared.region.Piece.{Piece}
use Rattle.tv_cases.specs.LinearCases.{LinearCase, CaseSystem}
use Rattle.tv_cases.specs.Before.{before, FitsBefore, rows_before}
use Rattle.tv_cases.proofs.ContainsLemmas.{Contains-map, Contains-from_map}
use Rattle.tv_farkas.specs.declared.budget.Budget.{Budget}
use Rattle.tv_farkas.specs.declared.fault.CoverFault.{CoverFault}
use Rattle.tv_farkas.specs.declared.fault.CoverFault.TheVariants.{Splits, Solve, Wide, Memory}
use Rattle.tv_cover.specs.Covering.{IsCoverFault}
use Rattle.tv_derived.specs.Scopes.{at_location, over_case, Placed, placed}
use Rattle.tv_derived.specs.Derived.{IsDerived, IsUnsplit, handed, guard, derived, unsplit}
use Rattle.tv_derived.specs.Faults.{IsRefusalOf}
use Rattle.tv_derived.proofs.Listing.{handed_list}
use Rattle.tv_derived.proofs.Steps.{after_before, over}
use Rattle.tv_cover_refusals.specs.Covers.{IsSpentOnTargets}
use Rattle.tv_cover_refusals.proofs.Refusals.{refusal}
use Rattle.tv_rank.specs.Ways.{case_at, no_case, rows_at, way_of}
use Rattle.tv_lexrank.specs.Known.{AreKnown, padded_rows}
use Rattle.tv_lexrank.specs.Closing.{IsUnmadeBy, IsUncovered}
use Rattle.tv_lexrank.proofs.MetLemmas.{over_at}
use Rattle.tv_lexrank_refusals.specs.Refusals.{handed_from, handed_known, StepsRefuse, StartRefuses, RowsRefuse}

-- a row that is known at a location is handed in
handed_in : (l m : ℕ) (ps : List Piece) (r : Linear) → Contains (rows_at ps m) r → Contains (handed_from l ps) (placed (l + m) r)
handed_in l m [] r c = absurd (let h = c.1 in omega (arith, h))
handed_in l zero (p ∷ ps) r c =
    subst (λ n. Contains (handed_from l (p ∷ ps)) (placed n r)) (let q : l ≡ l + 0 = omega arith in q)
    (Contains-append_left (map (placed l) p.poly.rows.items) (handed_from (suc l) ps) (placed l r) (Contains-map (placed l) p.poly.rows.items r c))
handed_in l (suc m) (p ∷ ps) r c =
    subst (λ n. Contains (handed_from l (p ∷ ps)) (placed n r)) (let q : suc l + m ≡ l + suc m = omega arith in q)
    (Contains-append_right (map (placed l) p.poly.rows.items) (handed_from (suc l) ps) (placed (suc l + m) r) (handed_in (suc l) m ps r c))

only_one : (rows target : List Linear) → Contains (rows ∷ []) target → rows ≡ target
only_one rows target (zero, l, e) = e
only_one rows target (suc k, l, e) = absurd (omega (arith, l))

module _ (about : CaseSystem) (known : List Piece) where
  abbrev base : List Placed
  base = handed_known known

  row_derived : (h l : ℕ) (r : Linear) → Contains (rows_at known l) r → IsDerived about base (at_location l) h r
  row_derived h l r c = handed (placed l r) (subst (λ n. Contains base (placed n r)) (let q : 0 + l ≡ l = omega arith in q) (handed_in 0 l known r c))

  pub start_refused : (pivots splits : ℕ) (fault : CoverFault) → IsCoverFault about.variables (rows_at known about.start ∷ []) [] pivots splits fault → IsRefusalOf about base 0 pivots (IsSpentOnTargets about base 1 0 splits) fault
  start_refused pivots splits fault h =
      refusal about base (at_location about.start) 0 (rows_at known about.start ∷ [])
      (λ target of r a. row_derived 0 about.start r (subst (λ rows. Contains rows r) (sym (only_one (rows_at known about.start) target of)) a))
      1 [] pivots splits fault (λ r a. absurd (let l = a.1 in omega (arith, l))) (omega arith)
      (subst (λ n. IsCoverFault n (rows_at known about.start ∷ []) [] pivots splits fault) (let q : about.variables ≡ about.variables + 0 = omega arith in q) h)

  -- ---- over a case
  module _ (k : ℕ) (k_in : k < length about.cases) (fits : AreKnown about known) where
    abbrev c : LinearCase
    c = case_at about.cases k

    among : Contains about.cases c
    among = (k, k_in, get_or_default about.cases k c no_case k_in)

    wide : (l : ℕ) (r : Linear) → Contains (rows_at known l) r → columns r ≡ about.variables
    wide l r a = All-contains (λ r. columns r ≡ about.variables) (rows_at known l) r (over_at about.variables known l fits.over) a

    pub over_derived : (h : ℕ) (r : Linear) → Contains (padded_rows (way_of about.cases known k)) r → IsUnsplit about base (over_case c) h r
    over_derived h r a = elim (Contains-append_cases (map (padded_row c.draws) (rows_at known c.from)) c.guards r a) [
      | inl there ↦
          let from = Contains-from_map (padded_row c.draws) (rows_at known c.from) r there in
          subst (IsUnsplit about base (over_case c) h) from.2
          (over about base c h from.0 among (row_derived h c.from from.0 from.1))
      | inr of ↦ derived r (guard c r among of)
    ]

    -- the rows before the case are derived where they fit
    put_derived : All (FitsBefore c) (rows_at known c.to) → (r : Linear) → Contains (rows_before c (rows_at known c.to)) r → IsDerived about base (over_case c) 1 r
    put_derived made r a =
        let from = Contains-from_map (λ q. before q c) (rows_at known c.to) r a in
        let q = from.0 in
        subst (IsDerived about base (over_case c) 1) from.2
        (after_before q c among (wide c.to q from.1) (Ok (before q c)) (row_derived 0 c.to q from.1) (record { same = refl; fits = All-contains (FitsBefore c) (rows_at known c.to) q made from.1 }))

    pub unmade : (pivots splits : ℕ) (fault : CoverFault) → IsUnmadeBy c (rows_at known c.to) fault → IsRefusalOf about base 1 pivots (IsSpentOnTargets about base 1 1 splits) fault
    unmade pivots splits (Splits path) h = absurd h
    unmade pivots splits (Solve kept f) h = absurd h
    unmade pivots splits (Wide column) (r, a, g) = after_before r c among (wide c.to r a) (Err (row.Wide column)) (row_derived 0 c.to r a) g
    unmade pivots splits Memory h = absurd h

    pub uncovered : (budget : Budget) (fault : CoverFault) → IsUncovered about known budget k fault → IsRefusalOf about base 1 budget.pivots (IsSpentOnTargets about base 1 1 budget.splits) fault
    uncovered budget fault h =
        refusal about base (over_case c) 1 (rows_before c (rows_at known c.to) ∷ [])
        (λ target of r a. put_derived h.fits r (subst (λ rows. Contains rows r) (sym (only_one (rows_before c (rows_at known c.to)) target of)) a))
        1 (padded_rows (way_of about.cases known k)) budget.pivots budget.splits fault (λ r a. over_derived 1 r a) (omega arith) h.fault

pub steps_refuse : (about : CaseSystem) → StepsRefuse about
steps_refuse about known budget k fault fits h = elim h.why [
  | inl u ↦ unmade about known k h.numbered fits budget.pivots budget.splits fault u
  | inr u ↦ uncovered about known k h.numbered fits budget fault u
]

pub start_refuses : (about : CaseSystem) → StartRefuses about
start_refuses about known pivots splits fault h = start_refused about known pivots splits fault h

pub rows_refuse : (about : CaseSystem) → RowsRefuse about
rows_refuse about known numbers component pivots rows e fits (have, (k, k_in, inside, taken, unsolved, before)) = (
  over_case (case_at about.cases k),
  record {
    list = handed_list (padded_rows (way_of about.cases known k)) rows.items taken
        (λ r a. unsplit r (over_derived about known k k_in fits 0 r a));
    unsolved = unsolved;
  },
)
