-- the rows that are asked of come from the candidates
use Rattle.std.proofs.Common.{◌≡◌, inl, inr, ℕ, List, [], ◌∷◌, map, sym, subst, arith}
use Rattle.std.specs.Prelude.{Ok, Err}
use Rattle.std.specs.List.{Contains}
use Rattle.std.proofs.lemmas.List.Elements.{All-contains, Contains-append_cases}
use Rattle.tv_linear.specs.Linear.{Linear, columns}
use Rattle.tv_linear.specs.declared.fault.RowFault.TheVariants as rows
use Rattle.tv_cases.specs.LinearCases.{LinearCase, CaseSystem}
use Rattle.tv_cases.proofs.ContainsLemmas.{Contains-map}
use Rattle.tv_farkas.specs.declared.fault.CoverFault.{CoverFault}
use Rattle.tv_farkas.specs.declared.fault.CoverFault.TheVariants.{Splits, Solve, Wide, Memory}
use Rattle.tv_candidates.specs.declared.candidate.Candidate.{Candidate}
use Rattle.tv_candidates.specs.Inductive.{IsPart}
use Rattle.tv_derived.specs.Scopes.{at_location, over_case}
use Rattle.tv_derived.specs.Derived.{IsDerived, IsUnsplit, handed, guard, derived}
use Rattle.tv_derived.specs.Faults.{IsRefusalOf}
use Rattle.tv_derived.proofs.Steps.{after_before, over}
use Rattle.tv_cover_refusals.specs.Covers.{IsSpentOnTargets}
use Rattle.tv_cover_refusals.proofs.Refusals.{refusal, one_target}
use Rattle.tv_invariant.specs.Places.{rows_at, step_rows}
use Rattle.tv_invariant.specs.Falling.{IsUnmade, IsCoverRefusal}
use Rattle.tv_invariant.proofs.StepLemmas.{all_at}
use Rattle.tv_invariant.proofs.PassLemmas.{left_part}
use Rattle.tv_invariant_refusals.specs.Refusals.{placed_row, handed_candidates, InductiveRefuses}
use Rattle.tv_linear.specs.Arithmetic.{padded_row}

module _ (about : CaseSystem) (list : List Candidate) where
  candidate_derived : (h : ℕ) (c : Candidate) → Contains list c → IsDerived about (handed_candidates list) (at_location c.location) h c.row
  candidate_derived h c a = handed (placed_row c) (Contains-map placed_row list c a)

  -- the rows that hold over a case
  over_derived : (case : LinearCase) (now : List Candidate) → Contains about.cases case → IsPart now list → (r : Linear) → Contains (step_rows case now) r → IsUnsplit about (handed_candidates list) (over_case case) 1 r
  over_derived case now among part r k = elim (Contains-append_cases (map (padded_row case.draws) (rows_at case.from now)) case.guards r k) [
    | inl known ↦ All-contains (IsUnsplit about (handed_candidates list) (over_case case) 1) (map (padded_row case.draws) (rows_at case.from now)) r
        (all_at case.draws case.from (IsUnsplit about (handed_candidates list) (over_case case) 1) now
        (λ d a e. over about (handed_candidates list) case 1 d.row among (subst (λ l. IsDerived about (handed_candidates list) (at_location l) 1 d.row) e (candidate_derived 1 d (part d a))))) known
    | inr of ↦ derived r (guard case r among of)
  ]

  module _ (case : LinearCase) (c : Candidate) (among : Contains about.cases case) (even : columns c.row ≡ about.variables) (put : IsDerived about (handed_candidates list) (at_location case.to) 0 c.row) (pivots splits : ℕ) where
    unmade : (fault : CoverFault) → IsUnmade c.row case fault → IsRefusalOf about (handed_candidates list) 1 pivots (IsSpentOnTargets about (handed_candidates list) 1 1 splits) fault
    unmade (Splits path) h = absurd h
    unmade (Solve kept f) h = absurd h
    unmade (Wide column) h = after_before c.row case among even (Err (rows.Wide column)) put h
    unmade Memory h = tt

    uncovered : (now : List Candidate) → IsPart now list → (fault : CoverFault) → IsCoverRefusal about.variables case now pivots splits c fault → IsRefusalOf about (handed_candidates list) 1 pivots (IsSpentOnTargets about (handed_candidates list) 1 1 splits) fault
    uncovered now part fault h =
        refusal about (handed_candidates list) (over_case case) 1 ((h.row ∷ []) ∷ []) (one_target about (handed_candidates list) (over_case case) 1 h.row (after_before c.row case among even (Ok h.row) put h.made)) 1 h.rows pivots splits fault
        (λ r a. over_derived case now among part r (h.from r a)) (omega arith) h.refused

pub refuses : (about : CaseSystem) → InductiveRefuses about
refuses about list pivots splits fault even h = elim h [
  | inl m ↦ subst (λ f. IsRefusalOf about (handed_candidates list) 1 pivots (IsSpentOnTargets about (handed_candidates list) 1 1 splits) f) (sym m) tt
  | inr r ↦
      let part = left_part about list r.now r.left in
      let wide : columns r.candidate.row ≡ about.variables = All-contains (λ c. columns c.row ≡ about.variables) list r.candidate even (part r.candidate r.among) in
      let put : IsDerived about (handed_candidates list) (at_location r.case.to) 0 r.candidate.row = subst (λ l. IsDerived about (handed_candidates list) (at_location l) 0 r.candidate.row) r.step.place (candidate_derived about list 0 r.candidate (part r.candidate r.among)) in
      elim r.step.refused [
        | inl u ↦ unmade about list r.case r.candidate r.of_program wide put pivots splits fault u
        | inr u ↦ uncovered about list r.case r.candidate r.of_program wide put pivots splits r.now part fault u
      ]
]
