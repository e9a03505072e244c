-- inductive rows along a run
use Rattle.std.proofs.Common.{◌≡◌, ℕ, ◌∙◌, List, [], ◌∷◌, ◌++◌, length, ap, arith, ℤ, pos}
use Rattle.std.proofs.lemmas.Int.{ints}
use Rattle.std.proofs.lemmas.List.{length-map}
use Rattle.tv_linear.specs.Linear.{IsMet}
use Rattle.tv_linear.specs.Arithmetic.{constant_row}
use Rattle.tv_linear.specs.Known.{term_value}
use Rattle.tv_linear.specs.Terms.{terms_after, update_of}
use Rattle.tv_linear.proofs.RowValues.{value-constant_row}
use Rattle.tv_linear.proofs.PlainLists.{length-table}
use Rattle.tv_program.specs.Steps.{State}
use Rattle.tv_cases.specs.LinearCases.{CaseSystem, CaseSteps}
use Rattle.tv_program.specs.Runs.{IsRun, last_of}
use Rattle.tv_candidates.specs.declared.candidate.Candidate.{Candidate}
use Rattle.tv_candidates.specs.Inductive.{MeetsAll, IsInductive}
use Rattle.tv_candidates.specs.Offered.{candidate}
use Rattle.tv_candidates.specs.Laws.{HoldsOnRuns, HasFalseRow, IsNeverReached}

counted : (about : CaseSystem) (s t : State) → CaseSteps about s t → length t.values ≡ length s.values
counted about s t st =
    ap length st.does.gives ∙ length-map (terms_after (length s.values) st.taken.updates) (term_value (s.values ++ st.draws)) ∙ length-table (length s.values) (update_of st.taken.updates)

along : (about : CaseSystem) (list : List Candidate) → IsInductive about list → (s : State) (run : List State) → length s.values ≡ about.variables → MeetsAll list s → IsRun (CaseSteps about) s run → MeetsAll list (last_of s run)
along about list h s [] even met steps = met
along about list h s (t ∷ run) even met steps = along about list h t run (counted about s t steps.0 ∙ even) (h.kept s t even steps.0 met) steps.1

pub on_runs : (about : CaseSystem) (list : List Candidate) → IsInductive about list → HoldsOnRuns about list
on_runs about list h s run is = along about list h s run is.counted (h.begins s is.place is.counted) is.steps

one_above : (n : ℕ) (xs : List ℤ) → IsMet xs (constant_row n (pos 1)) → ⊥
one_above n xs met = let e = value-constant_row n (pos 1) xs in omega (arith, ints, e, met)

pub never_reached : (about : CaseSystem) (list : List Candidate) (l : ℕ) → IsInductive about list → HasFalseRow about l list → IsNeverReached about l
never_reached about list l h has s run is at =
    one_above about.variables (last_of s run).values (on_runs about list h s run is (candidate l (constant_row about.variables (pos 1))) has at)
