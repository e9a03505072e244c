-- Want of memory is never the fault of a system that a refusal names.
use Rattle.std.proofs.Common.{ℕ, List}
use Rattle.tv_linear.specs.declared.region.Piece.{Piece}
use Rattle.tv_cases.specs.LinearCases.{CaseSystem}
use Rattle.tv_simplex.specs.declared.fault.SolveFault.TheVariants.{Memory}
use Rattle.tv_farkas.specs.declared.budget.Budget.{Budget}
use Rattle.tv_rank.specs.declared.name.Name.{Name}
use Rattle.tv_rank.specs.declared.name.Name.TheVariants as name
use Rattle.tv_lexrank.specs.declared.fault.RankFault.TheVariants.{Solve}
use Rattle.tv_lexrank.specs.Parts.{NamesPart}
use Rattle.tv_lexrank.specs.First.{RefusesFirst}
use Rattle.tv_lexrank.specs.Outcomes.{Refuses}

part_has_memory : (about : CaseSystem) (known : List Piece) (numbers : List ℕ) (component pivots : ℕ) (system : Name) → NamesPart about known numbers component pivots system Memory → ⊥
part_has_memory about known numbers component pivots (name.Empty k) h = h.3
part_has_memory about known numbers component pivots (name.Rank c round falling) (set, taken, named) = (let r = named.2 in let f = r.falls in f.refuses)
part_has_memory about known numbers component pivots (name.Rows rows) (have, asked) = asked.4
part_has_memory about known numbers component pivots (name.Later s falling) (set, taken, named) = (let r = named.1 in let f = r.2 in f.refuses)

pub first_has_memory : (about : CaseSystem) (pivots : ℕ) (system : Name) → RefusesFirst about pivots (Solve system Memory) → ⊥
first_has_memory about pivots system (numbers, known, are, bare, attempt) = part_has_memory about known numbers attempt.0 pivots system attempt.1

pub known_has_memory : (about : CaseSystem) (known : List Piece) (budget : Budget) (system : Name) → Refuses about known budget (Solve system Memory) → ⊥
known_has_memory about known budget system (numbers, are, attempt) = part_has_memory about known numbers attempt.0 budget.pivots system attempt.1
