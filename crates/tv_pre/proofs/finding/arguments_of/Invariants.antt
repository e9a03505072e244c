use Rattle.std.specs.List.{AllZip}
use Rattle.tv_cases.specs.LinearCases.{CaseSystem}
use Rattle.tv_cert.specs.Statements.{Statement}
use Rattle.std.specs.Prelude.{◌≡◌, ◌++◌, ℕ, List, map}
use Rattle.tv_pre.specs.Finding.{IsFound}
use Rattle.tv_pre.proofs.ArgumentLemmas.{IsTaken}
use Rattle.tv_pre.proofs.finding.arguments_of.Given as goal

abbrev pub invariant-founds : goal.invariant-founds
invariant-founds l =
    ((about : CaseSystem) (last : ℕ) (ss : List Statement) → AllZip (IsFound about last) ss l.fn.founds.items → IsTaken about last ss l.found-iterator.rest.items l.arguments)
    × (map (λ found. found.part.region) l.fn.founds.items ≡ l.arguments.regions.items ++ map (λ found. found.part.region) l.found-iterator.rest.items)
