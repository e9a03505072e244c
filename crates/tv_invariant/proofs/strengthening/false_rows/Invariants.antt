use Rattle.std.proofs.Common.{◌≡◌, pos}
use Rattle.tv_linear.specs.Arithmetic.{constant_row}
use Rattle.tv_linear.specs.Terms.{table}
use Rattle.tv_cases.specs.Systems.{cases_of}
use Rattle.tv_candidates.specs.Offered.{candidate}
use Rattle.tv_invariant.proofs.strengthening.false_rows.Given as goal

abbrev pub invariant-locations : goal.invariant-locations
invariant-locations l = l.list.items ≡ table l.location (λ k. candidate k (constant_row (cases_of l.fn.about).variables (pos 1)))
