-- What is claimed of a program, and what a certificate of it shows.
use Rattle.std.specs.Prelude.{◌≡◌, ℕ}
use Rattle.tv_formula.specs.Formulas.{property_of, variables_of, locations_of}
use Rattle.tv_formula.specs.Normal.{normal, negation}
use Rattle.tv_formula.specs.Properties.{Property}
use Rattle.tv_cases.specs.Comparisons.{comparison_lists}
use Rattle.tv_cases.specs.LinearCases.{CaseSystem}
use Rattle.tv_cert.specs.declared.claim.Claim.{Claim}
use Rattle.tv_cert.specs.declared.node.Verdict.{Verdict}
use Rattle.tv_cert.specs.declared.node.Verdict.TheVariants.{Proved, Disproved}
use Rattle.tv_cert.specs.Obligations.{About}

-- what a certificate is about whose comparisons have the rows of assumptions
abbrev pub about_with : CaseSystem → About
about_with system = record { system = system; tests = comparison_lists system.variables }

-- how many variables and locations a claim speaks of
abbrev pub claim_variables : Claim → ℕ
claim_variables c = variables_of c.proved

abbrev pub claim_locations : Claim → ℕ
claim_locations c = locations_of c.proved

-- what the root of a certificate with this verdict shows
abbrev pub shown : Claim → Verdict → Property
shown c (Proved start) = property_of c.proved
shown c (Disproved piece values) = property_of c.denied

-- the claim is of this property: it is proved by its normal form, and denied by its negation
pub record IsClaim (c : Claim) (f : Property) : Type 0 where
  pub proved : property_of c.proved ≡ normal f
  pub denied : property_of c.denied ≡ negation f
