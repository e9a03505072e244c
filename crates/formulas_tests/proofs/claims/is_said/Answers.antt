use Rattle.tv_formula.specs.Formulas.{property_of}
use Rattle.formulas_tests.proofs.ClaimLemmas.{denies_proved}
use Rattle.formulas_tests.proofs.claims.is_said.Goals as goal

pub is_said_of_program-requires-clause-denies : goal.is_said_of_program-requires-clause-denies
is_said_of_program-requires-clause-denies c c' = denies_proved c'.in_ok-claim.claim (property_of c'.in_ok-property.property) c'.in_ok-claim.ensures.of_property
