use Rattle.std.proofs.Common.{arith}
use Rattle.tv_fraction.proofs.LowestTerms.{gcd_above, lowest_same, lowest_above, lowest_coprime, coprime_gcd}
use Rattle.tv_fraction.proofs.reduction.lowest_terms.Goals as goal

pub nonzero_div-result : goal.nonzero_div-result
nonzero_div-result c = gcd_above _ _ _ c.requires c.gcd-common.ensures

pub nonzero_div-result-2 : goal.nonzero_div-result-2
nonzero_div-result-2 c = gcd_above _ _ _ c.requires c.gcd-common.ensures

pub returns-clause-same_ratio : goal.returns-clause-same_ratio
returns-clause-same_ratio c = lowest_same _ _ _ c.gcd-common.ensures

pub returns-clause-positive : goal.returns-clause-positive
returns-clause-positive c = lowest_above _ _ _ c.requires c.gcd-common.ensures

pub returns-clause-coprime : goal.returns-clause-coprime
returns-clause-coprime c = lowest_coprime _ _ _ c.requires c.gcd-common.ensures

pub returns-then-common-eq1-clause-coprime : goal.returns-then-common-eq1-clause-coprime
returns-then-common-eq1-clause-coprime c = coprime_gcd c.args.a c.args.b c.gcd-common.result c.gcd-common.ensures (omega arith)
