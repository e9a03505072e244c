-- What a claim denies.
use Rattle.std.proofs.Common.{◌≡◌, ◌∙◌, ap, sym}
use Rattle.tv_formula.specs.Formulas.{property_of}
use Rattle.tv_formula.specs.Normal.{negation}
use Rattle.tv_formula.specs.Properties.{Property}
use Rattle.tv_cert.specs.declared.claim.Claim.{Claim}
use Rattle.tv_cert.specs.Claims.{IsClaim}
use Rattle.tv_pre.proofs.NegationLemmas.{negation_of_normal}

-- a claim of a property denies what it proves
pub denies_proved : (claim : Claim) (f : Property) → IsClaim claim f → property_of claim.denied ≡ negation (property_of claim.proved)
denies_proved claim f is = is.denied ∙ sym (negation_of_normal f) ∙ ap negation (sym is.proved)
