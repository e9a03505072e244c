-- What a text says that is accepted as a certificate of what is claimed of a program.
use Rattle.std.specs.Prelude.{◌≡◌, ℕ, List}
use Rattle.tv_program.specs.Systems.{System}
use Rattle.tv_formula.specs.Normal.{normal}
use Rattle.tv_formula.specs.Properties.{Property, term}
use Rattle.tv_cases.specs.LinearCases.{CaseSystem}
use Rattle.tv_cert.specs.declared.claim.Claim.{Claim}
use Rattle.tv_cert.specs.Claims.{IsClaim}
use Rattle.tv_check_text.specs.declared.text.Accepted.{Accepted}
use Rattle.tv_check_text.specs.Texts.{IsAcceptedText}
use Rattle.tv_sound.specs.Following.{FollowsFrom}
use Rattle.tv_sound.specs.Settled.{IsSettled}

-- Its obligations are met, and what it says is so. Where it says that not all runs end, its choices lead along an endless run.
pub record IsAcceptedClaim (p : System) (system : CaseSystem) (claim : Claim) (text : List ℕ) (a : Accepted) : Type 0 where
  pub accepted : IsAcceptedText system claim text a
  pub settled : (f : Property) → IsClaim claim f → IsSettled p f accepted.certificate.verdict
  pub followed : (f : Property) → IsClaim claim f → normal f ≡ term → FollowsFrom p system accepted.certificate.root accepted.certificate.verdict
