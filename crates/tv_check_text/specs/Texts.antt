-- The texts of certificates all of whose obligations are met, and why a text is none.
use Rattle.std.specs.Prelude.{◌≡◌, ℕ, ℤ, List, Option}
use Rattle.std.specs.Global.{Vec}
use Rattle.tv_cases.specs.LinearCases.{CaseSystem}
use Rattle.tv_cert.specs.declared.claim.Claim.{Claim}
use Rattle.tv_cert.specs.Claims.{about_with, shown}
use Rattle.tv_cert.specs.Nodes.{obligations}
use Rattle.tv_cert.specs.Obligations.{Entry, AllMet}
use Rattle.tv_shape.specs.declared.certificate.Certificate.{Certificate}
use Rattle.tv_cert_reader.specs.declared.failure.Failure.{Failure}
use Rattle.tv_cert_reader.specs.declared.failure.Failure.TheVariants as failures
use Rattle.tv_cert_reader.specs.Texts.{IsCertificateText, IsAtFault}
use Rattle.tv_cert_reader.specs.Wholes.{says}
use Rattle.tv_cert.specs.declared.failing.Failing.{Failing}
use Rattle.tv_cert.specs.FirstFailing.{IsFirstFailing}
use Rattle.tv_check_text.specs.declared.text.Accepted.{Accepted}
use Rattle.tv_check_text.specs.declared.text.TextFailing.{TextFailing}
use Rattle.tv_check_text.specs.declared.text.TextFailing.TheVariants.{Line, Obligation, Memory}
use Rattle.tv_check_text.specs.Verdicts.{is_proved, values_in, values_of}

-- the obligations of the certificate, with their proofs
abbrev pub owed : CaseSystem → Claim → Certificate → List Entry
owed system claim c = obligations (about_with system) (shown claim c.verdict) c.root c.verdict

-- the text is that of a certificate all of whose obligations are met, and this is what it says
pub record IsAcceptedText (system : CaseSystem) (claim : Claim) (text : List ℕ) (a : Accepted) : Type 0 where
  pub certificate : Certificate
  pub is_text : IsCertificateText system claim text certificate
  pub met : AllMet (owed system claim certificate)
  pub proved : a.proved ≡ says certificate.verdict
  pub at_values : a.values.items ≡ values_of certificate.verdict
  pub counted : a.obligations ≡ certificate.obligations

-- the text is that of a certificate, and this is the first of its obligations that is not met
pub record FailsFirst (system : CaseSystem) (claim : Claim) (text : List ℕ) (f : Failing) : Type 0 where
  pub certificate : Certificate
  pub is_text : IsCertificateText system claim text certificate
  pub first : IsFirstFailing (owed system claim certificate) 0 f

-- why the text is not accepted; want of memory says nothing of it
abbrev pub IsUnaccepted : CaseSystem → Claim → List ℕ → TextFailing → Type 0
IsUnaccepted system claim text (Line kind number) = IsAtFault system claim text kind number
IsUnaccepted system claim text (Obligation f) = FailsFirst system claim text f
IsUnaccepted system claim text Memory = Unit {0}

-- why a text is not accepted that is not read to its end
abbrev pub failing_of : Failure → TextFailing
failing_of (failures.Fault kind number) = Line kind number
failing_of failures.Memory = Memory

-- what is accepted with these values at which it is disproved, if it is
pub record IsAcceptedWith (values : Option (Vec ℤ)) (count : ℕ) (a : Accepted) : Type 0 where
  pub proved : a.proved ≡ is_proved values
  pub at_values : a.values.items ≡ values_in values
  pub counted : a.obligations ≡ count
