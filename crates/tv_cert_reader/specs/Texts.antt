-- The texts of certificates, and why a text is none.
use Rattle.std.specs.Prelude.{◌≡◌, ℕ, List}
use Rattle.tv_lines.specs.Lines.{lines_of}
use Rattle.tv_formula.specs.Formulas.{property_of}
use Rattle.tv_cases.specs.Comparisons.{comparison_lists}
use Rattle.tv_cases.specs.LinearCases.{CaseSystem}
use Rattle.tv_cert.specs.declared.claim.Claim.{Claim}
use Rattle.tv_cert.specs.Claims.{about_with, claim_variables, shown}
use Rattle.tv_cert.specs.Statements.{stated}
use Rattle.tv_cert_reader.specs.CertificateLines.{lines_about}
use Rattle.tv_shape.specs.declared.certificate.Certificate.{Certificate}
use Rattle.tv_shape.specs.Certificates.{IsOf}
use Rattle.tv_cert_reader.specs.declared.kind.LineKind.{LineKind}
use Rattle.tv_cert_reader.specs.CertificateGrammar.{Sides, IsFirstFault}
use Rattle.tv_cert_reader.specs.declared.failure.Failure.{Failure}
use Rattle.tv_cert_reader.specs.declared.failure.Failure.TheVariants.{Fault, Memory}

-- The text is one of the certificate: its lines are the lines of the certificate, which fits the cases and what is claimed.
pub record IsCertificateText (system : CaseSystem) (claim : Claim) (text : List ℕ) (c : Certificate) : Type 0 where
  pub lines : lines_of text ≡ lines_about (about_with system) (shown claim c.verdict) c
  pub is : IsOf (about_with system) (shown claim c.verdict) c

-- the text is one of no certificate
abbrev pub IsOfNone : CaseSystem → Claim → List ℕ → Type 0
IsOfNone system claim text = (c : Certificate) → IsCertificateText system claim text c → ⊥

-- what a certificate of the claim may be of
abbrev pub sides_of : Claim → Sides
sides_of claim = record { proved = stated (comparison_lists (claim_variables claim)) (property_of claim.proved); denied = stated (comparison_lists (claim_variables claim)) (property_of claim.denied) }

-- the text is one of no certificate, and this is the first line at fault
pub record IsAtFault (system : CaseSystem) (claim : Claim) (text : List ℕ) (k : LineKind) (number : ℕ) : Type 0 where
  pub none : IsOfNone system claim text
  pub first : IsFirstFault system (sides_of claim) (lines_of text) k number

-- why the text is refused; want of memory says nothing of it
abbrev pub IsRefusedText : CaseSystem → Claim → List ℕ → Failure → Type 0
IsRefusedText system claim text (Fault kind number) = IsAtFault system claim text kind number
IsRefusedText system claim text Memory = Unit {0}
