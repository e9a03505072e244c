-- What an answer says of a certificate's text.
use Rattle.std.specs.Prelude.{◌≡◌, ℕ, ℤ, Bool, true, false, List, [], Vec}
use Rattle.std.specs.Global.{Global}
use Rattle.tv_linear.specs.declared.cover.Cover.{Cover}
use Rattle.tv_program.specs.Systems.{System}
use Rattle.tv_formula.specs.Normal.{normal}
use Rattle.tv_formula.specs.Properties.{Property, term}
use Rattle.tv_meaning.specs.Meaning.{HoldsInitially}
use Rattle.tv_cases.specs.LinearCases.{CaseSystem}
use Rattle.tv_cert.specs.declared.claim.Claim.{Claim}
use Rattle.tv_cert.specs.declared.node.Verdict.TheVariants as verdicts
use Rattle.tv_cert.specs.Claims.{IsClaim}
use Rattle.tv_cert.specs.Obligations.{AllMet}
use Rattle.tv_cert_reader.specs.declared.kind.LineKind.{LineKind}
use Rattle.tv_cert_reader.specs.Texts.{IsCertificateText, IsAtFault}
use Rattle.tv_check_text.specs.Texts.{owed}
use Rattle.tv_cert.specs.FirstFailing.{IsFirstFailing}
use Rattle.tv_shape.specs.declared.certificate.Certificate.{Certificate}
use Rattle.tv_sound.specs.Following.{Follows}
use Rattle.tv_sound.specs.Settled.{FailsAt}
use Rattle.tv_top.specs.declared.answer.Answer.{Answer}
use Rattle.tv_top.specs.declared.answer.Answer.TheVariants as answers
use Rattle.tv_top.specs.declared.assignment.Assignment.{Assignment}

-- the text is one of this certificate, of the property over the cases
pub record Offered (f : Property) (system : CaseSystem) (text : List ℕ) : Type 0 where
  pub claim : Claim
  pub is_claim : IsClaim claim f
  pub certificate : Certificate
  pub is_certificate : IsCertificateText system claim text certificate

-- every obligation of the certificate is met
pub record Accepted (f : Property) (system : CaseSystem) (text : List ℕ) : Type 0 where
  pub offer : Offered f system text
  pub met : AllMet (owed system offer.claim offer.certificate)

-- the certificate says that the property is proved, and it holds at every initial state of the program, over all runs
pub record IsProved (p : System) (f : Property) (system : CaseSystem) (text : List ℕ) : Type 0 where
  pub accepted : Accepted f system text
  pub start : Cover
  pub says : accepted.offer.certificate.verdict ≡ verdicts.Proved start
  pub holds : HoldsInitially p f

-- The certificate says that the property is disproved at these values of the program's variables: at them an initial state is, at which
-- the property fails. Where its normal form is `term`, the choices of the certificate lead from there along an endless run.
pub record IsDisproved (p : System) (f : Property) (system : CaseSystem) (text : List ℕ) (at : Assignment) : Type 0 where
  pub accepted : Accepted f system text
  pub piece : ℕ
  pub values : Vec ℤ Global
  pub says : accepted.offer.certificate.verdict ≡ verdicts.Disproved piece values
  pub names : at.names ≡ p.variables
  pub same : at.values.items ≡ values.items
  pub fails : FailsAt p f (record { location = p.start; values = values.items })
  pub endless : normal f ≡ term → Follows p system accepted.offer.certificate.root piece values.items

-- the text is that of no certificate of the property, and this line is reported
pub record IsNoCertificate (f : Property) (system : CaseSystem) (text : List ℕ) (line : ℕ) : Type 0 where
  pub claim : Claim
  pub is_claim : IsClaim claim f
  pub kind : LineKind
  pub at_fault : IsAtFault system claim text kind line

-- What the answer says of the text, as a certificate of the property f of the program p over its cases.
abbrev pub AnswersCheck : System → Property → CaseSystem → List ℕ → Answer → Type 0
AnswersCheck p f system text (answers.Proved certificate) = IsProved p f system text × (certificate.items ≡ [])
AnswersCheck p f system text (answers.Disproved at certificate) = IsDisproved p f system text at × (certificate.items ≡ [])
AnswersCheck p f system text (answers.Obligation failing) = (offer : Offered f system text) × IsFirstFailing (owed system offer.claim offer.certificate) 0 failing
AnswersCheck p f system text (answers.CertificateLine line) = IsNoCertificate f system text line
AnswersCheck p f system text answers.Memory = Unit {0}
AnswersCheck p f system text answer = ⊥

-- the answer says that these are the values of the program's variables, or memory runs out
abbrev pub SaysValues : System → List ℤ → Answer → Type 0
SaysValues p values (answers.Disproved at certificate) = (at.names ≡ p.variables) × (at.values.items ≡ values) × (certificate.items ≡ [])
SaysValues p values answers.Memory = Unit {0}
SaysValues p values answer = ⊥

-- the answer says that the property is proved, and no certificate is written
abbrev pub SaysHolds : Answer → Type 0
SaysHolds (answers.Proved certificate) = certificate.items ≡ []
SaysHolds answer = ⊥

-- the answer says what is accepted: that the property is proved, or else that it is disproved at these values
abbrev pub Says : System → Bool → List ℤ → Answer → Type 0
Says p true values answer = SaysHolds answer
Says p false values answer = SaysValues p values answer
