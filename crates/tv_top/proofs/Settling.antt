use Rattle.std.proofs.Common.{◌≡◌, ℕ, List}
use Rattle.tv_program.specs.Systems.{System}
use Rattle.tv_formula.specs.Normal.{normal}
use Rattle.tv_formula.specs.Properties.{Property, term}
use Rattle.tv_cases.specs.LinearCases.{CaseSystem}
use Rattle.tv_cert.specs.declared.claim.Claim.{Claim}
use Rattle.tv_cert.specs.declared.node.Verdict.{Verdict}
use Rattle.tv_cert.specs.declared.node.Verdict.TheVariants as verdicts
use Rattle.tv_cert.specs.Claims.{IsClaim}
use Rattle.tv_cert_reader.specs.Wholes.{says}
use Rattle.tv_check_text.specs.declared.text.TextFailing.{TextFailing}
use Rattle.tv_check_text.specs.declared.text.TextFailing.TheVariants as certs
use Rattle.tv_check_text.specs.Verdicts.{values_of}
use Rattle.tv_check_text.specs.Texts.{IsUnaccepted}
use Rattle.tv_sound.specs.Following.{FollowsFrom}
use Rattle.tv_sound.specs.Settled.{IsSettled}
use Rattle.tv_top.specs.declared.answer.Answer.{Answer}
use Rattle.tv_top.specs.declared.answer.Answer.TheVariants.{Proved, Disproved, Obligation, CertificateLine, Words, TooLong, Text, Property as Unnamed, Condition, WideEdge, TooManyInEdge, Unknown, ReadFault, Memory}
use Rattle.tv_top.specs.Answers.{without_certificate}
use Rattle.tv_top.specs.CertificateChecks.{Accepted, IsProved, AnswersCheck, Says, SaysHolds, SaysValues}

-- what a text is answered that is not accepted as a certificate
pub no_certificate : (p : System) (f : Property) (system : CaseSystem) (text : List ℕ) (claim : Claim) → IsClaim claim f → (failing : TextFailing) → IsUnaccepted system claim text failing → AnswersCheck p f system text (without_certificate failing)
no_certificate p f system text claim is (certs.Line kind line) h = record { claim = claim; is_claim = is; kind = kind; at_fault = h }
no_certificate p f system text claim is (certs.Obligation failing) h = (record { claim = claim; is_claim = is; certificate = h.certificate; is_certificate = h.is_text }, h.first)
no_certificate p f system text claim is certs.Memory h = tt

-- the values at which an answer says that the property is disproved
values_so : (p : System) (f : Property) (system : CaseSystem) (text : List ℕ) (accepted : Accepted f system text) (piece : ℕ) (values : _) → accepted.offer.certificate.verdict ≡ verdicts.Disproved piece values → IsSettled p f (verdicts.Disproved piece values)
    → (normal f ≡ term → FollowsFrom p system accepted.offer.certificate.root (verdicts.Disproved piece values)) → (answer : Answer) → SaysValues p values.items answer → AnswersCheck p f system text answer
values_so p f system text accepted piece values is settled along (Disproved at certificate) says =
    (record { accepted = accepted; piece = piece; values = values; says = is; names = says.0; same = says.1; fails = settled; endless = along }, says.2)
values_so p f system text accepted piece values is settled along Memory says = tt
values_so p f system text accepted piece values is settled along (Proved certificate) says = absurd says
values_so p f system text accepted piece values is settled along (Obligation failing) says = absurd says
values_so p f system text accepted piece values is settled along (CertificateLine line) says = absurd says
values_so p f system text accepted piece values is settled along Words says = absurd says
values_so p f system text accepted piece values is settled along TooLong says = absurd says
values_so p f system text accepted piece values is settled along (Text fault) says = absurd says
values_so p f system text accepted piece values is settled along (Unnamed fault) says = absurd says
values_so p f system text accepted piece values is settled along (Condition fault) says = absurd says
values_so p f system text accepted piece values is settled along (WideEdge edge) says = absurd says
values_so p f system text accepted piece values is settled along (TooManyInEdge edge) says = absurd says
values_so p f system text accepted piece values is settled along (Unknown cause) says = absurd says
values_so p f system text accepted piece values is settled along ReadFault says = absurd says

-- the property is proved
holds_so : (p : System) (f : Property) (system : CaseSystem) (text : List ℕ) → IsProved p f system text → (answer : Answer) → SaysHolds answer → AnswersCheck p f system text answer
holds_so p f system text proved (Proved certificate) says = (proved, says)
holds_so p f system text proved (Disproved at certificate) says = absurd says
holds_so p f system text proved Memory says = absurd says
holds_so p f system text proved (Obligation failing) says = absurd says
holds_so p f system text proved (CertificateLine line) says = absurd says
holds_so p f system text proved Words says = absurd says
holds_so p f system text proved TooLong says = absurd says
holds_so p f system text proved (Text fault) says = absurd says
holds_so p f system text proved (Unnamed fault) says = absurd says
holds_so p f system text proved (Condition fault) says = absurd says
holds_so p f system text proved (WideEdge edge) says = absurd says
holds_so p f system text proved (TooManyInEdge edge) says = absurd says
holds_so p f system text proved (Unknown cause) says = absurd says
holds_so p f system text proved ReadFault says = absurd says

-- what is said of a certificate all of whose obligations are met is so
pub said_is_so : (p : System) (f : Property) (system : CaseSystem) (text : List ℕ) (accepted : Accepted f system text) (verdict : Verdict) → accepted.offer.certificate.verdict ≡ verdict → IsSettled p f verdict
    → (normal f ≡ term → FollowsFrom p system accepted.offer.certificate.root verdict) → (answer : Answer) → Says p (says verdict) (values_of verdict) answer → AnswersCheck p f system text answer
said_is_so p f system text accepted (verdicts.Proved start) is settled along answer said =
    holds_so p f system text (record { accepted = accepted; start = start; says = is; holds = settled }) answer said
said_is_so p f system text accepted (verdicts.Disproved piece values) is settled along answer said = values_so p f system text accepted piece values is settled along answer said
