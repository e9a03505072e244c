-- Certificates of a formula.
use Rattle.std.specs.Prelude.{◌≡◌, ◌⊎◌, ◌<◌, ◌≤◌, ◌^◌, length}
use Rattle.tv_formula.specs.Properties.{Property}
use Rattle.tv_cases.specs.LinearCases.{CaseSystem}
use Rattle.tv_cert.specs.declared.claim.Claim.{Claim}
use Rattle.tv_cert.specs.declared.node.Node.{Node}
use Rattle.tv_cert.specs.declared.node.Verdict.{Verdict}
use Rattle.tv_cert.specs.Claims.{about_with, shown}
use Rattle.tv_cert.specs.Nodes.{size, obligations}
use Rattle.tv_cert.specs.Obligations.{About, AllMet}
use Rattle.tv_cert.specs.Statements.{stated}
use Rattle.tv_shape.specs.Fitting.{Fits, IsFirstFault}
use Rattle.tv_shape.specs.Kinds.{kinds_stated}
use Rattle.tv_shape.specs.declared.certificate.Certificate.{Certificate}
use Rattle.tv_shape.specs.declared.fault.ShapeFault.{ShapeFault}
use Rattle.tv_shape.specs.declared.fault.ShapeFault.TheVariants as fault

-- The certificate fits the formula, and says what its kinds are and how many obligations it has. Its nodes and its obligations can
-- be numbered by 32 and 64 bits.
pub record IsOf (about : About) (f : Property) (c : Certificate) : Type 0 where
  pub fits : Fits about f c.root c.verdict
  pub named : c.kinds.items ≡ kinds_stated (stated about.tests f)
  pub counted : c.obligations ≡ length (obligations about f c.root c.verdict)
  pub few_nodes : size c.root < 2 ^ 32
  pub few_obligations : length (obligations about f c.root c.verdict) < 2 ^ 64

-- Why there is no certificate: the first fault; or there are 2^32 nodes or more, or they fit, and memory or 64 bits did not do.
abbrev pub IsRefused : About → Property → Node → Verdict → ShapeFault → Type 0
IsRefused about f root verdict (fault.Shape n) = IsFirstFault about f root verdict (fault.Shape n)
IsRefused about f root verdict (fault.Deep n) = IsFirstFault about f root verdict (fault.Deep n)
IsRefused about f root verdict fault.Memory = (2 ^ 32 ≤ size root) ⊎ Fits about f root verdict

-- the certificate is one of what is claimed, or of its denial, as its verdict says, and all its obligations are met
pub record IsSettling (about : CaseSystem) (claim : Claim) (c : Certificate) : Type 0 where
  pub of : IsOf (about_with about) (shown claim c.verdict) c
  pub met : AllMet (obligations (about_with about) (shown claim c.verdict) c.root c.verdict)
