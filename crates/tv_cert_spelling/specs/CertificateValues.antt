-- Certificates, apart from where they lie in memory.
use Rattle.std.specs.Prelude.{ℕ, ℤ, List}
use Rattle.tv_lines.specs.declared.head.NodeKind.{NodeKind}
use Rattle.tv_cert.specs.declared.node.Verdict.{Verdict}
use Rattle.tv_cert.specs.declared.node.Verdict.TheVariants.{Proved, Disproved}
use Rattle.tv_shape.specs.declared.certificate.Certificate.{Certificate}
use Rattle.tv_cert_spelling.specs.CoverValues.{CoverValue, cover_value}
use Rattle.tv_cert_spelling.specs.NodeValues.{NodeValue, node_value}

pub data VerdictValue : Type 0 where
  -- a cover of the start
  proved : CoverValue → VerdictValue
  -- a piece at the start, and the values
  disproved : ℕ → List ℤ → VerdictValue

abbrev pub verdict_value : Verdict → VerdictValue
verdict_value (Proved tree) = proved (cover_value tree)
verdict_value (Disproved k values) = disproved k values.items

-- a certificate: what it says, its nodes, their kinds, and how many obligations it has
pub record CertificateValue : Type 0 where
  pub verdict : VerdictValue
  pub root : NodeValue
  pub kinds : List NodeKind
  pub obligations : ℕ

abbrev pub certificate_value : Certificate → CertificateValue
certificate_value c = record { verdict = verdict_value c.verdict; root = node_value c.root; kinds = c.kinds.items; obligations = c.obligations }
