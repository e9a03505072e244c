use Rattle.std.proofs.Common.{refl, sym, ◌∙◌}
use Rattle.tv_cert.specs.Claims.{about_with, shown}
use Rattle.tv_cert_reader.specs.CertificateLines.{lines_about}
use Rattle.tv_cert_spelling.specs.Spelling.{all_spelled}
use Rattle.tv_cert_spelling.proofs.Again.{written_again}
use Rattle.tv_cert_spelling.proofs.ToldCertificates.{same_claimed}
use Rattle.tv_cert_spelling.proofs.laws.written_is_read.Goals as goal

pub returns-clause-read : goal.returns-clause-read
returns-clause-read v system claim c h = record {
  lines = written_again (about_with system) (shown claim c.verdict) c h (all_spelled (lines_about (about_with system) (shown claim c.verdict) c)) refl;
  is = h;
}

pub returns-clause-equal : goal.returns-clause-equal
returns-clause-equal v system claim c d h g =
    let written = written_again (about_with system) (shown claim c.verdict) c h (all_spelled (lines_about (about_with system) (shown claim c.verdict) c)) refl in
    same_claimed (about_with system) claim d c g.is h (sym g.lines ∙ written)
