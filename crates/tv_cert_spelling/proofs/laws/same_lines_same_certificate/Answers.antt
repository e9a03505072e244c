use Rattle.tv_cert_spelling.proofs.ToldCertificates.{same_certificate}
use Rattle.tv_cert_spelling.proofs.laws.same_lines_same_certificate.Goals as goal

pub returns : goal.returns
returns c = same_certificate
