use Rattle.tv_cert_spelling.proofs.ToldCertificates.{same_claimed}
use Rattle.tv_cert_spelling.proofs.laws.same_lines_of_one_claim.Goals as goal

pub returns : goal.returns
returns c = same_claimed
