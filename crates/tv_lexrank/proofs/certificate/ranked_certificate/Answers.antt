use Rattle.std.proofs.Common.{sym, subst}
use Rattle.tv_formula.specs.Properties.{Property}
use Rattle.tv_cases.specs.Systems.{cases_of}
use Rattle.tv_lexrank.specs.Certified.{IsRoot}
use Rattle.tv_lexrank.proofs.CertifiedLemmas.{whole_root}
use Rattle.tv_lexrank.proofs.certificate.ranked_certificate.Goals as goal

pub proved_certificate-requires-clause-root : goal.proved_certificate-requires-clause-root
proved_certificate-requires-clause-root c =
    subst (λ (f : Property). IsRoot (cases_of c.args.about.now) f c.args.node c.whole_cover-start.result) (sym c.requires.ends)
    (whole_root (cases_of c.args.about.now) c.args.node c.whole_cover-start.result c.args.about.now.are_cases.starts c.requires.ranked c.whole_cover-start.ensures)
