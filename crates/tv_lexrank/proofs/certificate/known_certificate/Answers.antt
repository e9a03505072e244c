use Rattle.std.proofs.Common.{ap, refl, sym, subst}
use Rattle.tv_formula.specs.Properties.{Property, term}
use Rattle.tv_cases.specs.Systems.{cases_of}
use Rattle.tv_rank.specs.Given.{lists}
use Rattle.tv_lexrank.specs.declared.falling.Fall.{Fall}
use Rattle.tv_lexrank.specs.Certified.{IsRoot}
use Rattle.tv_lexrank.specs.Falling.{HasFall}
use Rattle.tv_lexrank.proofs.CertifiedLemmas.{known_root}
use Rattle.tv_lexrank.proofs.certificate.known_certificate.Goals as goal

pub proved_certificate-requires-clause-root : goal.proved_certificate-requires-clause-root
proved_certificate-requires-clause-root c =
    let about = cases_of c.args.about.now in
    let fall : Fall = record { number = 0; lines = c.new.result } in
    let h = subst (λ t. HasFall fall 0 t c.in_ok-with_fall.field-0) c.tree.ensures.same c.in_ok-with_fall.ensures in
    subst (λ (f : Property). IsRoot about f c.args.node c.in-Some.start) (sym c.requires.ends)
    (subst (IsRoot about term c.args.node) (sym c.in-Some.ensures.1)
    (known_root about c.args.known.now.pieces.items c.args.node fall _ c.in_ok-with_fall.field-0 c.args.about.now.are_cases.starts c.requires.ranked refl (ap lists c.new.ensures.items) c.in-Ok.ensures.covers h))
