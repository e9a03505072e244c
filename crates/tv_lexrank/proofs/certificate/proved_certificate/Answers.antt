use Rattle.std.proofs.Common.{subst}
use Rattle.tv_formula.specs.Formulas.{property_of}
use Rattle.tv_cases.specs.Systems.{cases_of}
use Rattle.tv_cert.specs.Claims.{about_with, shown}
use Rattle.tv_cert.specs.declared.node.Verdict.TheVariants.{Proved}
use Rattle.tv_shape.specs.Certificates.{IsRefused}
use Rattle.tv_shape.specs.declared.fault.ShapeFault.TheVariants.{Shape, Deep}
use Rattle.tv_lexrank.proofs.CertifiedLemmas.{is_proof, no_fault}
use Rattle.tv_lexrank.proofs.certificate.proved_certificate.Goals as goal

pub unreachable-requires : goal.unreachable-requires
unreachable-requires c =
    let about = cases_of c.args.about.now in
    let tree = c.args.start in
    let x = Shape c.in-Err-Shape.field-0-0 in
    no_fault about (property_of c.args.claim.now.proved) c.args.node tree c.requires.root x
    (subst (λ y. IsRefused (about_with about) (shown c.args.claim.now (Proved tree)) c.args.node (Proved tree) y) c.in-Err-Shape.field-0-is c.in-Err-Shape.ensures)

pub unreachable-requires-in-Err-Deep : goal.unreachable-requires-in-Err-Deep
unreachable-requires-in-Err-Deep c =
    let about = cases_of c.args.about.now in
    let tree = c.args.start in
    let x = Deep c.in-Err-Deep.field-0-0 in
    no_fault about (property_of c.args.claim.now.proved) c.args.node tree c.requires.root x
    (subst (λ y. IsRefused (about_with about) (shown c.args.claim.now (Proved tree)) c.args.node (Proved tree) y) c.in-Err-Deep.field-0-is c.in-Err-Deep.ensures)

pub returns-in-Ok : goal.returns-in-Ok
returns-in-Ok c =
    let about = cases_of c.args.about.now in
    is_proof about (property_of c.args.claim.now.proved) c.args.node c.args.start c.requires.root c.in-Ok.certificate c.in-Ok.ensures.0 c.in-Ok.ensures.1 c.in-Ok.ensures.2
