use Rattle.std.proofs.Common.{subst, arith}
use Rattle.tv_formula.specs.Formulas.{property_of}
use Rattle.tv_cases.specs.Systems.{cases_of}
use Rattle.tv_cert.specs.Claims.{about_with, shown}
use Rattle.tv_cert.specs.declared.node.Verdict.TheVariants.{Disproved}
use Rattle.tv_shape.specs.Certificates.{IsRefused}
use Rattle.tv_shape.specs.Narrow.{CountNarrow}
use Rattle.tv_shape.specs.declared.fault.ShapeFault.TheVariants.{Shape, Deep}
use Rattle.tv_points.proofs.CertificateLemmas.{is_disproof, no_fault}
use Rattle.tv_points.proofs.certificate.disproved_certificate.Goals as goal

pub unreachable-requires : goal.unreachable-requires
unreachable-requires c =
    let about = cases_of c.args.about.now in
    let verdict = Disproved c.args.piece c.args.values in
    let small : CountNarrow c.args.piece = (let r = c.ranges.piece.fits in omega (arith, r)) in
    no_fault about (property_of c.args.claim.now.denied) c.args.node c.args.piece c.args.values small c.requires.fitted c.requires.inside (Shape c.in-Err-Shape.field-0-0)
    (subst (λ y. IsRefused (about_with about) (shown c.args.claim.now verdict) c.args.node verdict y) c.in-Err-Shape.field-0-is c.in-Err-Shape.ensures)

pub unreachable-requires-in-Err-Deep : goal.unreachable-requires-in-Err-Deep
unreachable-requires-in-Err-Deep c =
    let about = cases_of c.args.about.now in
    let verdict = Disproved c.args.piece c.args.values in
    let small : CountNarrow c.args.piece = (let r = c.ranges.piece.fits in omega (arith, r)) in
    no_fault about (property_of c.args.claim.now.denied) c.args.node c.args.piece c.args.values small c.requires.fitted c.requires.inside (Deep c.in-Err-Deep.field-0-0)
    (subst (λ y. IsRefused (about_with about) (shown c.args.claim.now verdict) c.args.node verdict y) c.in-Err-Deep.field-0-is c.in-Err-Deep.ensures)

pub returns-in-Ok : goal.returns-in-Ok
returns-in-Ok c =
    let about = cases_of c.args.about.now in
    let small : CountNarrow c.args.piece = (let r = c.ranges.piece.fits in omega (arith, r)) in
    is_disproof about (property_of c.args.claim.now.denied) c.args.node c.args.piece c.args.values small c.requires.fitted c.requires.inside c.in-Ok.certificate c.in-Ok.ensures.0 c.in-Ok.ensures.1 c.in-Ok.ensures.2
