use Rattle.std.proofs.Common.{subst}
use Rattle.tv_cases.specs.Systems.{cases_of}
use Rattle.tv_cert.specs.Claims.{about_with, shown}
use Rattle.tv_shape.specs.Certificates.{IsRefused}
use Rattle.tv_shape.specs.declared.fault.ShapeFault.TheVariants.{Shape, Deep}
use Rattle.tv_shape.proofs.FaultLemmas.{unfit}
use Rattle.tv_cert_reader.proofs.read.certified.Goals as goal

pub unreachable-requires : goal.unreachable-requires
unreachable-requires c =
    let about = about_with (cases_of c.args.about.now) in
    let f = shown c.args.claim.now c.args.verdict in
    unfit about f c.args.root c.args.verdict (Shape c.in-Err-Shape.field-0-0) (subst (λ x. IsRefused about f c.args.root c.args.verdict x) c.in-Err-Shape.field-0-is c.in-Err-Shape.ensures) c.requires.fits

pub unreachable-requires-in-Err-Deep : goal.unreachable-requires-in-Err-Deep
unreachable-requires-in-Err-Deep c =
    let about = about_with (cases_of c.args.about.now) in
    let f = shown c.args.claim.now c.args.verdict in
    unfit about f c.args.root c.args.verdict (Deep c.in-Err-Deep.field-0-0) (subst (λ x. IsRefused about f c.args.root c.args.verdict x) c.in-Err-Deep.field-0-is c.in-Err-Deep.ensures) c.requires.fits
