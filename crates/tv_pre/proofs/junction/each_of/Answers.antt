use Rattle.std.proofs.Common.{map, refl, get_or, false}
use Rattle.tv_formula.specs.Properties.{all_of}
use Rattle.tv_cases.specs.Systems.{cases_of}
use Rattle.tv_cert.specs.NodeViews.{pieces_list}
use Rattle.tv_region.specs.StepRegions.{InState}
use Rattle.tv_pre.specs.Around.{AreKids}
use Rattle.tv_pre.specs.Making.{plain_pieces}
use Rattle.tv_pre.proofs.NodeLemmas.{part_made, are_kids}
use Rattle.tv_pre.proofs.PieceLemmas.{each_piece, zip_plain}
use Rattle.tv_pre.proofs.junction.each_of.Goals as goal

pub plain_part-requires-clause-of : goal.plain_part-requires-clause-of
plain_part-requires-clause-of c k d l =
    let about = cases_of c.args.setting.now.about.now in
    let qs = c.args.region.pieces.items in
    (c.requires.over.pieces k d l, λ i e m. (c.requires.regions i e m, each_piece about qs (InState (get_or c.args.regions.now i e)) c.requires.over.pieces (c.requires.inside i e m) k d l))

pub returns-in-Ok-clause-part : goal.returns-in-Ok-clause-part
returns-in-Ok-clause-part c fs below =
    let about = cases_of c.args.setting.now.about.now in
    let region = c.args.region in
    let plain = plain_pieces about.variables region in
    let kids = map pieces_list c.args.children.items in
    let h = c.in-Ok.ensures.plain in
    part_made about (all_of fs) region c.in-Ok.part.node 0 plain c.args.regions.now c.args.children.items h.proofs (h.made false) tt (λ e. refl) below
    (λ number. h.offers (record { number = number; pieces = plain; kids = kids }) (zip_plain about region (AreKids kids c.args.regions.now) (are_kids about fs c.args.regions.now c.args.children.items below)))
