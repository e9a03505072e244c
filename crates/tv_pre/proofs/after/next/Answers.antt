use Rattle.std.proofs.Common.{map, refl, false, [], ◌∷◌}
use Rattle.tv_formula.specs.Properties as props
use Rattle.tv_cases.specs.Systems.{cases_of}
use Rattle.tv_cert.specs.NodeViews.{pieces_list}
use Rattle.tv_cert.specs.Obligations.{first_of}
use Rattle.tv_region.specs.StepRegions.{InState}
use Rattle.tv_pre.specs.Pieces.{AreMarked}
use Rattle.tv_pre.specs.Inclusions.{LeadsTo}
use Rattle.tv_pre.specs.Making.{plain_pieces}
use Rattle.tv_pre.proofs.NodeLemmas.{part_made, are_kids}
use Rattle.tv_pre.proofs.PieceLemmas.{each_piece, zip_plain}
use Rattle.tv_pre.proofs.ShapeLemmas.{next_owed, first_marked}
use Rattle.tv_pre.proofs.after.next.Goals as goal

pub plain_part-requires-clause-of : goal.plain_part-requires-clause-of
plain_part-requires-clause-of c k d l =
    let about = cases_of c.args.setting.now.about.now in
    (c.requires.over.pieces k d l, c.requires.child, each_piece about c.args.region.pieces.items (LeadsTo about c.args.path (InState c.args.child.now)) c.requires.over.pieces c.requires.leads k d l)

pub returns-in-Ok-clause-part : goal.returns-in-Ok-clause-part
returns-in-Ok-clause-part c f below =
    let about = cases_of c.args.setting.now.about.now in
    let region = c.args.region in
    let plain = plain_pieces about.variables region in
    let child = c.args.child.now in
    let nodes = c.args.children.items in
    let kids = map pieces_list nodes in
    let h = c.in-Ok.ensures.plain in
    part_made about (props.next c.args.path f) region c.in-Ok.part.node 0 plain (child ∷ []) nodes h.proofs (h.made false) tt (λ e. refl) below
    (λ number. next_owed about number c.args.path f plain plain kids h.proofs
    (h.offers (record { number = number; pieces = plain; kids = kids }) (zip_plain about region (AreMarked (first_of kids) child.pieces.items) (first_marked kids child [] (are_kids about (props.more f props.none) (child ∷ []) nodes below)))))
