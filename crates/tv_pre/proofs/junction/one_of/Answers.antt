use Rattle.std.proofs.Common.{map, refl, false}
use Rattle.tv_formula.specs.Properties.{some_of}
use Rattle.tv_cases.specs.Systems.{cases_of}
use Rattle.tv_cert.specs.NodeViews.{pieces_list}
use Rattle.std.specs.List.{flat_map}
use Rattle.tv_pre.specs.Parts.{joined_pieces}
use Rattle.tv_pre.specs.Pieces.{AreMarked, InPieces}
use Rattle.tv_pre.specs.Making.{plain_pieces}
use Rattle.tv_pre.proofs.NodeLemmas.{part_made, are_kids}
use Rattle.tv_pre.proofs.PieceLemmas.{each_piece, zip_plain, joined_over, joined_marked}
use Rattle.tv_pre.proofs.junction.one_of.Goals as goal

pub plain_part-requires-clause-of : goal.plain_part-requires-clause-of
plain_part-requires-clause-of c k d l =
    let about = cases_of c.args.setting.now.about.now in
    let qs = c.args.region.pieces.items in
    let joined = joined_pieces c.args.regions.now in
    (c.requires.over.pieces k d l, joined_over about c.args.regions.now c.requires.regions, each_piece about qs (InPieces joined) c.requires.over.pieces c.requires.inside k d l)

pub returns-in-Ok-clause-part : goal.returns-in-Ok-clause-part
returns-in-Ok-clause-part c fs below =
    let about = cases_of c.args.setting.now.about.now in
    let region = c.args.region in
    let plain = plain_pieces about.variables region in
    let kids = map pieces_list c.args.children.items in
    let joined = joined_pieces c.args.regions.now in
    let h = c.in-Ok.ensures.plain in
    part_made about (some_of fs) region c.in-Ok.part.node 0 plain c.args.regions.now c.args.children.items h.proofs (h.made false) tt (λ e. refl) below
    (λ number. h.offers (record { number = number; pieces = plain; kids = kids })
    (zip_plain about region (AreMarked (flat_map (λ kid. kid) kids) joined) (joined_marked kids c.args.regions.now (are_kids about fs c.args.regions.now c.args.children.items below))))
