use Rattle.std.proofs.Common.{◌<◌, [], ◌∷◌, List, length, get_or, map, false, refl, sym, subst}
use Rattle.std.specs.List.{AllZip, flat_map}
use Rattle.tv_formula.specs.declared.tree.Path.TheVariants.{Any}
use Rattle.tv_formula.specs.Properties.{term, negated, none}
use Rattle.tv_linear.specs.declared.region.Piece.{Piece}
use Rattle.tv_cases.specs.Systems.{cases_of}
use Rattle.tv_cert.specs.declared.node.Mark.TheVariants.{Go}
use Rattle.tv_cert.specs.declared.node.Marked.{Marked}
use Rattle.tv_cert.specs.Claims.{about_with}
use Rattle.tv_cert.specs.NodeViews.{pieces_list}
use Rattle.tv_cert.specs.Nodes.{piece_of}
use Rattle.tv_region.specs.Regions.{IsPieceOf, IsRegion}
use Rattle.tv_region.specs.StepRegions.{InState}
use Rattle.tv_pre.specs.Around.{Around, next_of}
use Rattle.tv_pre.specs.Inclusions.{OfPiece, LeadsTo}
use Rattle.tv_pre.specs.Making.{plain_pieces}
use Rattle.tv_shape.specs.Made.{Offers}
use Rattle.tv_pre.specs.Parts.{AreParts}
use Rattle.tv_pre.specs.Pieces.{IsMarked, AreMarked}
use Rattle.tv_pre.specs.Questions.{AsksOf, AsksNext}
use Rattle.tv_pre.proofs.AddLemmas.{all_added}
use Rattle.tv_pre.proofs.NodeLemmas.{part_made}
use Rattle.tv_pre.proofs.PieceLemmas.{are_marked, each_piece, zip_plain}
use Rattle.tv_pre.proofs.RefusalLemmas.{refusal_weaker}
use Rattle.tv_pre.proofs.ShapeLemmas.{flat_same}
use Rattle.tv_pre.proofs.endless.never_ends.Goals as goal

pub prove_all-requires-clause-of : goal.prove_all-requires-clause-of
prove_all-requires-clause-of c k d l =
    let about = cases_of c.args.setting.now.about.now in
    let region = c.args.region in
    let qs : List Piece = region.pieces.items in
    let within : k < length qs = subst (λ xs. k < length xs) c.deref.ensures.value l in
    subst (λ xs. IsPieceOf about.variables about.locations (get_or xs k d) × IsRegion about.variables about.locations region
    × OfPiece about (get_or xs k d) (LeadsTo about Any (InState region))) (sym c.deref.ensures.value)
    (c.requires.over.pieces k d within, c.requires.over, each_piece about qs (LeadsTo about Any (InState region)) c.requires.over.pieces c.requires.leads k d within)

pub returns-in-Err-clause-refusals : goal.returns-in-Err-clause-refusals
returns-in-Err-clause-refusals c =
    let about = cases_of c.args.setting.now.about.now in
    let own = c.args.region.pieces.items in
    refusal_weaker about c.args.setting.now.budget.now (AsksOf (λ q. AsksNext about Any q own) c.deref.result.now) (AsksOf (λ q. AsksNext about Any q own) own) c.in-Err.fault
    (λ a h. subst (λ qs. AsksOf (λ q. AsksNext about Any q own) qs a) c.deref.ensures.value h) c.in-Err.ensures.refusals

pub returns-clause-part : goal.returns-clause-part
returns-clause-part c =
    let about = cases_of c.args.setting.now.about.now in
    let n = about.variables in
    let region = c.args.region in
    let own = region.pieces.items in
    let plain : List Marked = plain_pieces n region in
    let nodes = c.new.result.items in
    let kids = map pieces_list nodes in
    let proofs = c.prove_all.new.proofs.items in
    part_made about (negated term) region c.in_ok-plain_with.field-0.node 0 plain [] nodes proofs (c.in_ok-plain_with.ensures.made false) tt (λ e. refl)
    (subst (AreParts about none []) (sym c.new.ensures.items) tt)
    (λ number.
    let around : Around = record { number = number; pieces = plain; kids = plain ∷ [] } in
    let fit = zip_plain about region (AreMarked plain own) (are_marked n Go [] own) in
    subst (λ os. Offers os proofs) (flat_same (λ p. next_of about number Any p plain) (piece_of number (about_with about) (negated term) plain kids) (λ p. refl) plain)
    (all_added (flat_map (λ p. next_of about number Any p plain) plain) c.new-proofs.result.items proofs c.new-proofs.ensures.items
    (c.in-Ok.ensures.adds around plain (subst (AllZip (λ p q. IsMarked p q × AreMarked plain own) plain) (sym c.deref.ensures.value) fit))))
