use Rattle.std.proofs.Common.{◌≡◌, ◌∙◌, ◌⊎◌, ◌<◌, ◌++◌, [], ◌∷◌, List, length, get_or, take, map, pos, true, arith, sym, ap, subst}
use Rattle.std.specs.List.{AllZip, flat_map}
use Rattle.std.proofs.Math.Seq.{take-append_seam}
use Rattle.std.proofs.lemmas.List.{append_assoc}
use Rattle.tv_linear.specs.Linear.{Linear, IsWithin}
use Rattle.tv_linear.specs.Arithmetic.{constant_row}
use Rattle.tv_linear.specs.declared.region.Piece.{Piece}
use Rattle.tv_linear.specs.declared.region.Region.{Region}
use Rattle.tv_cases.specs.LinearCases.{CaseSteps}
use Rattle.tv_cases.specs.Systems.{cases_of}
use Rattle.tv_cert.specs.declared.node.Kind.TheVariants as kind
use Rattle.tv_cert.specs.declared.node.Mark.TheVariants.{Go}
use Rattle.tv_cert.specs.declared.node.Marked.{Marked}
use Rattle.tv_cert.specs.Claims.{about_with}
use Rattle.tv_cert.specs.Obligations.{Obligation, cover_of, hold_side}
use Rattle.tv_known.specs.Rounds.{GoesInto}
use Rattle.tv_region.specs.Regions.{IsPieceOf, IsRegion}
use Rattle.tv_region.specs.StepRegions.{InState}
use Rattle.tv_choice.specs.Leading.{state}
use Rattle.tv_pre.specs.declared.growing.Grown.{Grown}
use Rattle.tv_pre.specs.Around.{Around}
use Rattle.tv_pre.specs.Fixed.{OnWay, AsksWay, fixed_owes}
use Rattle.tv_pre.specs.Growing.{IsEverywhere, AsksCome, AsksLayer, come_of}
use Rattle.tv_pre.specs.Inclusions.{OfPiece}
use Rattle.tv_pre.specs.Offers.{Adds}
use Rattle.tv_pre.specs.Pieces.{ArePieces, AreMarked, marked_as}
use Rattle.tv_pre.specs.Questions.{lies, AsksOf}
use Rattle.tv_pre.specs.Ranked.{IsLayered}
use Rattle.tv_pre.proofs.GrowingLemmas.{come_is, layered, grown_next, row_columns}
use Rattle.tv_pre.proofs.PieceLemmas.{each_piece, zip_marked}
use Rattle.tv_pre.proofs.RefusalLemmas.{refusal_weaker}
use Rattle.tv_pre.proofs.ShapeLemmas.{flat_same}
use Rattle.tv_pre.proofs.SideLemmas.{hold_in, hold_over, hold_marked}
use Rattle.tv_pre.proofs.growing.grown_by.Goals as goal

pub prove_all-requires-clause-of : goal.prove_all-requires-clause-of
prove_all-requires-clause-of c k d l =
    let about = cases_of c.args.setting.now.about.now in
    let sides = c.args.sides.now in
    let first = sides.first.now in
    let second = sides.second.now in
    let over = c.requires.layer.over.pieces in
    let qs : List Piece = c.args.layer.pieces.items in
    let value : c.deref.result.now ≡ qs = c.deref.ensures.value in
    let within : k < length qs = subst (λ xs. k < length xs) value l in
    let q : Piece = get_or qs k d in
    let earlier = c.args.grown.region in
    let hold = c.hold_of.result.now in
    subst (λ xs. IsPieceOf about.variables about.locations (get_or xs k d) × IsRegion about.variables about.locations hold × IsEverywhere about c.args.anywhere.now
    × ArePieces about earlier.pieces.items × OfPiece about (get_or xs k d) (InState hold) × OfPiece about (get_or xs k d) (GoesInto (CaseSteps about) sides.path (InState earlier))) (sym value) (
      over k d within,
      subst (IsRegion about.variables about.locations) (sym c.hold_of.ensures) (hold_over (IsRegion about.variables about.locations) sides.shape first second c.requires.sides.first c.requires.sides.second),
      c.requires.anywhere,
      c.requires.grown.over.pieces,
      subst (λ (r : Region). OfPiece about q (InState r)) (sym c.hold_of.ensures)
          (λ xs w. hold_in sides.shape first second (state q.location xs) (each_piece about qs (OnWay sides) over c.requires.layer.hold k d within xs w)),
      each_piece about qs (GoesInto (CaseSteps about) sides.path (InState earlier)) over c.requires.layer.goes k d within,
    )

pub returns-in-Err-clause-refusals : goal.returns-in-Err-clause-refusals
returns-in-Err-clause-refusals c =
    let about = cases_of c.args.setting.now.about.now in
    let sides = c.args.sides.now in
    let earlier = c.args.grown.region.pieces.items in
    refusal_weaker about c.args.setting.now.budget.now (AsksOf (λ q a. (a ≡ lies q c.hold_of.result.now.pieces.items) ⊎ AsksCome about sides.path q earlier a) c.deref.result.now) (AsksLayer about sides earlier c.args.layer) c.in-Err.fault
    (λ a h.
    subst (λ qs. AsksOf (λ q b. AsksWay sides q b ⊎ AsksCome about sides.path q earlier b) qs a) c.deref.ensures.value
    (subst (λ (r : Region). AsksOf (λ q b. (b ≡ lies q r.pieces.items) ⊎ AsksCome about sides.path q earlier b) c.deref.result.now a) c.hold_of.ensures h)) c.in-Err.ensures.refusals

pub returns-clause-grown : goal.returns-clause-grown
returns-clause-grown c =
    let about = cases_of c.args.setting.now.about.now in
    let n = about.variables in
    let sides = c.args.sides.now in
    let old : Grown = c.args.grown in
    let g = c.requires.grown in
    let layer = c.args.layer in
    let qs : List Piece = layer.pieces.items in
    let new : Grown = c.in_ok-with_layer.field-0 in
    let has = c.in_ok-with_layer.ensures in
    let ranks : List Linear = constant_row n (pos new.round) ∷ [] in
    let added : List Marked = map (marked_as n Go ranks) qs in
    let front = c.split_at.ensures.front ∙ ((λ i. take (g.count i) ((c.deref-list.ensures.value ∙ g.whole) i)) ∙ take-append_seam g.done g.rest) in
    let bounded = has.small in
    let small : IsWithin 62 (pos new.round) = omega (arith, bounded) in
    grown_next about sides old new layer g c.requires.layer.over has.count has.round has.variables has.locations has.whole has.pieces (row_columns n (pos new.round))
    (λ number first second later a b.
    let all : List Marked = new.pieces.items ++ later in
    let around : Around = record { number = number; pieces = all; kids = first ∷ second ∷ [] } in
    let hold = hold_side sides.shape first second in
    let there : old.pieces.items ++ (added ++ later) ≡ all = sym (append_assoc old.pieces.items added later) ∙ ap (λ ps. ps ++ later) (sym has.pieces) in
    let hold_kid : AreMarked hold c.hold_of.result.now.pieces.items = subst (λ (r : Region). AreMarked hold r.pieces.items) (sym c.hold_of.ensures) (hold_marked sides.shape first second sides.first.now sides.second.now a b) in
    let owes : Marked → List Obligation = λ p. cover_of number kind.Hold (about_with about) p hold ∷ come_of about number sides.path p all in
    let fit =
    zip_marked (λ p q. IsLayered n q g.done old.region.pieces.items p all × AreMarked hold c.hold_of.result.now.pieces.items) (IsPieceOf n about.locations) n Go ranks
    (λ q h. (subst (λ ps. IsLayered n q g.done old.region.pieces.items (marked_as n Go ranks q) ps) there (layered about sides old g new.round has.round small q (added ++ later)), hold_kid)) qs c.requires.layer.over.pieces
    in
    subst (λ os. Adds os old.proofs.items new.proofs.items)
    (flat_same owes (fixed_owes about sides number all first second true) (λ p. come_is about number sides.path sides.shape all first second p c.requires.shape) added)
    (subst (Adds (flat_map owes added) old.proofs.items) (sym has.proofs)
    (c.in-Ok.ensures.adds around added
    (subst (λ xs. AllZip (λ p q. IsLayered n q xs old.region.pieces.items p all × AreMarked hold c.hold_of.result.now.pieces.items) added c.deref.result.now) (sym front)
    (subst (λ xs. AllZip (λ p q. IsLayered n q g.done old.region.pieces.items p all × AreMarked hold c.hold_of.result.now.pieces.items) added xs) (sym c.deref.ensures.value) fit)))))
