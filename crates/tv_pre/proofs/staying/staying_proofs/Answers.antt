use Rattle.std.proofs.Common.{◌≡◌, ◌⊎◌, inl, inr, [], ◌∷◌, ◌++◌, List, get_or, true, false, subst, sym}
use Rattle.tv_shape.specs.Made.{Offers}
use Rattle.std.specs.List.{flat_map}
use Rattle.tv_linear.specs.declared.region.Region.{Region}
use Rattle.tv_cases.specs.LinearCases.{CaseSteps}
use Rattle.tv_cases.specs.Systems.{cases_of}
use Rattle.tv_cert.specs.declared.node.Kind.TheVariants as kind
use Rattle.tv_cert.specs.Claims.{about_with}
use Rattle.tv_cert.specs.declared.node.Marked.{Marked}
use Rattle.tv_cert.specs.Obligations.{Obligation, cover_of, hold_side}
use Rattle.tv_known.specs.Rounds.{StaysIn}
use Rattle.tv_region.specs.Regions.{IsRegion}
use Rattle.tv_region.specs.StepRegions.{InState}
use Rattle.tv_choice.specs.Leading.{state}
use Rattle.tv_pre.specs.Around.{Around, stay_of}
use Rattle.tv_pre.specs.Fixed.{AtEnd, OnWay, fixed_owes, AsksEnds, AsksStaying}
use Rattle.tv_pre.specs.Inclusions.{OfPiece}
use Rattle.tv_pre.specs.Offers.{Adds}
use Rattle.tv_pre.specs.Pieces.{IsMarked, AreMarked}
use Rattle.tv_pre.specs.Questions.{lies, AsksOf, AsksStay}
use Rattle.tv_pre.proofs.AddLemmas.{adds_then, all_added}
use Rattle.tv_pre.proofs.PieceLemmas.{each_piece, zip_so}
use Rattle.tv_pre.proofs.RefusalLemmas.{refusal_weaker}
use Rattle.tv_pre.proofs.ShapeLemmas.{flat_same}
use Rattle.tv_pre.proofs.SideLemmas.{hold_in, hold_over, hold_marked, stay_is}
use Rattle.tv_pre.proofs.staying.staying_proofs.Goals as goal

pub prove_all-requires-clause-of : goal.prove_all-requires-clause-of
prove_all-requires-clause-of c k d l =
    (c.requires.done k d l, c.requires.sides.first, c.requires.sides.second, each_piece (cases_of c.args.setting.now.about.now) c.args.done.now (AtEnd c.args.sides.now) c.requires.done c.requires.staying.ends k d l)

pub returns-in-Err-clause-refusals : goal.returns-in-Err-clause-refusals
returns-in-Err-clause-refusals c =
    let about = cases_of c.args.setting.now.about.now in
    let sides = c.args.sides.now in
    refusal_weaker about c.args.setting.now.budget.now (AsksEnds sides c.args.done.now) (AsksStaying about sides c.args.done.now c.args.onward.now c.args.own.now.pieces.items) c.in-Err.fault (λ a h. inl h) c.in-Err.ensures.refusals

pub prove_all-requires-2-clause-of : goal.prove_all-requires-2-clause-of
prove_all-requires-2-clause-of c k d l =
    let about = cases_of c.args.setting.now.about.now in
    let sides = c.args.sides.now in
    let first = sides.first.now in
    let second = sides.second.now in
    let qs = c.args.onward.now in
    let q = get_or qs k d in
    let own = c.args.own.now in (
      c.requires.onward k d l,
      subst (IsRegion about.variables about.locations) (sym c.hold_of.ensures) (hold_over (IsRegion about.variables about.locations) sides.shape first second c.requires.sides.first c.requires.sides.second),
      c.requires.own,
      subst (λ (r : Region). OfPiece about q (InState r)) (sym c.hold_of.ensures)
          (λ xs w. hold_in sides.shape first second (state q.location xs) (each_piece about qs (OnWay sides) c.requires.onward c.requires.staying.hold k d l xs w)),
      each_piece about qs (StaysIn (CaseSteps about) sides.path (InState own)) c.requires.onward c.requires.staying.stays k d l,
    )

pub returns-in-Err-prove_all-clause-refusals : goal.returns-in-Err-prove_all-clause-refusals
returns-in-Err-prove_all-clause-refusals c =
    let about = cases_of c.args.setting.now.about.now in
    let sides = c.args.sides.now in
    let own = c.args.own.now.pieces.items in
    refusal_weaker about c.args.setting.now.budget.now (AsksOf (λ q a. (a ≡ lies q c.hold_of.result.now.pieces.items) ⊎ AsksStay about sides.path q own a) c.args.onward.now) (AsksStaying about sides c.args.done.now c.args.onward.now own) c.in-Err-prove_all.fault
    (λ a h. inr (subst (λ (r : Region). AsksOf (λ q a. (a ≡ lies q r.pieces.items) ⊎ AsksStay about sides.path q own a) c.args.onward.now a) c.hold_of.ensures h)) c.in-Err-prove_all.ensures.refusals

pub returns-in-Ok-prove_all-clause-shows : goal.returns-in-Ok-prove_all-clause-shows
returns-in-Ok-prove_all-clause-shows c number all first second ps qs m n k d o =
    let about = cases_of c.args.setting.now.about.now in
    let sides = c.args.sides.now in
    let around : Around = record { number = number; pieces = all; kids = first ∷ second ∷ [] } in
    let hold = hold_side sides.shape first second in
    let owes : Marked → List Obligation = λ p. cover_of number kind.Hold (about_with about) p hold ∷ stay_of about number sides.path p all in
    let hold_kid : AreMarked hold c.hold_of.result.now.pieces.items = subst (λ (r : Region). AreMarked hold r.pieces.items) (sym c.hold_of.ensures) (hold_marked sides.shape first second sides.first.now sides.second.now m n) in
    let onward : Adds (flat_map owes qs) c.prove_all.new.proofs.items c.prove_all-2.new.proofs.items =
    c.in-Ok-prove_all.ensures.adds around qs
    (zip_so IsMarked (λ p q. IsMarked p q × AreMarked hold c.hold_of.result.now.pieces.items × AreMarked all c.args.own.now.pieces.items) (λ p q h. (h, hold_kid, k)) qs c.args.onward.now o)
    in
    let done : Adds (flat_map (fixed_owes about sides number all first second false) ps) c.new-proofs.result.items c.prove_all.new.proofs.items =
    c.in-Ok.ensures.adds around ps (zip_so IsMarked (λ p q. IsMarked p q × AreMarked first sides.first.now.pieces.items × AreMarked second sides.second.now.pieces.items) (λ p q h. (h, m, n)) ps c.args.done.now d)
    in
    subst (λ os. Offers (flat_map (fixed_owes about sides number all first second false) ps ++ os) c.prove_all-2.new.proofs.items)
    (flat_same owes (fixed_owes about sides number all first second true) (λ p. stay_is about number sides.path sides.shape all first second p c.requires.shape) qs)
    (all_added (flat_map (fixed_owes about sides number all first second false) ps ++ flat_map owes qs) c.new-proofs.result.items c.prove_all-2.new.proofs.items c.new-proofs.ensures.items
    (adds_then (flat_map (fixed_owes about sides number all first second false) ps) (flat_map owes qs) c.new-proofs.result.items c.prove_all.new.proofs.items c.prove_all-2.new.proofs.items done onward))
