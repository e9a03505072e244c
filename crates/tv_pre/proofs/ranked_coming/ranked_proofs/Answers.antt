use Rattle.std.proofs.Common.{◌≡◌, ◌∙◌, ◌⊎◌, inl, inr, [], ◌∷◌, ◌++◌, List, get_or, true, false, ap, subst, sym}
use Rattle.std.specs.List.{flat_map}
use Rattle.tv_formula.specs.declared.tree.Path.TheVariants.{Every}
use Rattle.tv_linear.specs.declared.region.Region.{Region}
use Rattle.tv_cases.specs.LinearCases.{CaseSteps}
use Rattle.tv_cases.specs.Systems.{cases_of}
use Rattle.tv_cert.specs.declared.node.Kind.TheVariants as kind
use Rattle.tv_cert.specs.Claims.{about_with}
use Rattle.tv_cert.specs.declared.node.Marked.{Marked}
use Rattle.tv_cert.specs.Nodes.{pieces_of}
use Rattle.tv_cert.specs.Obligations.{Obligation, cover_of, hold_side}
use Rattle.tv_known.specs.Rounds.{GoesInto}
use Rattle.tv_region.specs.Regions.{IsRegion}
use Rattle.tv_region.specs.StepRegions.{InState}
use Rattle.tv_choice.specs.Leading.{state}
use Rattle.tv_pre.specs.Around.{Around}
use Rattle.tv_pre.specs.Fixed.{AtEnd, OnWay, fixed_owes, AsksEnds}
use Rattle.tv_pre.specs.Growing.{AsksCome, come_of}
use Rattle.tv_pre.specs.Inclusions.{OfPiece}
use Rattle.tv_pre.specs.Lowering.{IsPlaced}
use Rattle.tv_pre.specs.Offers.{Adds}
use Rattle.tv_pre.specs.Pieces.{IsMarked, AreMarked, InPieces}
use Rattle.tv_pre.specs.Questions.{lies, AsksOf}
use Rattle.tv_pre.specs.RankedUntil.{AsksComing}
use Rattle.tv_pre.proofs.AddLemmas.{adds_then, all_added}
use Rattle.tv_pre.proofs.GrowingLemmas.{come_is}
use Rattle.tv_pre.proofs.PieceLemmas.{each_piece, zip_so}
use Rattle.tv_pre.proofs.RankedUntilLemmas.{placed, zip_ranked}
use Rattle.tv_pre.proofs.RefusalLemmas.{refusal_weaker}
use Rattle.tv_pre.proofs.ShapeLemmas.{flat_same}
use Rattle.tv_pre.proofs.SideLemmas.{hold_in, hold_over, hold_marked}
use Rattle.tv_pre.proofs.ranked_coming.ranked_proofs.Goals as goal

pub prove_all-requires-clause-of : goal.prove_all-requires-clause-of
prove_all-requires-clause-of c k d l =
    let about = cases_of c.args.setting.now.about.now in
    (c.requires.done k d l, c.requires.sides.first, c.requires.sides.second, each_piece about c.args.done.now (AtEnd c.args.sides.now) c.requires.done c.requires.coming.ends k d l)

pub returns-in-Err-clause-refusals : goal.returns-in-Err-clause-refusals
returns-in-Err-clause-refusals c =
    let about = cases_of c.args.setting.now.about.now in
    let sides = c.args.sides.now in
    refusal_weaker about c.args.setting.now.budget.now (AsksEnds sides c.args.done.now) (AsksComing about sides c.args.done.now c.args.onward.now c.args.own.now) c.in-Err.fault
    (λ a h. inl h) c.in-Err.ensures.refusals

pub prove_all-requires-2-clause-of : goal.prove_all-requires-2-clause-of
prove_all-requires-2-clause-of c k d l =
    let about = cases_of c.args.setting.now.about.now in
    let sides = c.args.sides.now in
    let first = sides.first.now in
    let second = sides.second.now in
    let qs = c.args.onward.now in
    let q = get_or qs k d in (
      c.requires.onward k d l,
      subst (IsRegion about.variables about.locations) (sym c.hold_of.ensures) (hold_over (IsRegion about.variables about.locations) sides.shape first second c.requires.sides.first c.requires.sides.second),
      c.in_ok-anywhere.ensures,
      c.requires.own,
      c.requires.ranked.each,
      subst (λ (r : Region). OfPiece about q (InState r)) (sym c.hold_of.ensures)
          (λ xs w. hold_in sides.shape first second (state q.location xs) (each_piece about qs (OnWay sides) c.requires.onward c.requires.coming.hold k d l xs w)),
      each_piece about qs (GoesInto (CaseSteps about) Every (InPieces c.args.own.now)) c.requires.onward c.requires.coming.goes k d l,
    )

pub returns-in-Err-prove_all-clause-refusals : goal.returns-in-Err-prove_all-clause-refusals
returns-in-Err-prove_all-clause-refusals c =
    let about = cases_of c.args.setting.now.about.now in
    let sides = c.args.sides.now in
    let own = c.args.own.now in
    refusal_weaker about c.args.setting.now.budget.now (AsksOf (λ q a. (a ≡ lies q c.hold_of.result.now.pieces.items) ⊎ AsksCome about Every q own a) c.args.onward.now) (AsksComing about sides c.args.done.now c.args.onward.now own) c.in-Err-prove_all.fault
    (λ a h. inr (subst (λ (r : Region). AsksOf (λ q b. (b ≡ lies q r.pieces.items) ⊎ AsksCome about Every q own b) c.args.onward.now a) c.hold_of.ensures h)) c.in-Err-prove_all.ensures.refusals

pub returns-in-Ok-prove_all-clause-shows : goal.returns-in-Ok-prove_all-clause-shows
returns-in-Ok-prove_all-clause-shows c number first second ps qs a b same dones onwards gone go =
    let about = cases_of c.args.setting.now.about.now in
    let sides = c.args.sides.now in
    let ranked = pieces_of c.args.ranking.now.node.now in
    let done = c.args.done.now in
    let onward = c.args.onward.now in
    let own = c.args.own.now in
    let all : List Marked = ps ++ qs in
    let around : Around = record { number = number; pieces = all; kids = first ∷ second ∷ [] } in
    let hold = hold_side sides.shape first second in
    let old = c.new-proofs.result.items in
    let mid = c.prove_all.new.proofs.items in
    let new = c.prove_all-2.new.proofs.items in
    let hold_kid : AreMarked hold c.hold_of.result.now.pieces.items = subst (λ (r : Region). AreMarked hold r.pieces.items) (sym c.hold_of.ensures) (hold_marked sides.shape first second sides.first.now sides.second.now a b) in
    let owes : Marked → List Obligation = λ p. cover_of number kind.Hold (about_with about) p hold ∷ come_of about number Every p all in
    let ends : Adds (flat_map (fixed_owes about sides number all first second false) ps) old mid =
    c.in-Ok.ensures.adds around ps
    (zip_so IsMarked (λ p q. IsMarked p q × AreMarked first sides.first.now.pieces.items × AreMarked second sides.second.now.pieces.items) (λ p q h. (h, a, b)) ps done dones)
    in
    let comes : Adds (flat_map owes qs) mid new =
    c.in-Ok-prove_all.ensures.adds around qs
    (zip_ranked ranked (λ p q. IsPlaced ranked q done own p all × AreMarked hold c.hold_of.result.now.pieces.items)
    (λ p q m h. (placed ranked ps qs done onward own p q same dones gone go m h, hold_kid)) qs onward onwards go)
    in
    let is = λ (p : Marked). ap (λ path. cover_of number kind.Hold (about_with about) p hold ∷ come_of about number path p all) (sym c.requires.path) ∙ come_is about number sides.path sides.shape all first second p c.requires.shape in
    all_added (flat_map (fixed_owes about sides number all first second false) ps ++ flat_map (fixed_owes about sides number all first second true) qs) old new c.new-proofs.ensures.items
    (adds_then (flat_map (fixed_owes about sides number all first second false) ps) (flat_map (fixed_owes about sides number all first second true) qs) old mid new ends
    (subst (λ os. Adds os mid new) (flat_same owes (fixed_owes about sides number all first second true) is qs) comes))
