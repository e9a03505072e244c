use Rattle.std.proofs.Common.{◌≡◌, ◌∙◌, ◌⊎◌, inl, inr, ◌++◌, [], ◌∷◌, List, true, not, arith, sym, ap, subst}
use Rattle.std.proofs.lemmas.List.{append-nil}
use Rattle.tv_linear.specs.declared.region.Region.{Region}
use Rattle.tv_formula.specs.Properties.{fix}
use Rattle.tv_cases.specs.Systems.{cases_of}
use Rattle.tv_pre.specs.Fixed.{IsJoined, AsksEnds}
use Rattle.tv_pre.specs.Growing.{AsksLayer, AsksLayers}
use Rattle.tv_pre.specs.Parts.{IsPart, joined_pieces}
use Rattle.tv_pre.proofs.GrowingLemmas.{cons_at, empty_now, grown_part, grown_pieces, some_now}
use Rattle.tv_pre.proofs.RefusalLemmas.{refusal_weaker}
use Rattle.tv_pre.proofs.growing.until.Goals as goal

pub returns-in-Err-clause-refusals : goal.returns-in-Err-clause-refusals
returns-in-Err-clause-refusals c =
    let about = cases_of c.args.setting.now.about.now in
    let sides = c.args.sides.now in
    let done = c.args.done.pieces.items in
    refusal_weaker about c.args.setting.now.budget.now (AsksEnds sides done) (λ a. AsksEnds sides done a ⊎ AsksLayers about sides done c.args.layers.items a) c.in-Err.fault
    (λ a h. inl h) c.in-Err.ensures.refusals

pub returns-in-Err-grown_by-clause-refusals : goal.returns-in-Err-grown_by-clause-refusals
returns-in-Err-grown_by-clause-refusals c =
    let about = cases_of c.args.setting.now.about.now in
    let sides = c.args.sides.now in
    let done = c.args.done.pieces.items in
    let earlier = c.rounds.grown.region.pieces.items in
    let now : List Region = c.rounds.layers.items in
    let layer : Region = c.remove-layer.result in
    let rest : List Region = c.remove-layer.new.self.items in
    let cut : now ≡ layer ∷ rest = cons_at layer now rest layer (some_now now c.rounds.layers.len c.is_empty.result (let k = c.rounds.layers.ok.0 in omega (arith, k)) c.is_empty.ensures (ap not c.rounds-test.true)) c.remove-layer.ensures.value c.remove-layer.ensures.items in
    refusal_weaker about c.args.setting.now.budget.now (AsksLayer about sides earlier layer) (λ a. AsksEnds sides done a ⊎ AsksLayers about sides done c.args.layers.items a) c.in-Err-grown_by.fault
    (λ a h. inr (c.rounds.invariant.left.asks a (subst (λ layers. AsksLayers about sides earlier layers a) (sym cut) (inl h)))) c.in-Err-grown_by.ensures.refusals

pub returns-clause-region : goal.returns-clause-region
returns-clause-region c =
    let about = cases_of c.args.setting.now.about.now in
    let grown = c.rounds.grown in
    let none : c.rounds.layers.items ≡ [] = empty_now c.rounds.layers.items c.rounds.layers.len c.is_empty.result (let k = c.rounds.layers.ok.0 in omega (arith, k)) c.is_empty.ensures (ap not c.rounds-test.false) in
    subst (IsJoined about (c.args.done ∷ c.args.layers.items)) (sym c.in_ok-part_of.ensures.region) (record {
      over = c.rounds.invariant.grown.over;
      pieces = sym (append-nil grown.region.pieces.items) ∙ (ap (λ layers. grown.region.pieces.items ++ joined_pieces layers) (sym none) ∙ c.rounds.invariant.left.pieces);
    })

pub returns-clause-part : goal.returns-clause-part
returns-clause-part c f g below =
    let about = cases_of c.args.setting.now.about.now in
    let sides = c.args.sides.now in
    let grown = c.rounds.grown in
    subst (λ r. IsPart about (fix sides.path sides.shape f g) r c.in_ok-part_of.field-0.node) (sym c.in_ok-part_of.ensures.region)
    (grown_part about sides grown c.in_ok-part_of.field-0.node c.args.children.items f g c.rounds.invariant.grown c.requires.shape
    (c.in_ok-part_of.ensures.made about true (grown_pieces about sides grown c.rounds.invariant.grown)) below)
