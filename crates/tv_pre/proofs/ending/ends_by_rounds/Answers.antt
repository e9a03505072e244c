use Rattle.std.proofs.Common.{◌≡◌, ◌∙◌, ◌++◌, [], ◌∷◌, inl, List, not, false, arith, sym, ap, subst}
use Rattle.std.proofs.lemmas.List.{append-nil}
use Rattle.tv_linear.specs.declared.region.Region.{Region}
use Rattle.tv_formula.specs.Properties.{term}
use Rattle.tv_cases.specs.Systems.{cases_of}
use Rattle.tv_pre.specs.Ending.{AsksEndLayer, AsksEndLayers}
use Rattle.tv_pre.specs.Fixed.{IsJoined}
use Rattle.tv_pre.specs.Parts.{IsPart, joined_pieces}
use Rattle.tv_pre.proofs.EndingLemmas.{ending_part}
use Rattle.tv_pre.proofs.GrowingLemmas.{cons_at, empty_now, some_now}
use Rattle.tv_pre.proofs.RefusalLemmas.{refusal_weaker}
use Rattle.tv_pre.proofs.ending.ends_by_rounds.Goals as goal

pub returns-in-Err-clause-refusals : goal.returns-in-Err-clause-refusals
returns-in-Err-clause-refusals c =
    let about = cases_of c.args.setting.now.about.now in
    let earlier = c.rounds.grown.region.pieces.items in
    let now : List Region = c.rounds.layers.items in
    let layer : Region = c.remove-layer.result in
    let rest : List Region = c.remove-layer.new.self.items in
    let cut : now ≡ layer ∷ rest = cons_at layer now rest layer (some_now now c.rounds.layers.len c.is_empty.result (let k = c.rounds.layers.ok.0 in omega (arith, k)) c.is_empty.ensures (ap not c.rounds-test.true)) c.remove-layer.ensures.value c.remove-layer.ensures.items in
    refusal_weaker about c.args.setting.now.budget.now (AsksEndLayer about earlier layer) (AsksEndLayers about [] c.args.layers.items) c.in-Err.fault
    (λ a h. c.rounds.invariant.left.asks a (subst (λ layers. AsksEndLayers about earlier layers a) (sym cut) (inl h))) c.in-Err.ensures.refusals

pub returns-clause-region : goal.returns-clause-region
returns-clause-region c =
    let about = cases_of c.args.setting.now.about.now in
    let grown = c.rounds.grown in
    let none : c.rounds.layers.items ≡ [] = empty_now c.rounds.layers.items c.rounds.layers.len c.is_empty.result (let k = c.rounds.layers.ok.0 in omega (arith, k)) c.is_empty.ensures (ap not c.rounds-test.false) in
    subst (IsJoined about c.args.layers.items) (sym c.in_ok-part_of.ensures.region) (record {
      over = c.rounds.invariant.grown.over;
      pieces = sym (append-nil grown.region.pieces.items) ∙ (ap (λ layers. grown.region.pieces.items ++ joined_pieces layers) (sym none) ∙ c.rounds.invariant.left.pieces);
    })

pub returns-clause-part : goal.returns-clause-part
returns-clause-part c =
    let about = cases_of c.args.setting.now.about.now in
    let grown = c.rounds.grown in
    let is = c.rounds.invariant.grown in
    let node = c.in_ok-part_of.field-0.node in
    subst (λ r. IsPart about term r node) (sym c.in_ok-part_of.ensures.region)
    (ending_part about grown node is c.new-children.result.items c.new-children.ensures.items (c.in_ok-part_of.ensures.made about false (record { same = is.same; shape = is.shape })))
