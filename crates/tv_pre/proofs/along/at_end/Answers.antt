use Rattle.std.proofs.Common.{ℕ, ◌⊎◌, inl, inr, ◌+◌, ◌∷◌, [], ◌++◌, sym, ap, subst, arith, length, ◌≤◌}
use Rattle.tv_cases.specs.Systems.{cases_of}
use Rattle.tv_pre.specs.Questions.{Question}
use Rattle.tv_pre.specs.Along.{arguments}
use Rattle.tv_pre.specs.Fixed.{AsksEnds, AsksStaying}
use Rattle.tv_pre.specs.Growing.{AsksLayers, AreNextLayers}
use Rattle.tv_pre.specs.Parts.{joined_pieces}
use Rattle.tv_pre.specs.Built.{AreBuilt, IsFaultOf, of_nowhere}
use Rattle.tv_pre.proofs.BuiltLemmas.{first_built, rest_built, first_alone, pieces_of, joined_of, more_built, one_built, asked_one, all_built_to}
use Rattle.tv_pre.proofs.PassedLemmas.{passed_on, cover_fault}
use Rattle.tv_pre.proofs.AskedLemmas.{ends_asked, staying_asked}
use Rattle.tv_pre.proofs.AlongLemmas.{asked_less, is_along, no_onward, one_joined}
use Rattle.tv_pre.proofs.SizedLemmas.{ended_few, none_joined, nowhere_joined}
use Rattle.tv_pre.specs.Counted.{IsCountedAlong}
use Rattle.tv_pre.proofs.CountedLemmas.{cover_along}
use Rattle.tv_pre.specs.declared.fault.PreFault.{PreFault}
use Rattle.tv_pre.proofs.FewTargets.{ends_targets, bare_targets}
use Rattle.tv_pre.proofs.along.at_end.Goals as goal

pub until-requires-clause-layers : goal.until-requires-clause-layers
until-requires-clause-layers c =
    let about = cases_of c.args.setting.now.about.now in
    subst (AreNextLayers about c.args.sides.now c.args.end.pieces.items) (sym c.new.ensures.items) tt

pub returns-in_err-until-clause-refused : goal.returns-in_err-until-clause-refused
returns-in_err-until-clause-refused c =
    let about = cases_of c.args.setting.now.about.now in
    let budget = c.args.setting.now.budget.now in
    let sides = c.args.sides.now in
    let end = c.args.end in
    let fault = c.in_err-until.field-0.0 in
    let asks = λ (a : Question). (AsksEnds sides end.pieces.items a ⊎ AsksLayers about sides end.pieces.items c.new.result.items a) in
    passed_on (IsFaultOf about budget 1 (end ∷ arguments sides)) c.from_residual.result c.from_residual.ensures.1
    (λ r is s h m. cover_fault about budget s (1 + h) asks (λ a w. asked_one about s h a (elim w [
      | inl x ↦ ends_asked about s h sides (rest_built about s h end (arguments sides) m) end.pieces.items a (pieces_of about s h end (first_built about s h end (arguments sides) m)) x
      | inr x ↦ absurd (subst (λ ls. AsksLayers about sides end.pieces.items ls a) c.new.ensures.items x)
    ])) fault r is c.in_err-until.ensures.refusals)

pub weak-requires-clause-staying : goal.weak-requires-clause-staying
weak-requires-clause-staying c =
    let about = cases_of c.args.setting.now.about.now in
    no_onward about c.args.sides.now c.args.end c.nowhere.result c.requires.ends c.nowhere.ensures

pub returns-in_err-weak-clause-refused : goal.returns-in_err-weak-clause-refused
returns-in_err-weak-clause-refused c =
    let about = cases_of c.args.setting.now.about.now in
    let budget = c.args.setting.now.budget.now in
    let sides = c.args.sides.now in
    let end = c.args.end in
    let none = c.nowhere.result in
    let fault = c.in_err-weak.field-0.0 in
    let own = joined_pieces (end ∷ none ∷ []) in
    passed_on (IsFaultOf about budget 1 (end ∷ arguments sides)) c.from_residual-in_err-weak.result c.from_residual-in_err-weak.ensures.1
    (λ r is s h m.
    (let first = first_built about s h end (arguments sides) m in
    let second = of_nowhere h none c.nowhere.ensures in
    let both = more_built about s h end (none ∷ []) first (one_built about s h none second) in
    cover_fault about budget s (1 + h) (AsksStaying about sides end.pieces.items none.pieces.items own) (λ a w. asked_one about s h a
    (staying_asked about s h sides (rest_built about s h end (arguments sides) m) end.pieces.items none.pieces.items own a (pieces_of about s h end first) (pieces_of about s h none second) (joined_of about s h (end ∷ none ∷ []) both) w))
    fault r is c.in_err-weak.ensures.refusals))

pub returns-in_ok-until-clause-along : goal.returns-in_ok-until-clause-along
returns-in_ok-until-clause-along c =
    let about = cases_of c.args.setting.now.about.now in
    let sides = c.args.sides.now in
    let end = c.args.end in
    let few : length (end ∷ c.new.result.items) ≤ 0 + 2 = subst (λ ls. length (end ∷ ls) ≤ 0 + 2) (sym c.new.ensures.items) (omega arith) in
    is_along about 0 1 sides c.args.children.items c.in_ok-until.field-0 (end ∷ c.new.result.items) (end ∷ arguments sides) (omega arith) few c.in_ok-until.ensures.region
    (λ f g w. c.in_ok-until.ensures.part f g w)
    (λ s h m. subst (λ ls. AreBuilt about s (0 + h) (end ∷ ls)) (sym c.new.ensures.items) (all_built_to about s h (0 + h) (end ∷ []) (omega arith) (first_alone about s h end (arguments sides) m)))

pub returns-in_ok-weak-clause-along : goal.returns-in_ok-weak-clause-along
returns-in_ok-weak-clause-along c =
    let about = cases_of c.args.setting.now.about.now in
    let sides = c.args.sides.now in
    let end = c.args.end in
    let none = c.nowhere.result in
    is_along about 0 1 sides c.args.children.items c.in_ok-weak.field-0 (end ∷ none ∷ []) (end ∷ arguments sides) (omega arith) (omega arith) c.in_ok-weak.ensures.region
    (λ f g w. c.in_ok-weak.ensures.part f g w)
    (λ s h m. all_built_to about s h (0 + h) (end ∷ none ∷ []) (omega arith) (more_built about s h end (none ∷ []) (first_built about s h end (arguments sides) m) (one_built about s h none (of_nowhere h none c.nowhere.ensures))))

pub returns-in_ok-until-clause-pieces : goal.returns-in_ok-until-clause-pieces
returns-in_ok-until-clause-pieces c = one_joined c.args.end c.new.result.items c.in_ok-until.field-0.region.pieces.items (ap joined_pieces c.new.ensures.items) c.in_ok-until.ensures.region.pieces

pub returns-in_ok-weak-clause-pieces : goal.returns-in_ok-weak-clause-pieces
returns-in_ok-weak-clause-pieces c =
    one_joined c.args.end (c.nowhere.result ∷ []) c.in_ok-weak.field-0.region.pieces.items (ap (λ ps. ps ++ []) c.nowhere.ensures.none) c.in_ok-weak.ensures.region.pieces

pub returns-in_ok-until-clause-bounded : goal.returns-in_ok-until-clause-bounded
returns-in_ok-until-clause-bounded c =
    ended_few (cases_of c.args.setting.now.about.now) c.args.sides.now c.args.end c.in_ok-until.field-0.region c.requires.end_few c.new.result.items (none_joined c.new.result.items c.new.ensures.items) c.in_ok-until.ensures.region

pub returns-in_ok-weak-clause-bounded : goal.returns-in_ok-weak-clause-bounded
returns-in_ok-weak-clause-bounded c =
    let about = cases_of c.args.setting.now.about.now in
    let none = c.nowhere.result in
    ended_few about c.args.sides.now c.args.end c.in_ok-weak.field-0.region c.requires.end_few (none ∷ []) (nowhere_joined about none c.nowhere.ensures) c.in_ok-weak.ensures.region

pub returns-in_err-until-clause-counted : goal.returns-in_err-until-clause-counted
returns-in_err-until-clause-counted c =
    let about = cases_of c.args.setting.now.about.now in
    let budget = c.args.setting.now.budget.now in
    let sides = c.args.sides.now in
    let end = c.args.end in
    let asks = λ (a : Question). (AsksEnds sides end.pieces.items a ⊎ AsksLayers about sides end.pieces.items c.new.result.items a) in
    passed_on (λ (r : PreFault). (most : ℕ) → IsCountedAlong about budget (most + 2) sides r) c.from_residual.result c.from_residual.ensures.1
    (λ r is most. cover_along about sides budget (most + 2) asks
    (λ a w. asked_less about 1 (most + 2) end (arguments sides) a (omega arith) c.requires.built (λ s h m. asked_one about s h a (elim w [
      | inl x ↦ ends_asked about s h sides (rest_built about s h end (arguments sides) m) end.pieces.items a (pieces_of about s h end (first_built about s h end (arguments sides) m)) x
      | inr x ↦ absurd (subst (λ ls. AsksLayers about sides end.pieces.items ls a) c.new.ensures.items x)
    ])))
    (λ plain last o f g full a w. elim w [
      | inl x ↦ ends_targets about sides last f g full end.pieces.items a x
      | inr x ↦ absurd (subst (λ ls. AsksLayers about sides end.pieces.items ls a) c.new.ensures.items x)
    ])
    c.in_err-until.field-0.0 r is c.in_err-until.ensures.refusals)

pub returns-in_err-weak-clause-counted : goal.returns-in_err-weak-clause-counted
returns-in_err-weak-clause-counted c =
    let about = cases_of c.args.setting.now.about.now in
    let budget = c.args.setting.now.budget.now in
    let sides = c.args.sides.now in
    let end = c.args.end in
    let none = c.nowhere.result in
    let own = joined_pieces (end ∷ none ∷ []) in
    passed_on (λ (r : PreFault). (most : ℕ) → IsCountedAlong about budget (most + 2) sides r) c.from_residual-in_err-weak.result c.from_residual-in_err-weak.ensures.1
    (λ r is most. cover_along about sides budget (most + 2) (AsksStaying about sides end.pieces.items none.pieces.items own)
    (λ a w. asked_less about 1 (most + 2) end (arguments sides) a (omega arith) c.requires.built (λ s h m.
    (let first = first_built about s h end (arguments sides) m in
    let second = of_nowhere h none c.nowhere.ensures in
    let both = more_built about s h end (none ∷ []) first (one_built about s h none second) in
    asked_one about s h a
    (staying_asked about s h sides (rest_built about s h end (arguments sides) m) end.pieces.items none.pieces.items own a (pieces_of about s h end first) (pieces_of about s h none second) (joined_of about s h (end ∷ none ∷ []) both) w))))
    (λ plain last o f g full a w. bare_targets about sides last f g full end.pieces.items none.pieces.items own a c.nowhere.ensures.none w)
    c.in_err-weak.field-0.0 r is c.in_err-weak.ensures.refusals)
