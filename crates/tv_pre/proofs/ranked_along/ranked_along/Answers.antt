use Rattle.std.proofs.Common.{ℕ, refl, sym, subst, ◌+◌, ◌∷◌, [], rules, arith, IsTrue, IsFalse}
use Rattle.tv_formula.specs.declared.tree.Path.{Path}
use Rattle.tv_formula.specs.Properties.{fix}
use Rattle.tv_cases.specs.Systems.{cases_of}
use Rattle.tv_pre.specs.Along.{arguments}
use Rattle.tv_pre.specs.Built.{IsFaultOf}
use Rattle.tv_pre.specs.Parts.{IsPart, joined_pieces}
use Rattle.tv_pre.specs.RankedAlong.{HasAll}
use Rattle.tv_pre.specs.RankedUntil.{AsksComing}
use Rattle.tv_pre.proofs.AlongLemmas.{asked_less, is_along}
use Rattle.tv_pre.proofs.BuiltLemmas.{rest_built}
use Rattle.tv_pre.proofs.PassedLemmas.{passed_on, cover_fault}
use Rattle.tv_pre.proofs.RankedAlongLemmas.{both_given, sides_fault, ends_fault, all_go, coming_is, both_built, coming_asked}
use Rattle.tv_pre.proofs.BetweenLemmas.{beside_of}
use Rattle.tv_pre.proofs.SizedLemmas.{came_joined, came_few}
use Rattle.tv_pre.specs.Counted.{IsCountedAlong}
use Rattle.tv_pre.proofs.CountedLemmas.{cover_along, between_along, going_along}
use Rattle.tv_pre.specs.declared.fault.PreFault.{PreFault}
use Rattle.tv_pre.proofs.FewTargets.{ranked_targets}
use Rattle.tv_pre.proofs.ranked_along.ranked_along.Goals as goal

pub returns-in_err-onward-clause-refused : goal.returns-in_err-onward-clause-refused
returns-in_err-onward-clause-refused c =
    let about = cases_of c.args.setting.now.about.now in
    let budget = c.args.setting.now.budget.now in
    let sides = c.args.sides.now in
    passed_on (IsFaultOf about budget 2 (c.args.end ∷ arguments sides)) c.from_residual.result c.from_residual.ensures.1
    (λ r is. sides_fault about budget sides c.args.end c.in_err-onward.field-0.0 r is c.in_err-onward.ensures.refused)

pub returns-in-Err-clause-untold : goal.returns-in-Err-clause-untold
returns-in-Err-clause-untold c =
    let about = cases_of c.args.setting.now.about.now in
    let budget = c.args.setting.now.budget.now in
    ends_fault about budget c.args.sides.now c.args.end c.in_ok-onward.onward c.in-Err.fault c.in-Err.fault refl c.in_ok-onward.ensures.built c.in-Err.ensures.refused

pub returns-then-not-all-clause-along : goal.returns-then-not-all-clause-along
returns-then-not-all-clause-along c =
    let onward = c.in_ok-onward.onward in
    let told : IsFalse c.in-Ok.all = search rules in
    (refl, refl, beside_of (cases_of c.args.setting.now.about.now) c.args.sides.now c.args.end onward c.requires.end c.in_ok-onward.ensures.going (c.in-Ok.ensures.others told))

pub ranked_until-requires-clause-coming : goal.ranked_until-requires-clause-coming
ranked_until-requires-clause-coming c =
    let about = cases_of c.args.setting.now.about.now in
    let onward = c.in_ok-onward.onward in
    let told : IsTrue c.in-Ok.all = search rules in
    coming_is about c.args.sides.now c.args.end onward c.variables-variables.ensures.limits.cases c.requires.end c.in_ok-onward.ensures.going (c.in-Ok.ensures.all told)

pub returns-in_err-part-clause-refused : goal.returns-in_err-part-clause-refused
returns-in_err-part-clause-refused c =
    let about = cases_of c.args.setting.now.about.now in
    let budget = c.args.setting.now.budget.now in
    let sides = c.args.sides.now in
    let end = c.args.end in
    let onward = c.in_ok-onward.onward in
    let asks = AsksComing about sides end.pieces.items onward.pieces.items (joined_pieces (end ∷ onward ∷ [])) in
    passed_on (IsFaultOf about budget 2 (end ∷ arguments sides)) c.from_residual-in_err-part.result c.from_residual-in_err-part.ensures.1
    (λ r is s h m. cover_fault about budget s (2 + h) asks
    (coming_asked about sides end onward s h m (c.in_ok-onward.ensures.built s h (rest_built about s h end (arguments sides) m)) c.requires.path)
    c.in_err-part.field-0.0 r is c.in_err-part.ensures.refusals)

pub returns-clause-along : goal.returns-clause-along
returns-clause-along c =
    let about = cases_of c.args.setting.now.about.now in
    let sides = c.args.sides.now in
    let end = c.args.end in
    let onward = c.in_ok-onward.onward in
    let part = c.in_ok-part.part in
    let told : IsTrue c.in-Ok.all = search rules in (
      is_along about 1 2 sides c.args.children.items part (end ∷ onward ∷ []) (end ∷ arguments sides) (omega arith) (omega arith) c.in_ok-part.ensures.region
          (λ f g w. subst (λ (p : Path). IsPart about (fix p sides.shape f g) part.region part.node) (sym c.requires.path) (c.in_ok-part.ensures.part f g w))
          (λ s h m. both_built about sides end onward s h m (c.in_ok-onward.ensures.built s h (rest_built about s h end (arguments sides) m))),
      subst (HasAll about) (sym c.in_ok-part.ensures.region.pieces) (c.in-Ok.ensures.all told),
      all_go about sides end onward c.requires.end c.in_ok-onward.ensures.going (c.in-Ok.ensures.all told),
    )

pub returns-clause-bounded : goal.returns-clause-bounded
returns-clause-bounded c = came_few (cases_of c.args.setting.now.about.now) c.args.sides.now c.args.end c.in_ok-part.part.region c.requires.end_few c.requires.shape c.requires.path c.in_ok-onward.onward c.in_ok-onward.ensures.bounded c.variables-variables.ensures.limits.starts c.in_ok-part.ensures.region

pub returns-in_err-onward-clause-counted : goal.returns-in_err-onward-clause-counted
returns-in_err-onward-clause-counted c =
    let about = cases_of c.args.setting.now.about.now in
    let budget = c.args.setting.now.budget.now in
    let sides = c.args.sides.now in
    let P = λ (r : PreFault). ((most : ℕ) → IsCountedAlong about budget (most + 2) sides r) in
    passed_on P c.from_residual.result c.from_residual.ensures.1
    (λ r is. subst P (sym is) (λ most. going_along about sides budget (most + 2) c.requires.shape c.requires.path c.variables-variables.ensures.limits.starts c.in_err-onward.field-0.0 c.in_err-onward.ensures.counted))

pub returns-in-Err-clause-untold_count : goal.returns-in-Err-clause-untold_count
returns-in-Err-clause-untold_count c most =
    let about = cases_of c.args.setting.now.about.now in
    let budget = c.args.setting.now.budget.now in
    let sides = c.args.sides.now in
    let end = c.args.end in
    let onward = c.in_ok-onward.onward in
    between_along about sides budget (most + 2) end onward
    (came_joined about sides end c.requires.end_few c.requires.shape c.requires.path onward c.in_ok-onward.ensures.bounded c.variables-variables.ensures.limits.starts)
    (λ a f. asked_less about 1 (most + 2) end (arguments sides) a (omega arith) c.requires.built
    (λ s h m. f s (1 + h) (both_given about s h end onward (arguments sides) m (c.in_ok-onward.ensures.built s h (rest_built about s h end (arguments sides) m)))))
    c.in-Err.fault c.in-Err.ensures.counted

pub returns-in_err-part-clause-counted : goal.returns-in_err-part-clause-counted
returns-in_err-part-clause-counted c =
    let about = cases_of c.args.setting.now.about.now in
    let budget = c.args.setting.now.budget.now in
    let sides = c.args.sides.now in
    let end = c.args.end in
    let onward = c.in_ok-onward.onward in
    let starts = c.variables-variables.ensures.limits.starts in
    let asks = AsksComing about sides end.pieces.items onward.pieces.items (joined_pieces (end ∷ onward ∷ [])) in
    passed_on (λ (r : PreFault). (most : ℕ) → IsCountedAlong about budget (most + 2) sides r) c.from_residual-in_err-part.result c.from_residual-in_err-part.ensures.1
    (λ r is most. cover_along about sides budget (most + 2) asks
    (λ a w. asked_less about 2 (most + 2) end (arguments sides) a (omega arith) c.requires.built
    (λ s h m. coming_asked about sides end onward s h m (c.in_ok-onward.ensures.built s h (rest_built about s h end (arguments sides) m)) c.requires.path a w))
    (ranked_targets about sides c.requires.shape starts end onward (came_joined about sides end c.requires.end_few c.requires.shape c.requires.path onward c.in_ok-onward.ensures.bounded starts))
    c.in_err-part.field-0.0 r is c.in_err-part.ensures.refusals)
