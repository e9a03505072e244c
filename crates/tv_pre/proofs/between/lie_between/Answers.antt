use Rattle.std.proofs.Common.{◌≡◌, ◌∷◌, [], IsTrue, rules, sym, subst}
use Rattle.tv_cases.specs.Systems.{cases_of}
use Rattle.tv_region.specs.Regions.{IsPieceOf}
use Rattle.tv_pre.specs.Parts.{joined_pieces}
use Rattle.tv_pre.specs.Questions.{lies, AsksOf}
use Rattle.tv_pre.proofs.BetweenLemmas.{between_more, between_all}
use Rattle.tv_pre.proofs.RefusalLemmas.{refusal_weaker}
use Rattle.tv_pre.proofs.between.lie_between.Goals as goal

pub lies_between-requires-clause-piece : goal.lies_between-requires-clause-piece
lies_between-requires-clause-piece c =
    let about = cases_of c.args.setting.now.about.now in
    subst (IsPieceOf about.variables about.locations) (sym c.piece-item.is) (c.requires.over c.pieces.piece-index c.piece-item.result c.pieces-test.true)

pub returns-clause-inside : goal.returns-clause-inside
returns-clause-inside c = λ told.
    between_all (cases_of c.args.setting.now.about.now) c.args.first.now c.args.second.now c.args.pieces.now c.pieces.piece-index c.pieces-test.false c.pieces.invariant

pub returns-in-Err-clause-refusals : goal.returns-in-Err-clause-refusals
returns-in-Err-clause-refusals c =
    let about = cases_of c.args.setting.now.about.now in
    let q = c.piece-item.result in
    let into = joined_pieces (c.args.first.now ∷ c.args.second.now ∷ []) in
    refusal_weaker about c.args.setting.now.budget.now (λ a. a ≡ lies q into) (AsksOf (λ p a. a ≡ lies p into) c.args.pieces.now) c.in-Err.fault
    (λ a h. (q, (c.pieces.piece-index, c.pieces-test.true, sym c.piece-item.is), h)) c.in-Err.ensures.refusals

pub pieces-preserved : goal.pieces-preserved
pieces-preserved c =
    let told : IsTrue c.in-Ok-true.field-0 = search rules in
    between_more (cases_of c.args.setting.now.about.now) c.args.first.now c.args.second.now c.args.pieces.now c.pieces.piece-index c.piece-item.result c.pieces-test.true c.piece-item.is c.pieces.invariant (c.in-Ok-true.ensures.inside told)
