use Rattle.std.proofs.Common.{◌∙◌, [], ◌∷◌, ◌++◌, ap, subst}
use Rattle.std.specs.Result.{IfErr}
use Rattle.tv_cases.specs.Systems.{cases_of}
use Rattle.tv_pre.specs.Ending.{AsksEndLayers}
use Rattle.tv_pre.specs.Questions.{IsRefusal}
use Rattle.tv_pre.proofs.termination.ended_after.Goals as goal

pub returns-clause-refusals : goal.returns-clause-refusals
returns-clause-refusals c =
    let about = cases_of c.args.setting.now.about.now in
    subst (λ ls. IfErr c.ends_by_rounds.result (IsRefusal about c.args.setting.now.budget.now (AsksEndLayers about [] ls)))
    (c.in_ok-append.ensures.items ∙ ap (λ ls. ls ++ c.args.layers.items) (c.in_ok-push_item.ensures ∙ ap (λ ls. ls ++ c.args.stops ∷ []) c.new-all.ensures.items)) c.ends_by_rounds.ensures.refusals
