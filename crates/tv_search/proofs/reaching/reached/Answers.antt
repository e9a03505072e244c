use Rattle.std.proofs.Common.{◌++◌, ◌∙◌, take, drop}
use Rattle.tv_cases.specs.Systems.{cases_of}
use Rattle.tv_search.specs.Answers.{lists_of}
use Rattle.tv_search.specs.Runs.{path_of, cut}
use Rattle.tv_search.proofs.ReachLemmas.{reached_is}
use Rattle.tv_search.proofs.reaching.reached.Goals as goal

pub returns : goal.returns
returns c = λ l h.
    let about = cases_of c.args.about.now in
    let xs = c.args.met.point.items in
    let values = c.in_ok-values.ensures.items ∙ c.split_at.ensures.front ∙ (λ i. take (c.variables.ensures.same i) (c.deref.ensures.value i)) in
    let all = c.split_at.ensures.back ∙ (λ i. drop (c.variables.ensures.same i) (c.deref.ensures.value i)) in
    let draws = c.in_ok-push_draws.ensures ∙ (λ i. lists_of (c.new-draws.ensures.items i) ++ cut (path_of about (c.deref-2.ensures.value i)) c.split_at.result.1.now) in
    reached_is about c.variables.ensures.limits l c.args.met.path.items xs c.in_ok-values.values.items c.split_at.result.1.now (lists_of c.push_draws.new.draws.items) h values all draws
