use Rattle.std.proofs.Common.{◌∙◌, ap, length, ◌++◌, ◌≡◌}
use Rattle.tv_cases.specs.Systems.{cases_of}
use Rattle.tv_invariant.proofs.RunLemmas.{reached_first}
use Rattle.tv_invariant.proofs.walks.first.Goals as goal

pub returns : goal.returns
returns c =
    let drawn = c.in_ok-push_numbers.ensures in
    let items : c.push_numbers.new.list.items ≡ drawn.drawn = drawn.parts ∙ ap (λ xs. xs ++ drawn.drawn) c.new-values.ensures.items in
    reached_first (cases_of c.args.about.now) record { location = c.start.result; values = c.push_numbers.new.list } c.start.ensures.same
    ((ap length items ∙ drawn.counted) ∙ c.variables.ensures.same)
