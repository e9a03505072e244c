use Rattle.std.proofs.Common.{◌≡◌, ◌∙◌, ◌++◌, [], sym, ap}
use Rattle.std.proofs.lemmas.List.{append-nil}
use Rattle.tv_cover.specs.Targets.{lists_of}
use Rattle.tv_region.specs.Regions.{lists_at}
use Rattle.tv_pre.proofs.TargetLemmas.{lists_at-append}
use Rattle.tv_pre.proofs.targets.targets_of_two.Goals as goal

pub returns-clause-targets : goal.returns-clause-targets
returns-clause-targets c =
    let l = c.args.location in
    let first = c.args.first.now.pieces.items in
    let second = c.args.second.now.pieces.items in
    let one : lists_of c.push_targets.new.targets.items ≡ lists_at l first =
    c.in_ok-push_targets.ensures ∙ ap (λ ts. lists_of ts ++ lists_at l c.deref.result.now) c.new-targets.ensures.items ∙ ap (lists_at l) c.deref.ensures.value in
    c.in_ok-push_targets-2.ensures
    ∙ (λ i. one i ++ lists_at l (c.deref-2.ensures.value i))
    ∙ sym (lists_at-append l first (second ++ []) ∙ ap (λ qs. lists_at l first ++ lists_at l qs) (append-nil second))
