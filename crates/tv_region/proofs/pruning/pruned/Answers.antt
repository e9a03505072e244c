use Rattle.std.proofs.Common.{◌≡◌, ◌++◌, ◌∷◌, ◌∙◌, [], ap, subst}
use Rattle.std.specs.Option.{option_to_list}
use Rattle.tv_cases.specs.Given.{lists, row_lists}
use Rattle.tv_region.specs.Met.{Has}
use Rattle.tv_region.specs.Inclusion.{LiesInSome}
use Rattle.tv_region.proofs.AddLemmas.{in_some-has, lists_push}
use Rattle.tv_region.proofs.PruneLemmas.{pruning_dropped, pruning_kept, last_left}
use Rattle.tv_region.proofs.pruning.pruned.Goals as goal

pub is_redundant-requires : goal.is_redundant-requires
is_redundant-requires c = λ r h.
    let rest = c.pop.new.self.items in
    let list = c.in-Some.list in
    let popped : lists c.left.left ≡ row_lists rest ++ list.items ∷ [] = ap row_lists (c.pop.ensures.items ∙ ap (λ o. rest ++ option_to_list o) c.in-Some.is) ∙ lists_push rest list in
    let among = c.left.invariant.among_left list.items (last_left c.args.limits.now.columns (lists c.args.all) (lists c.left.left) (row_lists rest) (lists c.left.kept) list.items popped c.left.invariant) in
    c.requires r (in_some-has (lists c.args.all) list.items r among (subst (λ rs. Has rs r) c.deref.ensures.value h))

pub left-preserved-in_ok-push : goal.left-preserved-in_ok-push
left-preserved-in_ok-push c =
    let rest = c.pop.new.self.items in
    let list = c.in-Some.list in
    let popped : lists c.left.left ≡ row_lists rest ++ list.items ∷ [] = ap row_lists (c.pop.ensures.items ∙ ap (λ o. rest ++ option_to_list o) c.in-Some.is) ∙ lists_push rest list in
    let pushed = ap row_lists c.in_ok-push.ensures.items ∙ lists_push c.left.kept.items list in
    pruning_kept c.args.limits.now.columns (lists c.args.all) (lists c.left.left) (row_lists rest) (lists c.left.kept) list.items popped c.left.invariant (lists c.push.new.self) pushed

pub left-preserved : goal.left-preserved
left-preserved c =
    let n = c.args.limits.now.columns in
    let rest = c.pop.new.self.items in
    let list = c.in-Some.list in
    let popped : lists c.left.left ≡ row_lists rest ++ list.items ∷ [] = ap row_lists (c.pop.ensures.items ∙ ap (λ o. rest ++ option_to_list o) c.in-Some.is) ∙ lists_push rest list in
    let inside = c.in_ok-is_redundant.ensures c.if-not-branch.false in
    let one = subst (λ rs. LiesInSome n rs (row_lists c.deref-in-Some.result.now)) c.deref.ensures.value inside in
    let two = subst (λ vs. LiesInSome n list.items (row_lists vs)) c.deref-in-Some.ensures.value one in
    pruning_dropped n (lists c.args.all) (lists c.left.left) (row_lists rest) (lists c.left.kept) list.items popped c.left.invariant two
