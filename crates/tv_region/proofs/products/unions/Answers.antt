use Rattle.std.proofs.Common.{[], subst}
use Rattle.tv_cases.specs.Given.{lists, row_lists}
use Rattle.tv_region.specs.Adding.{IsEach}
use Rattle.tv_region.proofs.PruneLemmas.{union_is, union_pruned}
use Rattle.tv_region.proofs.products.unions.Goals as goal

pub returns-in_ok-pruned-in-Ok-add_each-clause-union : goal.returns-in_ok-pruned-in-Ok-add_each-clause-union
returns-in_ok-pruned-in-Ok-add_each-clause-union c =
    let n = c.args.limits.now.columns in
    let first = row_lists c.args.first.now in
    let second = row_lists c.args.second.now in
    let one = subst (λ vs. IsEach n (row_lists vs) [] first (lists c.in-Ok.kept)) c.new.ensures.items c.in-Ok.ensures.added in
    let all = union_is n first second (lists c.in-Ok.kept) (lists c.in-Ok-add_each.all) one c.in-Ok-add_each.ensures.added in
    union_pruned n (lists c.in-Ok-add_each.all) (lists c.in_ok-pruned-in-Ok-add_each.field-0) c.in_ok-pruned-in-Ok-add_each.ensures first second all
