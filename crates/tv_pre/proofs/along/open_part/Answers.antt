use Rattle.std.proofs.Common.{◌∷◌, ◌+◌, sym, subst}
use Rattle.tv_pre.specs.Along.{arguments}
use Rattle.tv_pre.specs.Built.{of_nowhere, IsFaultOf}
use Rattle.tv_pre.specs.Search.{system_of}
use Rattle.tv_pre.proofs.AlongLemmas.{none_along, none_fault}
use Rattle.tv_pre.proofs.PassedLemmas.{passed_on}
use Rattle.tv_pre.specs.Counted.{IsCountedAlong}
use Rattle.tv_pre.proofs.along.open_part.Goals as goal

pub returns-in_err-at_end-clause-refused : goal.returns-in_err-at_end-clause-refused
returns-in_err-at_end-clause-refused c =
    let about = system_of c.args.search.now in
    let budget = c.args.search.now.setting.now.budget.now in
    let sides = c.args.sides.now in
    passed_on (IsFaultOf about budget 1 (c.args.end ∷ arguments sides)) c.from_residual.result c.from_residual.ensures.1
    (λ r is. none_fault about sides c.args.end c.nowhere-none.result c.nowhere-none.ensures budget c.in_err-at_end.field-0.0 r is c.in_err-at_end.ensures.refused)

pub returns-then-search-clause-along : goal.returns-then-search-clause-along
returns-then-search-clause-along c =
    none_along (system_of c.args.search.now) c.args.sides.now c.args.end c.nowhere-none.result c.nowhere-none.ensures c.args.children.items c.in_ok-at_end.field-0 c.in_ok-at_end.ensures.along

pub returns-in_err-at_end-clause-counted : goal.returns-in_err-at_end-clause-counted
returns-in_err-at_end-clause-counted c =
    let P = IsCountedAlong (system_of c.args.search.now) c.args.search.now.setting.now.budget.now (c.args.search.now.last + 2) c.args.sides.now in
    passed_on P c.from_residual.result c.from_residual.ensures.1 (λ r is. subst P (sym is) (c.in_err-at_end.ensures.counted c.args.search.now.last))

pub returns-in_err-at_end-2-clause-counted : goal.returns-in_err-at_end-2-clause-counted
returns-in_err-at_end-2-clause-counted c =
    let P = IsCountedAlong (system_of c.args.search.now) c.args.search.now.setting.now.budget.now (c.args.search.now.last + 2) c.args.sides.now in
    passed_on P c.from_residual-in_err-at_end-2.result c.from_residual-in_err-at_end-2.ensures.1 (λ r is. subst P (sym is) (c.in_err-at_end-2.ensures.counted c.args.search.now.last))

pub at_end-requires-clause-built : goal.at_end-requires-clause-built
at_end-requires-clause-built c = λ s h m. of_nowhere (0 + h) c.nowhere-none.result c.nowhere-none.ensures
