use Rattle.std.proofs.Common.{refl, sym, subst}
use Rattle.tv_cert.specs.Statements as statements
use Rattle.tv_formula.specs.declared.tree.Path.TheVariants.{Any}
use Rattle.tv_pre.specs.Built.{of_everywhere}
use Rattle.tv_pre.specs.Counted.{IsCountedFor, IsCountedBefore}
use Rattle.tv_pre.specs.Finding.{IsRefusedFor}
use Rattle.tv_pre.specs.Search.{system_of}
use Rattle.tv_pre.proofs.NeverByRounds.{never_wild}
use Rattle.tv_pre.proofs.PassedLemmas.{passed_on}
use Rattle.tv_pre.proofs.TerminationFound.{nowhere_found}
use Rattle.tv_pre.proofs.TerminationRounds.{back_refused, goes_counted}
use Rattle.tv_pre.proofs.TerminationSides.{never_sides}
use Rattle.tv_pre.proofs.termination.never_unranked.Goals as goal

pub returns-in_err-goes-clause-refused : goal.returns-in_err-goes-clause-refused
returns-in_err-goes-clause-refused c =
    let about = system_of c.args.search.now in
    let budget = c.args.search.now.setting.now.budget.now in
    let last = c.args.search.now.last in
    let anywhere = c.in_ok-anywhere.anywhere in
    passed_on (IsRefusedFor about budget last statements.never_ends) c.from_residual-in_err-goes.result c.from_residual-in_err-goes.ensures.1
    (λ r is. back_refused about budget statements.never_ends last anywhere c.in_err-goes.field-0.0 r (of_everywhere 0 anywhere c.in_ok-anywhere.ensures) is c.in_err-goes.ensures.refused)

pub returns-in_err-goes-clause-counted : goal.returns-in_err-goes-clause-counted
returns-in_err-goes-clause-counted c =
    let about = system_of c.args.search.now in
    let budget = c.args.search.now.setting.now.budget.now in
    let last = c.args.search.now.last in
    let anywhere = c.in_ok-anywhere.anywhere in
    passed_on (IsCountedFor about budget last statements.never_ends) c.from_residual-in_err-goes.result c.from_residual-in_err-goes.ensures.1
    (λ r is. goes_counted about budget last anywhere r c.in_ok-anywhere.ensures (subst (IsCountedBefore about Any anywhere) (sym is) c.in_err-goes.ensures.counted))

pub never_in_rounds-requires-clause-sides : goal.never_in_rounds-requires-clause-sides
never_in_rounds-requires-clause-sides c =
    let back = c.in_ok-goes.ensures in
    never_sides (system_of c.args.search.now) c.variables-variables.ensures.limits.cases c.in_ok-anywhere.anywhere c.nowhere-none.result c.in_ok-goes.goes c.in_ok-anywhere.ensures c.nowhere-none.ensures
    back.before back.others back.bounded back.built (c.is_tame.ensures.tame c.if-is_tame.true)

pub returns-clause-found : goal.returns-clause-found
returns-clause-found c lacks =
    let about = system_of c.args.search.now in
    let last = c.args.search.now.last in
    nowhere_found about last _ c.in_ok-part.ensures.nowhere c.in_ok-part.ensures.part refl
    (never_wild about last c.in_ok-anywhere.anywhere c.nowhere-none.result c.in_ok-goes.goes c.in_ok-anywhere.ensures c.nowhere-none.ensures c.in_ok-goes.ensures.built (c.is_tame.ensures.wild c.if-is_tame.false))
    (λ none. absurd cc)

pub returns-clause-known : goal.returns-clause-known
returns-clause-known c lacks tame =
    absurd ((never_wild (system_of c.args.search.now) c.args.search.now.last c.in_ok-anywhere.anywhere c.nowhere-none.result c.in_ok-goes.goes c.in_ok-anywhere.ensures c.nowhere-none.ensures c.in_ok-goes.ensures.built
    (c.is_tame.ensures.wild c.if-is_tame.false)).wild tame)
