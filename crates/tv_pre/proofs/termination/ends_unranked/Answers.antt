use Rattle.std.proofs.Common.{refl, sym, subst}
use Rattle.tv_cert.specs.Statements as statements
use Rattle.tv_formula.specs.declared.tree.Path.TheVariants.{Every}
use Rattle.tv_pre.specs.Built.{of_nowhere}
use Rattle.tv_pre.specs.Counted.{IsCountedFor, IsCountedBefore}
use Rattle.tv_pre.specs.Finding.{IsRefusedFor}
use Rattle.tv_pre.specs.Search.{system_of}
use Rattle.tv_pre.proofs.EndsByRounds.{alone_end, alone_refused, alone_counted, alone_found, ends_wild}
use Rattle.tv_pre.proofs.PassedLemmas.{passed_on}
use Rattle.tv_pre.proofs.TerminationRounds.{back_refused, stops_counted}
use Rattle.tv_pre.proofs.TerminationSides.{ends_sides}
use Rattle.tv_pre.proofs.termination.ends_unranked.Goals as goal

pub returns-in_err-stops-clause-refused : goal.returns-in_err-stops-clause-refused
returns-in_err-stops-clause-refused c =
    let about = system_of c.args.search.now in
    let budget = c.args.search.now.setting.now.budget.now in
    let last = c.args.search.now.last in
    let none = c.nowhere-none.result in
    passed_on (IsRefusedFor about budget last statements.ends) c.from_residual-in_err-stops.result c.from_residual-in_err-stops.ensures.1
    (λ r is. back_refused about budget statements.ends last none c.in_err-stops.field-0.0 r (of_nowhere 0 none c.nowhere-none.ensures) is c.in_err-stops.ensures.refused)

pub returns-in_err-stops-clause-counted : goal.returns-in_err-stops-clause-counted
returns-in_err-stops-clause-counted c =
    let about = system_of c.args.search.now in
    let budget = c.args.search.now.setting.now.budget.now in
    let last = c.args.search.now.last in
    let none = c.nowhere-none.result in
    passed_on (IsCountedFor about budget last statements.ends) c.from_residual-in_err-stops.result c.from_residual-in_err-stops.ensures.1
    (λ r is. stops_counted about budget last none r c.nowhere-none.ensures (subst (IsCountedBefore about Every none) (sym is) c.in_err-stops.ensures.counted))

pub ends_in_rounds-requires-clause-sides : goal.ends_in_rounds-requires-clause-sides
ends_in_rounds-requires-clause-sides c =
    let back = c.in_ok-stops.ensures in
    ends_sides (system_of c.args.search.now) c.variables-variables.ensures.limits.cases c.in_ok-anywhere.anywhere c.nowhere-none.result c.in_ok-stops.stops c.in_ok-anywhere.ensures c.nowhere-none.ensures
    back.before back.others back.bounded back.built (c.is_tame.ensures.tame c.if-is_tame.true)

pub ended_after-requires-clause-layers : goal.ended_after-requires-clause-layers
ended_after-requires-clause-layers c =
    let back = c.in_ok-stops.ensures in
    alone_end (system_of c.args.search.now) c.args.search.now.last c.nowhere-none.result c.in_ok-stops.stops c.nowhere-none.ensures back.before back.built c.new.result.items c.new.ensures.items

pub returns-in_err-part-clause-refused : goal.returns-in_err-part-clause-refused
returns-in_err-part-clause-refused c =
    let about = system_of c.args.search.now in
    let budget = c.args.search.now.setting.now.budget.now in
    let last = c.args.search.now.last in
    let back = c.in_ok-stops.ensures in
    passed_on (IsRefusedFor about budget last statements.ends) c.from_residual-in_err-part.result c.from_residual-in_err-part.ensures.1
    (λ r is. alone_refused about last c.nowhere-none.result c.in_ok-stops.stops c.nowhere-none.ensures back.before back.built c.new.result.items c.new.ensures.items budget c.in_err-part.field-0.0 r is c.in_err-part.ensures.refusals)

pub returns-in_err-part-clause-counted : goal.returns-in_err-part-clause-counted
returns-in_err-part-clause-counted c =
    let about = system_of c.args.search.now in
    let budget = c.args.search.now.setting.now.budget.now in
    let last = c.args.search.now.last in
    let back = c.in_ok-stops.ensures in
    passed_on (IsCountedFor about budget last statements.ends) c.from_residual-in_err-part.result c.from_residual-in_err-part.ensures.1
    (λ r is. alone_counted about last c.nowhere-none.result c.in_ok-stops.stops c.nowhere-none.ensures back.before back.built c.new.result.items c.new.ensures.items budget c.in_err-part.field-0.0 r is c.in_err-part.ensures.refusals)

pub returns-clause-found : goal.returns-clause-found
returns-clause-found c lacks =
    let about = system_of c.args.search.now in
    let back = c.in_ok-stops.ensures in
    alone_found about c.args.search.now.last c.nowhere-none.result c.in_ok-stops.stops c.nowhere-none.ensures back.before back.built c.new.result.items c.new.ensures.items
    c.in_ok-anywhere.anywhere c.in_ok-anywhere.ensures (c.is_tame.ensures.wild c.if-is_tame.false) _ c.in_ok-part.ensures.region c.in_ok-part.ensures.part refl refl

pub returns-clause-known : goal.returns-clause-known
returns-clause-known c lacks tame =
    let back = c.in_ok-stops.ensures in
    absurd (ends_wild (system_of c.args.search.now) c.args.search.now.last c.nowhere-none.result c.in_ok-stops.stops c.nowhere-none.ensures back.before back.built c.new.result.items c.new.ensures.items
    c.in_ok-anywhere.anywhere c.in_ok-anywhere.ensures (c.is_tame.ensures.wild c.if-is_tame.false) tame)
