use Rattle.std.proofs.Common.{sym, subst}
use Rattle.tv_cases.specs.Systems.{cases_of}
use Rattle.tv_lexrank.specs.First.{IsNode, IsOutcome, RefusesFirst}
use Rattle.tv_region.proofs.AlgebraLemmas.{if_ok}
use Rattle.tv_pre.specs.Search.{AreRanks}
use Rattle.tv_pre.proofs.ranking.ranks_of.Goals as goal

pub returns-in-Ok-Stuck : goal.returns-in-Ok-Stuck
returns-in-Ok-Stuck c = λ has. subst IsNode c.in-Ok-Stuck.field-0-is (c.in-Ok-Stuck.ensures.never_stuck has)

pub returns-in-Err-Solve : goal.returns-in-Err-Solve
returns-in-Err-Solve c =
    let about = cases_of c.args.setting.now.about.now in
    let pivots = c.args.setting.now.budget.now.pivots in
    let refuses = subst (RefusesFirst about pivots) c.in-Err-Solve.field-0-is c.in-Err-Solve.ensures.refusals in
    if_ok c.refused.result (λ r is. subst (AreRanks about pivots) (sym is.0) (record { refuses = refuses; is_no_want = is.1 })) c.refused.ensures

pub unreachable-requires : goal.unreachable-requires
unreachable-requires c =
    let about = cases_of c.args.setting.now.about.now in
    let pivots = c.args.setting.now.budget.now.pivots in
    subst (RefusesFirst about pivots) c.in-Err-Open.field-0-is c.in-Err-Open.ensures.refusals

pub unreachable-requires-in-Err-Cover : goal.unreachable-requires-in-Err-Cover
unreachable-requires-in-Err-Cover c =
    let about = cases_of c.args.setting.now.about.now in
    let pivots = c.args.setting.now.budget.now.pivots in
    subst (RefusesFirst about pivots) c.in-Err-Cover.field-0-is c.in-Err-Cover.ensures.refusals

pub returns-in-Ok-Node : goal.returns-in-Ok-Node
returns-in-Ok-Node c = record {
  ranked = subst (IsOutcome (cases_of c.args.setting.now.about.now)) c.in-Ok-Node.field-0-is c.in-Ok-Node.ensures.ranked;
  lexicographic = c.in-Ok-Node.ensures.lexicographic (subst IsNode (sym c.in-Ok-Node.field-0-is) tt);
}
