use Rattle.std.proofs.Common.{sym, subst}
use Rattle.tv_finitely.specs.Found.{IsFound}
use Rattle.tv_finitely.specs.Refusals.{RefusesRows}
use Rattle.tv_finitely.specs.Splits.{split_of}
use Rattle.tv_finitely.proofs.KnownLemmas.{is_known, begins_known, never_left}
use Rattle.tv_finitely.proofs.RefusalLemmas.{under_unranked, closed_kept}
use Rattle.tv_finitely.proofs.proving.later_visits.Goals as goal

pub visits_under-requires-clause-known : goal.visits_under-requires-clause-known
visits_under-requires-clause-known c = is_known (split_of c.args.about.now).system c.args.list.now c.in_ok-known.known c.in_ok-known.ensures

pub visits_under-requires-clause-begins : goal.visits_under-requires-clause-begins
visits_under-requires-clause-begins c =
    begins_known (split_of c.args.about.now).system c.args.list.now c.in_ok-known.known c.in_ok-known.ensures c.args.about.now.cases.are_cases c.requires.inductive

pub returns-in-Ok-Stuck-clause-refusals : goal.returns-in-Ok-Stuck-clause-refusals
returns-in-Ok-Stuck-clause-refusals c = (
  c.in_ok-known.known,
  c.in_ok-known.ensures,
  subst (IsFound (split_of c.args.about.now) c.in_ok-known.known.pieces.items) c.in-Ok-Stuck.field-0-is c.in-Ok-Stuck.ensures.found,
)

pub unranked-requires : goal.unranked-requires
unranked-requires c =
    let s = split_of c.args.about.now in
    let known = c.in_ok-known.known in
    closed_kept s c.args.budget.now known.pieces.items
    (never_left s.system c.args.list.now known c.in_ok-known.ensures c.args.about.now.cases.are_cases c.requires.inductive)
    c.in-Err.fault c.in-Err.ensures.refusals

pub returns-clause-refusals : goal.returns-clause-refusals
returns-clause-refusals c =
    let s = split_of c.args.about.now in
    subst (RefusesRows s c.args.list.now c.args.budget.now) (sym c.unranked.ensures)
    (under_unranked s c.args.list.now c.args.budget.now c.in_ok-known.known c.in_ok-known.ensures c.in-Err.fault c.in-Err.ensures.refusals)
