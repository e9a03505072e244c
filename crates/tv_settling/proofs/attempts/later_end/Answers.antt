use Rattle.std.proofs.Common.{inr, sym, subst}
use Rattle.tv_cases.specs.Systems.{cases_of}
use Rattle.tv_lexrank.specs.Outcomes.{IsAnswer}
use Rattle.tv_settling.specs.Ends.{RefusesUnder}
use Rattle.tv_settling.proofs.EndLemmas.{under_handed, under_unranked, closed_kept}
use Rattle.tv_settling.proofs.KnownLemmas.{is_known, begins_known, never_left}
use Rattle.tv_settling.proofs.attempts.later_end.Goals as goal

pub lex_rank-requires-clause-known : goal.lex_rank-requires-clause-known
lex_rank-requires-clause-known c = is_known (cases_of c.args.about.now) c.args.list.now c.in_ok-known.known c.in_ok-known.ensures

pub known_certificate-requires-clause-known : goal.known_certificate-requires-clause-known
known_certificate-requires-clause-known c = is_known (cases_of c.args.about.now) c.args.list.now c.in_ok-known.known c.in_ok-known.ensures

pub known_certificate-requires-clause-begins : goal.known_certificate-requires-clause-begins
known_certificate-requires-clause-begins c =
    begins_known (cases_of c.args.about.now) c.args.list.now c.in_ok-known.known c.in_ok-known.ensures c.args.about.now.are_cases c.requires.inductive

pub returns-in-Ok-Node-clause-refusals : goal.returns-in-Ok-Node-clause-refusals
returns-in-Ok-Node-clause-refusals c =
    let about = cases_of c.args.about.now in
    subst (RefusesUnder about c.args.list.now c.args.budget.now) (sym c.uncovered.ensures)
    (under_handed about c.args.list.now c.args.budget.now c.in_ok-known.known c.in_ok-known.ensures c.in-Err-known_certificate.fault (inr c.in-Err-known_certificate.ensures.refusals))

pub returns-in-Ok-Stuck-clause-refusals : goal.returns-in-Ok-Stuck-clause-refusals
returns-in-Ok-Stuck-clause-refusals c = (
  c.in_ok-known.known,
  c.in_ok-known.ensures,
  subst (IsAnswer (cases_of c.args.about.now) c.in_ok-known.known.pieces.items) c.in-Ok-Stuck.field-0-is c.in-Ok-Stuck.ensures.ranked,
)

pub unranked-requires : goal.unranked-requires
unranked-requires c =
    let about = cases_of c.args.about.now in
    let known = c.in_ok-known.known in
    closed_kept about c.args.budget.now known.pieces.items
    (never_left about c.args.list.now known c.in_ok-known.ensures c.args.about.now.are_cases c.requires.inductive)
    c.in-Err.fault c.in-Err.ensures.refusals

pub returns-clause-refusals : goal.returns-clause-refusals
returns-clause-refusals c =
    let about = cases_of c.args.about.now in
    subst (RefusesUnder about c.args.list.now c.args.budget.now) (sym c.unranked.ensures)
    (under_unranked about c.args.list.now c.args.budget.now c.in_ok-known.known c.in_ok-known.ensures c.in-Err.fault c.in-Err.ensures.refusals)
