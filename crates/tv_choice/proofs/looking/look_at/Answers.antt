use Rattle.tv_cover.specs.Trying.{IsWideIn}
use Rattle.tv_choice.specs.Asked.{query_of}
use Rattle.tv_choice.specs.Looking.{no_wide}
use Rattle.tv_choice.proofs.LookLemmas.{look_other}
use Rattle.tv_choice.proofs.looking.look_at.Goals as goal

pub returns-in-Err-any_excluded-clause-refusals : goal.returns-in-Err-any_excluded-clause-refusals
returns-in-Err-any_excluded-clause-refusals c =
    let q = c.args.question.now in
    look_other no_wide (IsWideIn q.columns c.args.place.now.rows.now c.args.owed.now) q.columns (query_of q) c.args.place.now.rows.now q.pivots c.in-Err-any_excluded.fault (λ column w. absurd w) c.in-Err-any_excluded.ensures.refusals
