use Rattle.std.proofs.Common.{◌∙◌, ap, pos}
use Rattle.tv_cases.specs.Systems.{cases_of}
use Rattle.tv_linear.specs.Arithmetic.{constant_row}
use Rattle.tv_linear.specs.Linear.{linear}
use Rattle.tv_invariant.proofs.AskLemmas.{false_more, rows_over}
use Rattle.tv_invariant.proofs.strengthening.false_rows.Goals as goal

pub locations-preserved : goal.locations-preserved
locations-preserved c =
    let n = (cases_of c.args.about.now).variables in
    let row = c.in_ok-row.ensures ∙ ap (λ r. linear r.coefficients (pos 1)) c.in_ok-zero.ensures ∙ ap (λ k. constant_row k (pos 1)) c.variables-variables.ensures.same in
    false_more n c.locations.location c.locations.list.items c.push_item.new.items.items _ c.locations.invariant row c.in_ok-push_item.ensures

pub returns-clause-over : goal.returns-clause-over
returns-clause-over c = rows_over (cases_of c.args.about.now).variables c.locations.location c.locations.list.items c.locations.invariant
