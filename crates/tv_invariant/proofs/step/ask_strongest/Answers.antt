use Rattle.std.proofs.Common.{◌≡◌, ◌+◌, inr, subst, sym, ap, ◌∙◌}
use Rattle.std.proofs.lemmas.List.Elements.{All-contains}
use Rattle.tv_linear.specs.Linear.{columns}
use Rattle.tv_invariant.specs.Rows.{IsStronger}
use Rattle.tv_invariant.specs.Judged.{RefusesRow}
use Rattle.tv_invariant.proofs.SeenLemmas.{nothing_seen}
use Rattle.tv_invariant.proofs.PieceLemmas.{strongest_there}
use Rattle.tv_invariant.proofs.step.ask_strongest.Goals as goal

pub rows-init : goal.rows-init
rows-init c = nothing_seen c.args.judge.now.ambient.now.columns c.args.judge.now.ambient.now.rows.items c.new-seen.result c.new-seen.ensures.points c.new-seen.ensures.shown

pub shows-requires-clause-fits : goal.shows-requires-clause-fits
shows-requires-clause-fits c =
    let j = c.args.judge.now in
    let stronger = subst (λ rs. IsStronger rs c.in_ok-rows.rows.items) c.in_ok-rows_at.ensures c.in_ok-rows.ensures in
    let one = strongest_there j.case.now.to c.args.now.now c.in_ok-rows.rows.items c.deref-row-items.result.now c.rows.row-index c.row-item.result stronger c.deref-row-items.ensures.value c.rows-test.true c.row-item.is in
    ap (λ r. columns r + j.case.now.draws) (sym one.3) ∙ All-contains (λ d. columns d.row + j.case.now.draws ≡ j.ambient.now.columns) c.args.now.now one.0 c.requires one.1

pub returns-in-Err-clause-refusals : goal.returns-in-Err-clause-refusals
returns-in-Err-clause-refusals c =
    let j = c.args.judge.now in
    let stronger = subst (λ rs. IsStronger rs c.in_ok-rows.rows.items) c.in_ok-rows_at.ensures c.in_ok-rows.ensures in
    let one = strongest_there j.case.now.to c.args.now.now c.in_ok-rows.rows.items c.deref-row-items.result.now c.rows.row-index c.row-item.result stronger c.deref-row-items.ensures.value c.rows-test.true c.row-item.is in
    inr (one.0, one.1, (one.2, subst (λ r. RefusesRow j r c.in-Err.fault) (sym one.3) c.in-Err.ensures.refusals))
