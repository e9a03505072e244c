use Rattle.std.proofs.Common.{ap, sym, subst, length, ◌∙◌}
use Rattle.tv_linear.specs.Linear.{IsMet, columns}
use Rattle.tv_cases.specs.Systems.{cases_of}
use Rattle.tv_simplex.proofs.RowLemmas.{tested_false}
use Rattle.tv_invariant.specs.Reached.{IsReached}
use Rattle.tv_invariant.proofs.RunLemmas.{unmet_in_none}
use Rattle.tv_invariant.proofs.reached.is_met_at.Goals as goal
use Rattle.tv_linear.proofs.ListLaws.{all_at}

pub meets-requires : goal.meets-requires
meets-requires c =
    let here = all_at (IsReached (cases_of c.args.about.now)) c.args.states.now c.states.state-index c.state-item.result c.requires.states c.states-test.true c.state-item.is in
    (ap length c.deref.ensures.value ∙ here.counted) ∙ sym (ap columns c.of.ensures ∙ c.requires.over)

pub returns-then-not-meets : goal.returns-then-not-meets
returns-then-not-meets c =
    let about = cases_of c.args.about.now in
    let here = all_at (IsReached about) c.args.states.now c.states.state-index c.state-item.result c.requires.states c.states-test.true c.state-item.is in
    let unmet = tested_false c.meets.result c.meets.ensures c.if-not-meets.true in
    unmet_in_none about c.state-item.result c.args.candidate.now here c.if-state-candidate.true (λ m. unmet (subst (λ r. IsMet c.deref.result.now r) (sym c.of.ensures) (subst (λ xs. IsMet xs c.args.candidate.now.row) (sym c.deref.ensures.value) m)))
