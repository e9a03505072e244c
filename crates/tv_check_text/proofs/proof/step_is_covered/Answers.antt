use Rattle.std.proofs.Common.{◌+◌, ◌++◌, subst}
use Rattle.tv_linear.specs.Known.{as_given, composed, given}
use Rattle.tv_linear.specs.Terms.{terms_after}
use Rattle.tv_cert.specs.Obligations.{a_cover}
use Rattle.tv_cert.specs.TargetViews.{owed_at}
use Rattle.tv_check_text.specs.Checking.{ChecksProof}
use Rattle.tv_check_text.proofs.proof.step_is_covered.Goals as goal

pub returns : goal.returns
returns c =
    subst (λ (x : Type 0). x) (λ i. ChecksProof (a_cover (c.variables-variables.ensures.same i + c.args.case.now.draws) (as_given (c.rows.ensures i) ++ as_given (c.deref-2.ensures.value i)) (owed_at (λ r. composed (given r) (terms_after (c.variables-variables.ensures.same i) (c.deref.ensures.value i))) c.args.targets.now)) c.args.cursor.now c.cover_is_met.new.cursor c.cover_is_met.result) c.cover_is_met.ensures
