use Rattle.std.proofs.Common.{[], subst}
use Rattle.tv_linear.specs.Known.{given}
use Rattle.tv_cert.specs.Targets.{owed_into, no_fall}
use Rattle.tv_check_text.specs.Checking.{ChecksCover}
use Rattle.tv_check_text.proofs.proof.start_is_covered.Goals as goal

pub returns : goal.returns
returns c = subst (λ (x : Type 0). x) (λ i. ChecksCover (c.variables.ensures.same i) (owed_into c.args.pieces.now (c.start.ensures.same i) given no_fall) [] 128 c.args.cursor.now c.is_met.new.cursor c.is_met.result) c.is_met.ensures
