use Rattle.std.proofs.Common.{◌+◌, ◌++◌, subst}
use Rattle.tv_linear.specs.Covers.{no_target}
use Rattle.tv_linear.specs.Known.{as_given}
use Rattle.tv_refute.specs.Frames.{known_at}
use Rattle.tv_check_text.specs.Checking.{ChecksCover}
use Rattle.tv_check_text.proofs.choices.stop_is_met.Goals as goal

pub returns : goal.returns
returns c = subst (λ (x : Type 0). x) (λ i. ChecksCover (c.variables.ensures.same i + c.args.case.now.draws) no_target (known_at c.args.frames.now ++ as_given (c.deref.ensures.value i)) c.args.left c.args.cursor.now c.is_met.new.cursor c.is_met.result) c.is_met.ensures
