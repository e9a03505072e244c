use Rattle.std.proofs.Common.{subst}
use Rattle.tv_linear.specs.Known.{given, as_given}
use Rattle.tv_cert.specs.Obligations.{a_cover}
use Rattle.tv_check_text.specs.Checking.{ChecksProof}
use Rattle.tv_cert.specs.TargetViews.{owed_at}
use Rattle.tv_check_text.proofs.proof.piece_is_covered.Goals as goal

pub returns : goal.returns
returns c = subst (λ (x : Type 0). x) (λ i. ChecksProof (a_cover (c.variables-columns.ensures.same i) (as_given (c.rows-rows.ensures i)) (owed_at given c.args.targets.now)) c.args.cursor.now c.cover_is_met.new.cursor c.cover_is_met.result) c.cover_is_met.ensures
