use Rattle.tv_refute.specs.Built.{change_of}
use Rattle.tv_refute.specs.Frames.{known_at}
use Rattle.tv_cert.specs.TargetViews.{owed_at}
use Rattle.tv_check_text.proofs.ProofLemmas.{cover_checks}
use Rattle.tv_check_text.proofs.proof.cover_is_met.Goals as goal

pub returns : goal.returns
returns c = cover_checks c.args.covering.now.columns (owed_at (change_of c.args.covering.now.change.now) c.args.covering.now.targets.now) (known_at c.args.frames.now) c.args.cursor.now c.is_met.new.cursor c.is_met.result c.is_met.ensures
