use Rattle.tv_refute.specs.Built.{built}
use Rattle.tv_refute.specs.Frames.{known_at}
use Rattle.tv_refute.proofs.Soundness.{refuted_denial}
use Rattle.tv_refute.proofs.refute.refutes_denial.Goals as goal

pub returns-clause-sound : goal.returns-clause-sound
returns-clause-sound c =
    λ t. refuted_denial c.args.columns (known_at c.args.frames.now) (built c.args.row.now) c.args.multipliers.now (c.refutes.ensures.exact.0 t)
