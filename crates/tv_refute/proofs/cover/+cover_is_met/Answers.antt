use Rattle.std.proofs.Common.{refl}
use Rattle.tv_linear.specs.Known.{given}
use Rattle.tv_linear.specs.Views.{row_seen}
use Rattle.tv_refute.specs.Frames.{known_at}
use Rattle.tv_refute.proofs.ShownLemmas.{numbers}
use Rattle.tv_refute.proofs.Soundness.{shown_enter, split_enter}
use Rattle.tv_refute.proofs.cover.+cover_is_met.Goals as goal

pub returns-then-cover_is_met-clause-sound : goal.returns-then-cover_is_met-clause-sound
returns-then-cover_is_met-clause-sound g t c =
    λ h. split_enter c.args.columns (known_at c.args.frames.now) (g.T.Targets.owed c.args.targets.now) (given (row_seen c.of.result)) (c.if-cover_is_met.ensures.sound refl) (c.cover_is_met-then-cover_is_met.ensures.sound h)

pub returns-in-Into-clause-sound : goal.returns-in-Into-clause-sound
returns-in-Into-clause-sound g t c =
    λ h. shown_enter c.args.columns (known_at c.args.frames.now) (g.T.Targets.owed c.args.targets.now) c.in-Into.target c.in-Into.fall (numbers c.deref-in-Into.result.now) (c.are_shown.ensures.0 h)
