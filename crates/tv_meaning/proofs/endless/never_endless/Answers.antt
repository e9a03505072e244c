use Rattle.std.proofs.Common.{refl}
use Rattle.tv_meaning.proofs.RunLemmas.{never_endless}
use Rattle.tv_meaning.proofs.endless.never_endless.Goals as goal

pub returns : goal.returns
returns g c h = never_endless h (g.E.Endless.state_at c.args.list.now) c.requires 0 refl
