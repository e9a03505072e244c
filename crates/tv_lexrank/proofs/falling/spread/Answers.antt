use Rattle.std.proofs.Common.{◌≡◌, subst}
use Rattle.std.specs.Result.{IfOk}
use Rattle.tv_lexrank.specs.Falling.{put_in}
use Rattle.tv_lexrank.proofs.falling.spread.Goals as goal

pub returns : goal.returns
returns c = subst (λ k. IfOk c.put_in.result (λ v. v.items ≡ put_in k c.args.above c.args.line.now)) c.saturating_sub.ensures c.put_in.ensures
