use Rattle.std.proofs.Common.{subst}
use Rattle.tv_pre.specs.Wide.{AreTold}
use Rattle.tv_pre.proofs.WideLemmas.{back_wide, both_rows}
use Rattle.tv_pre.proofs.wide.joined.Goals as goal

pub returns-in_ok-size-in-HaveRows-back : goal.returns-in_ok-size-in-HaveRows-back
returns-in_ok-size-in-HaveRows-back c n xs ys h g =
    both_rows n xs ys c.in-HaveRows.size c.in-HaveRows-back.size c.in_ok-size-in-HaveRows-back.size c.in_ok-size-in-HaveRows-back.ensures (subst (AreTold n xs) c.in-HaveRows.is h) (subst (AreTold n ys) c.in-HaveRows-back.is g)

pub returns-in_ok-place-in-Wide-back : goal.returns-in_ok-place-in-Wide-back
returns-in_ok-place-in-Wide-back c n xs ys h g =
    back_wide n xs ys c.in-HaveRows.size c.in-Wide-back.place c.in_ok-place-in-Wide-back.place (subst (AreTold n xs) c.in-HaveRows.is h).1 c.in_ok-place-in-Wide-back.ensures (subst (AreTold n ys) c.in-Wide-back.is g)
