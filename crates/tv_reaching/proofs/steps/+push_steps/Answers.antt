use Rattle.std.proofs.Common.{All, arith, sym, subst}
use Rattle.tv_linear.specs.Linear.{IsWithin}
use Rattle.tv_reaching.proofs.ValueLemmas.{length-rest}
use Rattle.tv_reaching.proofs.RunLemmas.{narrow_front, narrow_rest}
use Rattle.tv_reaching.proofs.steps.+push_steps.Goals as goal

pub shortened-requires : goal.shortened-requires
shortened-requires t c =
    subst (All (IsWithin 62)) (sym c.deref.ensures.value) (narrow_front c.args.draws.now c.first-item.result c.in-len1-up-draws.len_at_least c.first-item.is c.requires.draws)

pub push_steps-requires : goal.push_steps-requires
push_steps-requires t c =
    let d = c.decreases in
    let p = length-rest c.args.path.now c.in-len1-up.len_at_least in
    let e = length-rest c.args.draws.now c.in-len1-up-draws.len_at_least in
    let even = c.requires.even in
    let bounded = c.requires.bounded in
    (omega (arith, d, p), (narrow_rest c.args.draws.now c.in-len1-up-draws.len_at_least c.requires.draws, (omega (arith, p, e, even), omega (arith, p, bounded))))
