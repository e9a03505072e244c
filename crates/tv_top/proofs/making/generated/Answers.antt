use Rattle.std.proofs.Common.{◌≤◌, length, sym, subst}
use Rattle.tv_top.proofs.Made.{short_text}
use Rattle.tv_top.proofs.making.generated.Goals as goal

pub returns-clause-short : goal.returns-clause-short
returns-clause-short c =
    subst (λ xs. length xs ≤ 1048576) (sym c.loops.invariant)
    (short_text c.args.loops c.loops.number c.requires c.loops.auto.number-end c.loops-test.false)
