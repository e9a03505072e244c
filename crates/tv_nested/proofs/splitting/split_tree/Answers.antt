use Rattle.std.proofs.Common.{◌≡◌, ◌-◌, length, arith}
use Rattle.tv_nested.proofs.splitting.split_tree.Goals as goal

pub split_at-requires-clause-rest : goal.split_at-requires-clause-rest
split_at-requires-clause-rest c =
    let t = c.rows-test.true in
    c.rows.invariant _ (omega (arith, t))

pub rows-preserved : goal.rows-preserved
rows-preserved c = λ p e.
    let t = c.rows-test.true in
    rw (← (let q : length c.args.rows.now - 1 - c.rows.turn ≡ p = omega (arith, t, e) in q)) c.in_ok-tree-2.ensures
