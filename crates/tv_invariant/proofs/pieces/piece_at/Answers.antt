use Rattle.std.proofs.Common.{refl, subst}
use Rattle.tv_invariant.specs.Rows.{IsStronger}
use Rattle.tv_invariant.proofs.PieceLemmas.{stronger_over}
use Rattle.tv_invariant.proofs.pieces.piece_at.Goals as goal

pub returns : goal.returns
returns c =
    let rows = c.in_ok-rows.rows.items in
    let stronger = subst (λ rs. IsStronger rs rows) c.in_ok-all.ensures c.in_ok-rows.ensures in
    record { place = refl; wide = refl; rows = stronger; over = stronger_over c.args.variables c.args.location c.args.list.now rows c.requires stronger }
