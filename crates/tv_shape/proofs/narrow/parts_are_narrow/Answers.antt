use Rattle.std.proofs.Common.{All, length, arith, sym, ap, subst}
use Rattle.tv_shape.specs.Narrow.{PieceNarrow, ProofNarrow}
use Rattle.tv_shape.proofs.narrow.parts_are_narrow.Goals as goal

pub returns-then-pieces : goal.returns-then-pieces
returns-then-pieces c = (
  λ t. record {
    count = (let bounded = c.if-pieces.true in let e = ap length c.list-pieces.ensures in omega (arith, bounded, e));
    ranks = c.narrow_count.ensures;
    pieces = subst (All PieceNarrow) c.list-pieces.ensures c.narrow_pieces.ensures;
    offered = subst (All ProofNarrow) c.deref.ensures.value (c.proofs_are_narrow.ensures.0 t);
  },
  λ h. c.proofs_are_narrow.ensures.1 (subst (All ProofNarrow) (sym c.deref.ensures.value) h.offered),
)
