use Rattle.std.proofs.Common.{◌≡◌, sym, subst, length}
use Rattle.std.specs.Prelude.{All}
use Rattle.tv_linear.specs.Linear.{columns}
use Rattle.tv_cert.proofs.PieceLemmas.{piece_got}
use Rattle.tv_cert.proofs.pieces.Pieces.hold.Goals as goal

pub meets_all-requires : goal.meets_all-requires
meets_all-requires c =
    let got = piece_got c.args.self.now c.args.location c.args.k c.in-Some.piece.now c.in-Some.ensures in
    subst (λ rows. All (λ r. columns r ≡ length c.args.values.now) rows) (sym c.rows.ensures) (c.requires c.in-Some.piece.now got.1)
