use Rattle.std.proofs.Common.{◌≡◌, ◌∙◌, ap, length}
use Rattle.tv_linear.specs.Linear.{columns}
use Rattle.tv_invariant.proofs.ListLemmas.{all_mapped}
use Rattle.tv_invariant.proofs.seen.fails_at.Goals as goal

pub holds-requires : goal.holds-requires
holds-requires c =
    ap length c.deref.ensures.value
    ∙ all_mapped (λ xs. length xs ≡ columns c.args.row.now) (λ p. p.items) c.args.points.now c.points.point-index c.point-item.result c.requires c.points-test.true c.point-item.is
