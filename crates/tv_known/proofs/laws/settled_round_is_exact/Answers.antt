use Rattle.tv_known.specs.Rounds.{must_end}
use Rattle.tv_known.proofs.RoundLemmas.{round_all, round_right}
use Rattle.tv_known.proofs.laws.settled_round_is_exact.Goals as goal

pub returns : goal.returns
returns g c = record {
  right = λ about cases path shape k settled s is inside. round_right about cases g.S.Sides.hold g.S.Sides.end g.S.Sides.hold g.S.Sides.end (λ x i h. h) (λ x i h. h) (must_end shape) path k settled s is inside;
  all = λ about cases path shape k settled can s is holds. round_all about cases g.S.Sides.hold g.S.Sides.end (must_end shape) path k can settled s is holds;
}
