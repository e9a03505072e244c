use Rattle.std.proofs.Common.{◌≡◌, sym, ap, ◌∙◌, arith, ◌-◌, ◌+◌}
use Rattle.tv_linear.specs.Known.{put}
use Rattle.tv_refute.proofs.Places.{draw_term_first, draw_term_later}
use Rattle.tv_refute.proofs.terms.drawn.Goals as goal

pub returns-then-v-first : goal.returns-then-v-first
returns-then-v-first c = draw_term_first c.args.columns c.args.draws.now c.args.v (omega arith)

pub returns-else-v-first : goal.returns-else-v-first
returns-else-v-first c =
    let e : c.args.v ≡ c.args.columns + (c.args.v - c.args.columns) = omega arith in
    draw_term_later c.args.columns c.args.draws.now c.args.v (c.args.v - c.args.columns) c.index-draws-v.result e (omega arith) ∙ ap (λ r. put r) (sym c.index-draws-v.is)
