use Rattle.std.proofs.Common.{◌≡◌, ◌∙◌, All, subst}
use Rattle.tv_linear.specs.Linear.{columns}
use Rattle.tv_lexrank.specs.Known.{piece_rows}
use Rattle.tv_finitely.proofs.proving.first_visits.Goals as goal

pub visits_under-requires-clause-known : goal.visits_under-requires-clause-known
visits_under-requires-clause-known c = record {
  one_each = c.in_ok-known.ensures.as_many ∙ c.locations.ensures.same;
  over = subst (λ n. All (λ p. All (λ r. columns r ≡ n) (piece_rows p)) c.in_ok-known.known.pieces.items) c.variables.ensures.same c.in_ok-known.ensures.over;
}
