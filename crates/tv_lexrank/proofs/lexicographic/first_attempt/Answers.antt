use Rattle.std.proofs.Common.{◌≡◌, ◌∙◌, All, refl, subst}
use Rattle.tv_linear.specs.Linear.{columns}
use Rattle.tv_cases.specs.Systems.{cases_of}
use Rattle.tv_lexrank.specs.Known.{piece_rows}
use Rattle.tv_lexrank.proofs.FirstLemmas.{answered_bare, refused_bare}
use Rattle.tv_lexrank.proofs.lexicographic.first_attempt.Goals as goal

pub lex_rank-requires-clause-known : goal.lex_rank-requires-clause-known
lex_rank-requires-clause-known c = record {
  one_each = c.in_ok-known.ensures.as_many ∙ c.locations.ensures.same;
  over = subst (λ n. All (λ p. All (λ r. columns r ≡ n) (piece_rows p)) c.in_ok-known.known.pieces.items) c.variables.ensures.same c.in_ok-known.ensures.over;
}

pub returns-in-Ok-clause-ranked : goal.returns-in-Ok-clause-ranked
returns-in-Ok-clause-ranked c = answered_bare (cases_of c.args.about.now) c.in_ok-known.known.pieces.items c.in-Ok.ranked c.in_ok-known.ensures.bare c.in-Ok.ensures.ranked

pub returns-clause-refusals : goal.returns-clause-refusals
returns-clause-refusals c = refused_bare (cases_of c.args.about.now) c.in_ok-known.known.pieces.items _ c.args.pivots c.in-Err.fault c.in_ok-known.ensures.bare refl c.in-Err.ensures.refusals
