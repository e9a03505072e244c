use Rattle.std.proofs.Common.{◌≡◌, ◌∙◌, sym}
use Rattle.tv_linear.specs.Linear.{Linear, columns}
use Rattle.tv_region.proofs.MetLemmas.{has_all}
use Rattle.tv_region.proofs.inclusion.is_found_inside.Goals as goal

pub is_some_denied_at-requires : goal.is_some_denied_at-requires
is_some_denied_at-requires c = λ r h.
    c.requires.point ∙ sym (has_all (λ (s : Linear). columns s ≡ c.args.limits.now.columns) c.args.outer.now r (c.have_columns.ensures.0 c.if-not-have_columns.false) h)

pub are_shown-requires-clause-outer : goal.are_shown-requires-clause-outer
are_shown-requires-clause-outer c = λ r h.
    has_all (λ (s : Linear). columns s ≡ c.args.limits.now.columns) c.args.outer.now r (c.have_columns.ensures.0 c.if-not-have_columns.false) h
