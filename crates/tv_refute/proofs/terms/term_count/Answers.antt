use Rattle.std.proofs.Common.{sym, ap, ◌∙◌, length}
use Rattle.tv_linear.specs.Terms.{update_of}
use Rattle.tv_linear.proofs.PlainLists.{length-table}
use Rattle.tv_refute.specs.Terms.{terms_of}
use Rattle.tv_refute.proofs.Places.{length-draw_terms}
use Rattle.tv_refute.proofs.terms.term_count.Goals as goal

pub returns-in-After : goal.returns-in-After
returns-in-After c = sym (ap (λ t. length (terms_of t)) c.in-After.is ∙ length-table c.in-After.columns (update_of c.in-After.updates.now))

pub returns-in-Drawn : goal.returns-in-Drawn
returns-in-Drawn c = c.joined.ensures ∙ sym (ap (λ t. length (terms_of t)) c.in-Drawn.is ∙ length-draw_terms c.in-Drawn.columns c.in-Drawn.draws.now)
