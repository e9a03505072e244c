use Rattle.std.proofs.Common.{◌≡◌, sym, ap, ◌∙◌, length, subst, ◌<◌, get_or, MatchOption}
use Rattle.tv_linear.specs.Known.{kept, put}
use Rattle.tv_linear.specs.Terms.{update_of}
use Rattle.tv_linear.proofs.PlainLists.{length-table}
use Rattle.tv_refute.specs.Terms.{terms_of}
use Rattle.tv_refute.proofs.Places.{length-draw_terms}
use Rattle.tv_refute.proofs.terms.row_put.Goals as goal
use Rattle.tv_linear.proofs.ListLaws.{get_or-table}

pub drawn-requires : goal.drawn-requires
drawn-requires c = subst (λ n. c.args.v < n) (ap (λ t. length (terms_of t)) c.in-Drawn.is ∙ length-draw_terms c.in-Drawn.columns c.in-Drawn.draws.now) c.requires

pub returns-in-After : goal.returns-in-After
returns-in-After c =
    let l = subst (λ n. c.args.v < n) (ap (λ t. length (terms_of t)) c.in-After.is ∙ length-table c.in-After.columns (update_of c.in-After.updates.now)) c.requires in
    let same : get_or (terms_of c.args.terms.now) c.args.v (kept 0) ≡ update_of c.in-After.updates.now c.args.v =
    ap (λ t. get_or (terms_of t) c.args.v (kept 0)) c.in-After.is ∙ get_or-table c.in-After.columns (update_of c.in-After.updates.now) c.args.v (kept 0) l in
    subst (λ t. MatchOption c.updated.result (t ≡ kept c.args.v) (λ row. t ≡ put row.now)) (sym same) c.updated.ensures
