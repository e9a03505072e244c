use Rattle.std.proofs.Common.{◌≡◌, ◌∙◌, All, sym, subst}
use Rattle.tv_linear.specs.Linear.{columns}
use Rattle.tv_cases.specs.Systems.{cases_of}
use Rattle.tv_rank.specs.Ways.{rows_at}
use Rattle.tv_lexrank.proofs.MetLemmas.{over_at}
use Rattle.tv_lexrank.proofs.certificate.start_cover.Goals as goal

pub cover_one-requires-clause-same : goal.cover_one-requires-clause-same
cover_one-requires-clause-same c =
    let about = cases_of c.args.about.now in
    let known = c.args.known.now.pieces.items in
    let e = c.in_ok-copies.ensures ∙ c.known_at-rows.ensures ∙ (λ i. rows_at (c.deref.ensures.value i) (c.start.ensures.same i)) in
    subst (λ n. All (λ r. columns r ≡ n) c.in_ok-copies.field-0.items) (sym c.variables.ensures.same)
    (subst (All (λ r. columns r ≡ about.variables)) (sym e) (over_at about.variables known about.start c.requires.known.over))
