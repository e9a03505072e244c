use Rattle.std.proofs.Common.{◌≡◌, ◌∙◌, ap, sym, subst}
use Rattle.std.specs.Prelude.{All}
use Rattle.tv_linear.specs.Linear.{columns}
use Rattle.tv_cases.specs.Views.{case_view}
use Rattle.tv_invariant.proofs.judge.Judge.shows.Goals as goal
use Rattle.tv_cases.proofs.EvenRows.{columns-before}

pub is_met_by_all-requires-clause-same : goal.is_met_by_all-requires-clause-same
is_met_by_all-requires-clause-same c =
    ap columns c.in-Ok.ensures.exact.same
    ∙ columns-before c.args.row.now (case_view c.args.self.now.case.now) (subst (λ k. All (λ u. columns u.term ≡ k) c.args.self.now.case.now.updates.items) (sym c.requires.fits) c.args.self.now.terms)
    ∙ c.requires.fits
