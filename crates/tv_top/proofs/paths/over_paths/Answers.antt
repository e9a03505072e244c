use Rattle.std.proofs.Common.{inr, subst}
use Rattle.tv_cases.specs.Systems.{cases_of}
use Rattle.tv_pre.specs.Proving.{IsUnproved}
use Rattle.tv_top.proofs.paths.over_paths.Goals as goal

pub returns-in-Err : goal.returns-in-Err
returns-in-Err c = λ f is.
    let search = c.args.search.now in
    let claim = search.claim.now in
    inr (
      c.in-Err.why,
      c.unproved.ensures f is,
      record {
        claim = claim;
        is_claim = is;
        variables = c.requires.one.variables;
        shows = subst (λ b. IsUnproved (cases_of search.about.now) claim b c.in-Err.why) c.budget_of-budget.ensures.exact c.in-Err.ensures.unproved;
      },
    )

pub unproved-requires : goal.unproved-requires
unproved-requires c = (c.budget_of-budget.result, c.in-Err.ensures.unproved)
