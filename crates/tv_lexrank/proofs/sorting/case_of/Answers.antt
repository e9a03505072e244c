use Rattle.std.proofs.Common.{◌∙◌, ap, sym, subst}
use Rattle.tv_cases.specs.Systems.{cases_of}
use Rattle.tv_cases.specs.LinearCases.{IsCase}
use Rattle.tv_rank.specs.Ways.{case_at}
use Rattle.tv_lexrank.proofs.SortLemmas.{of_case}
use Rattle.tv_lexrank.proofs.sorting.case_of.Goals as goal

pub returns-clause-limits : goal.returns-clause-limits
returns-clause-limits c = subst (IsCase (cases_of c.args.about.now).variables (cases_of c.args.about.now).locations) (sym (c.case_in.ensures ∙ ap (λ z. case_at z c.args.number) c.list.ensures.same)) (of_case (cases_of c.args.about.now) c.args.number c.list.ensures.limits c.requires)
