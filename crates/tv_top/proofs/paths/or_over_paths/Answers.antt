use Rattle.std.proofs.Common.{inr, rules}
use Rattle.tv_top.proofs.Found.{formula_known}
use Rattle.tv_top.proofs.paths.or_over_paths.Goals as goal

pub returns-else-is_unknown : goal.returns-else-is_unknown
returns-else-is_unknown c = λ f is. inr (formula_known c.args.search.now f c.over_paths-by_regions.result (search rules) (c.over_paths-by_regions.ensures f is))
