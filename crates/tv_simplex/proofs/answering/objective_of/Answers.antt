use Rattle.std.proofs.Common.{subst}
use Rattle.tv_simplex.specs.Rows.{ratio}
use Rattle.tv_simplex.specs.Walking.{IsLessOne}
use Rattle.tv_simplex.specs.Tables.{shown}
use Rattle.tv_simplex.proofs.AnswerLemmas.{objective_more}
use Rattle.tv_simplex.proofs.answering.objective_of.Goals as goal

pub rows-preserved : goal.rows-preserved
rows-preserved c = objective_more c.rows.row c.args.columns (shown c.args.table.now c.args.rows) c.rows.fractions.items c.push_item.new.items.items c.less_one.result c.rows.invariant c.in_ok-push_item.ensures
    (subst (λ r. IsLessOne (ratio c.less_one.result) r) c.entry_at.ensures.is c.less_one.ensures.same) c.less_one.ensures.bound
