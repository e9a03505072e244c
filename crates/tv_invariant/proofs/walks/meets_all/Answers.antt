use Rattle.std.proofs.Common.{subst}
use Rattle.tv_linear.specs.Linear.{IsMet}
use Rattle.std.proofs.lemmas.List.Elements.{All-more}
use Rattle.tv_simplex.proofs.RowLemmas.{tested_true}
use Rattle.tv_cover.proofs.StepLemmas.{all_of_take}
use Rattle.tv_invariant.proofs.walks.meets_all.Goals as goal

pub rows-preserved : goal.rows-preserved
rows-preserved c =
    let here = subst (IsMet c.args.point.now) c.of.ensures (tested_true c.meets.result c.meets.ensures c.if-not-meets.false) in
    All-more (IsMet c.args.point.now) c.args.rows.now c.rows.row-index c.row-item.result c.rows-test.true c.rows.invariant (subst (IsMet c.args.point.now) c.row-item.is here)

pub returns : goal.returns
returns c = λ t. all_of_take (IsMet c.args.point.now) c.rows.row-index c.args.rows.now c.rows-test.false c.rows.invariant
