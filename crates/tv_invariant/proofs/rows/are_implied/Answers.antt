use Rattle.std.proofs.Common.{refl, subst}
use Rattle.std.proofs.lemmas.List.Elements.{All-more, All-nil}
use Rattle.tv_linear.specs.Linear.{IsMet}
use Rattle.tv_cover.proofs.StepLemmas.{all_of_take}
use Rattle.tv_invariant.proofs.rows.are_implied.Goals as goal

pub others-init : goal.others-init
others-init c = λ xs m. All-nil (IsMet xs)

pub others-preserved : goal.others-preserved
others-preserved c = λ xs m. All-more (IsMet xs) c.args.others.now c.others.other-index c.other-item.result c.others-test.true (c.others.invariant xs m) (subst (IsMet xs) c.other-item.is (c.if-not-is_implied.ensures refl xs m))

pub returns : goal.returns
returns c = λ t xs m. all_of_take (IsMet xs) c.others.other-index c.args.others.now c.others-test.false (c.others.invariant xs m)
