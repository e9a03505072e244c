use Rattle.std.proofs.Common.{rules, FitsSigned, ap, ◌∙◌}
use Rattle.std.specs.Int.{w128}
use Rattle.std.proofs.lemmas.Int.{to_z-of_z}
use Rattle.tv_propose.specs.Constants.{both_signs, with_numbers}
use Rattle.tv_propose.proofs.ConstantLemmas.{put_more}
use Rattle.tv_propose.proofs.constants.put_terms.Goals as goal

pub updates-preserved : goal.updates-preserved
updates-preserved c =
    let f : FitsSigned w128 c.constant.result = search rules in
    let e = simp to_z-of_z at c.in_ok-put.ensures.put in
    record {
      put = put_more (λ u. both_signs u.term.constant) c.args.updates.now c.updates.update-index c.update-item.result c.args.numbers.now.keys c.updates.numbers.keys c.put.new.numbers.keys c.updates-test.true c.update-item.is c.updates.invariant.put (e ∙ ap (λ z. with_numbers c.updates.numbers.keys (both_signs z)) c.constant.ensures.is);
      all = c.in_ok-put.ensures.all;
    }
