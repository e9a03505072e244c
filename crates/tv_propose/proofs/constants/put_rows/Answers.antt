use Rattle.std.proofs.Common.{rules, FitsSigned, ap, ◌∙◌}
use Rattle.std.specs.Int.{w128}
use Rattle.std.proofs.lemmas.Int.{to_z-of_z}
use Rattle.tv_propose.specs.Constants.{both_signs, with_numbers}
use Rattle.tv_propose.proofs.ConstantLemmas.{put_more}
use Rattle.tv_propose.proofs.constants.put_rows.Goals as goal

pub rows-preserved : goal.rows-preserved
rows-preserved c =
    let f : FitsSigned w128 c.constant.result = search rules in
    let e = simp to_z-of_z at c.in_ok-put.ensures.put in
    record {
      put = put_more (λ r. both_signs r.constant) c.args.rows.now c.rows.row-index c.row-item.result c.args.numbers.now.keys c.rows.numbers.keys c.put.new.numbers.keys c.rows-test.true c.row-item.is c.rows.invariant.put (e ∙ ap (λ z. with_numbers c.rows.numbers.keys (both_signs z)) c.constant.ensures.is);
      all = c.in_ok-put.ensures.all;
    }
