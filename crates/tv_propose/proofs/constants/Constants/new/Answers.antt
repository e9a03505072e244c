use Rattle.std.proofs.Common.{◌∷◌, [], pos}
use Rattle.tv_cases.specs.Systems.{cases_of}
use Rattle.tv_cases.specs.Views.{case_view}
use Rattle.tv_propose.specs.Constants.{case_constants}
use Rattle.tv_propose.proofs.ConstantLemmas.{put_more}
use Rattle.tv_propose.proofs.TableLemmas.{case_within, case_here}
use Rattle.tv_propose.proofs.constants.Constants.new.Goals as goal

pub cases-preserved : goal.cases-preserved
cases-preserved c =
    let about = cases_of c.args.about.now in
    let list = c.list-case-items.result.now in
    let same = c.list-case-items.ensures.same in
    let i = c.cases.case-index in
    let x = c.case-item.result in
    record {
      put = put_more case_constants about.cases i (case_view x) (pos 0 ∷ []) c.cases.numbers.keys c.put_case.new.numbers.keys (case_within about list same i c.cases-test.true) (case_here about list same i x c.cases-test.true c.case-item.is) c.cases.invariant.put c.in_ok-put_case.ensures.put;
      all = c.in_ok-put_case.ensures.all;
    }
