use Rattle.std.proofs.Common.{length, ap, arith}
use Rattle.std.proofs.lemmas.List.{length-map}
use Rattle.tv_cases.specs.Views.{case_view}
use Rattle.tv_lexrank.proofs.PartShown.{shown_more}
use Rattle.tv_lexrank.proofs.shown.each_shown.Goals as goal

pub cases-preserved : goal.cases-preserved
cases-preserved c =
    let r = c.args.ranking.now in
    let e = ap length c.list.ensures.same in
    let t = c.cases-test.true in
    let m = length-map c.list.result.now case_view in
    shown_more r c.cases.number c.cases.all.items _ c.in_ok-case_shown.field-0 (omega (arith, e, t, m)) c.in_ok-case_shown.ensures (c.in_ok-push_item.ensures) c.cases.invariant
