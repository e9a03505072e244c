use Rattle.std.proofs.Common.{◌∙◌, ◌<◌, length, ap, arith}
use Rattle.std.proofs.lemmas.List.{length-map}
use Rattle.tv_cases.specs.Systems.{cases_of}
use Rattle.tv_cases.specs.Views.{case_view}
use Rattle.tv_lexrank.specs.Inside.{inside_key}
use Rattle.tv_lexrank.proofs.GapLemmas.{keys_more}
use Rattle.tv_lexrank.proofs.inside.stands_inside.Goals as goal

pub cases-preserved : goal.cases-preserved
cases-preserved c =
    let cases = (cases_of c.args.about.now).cases in
    let key = inside_key c.args.numbers.now c.args.count in
    let t = c.cases-test.true in
    let s = ap length c.list.ensures.same in
    let m = length-map c.list.result.now case_view in
    let within : c.cases.number < length cases = omega (arith, t, s, m) in
    keys_more key cases c.cases.number c.key_of.result c.cases.keys.items c.push_item.new.items.items within (c.key_of.ensures ∙ ap key c.case_of-case.ensures.is) c.cases.invariant c.in_ok-push_item.ensures
