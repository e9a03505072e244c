use Rattle.std.proofs.Common.{◌≡◌, ◌∙◌, sym, ◌+◌, true, false}
use Rattle.tv_cases.specs.Systems.{cases_of}
use Rattle.tv_pre.specs.Around.{two_ends}
use Rattle.tv_pre.specs.Along.{arguments}
use Rattle.tv_pre.specs.Built.{in_both, in_either, of_both, of_either, of_nowhere, IsFaultOf}
use Rattle.tv_pre.proofs.BuiltLemmas.{first_of_two, second_of_two}
use Rattle.tv_pre.proofs.PassedLemmas.{passed_on, region_fault}
use Rattle.tv_pre.proofs.SetLemmas.{one_end, both_ends}
use Rattle.tv_pre.proofs.SizedLemmas.{one_end_few, two_ends_few}
use Rattle.tv_pre.specs.Counted.{IsCountedEnd}
use Rattle.tv_pre.proofs.CountedLemmas.{one_end_counted, two_ends_counted}
use Rattle.tv_pre.proofs.regions.end_of.Goals as goal

pub returns-in_err-both-clause-refused : goal.returns-in_err-both-clause-refused
returns-in_err-both-clause-refused c =
    let about = cases_of c.args.setting.now.about.now in
    let budget = c.args.setting.now.budget.now in
    let sides = c.args.sides.now in
    let fault = c.in_err-both.field-0.0 in
    passed_on (IsFaultOf about budget 0 (arguments sides)) c.from_residual.result c.from_residual.ensures.1
    (λ r is s h m. region_fault about budget s (0 + h) fault r is
    (in_both (0 + h) sides.first.now sides.second.now fault (first_of_two about s h sides.first.now sides.second.now m) (second_of_two about s h sides.first.now sides.second.now m) c.in_err-both.ensures.refused))

pub returns-in_err-either-clause-refused : goal.returns-in_err-either-clause-refused
returns-in_err-either-clause-refused c =
    let about = cases_of c.args.setting.now.about.now in
    let budget = c.args.setting.now.budget.now in
    let sides = c.args.sides.now in
    let fault = c.in_err-either.field-0.0 in
    passed_on (IsFaultOf about budget 0 (arguments sides)) c.from_residual-in_err-either.result c.from_residual-in_err-either.ensures.1
    (λ r is s h m. region_fault about budget s (0 + h) fault r is
    (in_either (0 + h) sides.second.now c.nowhere.result fault (second_of_two about s h sides.first.now sides.second.now m) (of_nowhere (0 + h) c.nowhere.result c.nowhere.ensures) c.in_err-either.ensures.refused))

pub returns-in_ok-both-clause-end : goal.returns-in_ok-both-clause-end
returns-in_ok-both-clause-end c =
    let told : two_ends c.args.sides.now.shape ≡ true = sym c.has_two_ends.ensures ∙ c.if-has_two_ends.true in
    both_ends (cases_of c.args.setting.now.about.now) c.args.sides.now c.in_ok-both.field-0 c.requires.sides told c.in_ok-both.ensures.both

pub returns-in_ok-both-clause-built : goal.returns-in_ok-both-clause-built
returns-in_ok-both-clause-built c =
    let about = cases_of c.args.setting.now.about.now in
    let sides = c.args.sides.now in
    (λ s h m. of_both (0 + h) sides.first.now sides.second.now c.in_ok-both.field-0 (first_of_two about s h sides.first.now sides.second.now m) (second_of_two about s h sides.first.now sides.second.now m) c.in_ok-both.ensures.both)

pub returns-in_ok-either-clause-end : goal.returns-in_ok-either-clause-end
returns-in_ok-either-clause-end c =
    let told : two_ends c.args.sides.now.shape ≡ false = sym c.has_two_ends.ensures ∙ c.if-has_two_ends.false in
    one_end (cases_of c.args.setting.now.about.now) c.args.sides.now c.nowhere.result c.in_ok-either.field-0 c.requires.sides c.nowhere.ensures told c.in_ok-either.ensures.either

pub returns-in_ok-either-clause-built : goal.returns-in_ok-either-clause-built
returns-in_ok-either-clause-built c =
    let about = cases_of c.args.setting.now.about.now in
    let sides = c.args.sides.now in
    (λ s h m. of_either (0 + h) sides.second.now c.nowhere.result c.in_ok-either.field-0 (second_of_two about s h sides.first.now sides.second.now m) (of_nowhere (0 + h) c.nowhere.result c.nowhere.ensures) c.in_ok-either.ensures.either)

pub returns-in_ok-both-clause-bounded : goal.returns-in_ok-both-clause-bounded
returns-in_ok-both-clause-bounded c =
    let told : two_ends c.args.sides.now.shape ≡ true = sym c.has_two_ends.ensures ∙ c.if-has_two_ends.true in
    two_ends_few c.args.sides.now c.in_ok-both.field-0 told c.in_ok-both.ensures.both

pub returns-in_ok-either-clause-bounded : goal.returns-in_ok-either-clause-bounded
returns-in_ok-either-clause-bounded c =
    let told : two_ends c.args.sides.now.shape ≡ false = sym c.has_two_ends.ensures ∙ c.if-has_two_ends.false in
    one_end_few (cases_of c.args.setting.now.about.now) c.args.sides.now c.nowhere.result c.in_ok-either.field-0 c.nowhere.ensures told c.in_ok-either.ensures.either

pub returns-in_err-both-clause-counted : goal.returns-in_err-both-clause-counted
returns-in_err-both-clause-counted c =
    let sides = c.args.sides.now in
    let fault = c.in_err-both.field-0.0 in
    let told : two_ends sides.shape ≡ true = sym c.has_two_ends.ensures ∙ c.if-has_two_ends.true in
    passed_on (IsCountedEnd sides) c.from_residual.result c.from_residual.ensures.1
    (λ r is. two_ends_counted sides c.args.setting.now.budget.now fault r told is c.in_err-both.ensures.refused)

pub returns-in_err-either-clause-counted : goal.returns-in_err-either-clause-counted
returns-in_err-either-clause-counted c =
    let sides = c.args.sides.now in
    let fault = c.in_err-either.field-0.0 in
    let told : two_ends sides.shape ≡ false = sym c.has_two_ends.ensures ∙ c.if-has_two_ends.false in
    passed_on (IsCountedEnd sides) c.from_residual-in_err-either.result c.from_residual-in_err-either.ensures.1
    (λ r is. one_end_counted (cases_of c.args.setting.now.about.now) sides c.nowhere.result c.args.setting.now.budget.now fault r c.nowhere.ensures told is c.in_err-either.ensures.refused)
