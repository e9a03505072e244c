use Rattle.std.proofs.Common.{subst, map}
use Rattle.tv_program.specs.Views.{expression}
use Rattle.tv_cases.specs.Comparisons.{own_form}
use Rattle.tv_causes.specs.Widths.{parts, TellsWide}
use Rattle.tv_causes.proofs.FormLemmas.{has_own, left_wide, right_wide, rows_told}
use Rattle.tv_causes.proofs.wide_comparison.wide_comparison.Goals as goal

pub returns-in-Some : goal.returns-in-Some
returns-in-Some c =
    let n = c.args.variables in
    let a = expression c.args.left.now in
    left_wide n c.args.relation a (expression c.args.right.now) c.in-Some.column (subst (TellsWide (map (own_form n) (parts a))) c.in-Some.is c.in_ok-column.ensures)

pub returns-in-Some-2 : goal.returns-in-Some-2
returns-in-Some-2 c =
    let n = c.args.variables in
    let a = expression c.args.left.now in
    let b = expression c.args.right.now in
    right_wide n c.args.relation a b c.in-Some-2.column (subst (TellsWide (map (own_form n) (parts a))) c.in-None.is c.in_ok-column.ensures)
    (subst (TellsWide (map (own_form n) (parts b))) c.in-Some-2.is c.in_ok-column-2.ensures)

pub wide_between-requires-clause-left : goal.wide_between-requires-clause-left
wide_between-requires-clause-left c =
    let n = c.args.variables in
    let a = expression c.args.left.now in
    has_own n a (subst (TellsWide (map (own_form n) (parts a))) c.in-None.is c.in_ok-column.ensures)

pub wide_between-requires-clause-right : goal.wide_between-requires-clause-right
wide_between-requires-clause-right c =
    let n = c.args.variables in
    let b = expression c.args.right.now in
    has_own n b (subst (TellsWide (map (own_form n) (parts b))) c.in-None-2.is c.in_ok-column-2.ensures)

pub returns : goal.returns
returns c =
    let n = c.args.variables in
    let a = expression c.args.left.now in
    let b = expression c.args.right.now in
    rows_told n c.args.relation a b c.wide_between.result c.requires.linear
    (subst (TellsWide (map (own_form n) (parts a))) c.in-None.is c.in_ok-column.ensures)
    (subst (TellsWide (map (own_form n) (parts b))) c.in-None-2.is c.in_ok-column-2.ensures) c.wide_between.ensures
