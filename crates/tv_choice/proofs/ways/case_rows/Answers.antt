use Rattle.std.proofs.Common.{◌≡◌, ◌∙◌, ◌++◌, ◌+◌, All, subst, arith}
use Rattle.tv_cases.specs.Before.{before, rows_after, FitsTerms}
use Rattle.tv_choice.specs.Rows.{AreRead, IsWideBefore}
use Rattle.tv_cases.specs.Views.{case_view}
use Rattle.tv_linear.specs.Linear.{columns as width, IsNarrow}
use Rattle.tv_linear.proofs.ListLaws.{take_past, all_at}
use Rattle.tv_choice.proofs.WayLemmas.{made_none, made_more, made_wide, not_made}
use Rattle.tv_choice.proofs.ways.case_rows.Goals as goal

pub owed-init : goal.owed-init
owed-init c =
    made_none c.args.columns (case_view c.args.case.now) c.push_copies.new.list.items c.requires.guards (subst (All IsNarrow) c.deref.ensures.value c.in_ok-push_copies.ensures.narrow) (c.in_ok-push_copies.ensures.copied ∙ (λ i. c.new-rows.ensures.items i ++ c.deref.ensures.value i))

pub owed-preserved : goal.owed-preserved
owed-preserved c =
    let g = c.in-Ok.ensures.exact in
    made_more c.args.columns (case_view c.args.case.now) c.args.owed.now c.owed.row-index c.row-item.result c.in-Ok.made c.owed.rows.items c.push_item.new.items.items c.owed-test.true c.row-item.is
    (all_at (λ r. width r ≡ c.args.columns) c.args.owed.now c.owed.row-index c.row-item.result c.requires.owed c.owed-test.true c.row-item.is) c.requires.terms g.same g.fits c.in_ok-push_item-in-Ok.ensures c.owed.invariant

pub returns-in-Err-clause-refusals : goal.returns-in-Err-clause-refusals
returns-in-Err-clause-refusals c =
    let r = c.row-item.result in
    let case = case_view c.args.case.now in
    not_made (FitsTerms (width r + case.draws) r (rows_after r case)) (width (before r case)) (IsWideBefore case c.args.owed.now) c.in-Err.fault c.unmade.result c.unmade.ensures c.in-Err.ensures.exact (λ column w. made_wide c.args.columns case c.args.owed.now c.owed.row-index r c.owed.rows.items column c.owed-test.true c.row-item.is c.owed.invariant w)

pub returns-clause-fits : goal.returns-clause-fits
returns-clause-fits c = subst (AreRead (case_view c.args.case.now)) (take_past c.args.owed.now c.owed.row-index (let t = c.owed-test.false in omega (arith, t))) c.owed.invariant.fits
