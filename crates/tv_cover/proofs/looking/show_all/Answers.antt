use Rattle.tv_cover.specs.Targets.{lists_of}
use Rattle.tv_cover.specs.Trying.{IsWideDenialAt, IsWideIn}
use Rattle.tv_cover.proofs.LookLemmas.{shown_none, shown_more, shown_to, open_here, wide_here, other_place_fault, looked_again, case_some, case_none}
use Rattle.tv_cover.proofs.looking.show_all.Goals as goal

pub rows-init : goal.rows-init
rows-init c = shown_none c.args.question.now.columns c.args.question.now.repeated.now c.args.rows.now.items c.args.points.now.items c.new-shown.result.items c.requires.points c.new-shown.ensures.items

pub rows-preserved : goal.rows-preserved
rows-preserved c =
    shown_more c.args.question.now.columns c.args.question.now.repeated.now c.args.rows.now.items c.rows.rows.items c.show.new.rows.items c.rows.points.items c.show.new.points.items c.args.target.now c.rows.place c.index-target-place.result c.rows.shown.items c.push_item.new.items.items c.in-Ok-Some.multipliers
    c.rows.invariant c.in-Ok-Some.ensures.0 (case_some _ _ c.in-Ok-Some.field-0 c.in-Ok-Some.multipliers c.in-Ok-Some.field-0-is c.in-Ok-Some.ensures.1) c.rows-test.true c.index-target-place.is c.in_ok-push_item-in-Ok-Some.ensures

pub returns-in-Err : goal.returns-in-Err
returns-in-Err c =
    let n = c.args.question.now.columns in
    let kept = c.args.rows.now.items in
    let target = c.args.target.now in
    let row = c.index-target-place.result in
    let shown = shown_to n c.args.question.now.repeated.now kept c.rows.rows.items c.rows.points.items target c.rows.place _ c.rows.invariant in
    other_place_fault (IsWideDenialAt row) (IsWideIn n kept target) n (lists_of c.args.question.now.targets.now) kept c.rows.rows.items c.args.question.now.pivots c.in-Err.fault c.rows.invariant.looked.same
    (λ column w. wide_here n kept target c.rows.place row column c.rows-test.true c.index-target-place.is shown w) c.in-Err.ensures

pub returns-in-Ok-None : goal.returns-in-Ok-None
returns-in-Ok-None c =
    let n = c.args.question.now.columns in
    let kept = c.args.rows.now.items in
    let target = c.args.target.now in
    let row = c.index-target-place.result in
    let shown = shown_to n c.args.question.now.repeated.now kept c.rows.rows.items c.rows.points.items target c.rows.place _ c.rows.invariant in (
      looked_again n kept c.rows.rows.items c.show.new.rows.items c.show.new.points.items c.rows.invariant.looked.same c.in-Ok-None.ensures.0,
      open_here n kept c.rows.rows.items target c.rows.place row c.rows.invariant.looked.same c.rows-test.true c.index-target-place.is shown (case_none _ _ c.in-Ok-None.field-0 c.in-Ok-None.field-0-is c.in-Ok-None.ensures.1),
    )
