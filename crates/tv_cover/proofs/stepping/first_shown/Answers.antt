use Rattle.std.proofs.Common.{subst, refl, map}
use Rattle.tv_cover.specs.Targets.{lists_of}
use Rattle.tv_cover.specs.Looking.{IsShown, AreShowing}
use Rattle.tv_cover.specs.Trying.{IsWideIn, IsWideAt}
use Rattle.tv_cover.proofs.LookLemmas.{looked_again, other_place_fault}
use Rattle.tv_cover.proofs.StepLemmas.{open_none, open_more, wide_target, list_at, list_among, list_even}
use Rattle.tv_cover.proofs.stepping.first_shown.Goals as goal

pub targets-init : goal.targets-init
targets-init c = open_none c.args.question.now.columns (lists_of c.args.question.now.targets.now) c.args.rows.now.items c.args.points.now.items c.new-places.result.items c.requires.points c.new-places.ensures.items

pub targets-preserved : goal.targets-preserved
targets-preserved c =
    let n = c.args.question.now.columns in
    let targets = c.args.question.now.targets.now in
    let o = subst (λ s. IsShown n c.args.question.now.repeated.now c.targets.rows.items c.deref.result.now s) c.in-Ok-Open.field-0-is c.in-Ok-Open.ensures.1 in
    open_more n (lists_of targets) c.args.rows.now.items c.targets.rows.items c.show_all.new.rows.items c.targets.points.items c.show_all.new.points.items c.targets.number c.deref.result.now c.in-Ok-Open.place c.targets.places.items c.push_item.new.items.items
    c.targets.invariant c.in-Ok-Open.ensures.0 o (list_at targets c.targets.number c.index-question-number.result c.deref.result.now c.targets-test.true c.deref.ensures.value) c.in_ok-push_item-in-Ok-Open.ensures

pub show_all-requires-clause-same : goal.show_all-requires-clause-same
show_all-requires-clause-same c =
    let targets = c.args.question.now.targets.now in
    list_even c.args.question.now.columns targets c.deref.result.now c.requires.same (list_among targets c.targets.number c.index-question-number.result c.deref.result.now c.targets-test.true c.deref.ensures.value)

pub returns-in-Ok-All : goal.returns-in-Ok-All
returns-in-Ok-All c =
    let n = c.args.question.now.columns in
    let targets = c.args.question.now.targets.now in
    let marks = c.args.question.now.repeated.now in
    let s = subst (λ x. IsShown n marks c.targets.rows.items c.deref.result.now x) c.in-Ok-All.field-0-is c.in-Ok-All.ensures.1 in (
      looked_again n c.args.rows.now.items c.targets.rows.items c.show_all.new.rows.items c.show_all.new.points.items c.targets.invariant.looked.same c.in-Ok-All.ensures.0,
      record {
        no_fall = refl;
        target = c.deref.result.now;
        found = list_at targets c.targets.number c.index-question-number.result c.deref.result.now c.targets-test.true c.deref.ensures.value;
        shown = subst (λ k. AreShowing n marks k c.deref.result.now (map (λ l. l.items) c.in-Ok-All.refutations.items)) c.targets.invariant.looked.same s;
      },
    )

pub returns-in-Err : goal.returns-in-Err
returns-in-Err c =
    let n = c.args.question.now.columns in
    let targets = c.args.question.now.targets.now in
    let lists = lists_of targets in
    let kept = c.args.rows.now.items in
    let rows = c.targets.rows.items in
    let target = c.deref.result.now in
    let found = list_at targets c.targets.number c.index-question-number.result target c.targets-test.true c.deref.ensures.value in
    other_place_fault (IsWideIn n rows target) (IsWideAt n lists kept) n lists kept rows c.args.question.now.pivots c.in-Err.fault c.targets.invariant.looked.same
    (λ column w. wide_target n lists kept rows c.targets.points.items c.targets.number c.targets.places.items target column c.requires.some c.targets.invariant found w) c.in-Err.ensures
