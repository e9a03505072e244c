use Rattle.std.proofs.Common.{◌≡◌, ◌∙◌, ◌++◌, ◌∷◌, List, [], length, map, get_or, subst, sym, arith, None, Some, ℕ}
use Rattle.std.specs.Prelude.{Bool, true, false, IsTrue}
use Rattle.std.specs.Result.{IfErr, IfOk}
use Rattle.std.specs.Int.{w128}
use Rattle.std.proofs.lemmas.Int.{to_z-of_z}
use Rattle.std.proofs.lemmas.List.{get_or_default}
use Rattle.std.proofs.lemmas.List.Elements.{All-push}
use Rattle.tv_linear.specs.Linear.{columns as width, IsMet}
use Rattle.tv_linear.specs.Arithmetic.{denial}
use Rattle.tv_simplex.proofs.AnswerLemmas.{short_fits}
use Rattle.tv_farkas.specs.Judging.{IsJudged, IsPointAt}
use Rattle.tv_farkas.specs.Stretching.{AreDivided, IsFirstOpen}
use Rattle.tv_farkas.specs.Halving.{IsFractionAt, ArePointSides}
use Rattle.tv_cover.specs.Targets.{AreEven, IsNarrowRow}
use Rattle.tv_cover.specs.Halving.{AreRowSides}
use Rattle.tv_cover.specs.CoverPaths.{IsLeftOpen, IsShut}
use Rattle.tv_choice.specs.Asked.{query_of}
use Rattle.tv_choice.specs.ChoicePaths.{IsWayRows}
use Rattle.tv_choice.specs.declared.looking.Look.TheVariants as looks
use Rattle.tv_choice.specs.declared.looking.Best.TheVariants as best
use Rattle.tv_choice.specs.Looking.{IsLookFault, IsAt, AreShown, IsLook, IsBest, NoneShown}
use Rattle.tv_choice.specs.Ways.{way_rows, IsWay, AreWays}
use Rattle.tv_choice.specs.Stepping.{IsStepInto}
use Rattle.tv_choice.specs.Stopping.{IsStopped}
use Rattle.tv_choice.specs.Refusals.{IsWideHere, denying, IsChoiceFault}
use Rattle.tv_cover.specs.Trying.{IsWideIn}
use Rattle.tv_choice.specs.Settling.{IsFound, IsSplitOf}
use Rattle.tv_choice.proofs.LookLemmas.{at_end, look_other, way_is_rows, not_shown, none_more}
use Rattle.tv_choice.proofs.RefusalLemmas.{judge_fault, look_fault, here_fault, side_refused, ways_longer}
use Rattle.tv_choice.proofs.SettleLemmas.{empty_leaf, stop_leaf, take_leaf, split_leaf, hole_of_side, no_step_hole, never_excluded, whole_going, of_targets, ways_more}
use Rattle.tv_choice.proofs.SplitLemmas.{row_halves, point_halves, fraction_at}
use Rattle.tv_choice.proofs.choosing.+choosing.Goals as goal
use Rattle.tv_linear.proofs.ListLaws.{all_at}
use Rattle.tv_cover.proofs.SearchLemmas.{less_and_more}

same_at : {A : Type 0} (xs : List A) (i : ℕ) (x y : A) → IsAt xs i x → y ≡ get_or xs i y → x ≡ y
same_at xs i x y h e = sym h.1 ∙ get_or_default xs i x y h.0 ∙ sym e

not_true : (b : Bool) → b ≡ false → IsTrue b → ⊥
not_true true e t = cc
not_true false e t = cc

-- ---- settle
pub settle-returns-in-Err-clause-refusals : goal.settle-returns-in-Err-clause-refusals
settle-returns-in-Err-clause-refusals t c =
    let q = c.args.question.now in
    here_fault q.columns (query_of q) c.args.rows.now q.pivots c.args.left c.in-Err.fault (judge_fault q.columns (query_of q) c.args.rows.now q.pivots c.args.left c.in-Err.fault c.in-Err.ensures.refusals)

pub settle-returns-in-Ok-Refuted-clause-found : goal.settle-returns-in-Ok-Refuted-clause-found
settle-returns-in-Ok-Refuted-clause-found t c =
    let q = c.args.question.now in
    let h = subst (IsJudged q.columns c.args.rows.now) c.in-Ok-Refuted.field-0-is c.in-Ok-Refuted.ensures.answers in
    empty_leaf q.columns (query_of q) c.args.rows.now c.args.left c.in-Ok-Refuted.multipliers h.refutes h.short

pub settle-returns-in-Err-best_of-clause-refusals : goal.settle-returns-in-Err-best_of-clause-refusals
settle-returns-in-Err-best_of-clause-refusals t c =
    let q = c.args.question.now in
    here_fault q.columns (query_of q) c.args.rows.now q.pivots c.args.left c.in-Err-best_of.fault (look_fault q.columns (query_of q) c.args.rows.now q.pivots c.args.left c.in-Err-best_of.fault c.in-Err-best_of.ensures.refusals)

pub settle-returns-in-Ok-Take-clause-found : goal.settle-returns-in-Ok-Take-clause-found
settle-returns-in-Ok-Take-clause-found t c =
    let q = c.args.question.now in
    let b = subst (IsBest q.columns c.args.rows.now c.deref-in-Ok-Point.result.now) c.in-Ok-Take.field-0-is c.in-Ok-Take.ensures.best in
    let b' = subst (λ ws. IsBest q.columns c.args.rows.now ws (best.Take c.in-Ok-Take.way c.in-Ok-Take.lists)) c.deref-in-Ok-Point.ensures.value b in
    let way = c.index.result.now in
    let same = same_at c.args.ways.now.items c.in-Ok-Take.way b'.0 way b'.1 c.index.ensures in
    let is = all_at (IsWay q.columns (query_of q) c.args.rows.now) c.args.ways.now.items c.in-Ok-Take.way way c.requires.ways.each b'.1.0 c.index.ensures in
    take_leaf q.columns (query_of q) c.args.rows.now c.args.left way c.in-Ok-Take.lists c.in_ok-take_of-in-Ok-Take.field-0 q.limits.few_cases q.bounded is (subst (λ w. AreShown q.columns c.args.rows.now (way_rows w) (map (λ x. x.items) c.in-Ok-Take.lists.items)) same b'.2) c.in_ok-take_of-in-Ok-Take.ensures

pub settle-split_way-requires : goal.settle-split_way-requires
settle-split_way-requires t c =
    let q = c.args.question.now in
    let b = subst (IsBest q.columns c.args.rows.now c.deref-in-Ok-Point.result.now) c.in-Ok-Split.field-0-is c.in-Ok-Split.ensures.best in
    let b' = subst (λ ws. IsBest q.columns c.args.rows.now ws (best.Split c.in-Ok-Split.way c.in-Ok-Split.row)) c.deref-in-Ok-Point.ensures.value b in
    let d = c.decreases in (
      omega (arith, d),
      (c.requires.left, (c.requires.even, (c.requires.ways, (b'.3, (b'.0, b'.1, b'.2))))),
    )

pub settle-stop_or_go-requires : goal.settle-stop_or_go-requires
settle-stop_or_go-requires t c =
    let q = c.args.question.now in
    let b = subst (IsBest q.columns c.args.rows.now c.deref-in-Ok-Point.result.now) c.in-Ok-Nothing.field-0-is c.in-Ok-Nothing.ensures.best in
    let b' = subst (λ ws. IsBest q.columns c.args.rows.now ws best.Nothing) c.deref-in-Ok-Point.ensures.value b in
    let d = c.decreases in (
      omega (arith, d),
      (c.requires.left, (c.requires.even, (c.requires.ways, (b'.1, c.if-question.true)))),
    )

pub settle-go_or_split-requires : goal.settle-go_or_split-requires
settle-go_or_split-requires t c =
    let q = c.args.question.now in
    let b = subst (IsBest q.columns c.args.rows.now c.deref-in-Ok-Point.result.now) c.in-Ok-Nothing.field-0-is c.in-Ok-Nothing.ensures.best in
    let b' = subst (λ ws. IsBest q.columns c.args.rows.now ws best.Nothing) c.deref-in-Ok-Point.ensures.value b in
    let j = subst (IsJudged q.columns c.args.rows.now) c.in-Ok-Point.field-0-is c.in-Ok-Point.ensures.answers in
    let z = to_z-of_z w128 c.in-Ok-Point.scale (short_fits c.in-Ok-Point.scale j.scale_short) in
    let point = subst (IsPointAt q.columns c.args.rows.now c.deref-else-question.result.now) (sym z) (subst (λ vs. IsPointAt q.columns c.args.rows.now vs c.in-Ok-Point.scale) (sym c.deref-else-question.ensures.value) j) in
    let d = c.decreases in (
      omega (arith, d),
      (c.requires.left, (c.requires.even, (c.requires.ways, (b'.1, (b'.0, (point, not_true q.stop c.if-question.false)))))),
    )

-- ---- stop_or_go
pub stop_or_go-returns-in-Err-clause-refusals : goal.stop_or_go-returns-in-Err-clause-refusals
stop_or_go-returns-in-Err-clause-refusals t c =
    let q = c.args.question.now in
    here_fault q.columns (query_of q) c.args.rows.now q.pivots c.args.left c.in-Err.fault c.in-Err.ensures.refusals

pub stop_or_go-returns-in-Ok-Nowhere-clause-found : goal.stop_or_go-returns-in-Ok-Nowhere-clause-found
stop_or_go-returns-in-Ok-Nowhere-clause-found t c =
    let q = c.args.question.now in
    let h = subst (IsStopped q.columns (query_of q) c.args.rows.now c.args.left) c.in-Ok-Nowhere.field-0-is c.in-Ok-Nowhere.ensures.stopped in
    stop_leaf q.columns (query_of q) c.args.rows.now c.args.left c.in-Ok-Nowhere.covers c.requires.stop h

pub stop_or_go-go_on-requires : goal.stop_or_go-go_on-requires
stop_or_go-go_on-requires t c =
    let q = c.args.question.now in
    let h = subst (IsStopped q.columns (query_of q) c.args.rows.now c.args.left) c.in-Ok-Somewhere.field-0-is c.in-Ok-Somewhere.ensures.stopped in
    let d = c.decreases in (
      omega (arith, d),
      (c.requires.left, (c.requires.even, (c.requires.ways, (c.requires.none_shown, record { inside = h.inside; short = h.short; leads = λ s. h.leads; here = h.here })))),
    )

-- ---- go_or_split
pub go_or_split-go_on-requires : goal.go_or_split-go_on-requires
go_or_split-go_on-requires t c =
    let q = c.args.question.now in
    let p = c.requires.point in
    let z = to_z-of_z w128 c.args.scale c.ranges.scale in
    let e = subst (λ y. AreDivided (length c.args.values.now) c.args.values.now y c.in_ok-point-in-None.point.items) z c.in_ok-point-in-None.ensures in
    let going = whole_going q.columns (query_of q) c.args.rows.now c.args.values.now c.args.scale c.in_ok-point-in-None.point.items p (subst (λ k. AreDivided k c.args.values.now c.args.scale c.in_ok-point-in-None.point.items) p.point.as_many e) c.requires.stop in
    let d = c.decreases in (
      omega (arith, d),
      (c.requires.left, (c.requires.even, (c.requires.ways, (c.requires.none_shown, going)))),
    )

pub go_or_split-halves_at_point-requires-clause-fraction : goal.go_or_split-halves_at_point-requires-clause-fraction
go_or_split-halves_at_point-requires-clause-fraction t c =
    let n = c.args.question.now.columns in
    let z = to_z-of_z w128 c.args.scale c.ranges.scale in
    let o = subst (λ y. IsFirstOpen c.args.values.now y c.in-Some.column) z c.in-Some.ensures in (
      c.requires.point.kept,
      subst (IsFractionAt n c.requires.point.kept c.in-Some.column c.args.values.now) (sym z) (fraction_at n c.args.rows.now c.in-Some.column c.args.values.now c.args.scale c.requires.point o),
    )

pub go_or_split-split-requires : goal.go_or_split-split-requires
go_or_split-split-requires t c =
    let q = c.args.question.now in
    let n = q.columns in
    let above = c.args.rows.now in
    let z = to_z-of_z w128 c.args.scale c.ranges.scale in
    let o = subst (λ y. IsFirstOpen c.args.values.now y c.in-Some.column) z c.in-Some.ensures in
    let sides = subst (λ y. ArePointSides n c.in-Some.column c.args.values.now y c.in_ok-halves-in-Some.halves) z c.in_ok-halves-in-Some.ensures in
    let shut = of_targets n (query_of q) (IsShut n above) above c.args.ways.now.items c.requires.ways c.requires.shut in
    let left_open = of_targets n (query_of q) (IsLeftOpen n above) above c.args.ways.now.items c.requires.ways c.requires.none_shown in
    let d = c.decreases in
    let l = c.if-left-eq0.false in (
      omega (arith, d, l),
      ((let k = c.requires.left in omega (arith, k)), (c.requires.even, (c.requires.ways, point_halves n (query_of q) above c.in-Some.column c.args.values.now c.args.scale c.in_ok-halves-in-Some.halves sides c.requires.point o shut left_open))),
    )

pub go_or_split-returns-in_ok-halves-in-Some-clause-found : goal.go_or_split-returns-in_ok-halves-in-Some-clause-found
go_or_split-returns-in_ok-halves-in-Some-clause-found t c =
    let q = c.args.question.now in
    subst (λ k. IfOk c.split.result (IsFound q.columns (query_of q) c.args.rows.now k)) (less_and_more c.args.left c.if-left-eq0.false) c.split.ensures.found

pub go_or_split-returns-in_ok-halves-in-Some-clause-refusals : goal.go_or_split-returns-in_ok-halves-in-Some-clause-refusals
go_or_split-returns-in_ok-halves-in-Some-clause-refusals t c =
    let q = c.args.question.now in
    subst (λ k. IfErr c.split.result (IsChoiceFault q.columns (query_of q) c.args.rows.now q.pivots k)) (less_and_more c.args.left c.if-left-eq0.false) c.split.ensures.refusals

-- ---- go_on
pub go_on-returns-in-Err-clause-refusals : goal.go_on-returns-in-Err-clause-refusals
go_on-returns-in-Err-clause-refusals t c =
    let q = c.args.question.now in
    here_fault q.columns (query_of q) c.args.rows.now q.pivots c.args.left c.in-Err.fault c.in-Err.ensures.refusals

pub go_on-returns-in-Ok-None-clause-found : goal.go_on-returns-in-Ok-None-clause-found
go_on-returns-in-Ok-None-clause-found t c =
    let q = c.args.question.now in
    let none = subst (IsStepInto q.columns (query_of q) c.args.rows.now c.deref.result.now) c.in-Ok-None.field-0-is c.in-Ok-None.ensures.step in
    no_step_hole q.columns (query_of q) c.args.rows.now c.args.point.items c.requires.going (subst (λ xs. IsStepInto q.columns (query_of q) c.args.rows.now xs None) c.deref.ensures.value none)

pub go_on-look_at-requires-clause-way : goal.go_on-look_at-requires-clause-way
go_on-look_at-requires-clause-way t c =
    let q = c.args.question.now in
    let some = subst (IsStepInto q.columns (query_of q) c.args.rows.now c.deref.result.now) c.in-Ok-Some.field-0-is c.in-Ok-Some.ensures.step in
    subst (IsWayRows q.columns (query_of q) c.args.rows.now) (sym c.deref-3.ensures.value) (way_is_rows q.columns (query_of q) c.args.rows.now c.in-Ok-Some.way some.way)

pub go_on-returns-in-Err-look_at-clause-refusals : goal.go_on-returns-in-Err-look_at-clause-refusals
go_on-returns-in-Err-look_at-clause-refusals t c =
    let q = c.args.question.now in
    let n = q.columns in
    let above = c.args.rows.now in
    let way = c.in-Ok-Some.way in
    let some = subst (IsStepInto n (query_of q) above c.deref.result.now) c.in-Ok-Some.field-0-is c.in-Ok-Some.ensures.step in
    let h = subst (λ rs. IsLookFault (IsWideIn n above rs) n (query_of q) above q.pivots c.in-Err-look_at.fault) c.deref-3.ensures.value c.in-Err-look_at.ensures.refusals in
    here_fault n (query_of q) above q.pivots c.args.left c.in-Err-look_at.fault
    (look_fault n (query_of q) above q.pivots c.args.left c.in-Err-look_at.fault
    (look_other (IsWideIn n above (way_rows way)) (IsWideHere n (query_of q) above) n (query_of q) above q.pivots c.in-Err-look_at.fault
    (λ column w. denying (way_rows way) (way_is_rows n (query_of q) above way some.way) w) h))

pub go_on-returns-in-Ok-Shown-clause-found : goal.go_on-returns-in-Ok-Shown-clause-found
go_on-returns-in-Ok-Shown-clause-found t c =
    let q = c.args.question.now in
    let some = subst (IsStepInto q.columns (query_of q) c.args.rows.now c.deref.result.now) c.in-Ok-Some.field-0-is c.in-Ok-Some.ensures.step in
    let look = subst (IsLook q.columns c.args.rows.now c.deref-3.result.now) c.in-Ok-Shown.field-0-is c.in-Ok-Shown.ensures.look in
    let look' = subst (λ rs. IsLook q.columns c.args.rows.now rs (looks.Shown c.in-Ok-Shown.lists)) c.deref-3.ensures.value look in
    take_leaf q.columns (query_of q) c.args.rows.now c.args.left c.in-Ok-Some.way c.in-Ok-Shown.lists c.in_ok-take_of-in-Ok-Shown.field-0 q.limits.few_cases q.bounded some.way look' c.in_ok-take_of-in-Ok-Shown.ensures

pub go_on-unreachable-requires : goal.go_on-unreachable-requires
go_on-unreachable-requires t c =
    let q = c.args.question.now in
    let some = subst (IsStepInto q.columns (query_of q) c.args.rows.now c.deref.result.now) c.in-Ok-Some.field-0-is c.in-Ok-Some.ensures.step in
    let some' = subst (λ xs. IsStepInto q.columns (query_of q) c.args.rows.now xs (Some c.in-Ok-Some.way)) c.deref.ensures.value some in
    let look = subst (IsLook q.columns c.args.rows.now c.deref-3.result.now) c.in-Ok-Excluded.field-0-is c.in-Ok-Excluded.ensures.look in
    let look' = subst (λ rs. IsLook q.columns c.args.rows.now rs looks.Excluded) c.deref-3.ensures.value look in
    never_excluded q.columns (query_of q) c.args.rows.now c.args.point.items c.in-Ok-Some.way c.requires.going some' look'.0

pub go_on-split_way-requires : goal.go_on-split_way-requires
go_on-split_way-requires t c =
    let q = c.args.question.now in
    let n = q.columns in
    let above = c.args.rows.now in
    let way = c.in-Ok-Some.way in
    let some = subst (IsStepInto n (query_of q) above c.deref.result.now) c.in-Ok-Some.field-0-is c.in-Ok-Some.ensures.step in
    let look = subst (IsLook n above c.deref-3.result.now) c.in-Ok-Open.field-0-is c.in-Ok-Open.ensures.look in
    let look' = subst (λ rs. IsLook n above rs (looks.Open c.in-Ok-Open.row)) c.deref-3.ensures.value look in
    let more = c.in_ok-push_item-in-Ok-Open.ensures in
    let all = ways_more n (query_of q) above c.args.ways.now.items _ way more some.way c.requires.ways in
    let shown = subst (NoneShown n above) (sym more) (none_more n above c.args.ways.now.items way c.requires.none_shown (not_shown n above way c.in-Ok-Open.row look')) in
    let at = subst (λ ws. IsAt ws c.len-last.result way) (sym more) (subst (λ k. IsAt (c.args.ways.now.items ++ way ∷ []) k way) (sym (c.len-last.ensures ∙ c.args.ways.now.ok.0)) (at_end c.args.ways.now.items way)) in
    let d = c.decreases in (
      omega (arith, d),
      (c.requires.left, (c.requires.even, (all, (shown, (way, at, look'))))),
    )

-- ---- split_way
pub split_way-halves_at_row-requires : goal.split_way-halves_at_row-requires
split_way-halves_at_row-requires t c =
    let w = c.requires.open.0 in
    let at = c.requires.open.1 in
    let o = c.requires.open.2 in
    let same = same_at c.args.ways.now.items c.args.way w c.index.result.now at c.index.ensures in
    let here = subst (λ u. IsAt (way_rows u) c.args.row o.0.0) same o.0.1 in
    let row = same_at c.index.result.now.rows.items c.args.row o.0.0 c.index-2.result.now here c.index-2.ensures in
    record { narrow = subst (λ r. IsNarrowRow (denial r)) row o.0.2.0 }

pub split_way-split-requires : goal.split_way-split-requires
split_way-split-requires t c =
    let q = c.args.question.now in
    let n = q.columns in
    let above = c.args.rows.now in
    let w = c.requires.open.0 in
    let at = c.requires.open.1 in
    let o = c.requires.open.2 in
    let same = same_at c.args.ways.now.items c.args.way w c.index.result.now at c.index.ensures in
    let is = all_at (IsWay n (query_of q) above) c.args.ways.now.items c.args.way w c.requires.ways.each at.0 (sym at.1) in
    let here = subst (λ u. IsAt (way_rows u) c.args.row o.0.0) same o.0.1 in
    let row = same_at c.index.result.now.rows.items c.args.row o.0.0 c.index-2.result.now here c.index-2.ensures in
    let even = all_at (λ r. width r ≡ n) (way_rows w) c.args.row o.0.0 is.even o.0.1.0 (sym o.0.1.1) in
    let left_open = of_targets n (query_of q) (IsLeftOpen n above) above c.args.ways.now.items c.requires.ways c.requires.none_shown in
    let sides = subst (λ r. AreRowSides r c.in_ok-halves.halves) (sym row) c.in_ok-halves.ensures in
    let halves = row_halves n (query_of q) above (way_rows w) o.0.0 c.in_ok-halves.halves sides even (way_is_rows n (query_of q) above w is) (c.args.row, o.0.1.0, o.0.1.1) o.1 o.0.2.1 left_open in
    let d = c.decreases in
    let l = c.if-left-eq0.false in (
      omega (arith, d, l),
      ((let k = c.requires.left in omega (arith, k)), (c.requires.even, (c.requires.ways, halves))),
    )

pub split_way-returns-clause-found : goal.split_way-returns-clause-found
split_way-returns-clause-found t c =
    let q = c.args.question.now in
    subst (λ k. IfOk c.split.result (IsFound q.columns (query_of q) c.args.rows.now k)) (less_and_more c.args.left c.if-left-eq0.false) c.split.ensures.found

pub split_way-returns-clause-refusals : goal.split_way-returns-clause-refusals
split_way-returns-clause-refusals t c =
    let q = c.args.question.now in
    subst (λ k. IfErr c.split.result (IsChoiceFault q.columns (query_of q) c.args.rows.now q.pivots k)) (less_and_more c.args.left c.if-left-eq0.false) c.split.ensures.refusals

-- ---- split
pub split-returns-in-Ok-Hole-clause-found : goal.split-returns-in-Ok-Hole-clause-found
split-returns-in-Ok-Hole-clause-found t c =
    let q = c.args.question.now in
    let h = subst (IsFound q.columns (query_of q) (c.args.rows.now ++ c.args.halves.first.row ∷ []) c.args.left) c.in-Ok-Hole.field-0-is c.in-Ok-Hole.ensures.found in
    hole_of_side q.columns (query_of q) c.args.rows.now c.args.halves.first.row c.in-Ok-Hole.point.items h

pub split-settle_side-requires-2 : goal.split-settle_side-requires-2
split-settle_side-requires-2 t c =
    let q = c.args.question.now in
    let n = q.columns in
    let above = c.args.rows.now in
    let h = c.requires.halves in
    let tree = subst (IsFound n (query_of q) (above ++ c.args.halves.first.row ∷ []) c.args.left) c.in-Ok-Tree.field-0-is c.in-Ok-Tree.ensures.found in
    let ways = subst (AreWays n (query_of q) above) (sym c.in-Ok-Tree.ensures.kept) c.requires.ways in
    let rule = h.second_splits (λ xs p m. tree.none xs record { width = p.width; met = All-push (IsMet xs) above c.args.halves.first.row p.met m }) in
    let d = c.decreases in (
      omega (arith, d),
      (c.requires.left, (c.requires.even, (ways, (rule, h.second_even)))),
    )

pub split-returns-in-Ok-Hole-settle_side-clause-found : goal.split-returns-in-Ok-Hole-settle_side-clause-found
split-returns-in-Ok-Hole-settle_side-clause-found t c =
    let q = c.args.question.now in
    let h = subst (IsFound q.columns (query_of q) (c.args.rows.now ++ c.args.halves.second.row ∷ []) c.args.left) c.in-Ok-Hole-settle_side.field-0-is c.in-Ok-Hole-settle_side.ensures.found in
    hole_of_side q.columns (query_of q) c.args.rows.now c.args.halves.second.row c.in-Ok-Hole-settle_side.point.items h

pub split-returns-clause-found : goal.split-returns-clause-found
split-returns-clause-found t c =
    let q = c.args.question.now in
    let n = q.columns in
    let above = c.args.rows.now in
    let h = c.requires.halves in
    let one = subst (IsFound n (query_of q) (above ++ c.args.halves.first.row ∷ []) c.args.left) c.in-Ok-Tree.field-0-is c.in-Ok-Tree.ensures.found in
    let two = subst (IsFound n (query_of q) (above ++ c.args.halves.second.row ∷ []) c.args.left) c.in-Ok-Tree-settle_side.field-0-is c.in-Ok-Tree-settle_side.ensures.found in
    let e = c.in_ok-row.ensures in
    split_leaf n (query_of q) above c.args.left c.args.halves.first.row c.args.halves.second.row c.in-Ok-Tree.tree c.in-Ok-Tree-settle_side.tree c.in_ok-split_of.field-0 h.first_even h.opposite h.either one two
    (subst (λ r. IsSplitOf r c.in-Ok-Tree.tree c.in-Ok-Tree-settle_side.tree c.in_ok-split_of.field-0) e c.in_ok-split_of.ensures)

-- ---- settle_side
pub settle_side-settle-requires : goal.settle_side-settle-requires
settle_side-settle-requires t c =
    let q = c.args.question.now in
    let n = q.columns in
    let above = c.args.rows.now in
    let is = c.deref.ensures.value ∙ c.in_ok-side.ensures in
    let even = subst (AreEven n) (sym is) (All-push (λ r. width r ≡ n) above c.args.branch.row c.requires.even c.requires.same) in
    let ways = subst (λ rs. AreWays n (query_of q) rs c.args.ways.now.items) (sym is) (ways_longer n (query_of q) above (c.args.branch.row ∷ []) c.args.ways.now.items c.requires.ways) in
    let d = c.decreases in (
      omega (arith, d),
      (c.requires.left, (even, ways)),
    )

pub settle_side-returns-in_ok-behind-in-Err-clause-refusals : goal.settle_side-returns-in_ok-behind-in-Err-clause-refusals
settle_side-returns-in_ok-behind-in-Err-clause-refusals t c =
    let q = c.args.question.now in
    side_refused q.columns (query_of q) c.args.rows.now q.pivots c.args.left c.args.branch c.in-Err.fault c.in_ok-behind-in-Err.field-0 c.requires.rule
    (subst (λ rs. IsChoiceFault q.columns (query_of q) rs q.pivots c.args.left c.in-Err.fault) (c.deref.ensures.value ∙ c.in_ok-side.ensures) c.in-Err.ensures.refusals) c.in_ok-behind-in-Err.ensures
