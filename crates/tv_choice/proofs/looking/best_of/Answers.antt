use Rattle.std.proofs.Common.{◌∙◌, ◌+◌, take, subst, sym, ap, arith}
use Rattle.tv_choice.specs.Asked.{query_of}
use Rattle.tv_choice.specs.ChoicePaths.{IsWayRows}
use Rattle.tv_choice.specs.Looking.{IsLookFault, IsLook, IsBest, IsOneMore}
use Rattle.tv_choice.specs.Refusals.{IsWideHere, denying}
use Rattle.tv_cover.specs.Trying.{IsWideIn}
use Rattle.tv_choice.specs.Ways.{way_rows, IsWay}
use Rattle.tv_linear.proofs.ListLaws.{take_past, take_next, all_at}
use Rattle.tv_choice.proofs.LookLemmas.{best_next, best_taken, length-take_all, way_is_rows, look_other}
use Rattle.tv_choice.proofs.looking.best_of.Goals as goal

pub look_at-requires-clause-way : goal.look_at-requires-clause-way
look_at-requires-clause-way c =
    let q = c.args.question.now in
    let way = c.index-ways-way.result in
    let is = all_at (IsWay q.columns (query_of q) c.args.place.now.rows.now) c.args.ways.now c.ways.way way c.requires.ways.each c.ways-test.true c.index-ways-way.is in
    subst (IsWayRows q.columns (query_of q) c.args.place.now.rows.now) (sym (c.deref.ensures.value ∙ ap (λ w. w.rows.items) (sym c.index-ways-way.is))) (way_is_rows q.columns (query_of q) c.args.place.now.rows.now way is)

pub returns-in-Take-clause-best : goal.returns-in-Take-clause-best
returns-in-Take-clause-best c =
    let n = c.args.question.now.columns in
    let rows = c.args.place.now.rows.now in
    let ws = c.args.ways.now in
    let i = c.ways.way in
    let way = c.index-ways-way.result in
    let more = take_next ws i way c.ways-test.true c.index-ways-way.is in
    let same = c.deref.ensures.value ∙ ap (λ w. w.rows.items) (sym c.index-ways-way.is) in
    let e = length-take_all ws i (let t = c.ways-test.true in omega (arith, t)) in
    let look = subst (λ rs. IsLook n rows rs c.in-Ok.look) same c.in-Ok.ensures.look in
    let one = subst (λ k. IsOneMore k c.in-Ok.look c.ways.best c.one_more-best.result) (sym e) c.one_more-best.ensures in
    let next = best_next n rows (take i ws) way c.in-Ok.look c.ways.best c.one_more-best.result c.ways.invariant look one in
    let whole = subst (λ us. IsBest n rows us c.one_more-best.result) (sym more) next in
    best_taken n rows ws (i + 1) c.in-Take.way c.in-Take.lists (subst (λ b. IsBest n rows (take (i + 1) ws) b) c.in-Take.is whole)

pub ways-preserved : goal.ways-preserved
ways-preserved c =
    let n = c.args.question.now.columns in
    let rows = c.args.place.now.rows.now in
    let ws = c.args.ways.now in
    let i = c.ways.way in
    let way = c.index-ways-way.result in
    let more = take_next ws i way c.ways-test.true c.index-ways-way.is in
    let same = c.deref.ensures.value ∙ ap (λ w. w.rows.items) (sym c.index-ways-way.is) in
    let e = length-take_all ws i (let t = c.ways-test.true in omega (arith, t)) in
    let look = subst (λ rs. IsLook n rows rs c.in-Ok.look) same c.in-Ok.ensures.look in
    let one = subst (λ k. IsOneMore k c.in-Ok.look c.ways.best c.one_more-best.result) (sym e) c.one_more-best.ensures in
    subst (λ us. IsBest n rows us c.one_more-best.result) (sym more) (best_next n rows (take i ws) way c.in-Ok.look c.ways.best c.one_more-best.result c.ways.invariant look one)

pub returns-clause-best : goal.returns-clause-best
returns-clause-best c = subst (λ ws. IsBest c.args.question.now.columns c.args.place.now.rows.now ws c.ways.best) (take_past c.args.ways.now c.ways.way (let t = c.ways-test.false in omega (arith, t))) c.ways.invariant

pub returns-in-Err-clause-refusals : goal.returns-in-Err-clause-refusals
returns-in-Err-clause-refusals c =
    let q = c.args.question.now in
    let above = c.args.place.now.rows.now in
    let way = c.index-ways-way.result in
    let is = all_at (IsWay q.columns (query_of q) above) c.args.ways.now c.ways.way way c.requires.ways.each c.ways-test.true c.index-ways-way.is in
    let same = c.deref.ensures.value ∙ ap (λ w. w.rows.items) (sym c.index-ways-way.is) in
    look_other (IsWideIn q.columns above (way_rows way)) (IsWideHere q.columns (query_of q) above) q.columns (query_of q) above q.pivots c.in-Err.fault
    (λ column w. denying (way_rows way) (way_is_rows q.columns (query_of q) above way is) w)
    (subst (λ rs. IsLookFault (IsWideIn q.columns above rs) q.columns (query_of q) above q.pivots c.in-Err.fault) same c.in-Err.ensures.refusals)
