use Rattle.std.proofs.Common.{length, subst}
use Rattle.std.proofs.lemmas.Option.{MatchOption-at_none, MatchOption-at_some}
use Rattle.std.proofs.lemmas.Result.{MatchResult-weaker}
use Rattle.tv_simplex.specs.Choosing.{NoneAbove, IsLeast}
use Rattle.tv_simplex.specs.Tables.{shown}
use Rattle.tv_simplex.specs.Views.{equations}
use Rattle.tv_simplex.proofs.WalkLemmas.{some_leaves, next_stands, step_stops}
use Rattle.tv_simplex.proofs.walking.step.Goals as goal

pub unreachable-requires : goal.unreachable-requires
unreachable-requires c =
    let s = equations c.args.system.now in
    let t = c.args.table.now in
    let st = c.requires.stands.1 in
    let m = length t.basis.items in
    let none = MatchOption-at_none (NoneAbove (shown t) c.args.column m) (λ r. IsLeast m t.columns (shown t) c.args.column m r) c.in-None.is c.leaving_row.ensures in
    some_leaves s c.requires.stands.0 t st c.args.column c.requires.entering (subst (λ k. NoneAbove (shown t) c.args.column k) st.size.basis none)

pub returns : goal.returns
returns c =
    let s = equations c.args.system.now in
    let t = c.args.table.now in
    let st = c.requires.stands.1 in
    let m = length t.basis.items in
    let r = c.in-Some.row in
    let col = c.args.column in
    let least = subst (λ n. IsLeast s.rows n (shown t) col s.rows r) st.size.columns
    (subst (λ k. IsLeast k t.columns (shown t) col k r) st.size.basis
    (MatchOption-at_some (NoneAbove (shown t) col m) (λ q. IsLeast m t.columns (shown t) col m q) r c.in-Some.is c.leaving_row.ensures)) in
    MatchResult-weaker c.enter.result c.enter.ensures.entered
    (λ x h. λ n at. next_stands s n t at col c.requires.entering r least _ c.enter.ensures.basis c.enter.ensures.columns h.0 h.1)
    (λ stop h. step_stops s c.requires.stands.0 t st col c.requires.entering r least _ stop c.enter.ensures.basis h)
