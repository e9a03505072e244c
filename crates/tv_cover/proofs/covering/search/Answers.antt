use Rattle.std.proofs.Common.{length, arith, ap, sym, subst}
use Rattle.tv_farkas.specs.Stretching.{IsTakenBy}
use Rattle.tv_cover.specs.declared.covering.Place.{Place}
use Rattle.tv_cover.specs.Targets.{lists_of}
use Rattle.tv_cover.specs.Covering.{IsCoverFault}
use Rattle.tv_cover.proofs.SearchLemmas.{first_search, cover_of}
use Rattle.tv_cover.proofs.covering.search.Goals as goal

pub settle-requires-clause-searches : goal.settle-requires-clause-searches
settle-requires-clause-searches c =
    let n = c.args.columns in
    let lists = lists_of c.args.targets.now in
    let rows = c.args.rows.now in
    let kept = c.in_ok-kept.field-0.rows.items in
    let place : Place = record { rows = c.in_ok-kept.field-0.rows; path = c.new.result } in
    let taken = c.in_ok-kept.ensures.taken in
    let marked = subst (λ b. IsTakenBy b rows kept) (sym c.deref.ensures.value) c.in_ok-kept.ensures.marked in
    (rows, first_search n lists rows c.deref.result.now place c.requires.even taken marked c.new.ensures.items)

pub returns-in-Err : goal.returns-in-Err
returns-in-Err c =
    let n = c.args.columns in
    let lists = lists_of c.args.targets.now in
    let rows = c.args.rows.now in
    let kept = c.in_ok-kept.field-0.rows.items in
    let place : Place = record { rows = c.in_ok-kept.field-0.rows; path = c.new.result } in
    let taken = c.in_ok-kept.ensures.taken in
    let marked = subst (λ b. IsTakenBy b rows kept) (sym c.deref.ensures.value) c.in_ok-kept.ensures.marked in
    let s = first_search n lists rows c.deref.result.now place c.requires.even taken marked c.new.ensures.items in
    let h = c.in-Err.ensures rows s in
    let e = ap length c.new.ensures.items in
    subst (λ k. IsCoverFault n lists rows c.args.budget.now.pivots k c.in-Err.fault) (omega (arith, e)) h

pub returns : goal.returns
returns c =
    let n = c.args.columns in
    let lists = lists_of c.args.targets.now in
    let rows = c.args.rows.now in
    let kept = c.in_ok-kept.field-0.rows.items in
    let place : Place = record { rows = c.in_ok-kept.field-0.rows; path = c.new.result } in
    let taken = c.in_ok-kept.ensures.taken in
    let marked = subst (λ b. IsTakenBy b rows kept) (sym c.deref.ensures.value) c.in_ok-kept.ensures.marked in
    let s = first_search n lists rows c.deref.result.now place c.requires.even taken marked c.new.ensures.items in
    cover_of n lists rows c.args.budget.now.splits place c.settle.new.place c.in-Ok.found c.new.ensures.items (c.in-Ok.ensures rows s)
