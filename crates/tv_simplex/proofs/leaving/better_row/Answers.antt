use Rattle.std.proofs.Common.{length, pos, ◌<ℤ◌, arith, ap, subst}
use Rattle.std.proofs.lemmas.Option.{MatchOption-at_none, MatchOption-at_some}
use Rattle.tv_simplex.specs.Tables.{shown}
use Rattle.tv_simplex.specs.Choosing.{NoneAbove, IsLeast}
use Rattle.tv_simplex.proofs.RowLemmas.{tested_true, tested_false}
use Rattle.tv_simplex.proofs.LeavingLemmas.{best_more, first_best, taken_over, stays, not_above_as}
use Rattle.tv_simplex.proofs.leaving.better_row.Goals as goal

pub returns-then-not-is_positive : goal.returns-then-not-is_positive
returns-then-not-is_positive c =
    let never = tested_false c.is_positive.result c.is_positive.ensures c.if-not-is_positive.true in
    let e = ap (λ f. f.numerator) c.requires.factor in
    best_more (length c.args.table.now.basis.items) c.args.table.now.columns (shown c.args.table.now) c.args.column c.args.row (omega arith) c.requires.row c.args.best (not_above_as c.args.factor.now.numerator (shown c.args.table.now c.args.row c.args.column).numerator e never) c.requires.best

pub returns-in-None : goal.returns-in-None
returns-in-None c =
    let above = tested_true c.is_positive.result c.is_positive.ensures c.if-not-is_positive.false in
    first_best (length c.args.table.now.basis.items) c.args.table.now.columns (shown c.args.table.now) c.args.column c.args.row (omega arith) c.requires.row (subst (λ f. pos 0 <ℤ f.numerator) c.requires.factor above)
    (MatchOption-at_none (NoneAbove (shown c.args.table.now) c.args.column c.args.row) (λ r. IsLeast (length c.args.table.now.basis.items) c.args.table.now.columns (shown c.args.table.now) c.args.column c.args.row r) c.in-None.is c.requires.best)

pub returns-in-Greater : goal.returns-in-Greater
returns-in-Greater c =
    let above = tested_true c.is_positive.result c.is_positive.ensures c.if-not-is_positive.false in
    let old = MatchOption-at_some (NoneAbove (shown c.args.table.now) c.args.column c.args.row) (λ r. IsLeast (length c.args.table.now.basis.items) c.args.table.now.columns (shown c.args.table.now) c.args.column c.args.row r) c.in-Some.least c.in-Some.is c.requires.best in
    taken_over (length c.args.table.now.basis.items) c.args.table.now.columns (shown c.args.table.now) c.args.column c.args.row (omega arith) c.requires.row c.in-Some.least (subst (λ f. pos 0 <ℤ f.numerator) c.requires.factor above)
    c.in-Greater.ensures
    old

pub returns-in_default : goal.returns-in_default
returns-in_default c =
    let old = MatchOption-at_some (NoneAbove (shown c.args.table.now) c.args.column c.args.row) (λ r. IsLeast (length c.args.table.now.basis.items) c.args.table.now.columns (shown c.args.table.now) c.args.column c.args.row r) c.in-Some.least c.in-Some.is c.requires.best in
    stays (length c.args.table.now.basis.items) c.args.table.now.columns (shown c.args.table.now) c.args.column c.args.row (omega arith) c.requires.row c.compare_rows.result c.in-Some.least c.in_default.not-Greater
    c.compare_rows.ensures
    old
