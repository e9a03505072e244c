use Rattle.std.proofs.Common.{ap, sym, subst, ◌∙◌}
use Rattle.std.proofs.lemmas.Option.{MatchOption-at_none, MatchOption-at_some}
use Rattle.tv_simplex.specs.Rows.{ratio, entry_in, row_of, IsSparse, IsRow, IsWideBy, IsDivided}
use Rattle.tv_simplex.proofs.TableLemmas.{wide_quotient, wide_clearing, exchanged}
use Rattle.tv_simplex.proofs.exchanging.exchange.Goals as goal

pub returns-in-Some : goal.returns-in-Some
returns-in-Some c =
    let rows = c.args.rows.now in
    let r = c.args.row in
    let width = c.args.width in
    let row = c.row_at-2.result.now in
    let d = ratio c.fraction_in-pivot.result in
    let sparse = subst (λ z. IsSparse 0 width z) (sym c.row_at-2.ensures) (c.requires.grid r c.requires.inside) in
    wide_quotient width r c.args.column rows c.requires.inside d (c.fraction_in-pivot.ensures.is ∙ ap (λ z. entry_in z c.args.column) c.row_at.ensures) c.in-Some.j
    (subst (λ z. IsWideBy (IsDivided z d) width c.in-Some.j) c.row_at-2.ensures
    (MatchOption-at_some (IsRow (IsDivided row d) width c.divide.new.made.items) (λ j. IsWideBy (IsDivided row d) width j) c.in-Some.j c.in-Some.is (c.in_ok-j.ensures width sparse)))

pub returns-in-Err : goal.returns-in-Err
returns-in-Err c =
    let rows = c.args.rows.now in
    let r = c.args.row in
    let width = c.args.width in
    let row = c.row_at-2.result.now in
    let d = ratio c.fraction_in-pivot.result in
    let ps = c.deref.result.now in
    let sparse = subst (λ z. IsSparse 0 width z) (sym c.row_at-2.ensures) (c.requires.grid r c.requires.inside) in
    let quotients = subst (λ z. IsRow (IsDivided (row_of rows r) d) width z) (sym c.deref.ensures.value)
    (subst (λ z. IsRow (IsDivided z d) width c.divide.new.made.items) c.row_at-2.ensures
    (MatchOption-at_none (IsRow (IsDivided row d) width c.divide.new.made.items) (λ j. IsWideBy (IsDivided row d) width j) c.in_default.is (c.in_ok-j.ensures width sparse))) in
    wide_clearing width r c.args.column rows c.requires.inside d (c.fraction_in-pivot.ensures.is ∙ ap (λ z. entry_in z c.args.column) c.row_at.ensures) ps quotients (entry_in c.args.factors.now) c.requires.factors.each c.in-Err.stop c.in-Err.ensures

pub returns-in-Ok : goal.returns-in-Ok
returns-in-Ok c =
    let rows = c.args.rows.now in
    let r = c.args.row in
    let width = c.args.width in
    let row = c.row_at-2.result.now in
    let d = ratio c.fraction_in-pivot.result in
    let ps = c.deref.result.now in
    let sparse = subst (λ z. IsSparse 0 width z) (sym c.row_at-2.ensures) (c.requires.grid r c.requires.inside) in
    let quotients = subst (λ z. IsRow (IsDivided (row_of rows r) d) width z) (sym c.deref.ensures.value)
    (subst (λ z. IsRow (IsDivided z d) width c.divide.new.made.items) c.row_at-2.ensures
    (MatchOption-at_none (IsRow (IsDivided row d) width c.divide.new.made.items) (λ j. IsWideBy (IsDivided row d) width j) c.in_default.is (c.in_ok-j.ensures width sparse))) in
    exchanged width r c.args.column rows c.requires.inside d (c.fraction_in-pivot.ensures.is ∙ ap (λ z. entry_in z c.args.column) c.row_at.ensures) ps quotients (entry_in c.args.factors.now) c.requires.factors.each c.clear_column.new.rows c.swap.new.x (ap (λ z. z.items) c.swap.ensures.x_after ∙ sym c.deref.ensures.value) c.in-Ok.ensures
