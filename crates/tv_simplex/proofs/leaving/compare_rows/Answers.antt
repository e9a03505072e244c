use Rattle.std.proofs.Common.{◌≡◌, ◌+◌, length, arith, subst}
use Rattle.std.specs.declared.cmp.Ordering.TheVariants.{Less, Equal, Greater}
use Rattle.tv_simplex.specs.Choosing.{ComparesAt}
use Rattle.tv_simplex.specs.Tables.{shown}
use Rattle.tv_simplex.proofs.LeavingLemmas.{ends_less, ends_greater}
use Rattle.tv_simplex.proofs.leaving.compare_rows.Goals as goal

pub compare_artificial-requires-clause-tied : goal.compare_artificial-requires-clause-tied
compare_artificial-requires-clause-tied c =
    let t = c.args.table.now in
    let n = t.columns in
    let m = length t.basis.items in
    let col = c.args.column in
    let e : c.len.result ≡ m = omega arith in
    subst (λ z. ComparesAt (n + m) col (n + z) (shown t c.args.first) (shown t c.args.second) Equal) e
    (c.in-Equal.ensures (n + m) col (n + c.len.result) (shown t c.args.first) (shown t c.args.second) (omega (arith, c.requires.column)) (omega (arith, e)) c.entry_at-left.ensures.is c.entry_at-right.ensures.is c.entry_at-left_pivot.ensures.is c.entry_at-right_pivot.ensures.is)

pub returns-in-Less : goal.returns-in-Less
returns-in-Less c =
    let t = c.args.table.now in
    let n = t.columns in
    let m = length t.basis.items in
    let col = c.args.column in
    let e : c.len.result ≡ m = omega arith in
    ends_less m n col (shown t c.args.first) (shown t c.args.second) 0 (omega arith) (λ q l. absurd (omega arith))
    (subst (λ z. ComparesAt (n + m) col (n + z) (shown t c.args.first) (shown t c.args.second) Less) e
    (c.in-Less.ensures (n + m) col (n + c.len.result) (shown t c.args.first) (shown t c.args.second) (omega (arith, c.requires.column)) (omega (arith, e)) c.entry_at-left.ensures.is c.entry_at-right.ensures.is c.entry_at-left_pivot.ensures.is c.entry_at-right_pivot.ensures.is))

pub returns-in-Greater : goal.returns-in-Greater
returns-in-Greater c =
    let t = c.args.table.now in
    let n = t.columns in
    let m = length t.basis.items in
    let col = c.args.column in
    let e : c.len.result ≡ m = omega arith in
    ends_greater m n col (shown t c.args.first) (shown t c.args.second) 0 (omega arith) (λ q l. absurd (omega arith))
    (subst (λ z. ComparesAt (n + m) col (n + z) (shown t c.args.first) (shown t c.args.second) Greater) e
    (c.in-Greater.ensures (n + m) col (n + c.len.result) (shown t c.args.first) (shown t c.args.second) (omega (arith, c.requires.column)) (omega (arith, e)) c.entry_at-left.ensures.is c.entry_at-right.ensures.is c.entry_at-left_pivot.ensures.is c.entry_at-right_pivot.ensures.is))
