use Rattle.std.proofs.Common.{◌≡◌, suc, arith, ap, ◌∙◌, subst, get_or, slice_get}
use Rattle.std.specs.Prelude.{Some, pos}
use Rattle.tv_linear.specs.Known.{given, less}
use Rattle.tv_linear.specs.Falls.{zero_row}
use Rattle.tv_refute.specs.Built.{change_of}
use Rattle.tv_refute.specs.Frames.{known_at}
use Rattle.tv_linear.specs.Views.{row_seen, rows_seen}
use Rattle.tv_cert.specs.Entering.{fall_listed}
use Rattle.tv_cert.proofs.OwedLemmas.{shows_as, fall_many, before_at, turn_at, floor_at}
use Rattle.tv_cert.proofs.fall.Fall.is_shown.Goals as goal

pub returns-then-place-self : goal.returns-then-place-self
returns-then-place-self c =
    let f = c.args.self.now in
    let change = change_of c.args.change.now in
    let rows = fall_listed change (Some f) in
    let many = fall_many change (rows_seen f.old) (rows_seen f.new) f.place f.before f.after in
    let r = c.requires in
    let above = c.if-place-self.true in
    let old = row_seen c.row-old.result in
    let e : c.args.place ≡ suc f.place = omega (arith, many, r, above) in
    shows_as c.args.columns (known_at c.args.frames.now) rows c.args.place c.args.multipliers.now c.shows_not_below.result (less (given zero_row) (given old) (pos 0))
    (ap (slice_get rows) e ∙ floor_at change (rows_seen f.old) (rows_seen f.new) f.place old f.before f.after c.row-old.ensures)
    c.shows_not_below.ensures

pub returns-then-place-self-2 : goal.returns-then-place-self-2
returns-then-place-self-2 c =
    let f = c.args.self.now in
    let change = change_of c.args.change.now in
    let rows = fall_listed change (Some f) in
    let e = c.if-place-self-2.true in
    let old = row_seen c.row-old.result in
    let new = row_seen c.row-new.result in
    shows_as c.args.columns (known_at c.args.frames.now) rows c.args.place c.args.multipliers.now c.shows_less.result (less (change new) (given old) (pos 1))
    (ap (slice_get rows) e ∙ turn_at change (rows_seen f.old) (rows_seen f.new) f.place old new f.before f.after c.row-old.ensures (subst (λ i. new ≡ get_or (rows_seen f.new) i new) e c.row-new.ensures))
    c.shows_less.ensures

pub returns : goal.returns
returns c =
    let f = c.args.self.now in
    let change = change_of c.args.change.now in
    let rows = fall_listed change (Some f) in
    let at_most = c.if-place-self.false in
    let other = c.if-place-self-2.false in
    let old = row_seen c.row-old-2.result in
    let new = row_seen c.row-new.result in
    shows_as c.args.columns (known_at c.args.frames.now) rows c.args.place c.args.multipliers.now c.shows_less-2.result (less (change new) (given old) (pos 0))
    (before_at change (rows_seen f.old) (rows_seen f.new) f.place c.args.place old new (omega (arith, at_most, other)) f.before f.after c.row-old-2.ensures c.row-new.ensures)
    c.shows_less-2.ensures
