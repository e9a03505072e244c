use Rattle.std.proofs.Common.{◌-◌, ◌++◌, arith, map, pos, ◌∙◌}
use Rattle.std.proofs.lemmas.List.{length-map}
use Rattle.tv_linear.specs.Known.{given, less}
use Rattle.tv_linear.specs.Views.{row_seen, rows_seen}
use Rattle.tv_refute.specs.Built.{change_of}
use Rattle.tv_refute.specs.Frames.{known_at}
use Rattle.tv_cert.proofs.OwedLemmas.{shows_as, get_second}
use Rattle.tv_finitely.specs.Entrances.{kept_list}
use Rattle.tv_finitely.proofs.EntranceLemmas.{kept_at, kept_counted}
use Rattle.tv_finitely.proofs.kept.Kept.is_shown.Goals as goal

pub row-old-requires : goal.row-old-requires
row-old-requires c = (let k = kept_counted (change_of c.args.change.now) c.args.self.now in let r = c.requires in let n = c.len-rows.ensures.counted in let f = c.if-place-rows.false in omega (arith, k, r, n, f))

pub row-new-requires : goal.row-new-requires
row-new-requires c = (let k = kept_counted (change_of c.args.change.now) c.args.self.now in let r = c.requires in let n = c.len-rows.ensures.counted in let f = c.if-place-rows.false in let m = c.args.self.now.as_many in omega (arith, k, r, n, f, m))

pub returns : goal.returns
returns c =
    let self = c.args.self.now in
    let change = change_of c.args.change.now in
    let front = map change (rows_seen self.rows) in
    let back = kept_list change (rows_seen self.old) (rows_seen self.new) in
    let i = c.args.place - c.len-rows.result in
    let old = row_seen c.row-old.result in
    let new = row_seen c.row-new.result in
    let k = kept_counted change self in
    let r = c.requires in
    let n = c.len-rows.ensures.counted in
    let f = c.if-place-rows.false in
    let m = self.as_many in
    let b = length-map (rows_seen self.rows) change in
    shows_as c.args.columns (known_at c.args.frames.now) (front ++ back) c.args.place c.args.multipliers.now c.shows_less.result (less (change new) (given old) (pos 0))
    (get_second front back c.args.place i (omega (arith, b, n, f)) ∙ kept_at change (rows_seen self.old) (rows_seen self.new) i old new (omega (arith, k, r, n, f)) (omega (arith, k, r, n, f, m)) c.row-old.ensures c.row-new.ensures)
    c.shows_less.ensures
