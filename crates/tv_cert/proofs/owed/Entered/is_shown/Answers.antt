use Rattle.std.proofs.Common.{◌-◌, arith, length, map, ap, sym, ◌∙◌, slice_get, length-append}
use Rattle.std.proofs.lemmas.List.{length-map}
use Rattle.tv_refute.specs.Built.{change_of}
use Rattle.tv_linear.specs.Views.{rows_seen}
use Rattle.tv_cert.specs.Entering.{fall_listed}
use Rattle.tv_cert.proofs.OwedLemmas.{fall_many, get_second}
use Rattle.tv_cert.proofs.owed.Entered.is_shown.Goals as goal

pub overflow_cast-further : goal.overflow_cast-further
overflow_cast-further c =
    let change = change_of c.args.change.now in
    let x = c.args.self.now in
    let f = c.in-Some.fall in
    let many = ap (λ o. length (fall_listed change o)) c.in-Some.is ∙ fall_many change (rows_seen f.old) (rows_seen f.new) f.place f.before f.after in
    let a = length-append (map change (rows_seen x.rows)) (fall_listed change x.fall) in
    let b = length-map (rows_seen x.rows) change in
    let r = c.requires in
    let bounded = f.bounded in
    omega (arith, many, a, b, r, bounded)

pub returns : goal.returns
returns c =
    let change = change_of c.args.change.now in
    let x = c.args.self.now in
    let rows = map change (rows_seen x.rows) in
    let b = length-map (rows_seen x.rows) change in
    let past = c.if-place-rows.false in
    let n = c.len-rows.ensures.counted in
    let i = c.args.place - c.len-rows.result in
    λ row there. c.is_shown.ensures row
    (ap (λ o. slice_get (fall_listed change o) i) (sym c.in-Some.is) ∙ sym (get_second rows (fall_listed change x.fall) c.args.place i (omega (arith, b, past, n))) ∙ there)
