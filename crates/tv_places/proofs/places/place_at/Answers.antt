use Rattle.std.proofs.Common.{◌≤◌, length, ◌∙◌, sym, ltb-true, ltb-false}
use Rattle.tv_places.proofs.IndexLemmas.{place_here, place_other, place_past}
use Rattle.tv_places.proofs.places.place_at.Goals as goal

pub returns-in_err-stand : goal.returns-in_err-stand
returns-in_err-stand c numbers index =
    let rest = c.from_number.result.now in
    let past : length rest ≤ c.args.k = ltb-false _ _ (sym c.in_err-stand.ensures.lookup.0) in
    c.from_residual.ensures ∙ place_past numbers c.args.index.now rest c.args.number index (c.from_number.ensures index.rises) c.args.k past

pub returns-then-stand-number : goal.returns-then-stand-number
returns-then-stand-number c numbers index =
    let rest = c.from_number.result.now in
    let stand = c.in_ok-stand.stand.now in
    let got = c.in_ok-stand.ensures.lookup in
    place_here numbers c.args.index.now rest c.args.number index (c.from_number.ensures index.rises) c.args.k stand (ltb-true _ _ (sym got.0)) got.1 c.if-stand-number.true

pub returns-else-stand-number : goal.returns-else-stand-number
returns-else-stand-number c numbers index =
    let rest = c.from_number.result.now in
    let stand = c.in_ok-stand.stand.now in
    let got = c.in_ok-stand.ensures.lookup in
    place_other numbers c.args.index.now rest c.args.number index (c.from_number.ensures index.rises) c.args.k stand (ltb-true _ _ (sym got.0)) got.1 c.if-stand-number.false
