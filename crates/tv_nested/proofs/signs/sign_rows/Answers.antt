use Rattle.std.proofs.Common.{◌≡◌, ◌∙◌, ◌<◌, ◌++◌, [], ◌∷◌, get_or, length, arith, sym, ap, subst}
use Rattle.tv_nested.proofs.SignLemmas.{rows_next, rows_all}
use Rattle.tv_nested.proofs.signs.sign_rows.Goals as goal

pub returns-then-piece-signs-clause-rows : goal.returns-then-piece-signs-clause-rows
returns-then-piece-signs-clause-rows c =
    let t = c.if-piece-signs.true in
    c.in_ok-rows.ensures.rows ∙ sym (rows_all c.args.signs.now c.args.piece (omega (arith, t)))

pub returns-clause-rows : goal.returns-clause-rows
returns-clause-rows c =
    let signs = c.args.signs.now in
    let piece = c.args.piece in
    let t = c.if-piece-signs.false in
    let l = c.requires in
    let inside : c.args.piece < length c.args.signs.now = omega (arith, t, l) in
    let is = subst (λ r. r ≡ get_or signs piece r) (sym c.in_ok-copy.ensures) c.index-signs-piece.is in
    c.in_ok-push_item.ensures
    ∙ ap (λ z. z ++ c.in_ok-copy.field-0 ∷ []) c.in_ok-rows.ensures.rows
    ∙ sym (rows_next signs piece c.in_ok-copy.field-0 inside is)
