use Rattle.std.proofs.Common.{◌∙◌, ◌+◌, ◌++◌, [], ◌∷◌, map, ap, sym}
use Rattle.std.proofs.lemmas.List.{map_push}
use Rattle.tv_nested.proofs.OwnLines.{lines_more}
use Rattle.tv_nested.proofs.splitting.own_lines.Goals as goal

pub rows-preserved : goal.rows-preserved
rows-preserved c =
    ap (λ ls. map (λ v. v.items) ls) c.in_ok-push_item.ensures
    ∙ map_push (λ v. v.items) c.rows.lines.items c.in_ok-own_line.field-0
    ∙ (λ i. c.rows.invariant i ++ c.in_ok-own_line.ensures i ∷ [])
    ∙ sym (lines_more (c.args.before + c.args.above) c.args.before c.rows.place)
