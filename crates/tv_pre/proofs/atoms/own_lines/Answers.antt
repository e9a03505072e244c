use Rattle.std.proofs.Common.{◌∙◌, ◌++◌, [], ◌∷◌, map, ap, sym}
use Rattle.tv_pre.proofs.LineLemmas.{lines_more}
use Rattle.tv_pre.proofs.atoms.own_lines.Goals as goal
use Rattle.std.proofs.lemmas.List.{map_push}

pub rows-preserved : goal.rows-preserved
rows-preserved c =
    ap (λ ls. map (λ v. v.items) ls) c.in_ok-push_item.ensures
    ∙ map_push (λ v. v.items) c.rows.lines.items c.in_ok-own_line.field-0
    ∙ (λ i. c.rows.invariant i ++ c.in_ok-own_line.ensures i ∷ [])
    ∙ sym (lines_more c.args.count c.rows.place)
