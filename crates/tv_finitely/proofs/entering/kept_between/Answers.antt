use Rattle.std.proofs.Common.{◌++◌, length, map, Some, sym, ap, ◌∙◌}
use Rattle.std.specs.Option.{option_map}
use Rattle.tv_cert.specs.Pieces.{ranks_of, rows_of}
use Rattle.tv_finitely.specs.Entrances.{kept_list}
use Rattle.tv_finitely.proofs.EntranceLemmas.{kept_there, not_kept}
use Rattle.tv_finitely.proofs.entering.kept_between.Goals as goal

pub returns-then-len : goal.returns-then-len
returns-then-len c =
    let old = c.len.ensures.counted ∙ ap length c.ranks-old.ensures in
    let new = c.len-2.ensures.counted ∙ ap length c.ranks-new.ensures in
    λ change. ap (option_map (λ falls. map change (rows_of c.args.piece.now) ++ falls)) (not_kept change (ranks_of c.args.left.now) (ranks_of c.args.piece.now) (λ e. c.if-len.true (old ∙ e ∙ sym new)))

pub returns : goal.returns
returns c =
    let old = c.len.ensures.counted ∙ ap length c.ranks-old.ensures in
    let new = c.len-2.ensures.counted ∙ ap length c.ranks-new.ensures in
    λ change. ap (option_map (λ falls. map change (rows_of c.args.piece.now) ++ falls)) (kept_there change (ranks_of c.args.left.now) (ranks_of c.args.piece.now) (sym old ∙ c.if-len.false ∙ new))
    ∙ (λ i. Some (map change (sym c.rows-rows.ensures i) ++ kept_list change (sym c.ranks-old.ensures i) (sym c.ranks-new.ensures i)))
