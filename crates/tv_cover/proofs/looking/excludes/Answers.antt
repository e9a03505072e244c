use Rattle.std.proofs.Common.{refl, ◌++◌, ◌∷◌, [], inl, subst}
use Rattle.std.specs.List.{Contains}
use Rattle.tv_cover.specs.Targets.{lists_of}
use Rattle.tv_cover.specs.Looking.{IsRefusedAt, no_wide}
use Rattle.tv_cover.proofs.PointLemmas.{refuted_points}
use Rattle.tv_cover.proofs.LookLemmas.{refused_with, refuted_with, witness_with, looked_point}
use Rattle.tv_cover.proofs.looking.excludes.Goals as goal

pub returns-in-Err : goal.returns-in-Err
returns-in-Err c =
    let n = c.args.question.now.columns in
    let kept = c.args.rows.now.items in
    let row = c.args.row.now in
    refused_with no_wide n (lists_of c.args.question.now.targets.now) kept row c.args.question.now.pivots c.in-Err.fault (row, c.requires.target, inl refl)
    (subst (λ k. Contains k row → ⊥) c.deref.ensures.value c.if-has_point.ensures)
    (subst (λ r. IsRefusedAt n (kept ++ r ∷ []) c.args.question.now.pivots c.in-Err.fault) c.in_ok-copy.ensures c.in-Err.ensures)

pub returns-in-Ok-Empty : goal.returns-in-Ok-Empty
returns-in-Ok-Empty c =
    let n = c.args.question.now.columns in
    let kept = c.args.rows.now.items in
    let row = c.args.row.now in
    let refutes = refuted_with n kept c.in_ok-copy.copy row c.in-Ok-Empty.field-0 c.in-Ok-Empty.field-0-0 c.in_ok-copy.ensures c.in-Ok-Empty.field-0-is c.in-Ok-Empty.ensures.1 in (
      record { same = c.in-Ok-Empty.ensures.0; witnesses = c.requires.points },
      λ p. refuted_points n (kept ++ row ∷ []) c.in-Ok-Empty.field-0-0.items refutes p,
    )

pub returns : goal.returns
returns c =
    let n = c.args.question.now.columns in
    let kept = c.args.rows.now.items in
    let row = c.args.row.now in
    let w = witness_with n kept c.in_ok-copy.copy row c.in-Ok-Point.field-0 c.in-Ok-Point.values c.in-Ok-Point.scale c.in_ok-copy.ensures c.in-Ok-Point.field-0-is c.in-Ok-Point.ensures.1 in
    looked_point n kept c.refute_with.new.rows.items row c.in-Ok-Point.values c.in-Ok-Point.scale c.args.points.now.items c.push_item.new.items.items w c.requires.points c.in-Ok-Point.ensures.0 c.in_ok-push_item-in-Ok-Point.ensures
