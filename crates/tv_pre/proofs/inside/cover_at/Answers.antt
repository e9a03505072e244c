use Rattle.std.proofs.Common.{◌∙◌, sym, subst, arith, All}
use Rattle.tv_shape.specs.Narrow.{CoverNarrow}
use Rattle.tv_cases.specs.Systems.{cases_of}
use Rattle.tv_cover.specs.Targets.{lists_of, AreEven}
use Rattle.tv_cover.specs.Covering.{IsCovered, HasNoHole, IsShallow, IsShortCovered, HasSplitRows, IsCoverFault}
use Rattle.tv_cover.proofs.SingleLemmas.{rows_even}
use Rattle.tv_choice.specs.Leading.{piece_rows}
use Rattle.tv_pre.proofs.OfferLemmas.{shows_inside}
use Rattle.tv_pre.proofs.inside.cover_at.Goals as goal

pub cover-requires-clause-same : goal.cover-requires-clause-same
cover-requires-clause-same c = subst (λ n. All (AreEven n) (lists_of c.args.targets.now)) (sym c.requires.piece.width) c.requires.same

pub returns-in-Err-clause-refusals : goal.returns-in-Err-clause-refusals
returns-in-Err-clause-refusals c =
    let budget = c.args.setting.now.budget.now in
    let piece = c.args.piece.now in
    subst (λ n. IsCoverFault n (lists_of c.args.targets.now) (piece_rows piece) budget.pivots budget.splits c.in-Err.fault) c.requires.piece.width c.in-Err.ensures.refusals

pub returns-in-Ok-Hole-clause-answers : goal.returns-in-Ok-Hole-clause-answers
returns-in-Ok-Hole-clause-answers c =
    let about = cases_of c.args.setting.now.about.now in
    let piece = c.args.piece.now in
    let lists = lists_of c.args.targets.now in
    let is = c.in-Ok-Hole.field-0-is in
    record {
      hole = subst (IsCovered about.variables lists (piece_rows piece)) is (subst (λ n. IsCovered n lists (piece_rows piece) c.in-Ok-Hole.field-0) c.requires.piece.width c.in-Ok-Hole.ensures.answers);
      short = subst IsShortCovered is c.in-Ok-Hole.ensures.short;
    }

pub returns-in-Ok-Tree-clause-answers : goal.returns-in-Ok-Tree-clause-answers
returns-in-Ok-Tree-clause-answers c =
    let about = cases_of c.args.setting.now.about.now in
    let piece = c.args.piece.now in
    let lists = lists_of c.args.targets.now in
    let n = piece.poly.columns in
    let tree = c.in-Ok-Tree.cover in
    let is = c.in-Ok-Tree.field-0-is in
    record {
      shows = λ into e.
          shows_inside about piece into lists n tree c.requires.piece.width e
          (subst (IsCovered n lists (piece_rows piece)) is c.in-Ok-Tree.ensures.answers)
          (rows_even n lists tree (subst (HasSplitRows n lists) is c.in-Ok-Tree.ensures.split_rows))
          (subst CoverNarrow c.tree.ensures.same c.narrow_tree.ensures)
          (let s = subst (IsShallow c.args.setting.now.budget.now.splits) is c.in-Ok-Tree.ensures.shallow in let bounded = c.requires.splits in omega (arith, s, bounded));
      inside = λ xs point.
          subst (HasNoHole n lists (piece_rows piece)) is c.in-Ok-Tree.ensures.none xs (record { width = point.width ∙ sym c.requires.piece.width; met = point.met });
    }
