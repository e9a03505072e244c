use Rattle.std.proofs.Common.{All, sym, subst, ◌∙◌, ◌&&◌}
use Rattle.tv_refute.specs.Built.{change_of}
use Rattle.tv_linear.specs.Views.{row_seen, rows_seen}
use Rattle.tv_cert.specs.Pieces.{goes}
use Rattle.tv_points.specs.Lines.{IsShowable}
use Rattle.tv_points.proofs.FallLemmas.{owed_fall}
use Rattle.tv_points.proofs.falls.push_owed.Goals as goal

pub push_fall-requires-clause-showable : goal.push_fall-requires-clause-showable
push_fall-requires-clause-showable c =
    let e = c.args.entering.now in
    subst (All (IsShowable c.args.point.now))
    (owed_fall (change_of e.change.now) e.from.now e.into.now (e.falls && goes e.into.now) (row_seen c.in-Some.old) (row_seen c.in-Some-split_first.new) (rows_seen c.in-Some.field-0-1) (rows_seen c.in-Some-split_first.field-0-1) (sym c.is_owed.ensures ∙ c.if-not-is_owed.false) (sym c.ranks.ensures ∙ c.in-Some.ensures) (sym c.ranks-2.ensures ∙ c.in-Some-split_first.ensures))
    c.requires.showable
