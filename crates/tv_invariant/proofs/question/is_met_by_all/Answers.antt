use Rattle.std.proofs.Common.{All, map, sym, subst, refl}
use Rattle.std.proofs.lemmas.List.Elements.{All-push}
use Rattle.tv_linear.specs.Linear.{IsMet}
use Rattle.tv_farkas.specs.Paths.{IsWholePoint}
use Rattle.tv_invariant.specs.Seen.{IsAsked}
use Rattle.tv_invariant.proofs.ListLemmas.{all_mapped_push}
use Rattle.tv_invariant.proofs.question.is_met_by_all.Goals as goal

pub returns-then-is_kept-clause-seen : goal.returns-then-is_kept-clause-seen
returns-then-is_kept-clause-seen c =
    let n = c.args.ambient.now.columns in
    let rows = c.args.ambient.now.rows.items in
    record {
      points = c.requires.seen.points;
      shown = λ xs w. subst (All (IsMet xs)) (sym c.in_ok-push_item.ensures) (All-push (IsMet xs) c.args.seen.now.shown.items c.args.row (c.requires.seen.shown xs w) (c.if-is_kept.ensures refl xs w.width (subst (All (IsMet xs)) (sym c.deref-4.ensures.value) w.met)));
    }

pub returns-in_ok-push_item-in-Ok-Tree-clause-seen : goal.returns-in_ok-push_item-in-Ok-Tree-clause-seen
returns-in_ok-push_item-in-Ok-Tree-clause-seen c =
    let n = c.args.ambient.now.columns in
    let rows = c.args.ambient.now.rows.items in
    record {
      points = c.requires.seen.points;
      shown = λ xs w. subst (All (IsMet xs)) (sym c.in_ok-push_item-in-Ok-Tree.ensures) (All-push (IsMet xs) c.args.seen.now.shown.items c.args.row (c.requires.seen.shown xs w) (subst (IsMet xs) c.in_ok-copy.ensures (subst (IsAsked n rows c.in_ok-copy.field-0) c.in-Ok-Tree.field-0-is c.in-Ok-Tree.ensures.asked xs w)));
    }

pub returns-in_ok-push_item-in-Ok-Hole-clause-seen : goal.returns-in_ok-push_item-in-Ok-Hole-clause-seen
returns-in_ok-push_item-in-Ok-Hole-clause-seen c =
    let n = c.args.ambient.now.columns in
    let rows = c.args.ambient.now.rows.items in
    record {
      points = subst (λ ps. All (IsWholePoint n rows) (map (λ p. p.items) ps)) (sym c.in_ok-push_item-in-Ok-Hole.ensures) (all_mapped_push (IsWholePoint n rows) (λ p. p.items) c.args.seen.now.points.items c.in-Ok-Hole.point c.requires.seen.points (subst (IsAsked n rows c.in_ok-copy.field-0) c.in-Ok-Hole.field-0-is c.in-Ok-Hole.ensures.asked).0);
      shown = c.requires.seen.shown;
    }
