use Rattle.std.proofs.Common.{◌≡◌, ◌+◌, ◌-◌, length, sym, subst, refl, arith}
use Rattle.std.proofs.lemmas.Result.{MatchResult-weaker}
use Rattle.tv_farkas.specs.Stretching.{IsSplitOf}
use Rattle.tv_cover.specs.declared.covering.Place.{Place}
use Rattle.tv_cover.specs.Targets.{lists_of}
use Rattle.tv_cover.specs.Covering.{IsCoverFault}
use Rattle.tv_cover.specs.Stepping.{IsStep, AreHalves}
use Rattle.tv_cover.specs.Searching.{IsFound, IsSideFound}
use Rattle.tv_cover.proofs.SearchLemmas.{leaf_tree, hole_found, place_fault, first_side, second_side, side_search, pushed, side_found, same_search, one_branch, split_tree, same_found, split_row, less_and_more}
use Rattle.tv_cover.proofs.covering.+searching.Goals as goal

pub settle-returns-in-Err : goal.settle-returns-in-Err
settle-returns-in-Err t c = λ rows s.
    let n = c.args.question.now.columns in
    let lists = lists_of c.args.question.now.targets.now in
    place_fault n lists rows c.args.question.now.repeated.now c.args.place.now.rows.items c.args.place.now.path.items c.args.question.now.pivots (length c.args.place.now.path.items + c.args.left) c.in-Err.fault s c.in-Err.ensures

pub settle-returns-in-Ok-Leaf : goal.settle-returns-in-Ok-Leaf
settle-returns-in-Ok-Leaf t c = λ rows s.
    let n = c.args.question.now.columns in
    let lists = lists_of c.args.question.now.targets.now in
    let marks = c.args.question.now.repeated.now in
    leaf_tree n lists rows marks c.args.left c.args.place.now _ c.in-Ok-Leaf.tree s (subst (λ x. IsStep n lists marks c.args.place.now.rows.items x) c.in-Ok-Leaf.field-0-is c.in-Ok-Leaf.ensures.1) c.in-Ok-Leaf.ensures.0 refl

pub settle-returns-in-Ok-Hole : goal.settle-returns-in-Ok-Hole
settle-returns-in-Ok-Hole t c = λ rows s.
    let n = c.args.question.now.columns in
    let lists = lists_of c.args.question.now.targets.now in
    let marks = c.args.question.now.repeated.now in
    hole_found n lists rows marks c.args.place.now c.in-Ok-Hole.point.items s (subst (λ x. IsStep n lists marks c.args.place.now.rows.items x) c.in-Ok-Hole.field-0-is c.in-Ok-Hole.ensures.1)

pub settle-split-requires : goal.settle-split-requires
settle-split-requires t c =
    let n = c.args.question.now.columns in
    let lists = lists_of c.args.question.now.targets.now in
    let marks = c.args.question.now.repeated.now in
    let mid : Place = record { rows = c.next_step.new.rows; path = c.args.place.now.path } in (
      (let d = c.decreases in let l = c.if-left-eq0.false in omega (arith, d, l)),
      (
        c.requires.bounded,
        (
          c.requires.count,
          (
            c.requires.same,
            (
              (c.requires.searches.0, same_search n lists c.requires.searches.0 marks c.args.place.now mid c.in-Ok-Split.ensures.0 refl c.requires.searches.1),
              subst (λ k. AreHalves n lists k c.in-Ok-Split.halves) (sym c.in-Ok-Split.ensures.0) (subst (λ x. IsStep n lists marks c.args.place.now.rows.items x) c.in-Ok-Split.field-0-is c.in-Ok-Split.ensures.1),
            ),
          ),
        ),
      ),
    )

pub settle-returns-else-left-eq0 : goal.settle-returns-else-left-eq0
settle-returns-else-left-eq0 t c = λ rows s.
    let n = c.args.question.now.columns in
    let lists = lists_of c.args.question.now.targets.now in
    let marks = c.args.question.now.repeated.now in
    let l = c.if-left-eq0.false in
    let e : c.args.left - 1 + 1 ≡ c.args.left = less_and_more c.args.left l in
    let mid : Place = record { rows = c.next_step.new.rows; path = c.args.place.now.path } in
    MatchResult-weaker c.split.result (c.split.ensures rows (same_search n lists rows marks c.args.place.now mid c.in-Ok-Split.ensures.0 refl s))
    (λ found h. subst (λ k. IsFound n lists rows k c.args.place.now c.split.new.place found) e (same_found n lists rows (c.args.left - 1 + 1) c.args.place.now mid c.split.new.place found c.in-Ok-Split.ensures.0 refl h))
    (λ fault h. subst (λ k. IsCoverFault n lists rows c.args.question.now.pivots (length c.args.place.now.path.items + k) fault) e h)

pub settle_side-settle-requires : goal.settle_side-settle-requires
settle_side-settle-requires t c =
    let n = c.args.question.now.columns in
    let lists = lists_of c.args.question.now.targets.now in
    let marks = c.args.question.now.repeated.now in
    let s = c.requires.searches in (
      (let d = c.decreases in omega (arith, d)),
      (
        c.requires.bounded,
        (
          c.requires.count,
          (
            c.requires.same,
            (
              s.0,
              side_search n lists s.0 marks c.args.place.now c.args.branch _ _ s.1 s.2 (pushed c.args.place.now.rows.items c.push_item.new.items.items c.in_ok-copy.field-0 c.args.branch.row c.in_ok-push_item.ensures c.in_ok-copy.ensures) c.in_ok-push_item-2.ensures,
            ),
          ),
        ),
      ),
    )

pub settle_side-returns-in-Err : goal.settle_side-returns-in-Err
settle_side-returns-in-Err t c = λ rows s m.
    let n = c.args.question.now.columns in
    let lists = lists_of c.args.question.now.targets.now in
    let marks = c.args.question.now.repeated.now in
    let rows_is = pushed c.args.place.now.rows.items c.push_item.new.items.items c.in_ok-copy.field-0 c.args.branch.row c.in_ok-push_item.ensures c.in_ok-copy.ensures in
    let path_is = c.in_ok-push_item-2.ensures in
    let h = c.in-Err.ensures rows (side_search n lists rows marks c.args.place.now c.args.branch _ _ s m rows_is path_is) in
    subst (λ k. IsCoverFault n lists rows c.args.question.now.pivots k c.in-Err.fault) (one_branch c.args.place.now.path.items _ _ c.args.left path_is) h

pub settle_side-returns-in-Ok : goal.settle_side-returns-in-Ok
settle_side-returns-in-Ok t c = λ rows s m.
    let n = c.args.question.now.columns in
    let lists = lists_of c.args.question.now.targets.now in
    let marks = c.args.question.now.repeated.now in
    let rows_is = pushed c.args.place.now.rows.items c.push_item.new.items.items c.in_ok-copy.field-0 c.args.branch.row c.in_ok-push_item.ensures c.in_ok-copy.ensures in
    let path_is = c.in_ok-push_item-2.ensures in
    let h = c.in-Ok.ensures rows (side_search n lists rows marks c.args.place.now c.args.branch _ _ s m rows_is path_is) in
    side_found n lists rows c.args.left c.args.place.now _ c.settle.new.place _ c.args.branch c.in-Ok.found h rows_is path_is c.pop.ensures.rest c.pop-in-Ok.ensures.rest

pub split-returns-in-Err : goal.split-returns-in-Err
split-returns-in-Err t c = λ rows s.
    let n = c.args.question.now.columns in
    let lists = lists_of c.args.question.now.targets.now in
    let marks = c.args.question.now.repeated.now in
    c.in-Err.ensures rows s (first_side n lists rows marks c.args.place.now c.args.halves s c.requires.halves)

pub split-returns-in-Ok-Hole : goal.split-returns-in-Ok-Hole
split-returns-in-Ok-Hole t c = λ rows s.
    let n = c.args.question.now.columns in
    let lists = lists_of c.args.question.now.targets.now in
    let marks = c.args.question.now.repeated.now in
    subst (λ x. IsSideFound n lists rows c.args.left c.args.place.now c.settle_side.new.place c.args.halves.first.row x) c.in-Ok-Hole.field-0-is (c.in-Ok-Hole.ensures rows s (first_side n lists rows marks c.args.place.now c.args.halves s c.requires.halves))

pub split-settle_side-requires-2 : goal.split-settle_side-requires-2
split-settle_side-requires-2 t c =
    let n = c.args.question.now.columns in
    let lists = lists_of c.args.question.now.targets.now in
    let marks = c.args.question.now.repeated.now in
    let place = c.args.place.now in
    let halves = c.args.halves in
    let mid = c.settle_side.new.place in
    let rows = c.requires.searches.0 in
    let s = c.requires.searches.1 in
    let holds = subst (λ x. IsSideFound n lists rows c.args.left place mid halves.first.row x) c.in-Ok-Tree.field-0-is (c.in-Ok-Tree.ensures rows s (first_side n lists rows marks place halves s c.requires.halves)) in (
      (let d = c.decreases in omega (arith, d)),
      (
        c.requires.bounded,
        (
          c.requires.count,
          (
            c.requires.same,
            (rows, same_search n lists rows marks place mid holds.same_rows holds.same_path s, second_side n lists rows marks c.args.left place mid halves c.in-Ok-Tree.tree s c.requires.halves holds),
          ),
        ),
      ),
    )

pub split-returns-in-Err-settle_side : goal.split-returns-in-Err-settle_side
split-returns-in-Err-settle_side t c = λ rows s.
    let n = c.args.question.now.columns in
    let lists = lists_of c.args.question.now.targets.now in
    let marks = c.args.question.now.repeated.now in
    let place = c.args.place.now in
    let halves = c.args.halves in
    let mid = c.settle_side.new.place in
    let holds = subst (λ x. IsSideFound n lists rows c.args.left place mid halves.first.row x) c.in-Ok-Tree.field-0-is (c.in-Ok-Tree.ensures rows s (first_side n lists rows marks place halves s c.requires.halves)) in
    let h = c.in-Err-settle_side.ensures rows (same_search n lists rows marks place mid holds.same_rows holds.same_path s) (second_side n lists rows marks c.args.left place mid halves c.in-Ok-Tree.tree s c.requires.halves holds) in
    subst (λ p. IsCoverFault n lists rows c.args.question.now.pivots (length p + (c.args.left + 1)) c.in-Err-settle_side.fault) holds.same_path h

pub split-returns-in-Ok-Hole-settle_side : goal.split-returns-in-Ok-Hole-settle_side
split-returns-in-Ok-Hole-settle_side t c = λ rows s.
    let n = c.args.question.now.columns in
    let lists = lists_of c.args.question.now.targets.now in
    let marks = c.args.question.now.repeated.now in
    let place = c.args.place.now in
    let halves = c.args.halves in
    let mid = c.settle_side.new.place in
    let holds = subst (λ x. IsSideFound n lists rows c.args.left place mid halves.first.row x) c.in-Ok-Tree.field-0-is (c.in-Ok-Tree.ensures rows s (first_side n lists rows marks place halves s c.requires.halves)) in
    let h = c.in-Ok-Hole-settle_side.ensures rows (same_search n lists rows marks place mid holds.same_rows holds.same_path s) (second_side n lists rows marks c.args.left place mid halves c.in-Ok-Tree.tree s c.requires.halves holds) in
    subst (λ x. IsSideFound n lists rows c.args.left mid c.settle_side-2.new.place halves.second.row x) c.in-Ok-Hole-settle_side.field-0-is h

pub split-returns : goal.split-returns
split-returns t c = λ rows s.
    let n = c.args.question.now.columns in
    let lists = lists_of c.args.question.now.targets.now in
    let marks = c.args.question.now.repeated.now in
    let place = c.args.place.now in
    let halves = c.args.halves in
    let mid = c.settle_side.new.place in
    let holds = subst (λ x. IsSideFound n lists rows c.args.left place mid halves.first.row x) c.in-Ok-Tree.field-0-is (c.in-Ok-Tree.ensures rows s (first_side n lists rows marks place halves s c.requires.halves)) in
    let fails = subst (λ x. IsSideFound n lists rows c.args.left mid c.settle_side-2.new.place halves.second.row x) c.in-Ok-Tree-settle_side.field-0-is (c.in-Ok-Tree-settle_side.ensures rows (same_search n lists rows marks place mid holds.same_rows holds.same_path s) (second_side n lists rows marks c.args.left place mid halves c.in-Ok-Tree.tree s c.requires.halves holds)) in
    split_tree n lists rows c.args.left place mid c.settle_side-2.new.place halves.first.row halves.second.row c.in-Ok-Tree.tree c.in-Ok-Tree-settle_side.tree c.in_ok-split_of.field-0 (split_row n lists rows place halves.first (first_side n lists rows marks place halves s c.requires.halves)) c.requires.halves.opposite holds fails
    (subst (λ r. IsSplitOf r c.in-Ok-Tree.tree c.in-Ok-Tree-settle_side.tree c.in_ok-split_of.field-0) c.in_ok-row.ensures c.in_ok-split_of.ensures)
