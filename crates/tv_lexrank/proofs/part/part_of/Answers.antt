use Rattle.std.proofs.Common.{rules, ◌≡◌, length, ap, sym, subst, arith}
use Rattle.tv_rank.specs.Sets.{PointsOf}
use Rattle.tv_cases.specs.Systems.{cases_of}
use Rattle.tv_rank.specs.Given.{lists}
use Rattle.tv_lexrank.specs.Greedy.{IsGreedy}
use Rattle.tv_lexrank.specs.Rounds.{Chain}
use Rattle.tv_lexrank.proofs.Chained.{emptied_chain}
use Rattle.tv_lexrank.proofs.NotStuck.{stuck_unranked}
use Rattle.tv_lexrank.proofs.SortLemmas.{few_below}
use Rattle.tv_lexrank.proofs.PartLemmas.{are_inside, stuck_left}
use Rattle.tv_lexrank.proofs.part.part_of.Goals as goal

pub rounds_of-requires-clause-points : goal.rounds_of-requires-clause-points
rounds_of-requires-clause-points c =
    let e : c.in-Ok-from_slice.set.items ≡ c.in-Ok.sorted.set.items = search rules in
    subst (PointsOf (cases_of c.args.component.now.about.now) c.args.component.now.known.now.pieces.items) (sym e) c.in-Ok.ensures.sorted.points

pub rounds_of-requires-clause-bounded : goal.rounds_of-requires-clause-bounded
rounds_of-requires-clause-bounded c =
    let about = cases_of c.args.component.now.about.now in
    let e : c.in-Ok-from_slice.set.items ≡ c.in-Ok.sorted.set.items = search rules in
    let l = ap length e in
    let s = c.in-Ok.ensures.sorted in
    let bounded = few_below (length about.cases) c.in-Ok.sorted.set.items s.ascends s.numbered in
    let most = c.args.component.now.about.now.are_cases.few_cases in
    omega (arith, l, bounded, most)

pub returns-in-Ok-Emptied-clause-parted : goal.returns-in-Ok-Emptied-clause-parted
returns-in-Ok-Emptied-clause-parted c =
    let about = cases_of c.args.component.now.about.now in
    let known = c.args.component.now.known.now.pieces.items in
    let e : c.in-Ok-from_slice.set.items ≡ c.in-Ok.sorted.set.items = search rules in
    let g = subst (λ z. IsGreedy about known c.in-Ok-from_slice.set.items z) c.in-Ok-Emptied.field-0-is c.in-Ok-Emptied.ensures.greedy in
    record {
      sorted = c.in-Ok.ensures.sorted;
      chain = rw (← e) (emptied_chain about known c.in-Ok-from_slice.set.items c.in-Ok-Emptied.rounds.items g);
    }

pub returns-in-Ok-Left-clause-never_stuck : goal.returns-in-Ok-Left-clause-never_stuck
returns-in-Ok-Left-clause-never_stuck c =
    let about = cases_of c.args.component.now.about.now in
    let known = c.args.component.now.known.now.pieces.items in
    let e : c.in-Ok-from_slice.set.items ≡ c.in-Ok.sorted.set.items = search rules in
    let g = subst (λ z. IsGreedy about known c.in-Ok.sorted.set.items z) c.in-Ok-Left.field-0-is (subst (λ z. IsGreedy about known z c.in-Ok-Left.field-0) e c.in-Ok-Left.ensures.greedy) in
    stuck_unranked about known c.in-Ok-Left.left.items (lists c.in-Ok-Left.barriers.items)
    (stuck_left about known c.in-Ok.sorted.set.items c.in-Ok-Left._rounds c.in-Ok-Left.left c.in-Ok-Left.barriers c.in-Ok.ensures.sorted.ascends
    (are_inside about known c.args.component.now.numbers.now c.args.component.now.number c.in-Ok.sorted.set.items c.in-Ok.sorted.empty.items (lists c.in-Ok.sorted.refutations.items) c.args.component.now.about.now.are_cases c.requires.grouped c.in-Ok.ensures.sorted) g)

pub returns-in-Ok-Left-clause-parted : goal.returns-in-Ok-Left-clause-parted
returns-in-Ok-Left-clause-parted c =
    let about = cases_of c.args.component.now.about.now in
    let known = c.args.component.now.known.now.pieces.items in
    let e : c.in-Ok-from_slice.set.items ≡ c.in-Ok.sorted.set.items = search rules in
    let g = subst (λ z. IsGreedy about known c.in-Ok.sorted.set.items z) c.in-Ok-Left.field-0-is (subst (λ z. IsGreedy about known z c.in-Ok-Left.field-0) e c.in-Ok-Left.ensures.greedy) in
    stuck_left about known c.in-Ok.sorted.set.items c.in-Ok-Left._rounds c.in-Ok-Left.left c.in-Ok-Left.barriers c.in-Ok.ensures.sorted.ascends
    (are_inside about known c.args.component.now.numbers.now c.args.component.now.number c.in-Ok.sorted.set.items c.in-Ok.sorted.empty.items (lists c.in-Ok.sorted.refutations.items) c.args.component.now.about.now.are_cases c.requires.grouped c.in-Ok.ensures.sorted) g
