use Rattle.std.proofs.Common.{rules, ◌≡◌, length, ap, sym, subst, arith}
use Rattle.tv_cases.specs.Systems.{cases_of}
use Rattle.tv_rank.specs.Sets.{PointsOf}
use Rattle.tv_lexrank.proofs.SortLemmas.{few_below}
use Rattle.tv_nested.proofs.PartedLemmas.{sorting_bare}
use Rattle.tv_nested.proofs.parted.part_of.Goals as goal

pub told-requires : goal.told-requires
told-requires c =
    let k = c.args.component.now in
    sorting_bare (cases_of k.about.now) k.known.now.pieces.items k.numbers.now k.number k.pivots c.in-Err.fault c.requires.bare c.in-Err.ensures.refusals

pub rounds_of-requires-clause-points : goal.rounds_of-requires-clause-points
rounds_of-requires-clause-points c =
    let e : c.in_ok-set.set.items ≡ c.in-Ok.sorted.set.items = search rules in
    subst (PointsOf (cases_of c.args.component.now.about.now) c.args.component.now.known.now.pieces.items) (sym e) c.in-Ok.ensures.sorted.points

pub rounds_of-requires-clause-bounded : goal.rounds_of-requires-clause-bounded
rounds_of-requires-clause-bounded c =
    let about = cases_of c.args.component.now.about.now in
    let e : c.in_ok-set.set.items ≡ c.in-Ok.sorted.set.items = search rules in
    let l = ap length e in
    let s = c.in-Ok.ensures.sorted in
    let bounded = few_below (length about.cases) c.in-Ok.sorted.set.items s.ascends s.numbered in
    let most = c.args.component.now.about.now.are_cases.few_cases in
    omega (arith, l, bounded, most)
