use Rattle.std.proofs.Common.{rules, ◌≡◌, length, ap, sym, subst, arith}
use Rattle.tv_rank.specs.Sets.{PointsOf}
use Rattle.tv_cases.specs.Systems.{cases_of}
use Rattle.tv_rank.specs.Given.{lists}
use Rattle.tv_lexrank.proofs.SortLemmas.{few_below}
use Rattle.tv_finitely.specs.Rounds.{AreRounds, AreEnough}
use Rattle.tv_finitely.proofs.PartLemmas.{stuck_left}
use Rattle.tv_finitely.proofs.RoundLemmas.{sorting_refused}
use Rattle.tv_finitely.proofs.part.part_of.Goals as goal

pub rounds_over-requires-clause-points : goal.rounds_over-requires-clause-points
rounds_over-requires-clause-points c =
    let e : c.in-Ok-from_slice.set.items ≡ c.in-Ok.sorted.set.items = search rules in
    subst (PointsOf (cases_of c.args.component.now.about.now) c.args.component.now.known.now.pieces.items) (sym e) c.in-Ok.ensures.sorted.points

pub rounds_over-requires-clause-bounded : goal.rounds_over-requires-clause-bounded
rounds_over-requires-clause-bounded c =
    let about = cases_of c.args.component.now.about.now in
    let e : c.in-Ok-from_slice.set.items ≡ c.in-Ok.sorted.set.items = search rules in
    let l = ap length e in
    let s = c.in-Ok.ensures.sorted in
    let bounded = few_below (length about.cases) c.in-Ok.sorted.set.items s.ascends s.numbered in
    let most = c.args.component.now.about.now.are_cases.few_cases in
    omega (arith, l, bounded, most)

pub returns-in-Ok-Enough-clause-parted : goal.returns-in-Ok-Enough-clause-parted
returns-in-Ok-Enough-clause-parted c =
    let about = cases_of c.args.component.now.about.now in
    let known = c.args.component.now.known.now.pieces.items in
    let marks = c.args.entering.now in
    let e : c.in-Ok-from_slice.set.items ≡ c.in-Ok.sorted.set.items = search rules in
    let g = subst (λ z. AreRounds about known marks c.in-Ok-from_slice.set.items z) c.in-Ok-Enough.field-0-is c.in-Ok-Enough.ensures.rounds in
    record {
      sorted = c.in-Ok.ensures.sorted;
      enough = subst (λ z. AreEnough about known marks z c.in-Ok-Enough.rounds.items) e g;
    }

pub returns-in-Ok-Stuck-clause-parted : goal.returns-in-Ok-Stuck-clause-parted
returns-in-Ok-Stuck-clause-parted c =
    let about = cases_of c.args.component.now.about.now in
    let known = c.args.component.now.known.now.pieces.items in
    let marks = c.args.entering.now in
    let e : c.in-Ok-from_slice.set.items ≡ c.in-Ok.sorted.set.items = search rules in
    let g = subst (λ z. AreRounds about known marks c.in-Ok.sorted.set.items z) c.in-Ok-Stuck.field-0-is (subst (λ z. AreRounds about known marks z c.in-Ok-Stuck.field-0) e c.in-Ok-Stuck.ensures.rounds) in
    stuck_left about marks known c.args.component.now.numbers.now c.args.component.now.number c.in-Ok.sorted.set.items c.in-Ok.sorted.empty.items (lists c.in-Ok.sorted.refutations.items) c.in-Ok-Stuck.left.items (lists c.in-Ok-Stuck.barriers.items)
    c.args.component.now.about.now.are_cases c.requires.grouped c.in-Ok.ensures.sorted g

pub returns-in-Err-clause-refusals : goal.returns-in-Err-clause-refusals
returns-in-Err-clause-refusals c =
    sorting_refused (cases_of c.args.component.now.about.now) c.args.component.now.known.now.pieces.items c.args.entering.now c.args.component.now.numbers.now c.args.component.now.number c.args.component.now.pivots c.in-Err.fault c.in-Err.ensures.refusals
