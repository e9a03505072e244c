use Rattle.std.proofs.Common.{◌<◌, arith, ap, sym, subst, ◌∙◌}
use Rattle.std.specs.List.{slice_get}
use Rattle.std.proofs.lemmas.Int.{ints}
use Rattle.tv_cases.specs.Systems.{cases_of}
use Rattle.tv_propose.proofs.TableLemmas.{difference_groups, difference_places, difference_place, no_difference, no_more_differences, difference_there}
use Rattle.tv_propose.proofs.differences.DifferenceTableTable.row.Goals as goal
use Rattle.tv_propose.proofs.differences.DifferenceTableTable.row.Goals.{then-at-via-then-at, then-at-via-else-at+then-at-gt2}

pub returns-then-at-clause-is : goal.returns-then-at-clause-is
returns-then-at-clause-is c =
    let about = cases_of c.args.about.now in
    let w = c.args.at.now in
    let l : w.group < about.variables = subst (λ n. w.group < n) (difference_groups about) c.requires.group in
    let m : w.place < about.variables = subst (λ n. w.place < n) (difference_places about w.group l) c.requires.place in
    let there = ap (λ xs. slice_get xs w.row) (difference_place about w.group w.place l m) in
    elim c.then-at.branch [
      | then-at-via-then-at b ↦ sym (there ∙ no_difference about.variables w.group w.place w.row b.if-at.true)
      | then-at-via-else-at+then-at-gt2 b ↦ sym (there ∙ no_more_differences about.variables w.group w.place w.row b.if-at-gt2.true)
    ]

pub overflow_cast-at : goal.overflow_cast-at
overflow_cast-at c =
    let l = subst (λ n. c.args.at.now.group < n) (difference_groups (cases_of c.args.about.now)) c.requires.group in
    let bounded = c.variables-columns.ensures.limits.few_variables in
    omega (arith, l, bounded)

pub overflow_cast-at-2 : goal.overflow_cast-at-2
overflow_cast-at-2 c =
    let about = cases_of c.args.about.now in
    let w = c.args.at.now in
    let l : w.group < about.variables = subst (λ n. w.group < n) (difference_groups about) c.requires.group in
    let m : w.place < about.variables = subst (λ n. w.place < n) (difference_places about w.group l) c.requires.place in
    let bounded = c.variables-columns.ensures.limits.few_variables in
    omega (arith, m, bounded)

pub difference-requires-clause-x : goal.difference-requires-clause-x
difference-requires-clause-x c = subst (λ n. c.args.at.now.group < n) (difference_groups (cases_of c.args.about.now) ∙ sym c.variables-columns.ensures.same) c.requires.group

pub difference-requires-clause-y : goal.difference-requires-clause-y
difference-requires-clause-y c =
    let about = cases_of c.args.about.now in
    let w = c.args.at.now in
    let l : w.group < about.variables = subst (λ n. w.group < n) (difference_groups about) c.requires.group in
    subst (λ n. w.place < n) (difference_places about w.group l ∙ sym c.variables-columns.ensures.same) c.requires.place

pub returns-clause-is : goal.returns-clause-is
returns-clause-is c =
    let about = cases_of c.args.about.now in
    let w = c.args.at.now in
    let l : w.group < about.variables = subst (λ n. w.group < n) (difference_groups about) c.requires.group in
    let m : w.place < about.variables = subst (λ n. w.place < n) (difference_places about w.group l) c.requires.place in
    let bounded = c.if-at-gt2.false in
    let from = c.from-more.ensures in
    difference_there about w.group w.place w.row c.variables-columns.result c.in_ok-row.row _ c.in_ok-row.ensures (omega (arith, ints, from, bounded)) l m c.variables-columns.ensures.same c.if-at.false bounded
