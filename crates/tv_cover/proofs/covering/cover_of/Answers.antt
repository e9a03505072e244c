use Rattle.std.proofs.Common.{◌≤◌, arith, sym, subst}
use Rattle.tv_linear.specs.Known.{as_given}
use Rattle.tv_linear.specs.Covers.{IsMetCover}
use Rattle.tv_linear.specs.Depth.{splits}
use Rattle.tv_farkas.specs.Refuting.{AreShort}
use Rattle.tv_farkas.specs.Trees.{TreeRows, TreeNumbers}
use Rattle.tv_cover.specs.Targets.{lists_of, owed_lists}
use Rattle.tv_cover.specs.Covering.{IsSplitRow}
use Rattle.tv_cover.specs.Searching.{IsSearched}
use Rattle.tv_cover.proofs.covering.cover_of.Goals as goal

pub returns-in-Ok-Hole-clause-answers : goal.returns-in-Ok-Hole-clause-answers
returns-in-Ok-Hole-clause-answers c =
    let n = c.args.columns in
    let lists = lists_of c.args.targets.now in
    let h = subst (λ x. IsSearched n lists c.args.rows.now c.args.budget.now.splits x) c.in-Ok-Hole.field-0-is c.in-Ok-Hole.ensures in
    h.hole

pub returns-in-Ok-Hole-clause-point : goal.returns-in-Ok-Hole-clause-point
returns-in-Ok-Hole-clause-point c =
    let n = c.args.columns in
    let lists = lists_of c.args.targets.now in
    let h = subst (λ x. IsSearched n lists c.args.rows.now c.args.budget.now.splits x) c.in-Ok-Hole.field-0-is c.in-Ok-Hole.ensures in
    h.origin

pub returns-in-Ok-Hole-clause-short : goal.returns-in-Ok-Hole-clause-short
returns-in-Ok-Hole-clause-short c =
    let n = c.args.columns in
    let lists = lists_of c.args.targets.now in
    let h = subst (λ x. IsSearched n lists c.args.rows.now c.args.budget.now.splits x) c.in-Ok-Hole.field-0-is c.in-Ok-Hole.ensures in
    h.short

pub returns-in-Some-clause-answers : goal.returns-in-Some-clause-answers
returns-in-Some-clause-answers c =
    let n = c.args.columns in
    let lists = lists_of c.args.targets.now in
    let h = subst (λ x. IsSearched n lists c.args.rows.now c.args.budget.now.splits x) c.in-Ok-Tree.field-0-is c.in-Ok-Tree.ensures in
    subst (λ t. IsMetCover n (owed_lists lists) (as_given c.args.rows.now) t) (sym c.in-Some.ensures.1) h.met

pub returns-in-Some-clause-none : goal.returns-in-Some-clause-none
returns-in-Some-clause-none c =
    let n = c.args.columns in
    let lists = lists_of c.args.targets.now in
    let h = subst (λ x. IsSearched n lists c.args.rows.now c.args.budget.now.splits x) c.in-Ok-Tree.field-0-is c.in-Ok-Tree.ensures in
    h.none

pub returns-in-Some-clause-shallow : goal.returns-in-Some-clause-shallow
returns-in-Some-clause-shallow c =
    let n = c.args.columns in
    let lists = lists_of c.args.targets.now in
    let h = subst (λ x. IsSearched n lists c.args.rows.now c.args.budget.now.splits x) c.in-Ok-Tree.field-0-is c.in-Ok-Tree.ensures in
    subst (λ t. splits t ≤ c.args.budget.now.splits) (sym c.in-Some.ensures.1) h.shallow

pub returns-in-Some-clause-short : goal.returns-in-Some-clause-short
returns-in-Some-clause-short c =
    let n = c.args.columns in
    let lists = lists_of c.args.targets.now in
    let h = subst (λ x. IsSearched n lists c.args.rows.now c.args.budget.now.splits x) c.in-Ok-Tree.field-0-is c.in-Ok-Tree.ensures in
    subst (λ t. TreeNumbers AreShort t) (sym c.in-Some.ensures.1) h.short

pub returns-in-Some-clause-split_rows : goal.returns-in-Some-clause-split_rows
returns-in-Some-clause-split_rows c =
    let n = c.args.columns in
    let lists = lists_of c.args.targets.now in
    let h = subst (λ x. IsSearched n lists c.args.rows.now c.args.budget.now.splits x) c.in-Ok-Tree.field-0-is c.in-Ok-Tree.ensures in
    subst (λ t. TreeRows (IsSplitRow n lists) t) (sym c.in-Some.ensures.1) h.split_rows

pub unreachable-requires : goal.unreachable-requires
unreachable-requires c =
    let n = c.args.columns in
    let lists = lists_of c.args.targets.now in
    let h = subst (λ x. IsSearched n lists c.args.rows.now c.args.budget.now.splits x) c.in-Ok-Tree.field-0-is c.in-Ok-Tree.ensures in
    let b = c.requires.splits in
    let l = h.shallow in
    c.in-None.ensures (omega (arith, b, l))
