use Rattle.std.proofs.Common.{◌≡◌, ◌∙◌, All, arith, ap, sym, subst}
use Rattle.tv_linear.specs.Linear.{columns}
use Rattle.tv_linear.specs.Known.{as_given}
use Rattle.tv_linear.specs.Covers.{no_target, IsMetCover}
use Rattle.tv_cases.specs.Systems.{cases_of}
use Rattle.tv_farkas.specs.Trees.{TreeRows}
use Rattle.tv_cover.specs.Emptying.{IsEmptied, IsShallow, HasEvenSplits}
use Rattle.tv_rank.specs.Ways.{rows_at}
use Rattle.tv_shape.specs.Narrow.{CoverNarrow}
use Rattle.tv_lexrank.proofs.MetLemmas.{over_at}
use Rattle.tv_settling.proofs.ShownLemmas.{empty_holds}
use Rattle.tv_settling.proofs.hold.empty_proof.Goals as goal

pub empty-requires-clause-even : goal.empty-requires-clause-even
empty-requires-clause-even c =
    let b = c.args.barrier.now in
    let v = (cases_of b.about.now).variables in
    let are = c.known_at-rows.ensures ∙ ap (λ z. rows_at z b.location) c.deref.ensures.value in
    subst (λ n. All (λ r. columns r ≡ n) c.known_at-rows.result.now) (sym c.variables.ensures.same)
    (subst (All (λ r. columns r ≡ v)) (sym are) (over_at v b.known.now.pieces.items b.location b.known_rows.over))

pub returns-in-Ok-Tree-clause-shows : goal.returns-in-Ok-Tree-clause-shows
returns-in-Ok-Tree-clause-shows c =
    let b = c.args.barrier.now in
    let v = (cases_of b.about.now).variables in
    let n = c.variables.result in
    let rows = c.known_at-rows.result.now in
    let tree = c.in-Ok-Tree.cover in
    let same = c.variables.ensures.same in
    let are = c.known_at-rows.ensures ∙ ap (λ z. rows_at z b.location) c.deref.ensures.value in
    let given = c.in-Ok-Tree.ensures in
    let is = c.in-Ok-Tree.field-0-is in
    let met : IsMetCover n no_target (as_given rows) tree = subst (IsEmptied n rows) is given.answers in
    let even : TreeRows (λ r. columns r ≡ n) tree = subst (HasEvenSplits n) is given.split_rows in
    let shallow = subst (IsShallow b.budget.now.splits) is given.shallow in
    let bounded = b.splits in
    empty_holds b tree
    (subst (λ rs. IsMetCover v no_target (as_given rs) tree) are (subst (λ m. IsMetCover m no_target (as_given rows) tree) same met))
    (omega (arith, shallow, bounded))
    (subst (λ m. TreeRows (λ r. columns r ≡ m) tree) same even)
    (subst CoverNarrow c.tree.ensures.same c.narrow_tree.ensures)
