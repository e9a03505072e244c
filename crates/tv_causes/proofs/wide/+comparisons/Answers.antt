use Rattle.std.proofs.Common.{◌≡◌, ◌+◌, ◌∙◌, ◌++◌, sym, ap, subst, take, drop, suc}
use Rattle.std.specs.Prelude.{None}
use Rattle.tv_formula.specs.Properties.{Property, fix}
use Rattle.tv_formula.specs.Views.{property, properties, property_node}
use Rattle.tv_formula.specs.declared.tree.Tree.{Tree, Tree-F, fold-roll-Tree}
use Rattle.tv_formula.specs.declared.tree.Tree.TheVariants.{rolls-Fix}
use Rattle.tv_known.specs.Subformulas.{subformulas, all_subformulas}
use Rattle.tv_causes.specs.Walks.{TellsBoth}
use Rattle.tv_causes.proofs.WalkLemmas.{first_list, later_wide, second_list, one_more, in_the_middle, linear_later, fix_wide, fix_told}
use Rattle.tv_causes.proofs.WideLemmas.{on_ok}
use Rattle.tv_causes.proofs.wide.+comparisons.Goals as goal

pub wide_in-returns-in-Some : goal.wide_in-returns-in-Some
wide_in-returns-in-Some t c =
    let n = c.args.variables in
    let first = property c.deref-in-Fix.result.now in
    let e : property c.args.tree.now ≡ fix c.in-Fix.field-0 c.in-Fix.field-1 (property c.in-Fix.first.value) (property c.in-Fix.second.value) =
    ap property c.in-Fix.is ∙ ap property (sym (rolls-Fix c.in-Fix.field-0 c.in-Fix.field-1 c.in-Fix.first c.in-Fix.second))
    ∙ fold-roll-Tree Property property_node (Tree-F.Fix c.in-Fix.field-0 c.in-Fix.field-1 c.in-Fix.first c.in-Fix.second) in
    fix_wide n (property c.args.tree.now) first (property c.in-Fix.second.value) c.in-Fix.field-0 c.in-Fix.field-1 c.in-Some.column
    (e ∙ ap (λ (z : Tree). fix c.in-Fix.field-0 c.in-Fix.field-1 (property z) (property c.in-Fix.second.value)) (sym c.deref-in-Fix.ensures))
    (subst (TellsBoth n (subformulas first)) c.in-Some.is c.in_ok-column-in-Fix.ensures)

pub wide_in-returns-in-None : goal.wide_in-returns-in-None
wide_in-returns-in-None t c =
    let n = c.args.variables in
    let first = property c.deref-in-Fix.result.now in
    let second = property c.deref-in-None.result.now in
    let e : property c.args.tree.now ≡ fix c.in-Fix.field-0 c.in-Fix.field-1 (property c.in-Fix.first.value) (property c.in-Fix.second.value) =
    ap property c.in-Fix.is ∙ ap property (sym (rolls-Fix c.in-Fix.field-0 c.in-Fix.field-1 c.in-Fix.first c.in-Fix.second))
    ∙ fold-roll-Tree Property property_node (Tree-F.Fix c.in-Fix.field-0 c.in-Fix.field-1 c.in-Fix.first c.in-Fix.second) in
    let same = e ∙ ap (λ (z : Tree). fix c.in-Fix.field-0 c.in-Fix.field-1 (property z) (property c.in-Fix.second.value)) (sym c.deref-in-Fix.ensures)
    ∙ ap (λ (z : Tree). fix c.in-Fix.field-0 c.in-Fix.field-1 first (property z)) (sym c.deref-in-None.ensures) in
    on_ok (TellsBoth n (subformulas second)) (TellsBoth n (subformulas (property c.args.tree.now)))
    (λ found k. fix_told n (property c.args.tree.now) first second c.in-Fix.field-0 c.in-Fix.field-1 found same
    (subst (TellsBoth n (subformulas first)) c.in-None.is c.in_ok-column-in-Fix.ensures) k) c.wide_in-in-None.result c.wide_in-in-None.ensures

pub wide_in_all-returns-in-Some : goal.wide_in_all-returns-in-Some
wide_in_all-returns-in-Some t c =
    let n = c.args.variables in
    let trees = c.args.trees.now in
    let i = c.trees.tree-index in
    let tree = c.tree-item.result in
    let front = all_subformulas (properties (take i trees)) in
    let middle = subformulas (property tree) in
    let back = all_subformulas (properties (drop (suc i) trees)) in
    let here = first_list n middle back c.in-Some.column (subst (TellsBoth n middle) c.in-Some.is c.in_ok-column.ensures) in
    rw (in_the_middle trees i tree c.trees-test.true c.tree-item.is) (later_wide n front (middle ++ back) c.in-Some.column c.trees.invariant.0 here)

pub wide_in_all-trees-preserved : goal.wide_in_all-trees-preserved
wide_in_all-trees-preserved t c =
    let n = c.args.variables in
    let trees = c.args.trees.now in
    let i = c.trees.tree-index in
    let tree = c.tree-item.result in
    let front = all_subformulas (properties (take i trees)) in
    let here = subst (TellsBoth n (subformulas (property tree))) c.in-None.is c.in_ok-column.ensures in
    let both = second_list n front (subformulas (property tree)) None c.trees.invariant.0 here in
    (subst (λ fs. TellsBoth n fs None) (sym (one_more trees i tree c.trees-test.true c.tree-item.is)) both, linear_later trees (i + 1) c.requires.linear)
