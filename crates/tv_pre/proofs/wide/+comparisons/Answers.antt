use Rattle.std.proofs.Common.{◌+◌, take, ◌≡◌, ◌∷◌, [], ◌++◌, ◌∙◌, sym, ap, subst}
use Rattle.std.specs.Prelude.{IfOk}
use Rattle.tv_formula.specs.Properties.{Property, all_of, some_of, next, fix}
use Rattle.tv_formula.specs.Views.{property, properties, property_node}
use Rattle.tv_formula.specs.declared.tree.Tree.{Tree, Tree-F, fold-roll-Tree}
use Rattle.tv_formula.specs.declared.tree.Tree.TheVariants.{rolls-And, rolls-Or, rolls-Next, rolls-Fix}
use Rattle.tv_known.specs.Subformulas.{subformulas, all_subformulas}
use Rattle.tv_pre.specs.Wide.{AreTold}
use Rattle.tv_pre.proofs.WideLemmas.{itself_told, one_more_told, linear_later}
use Rattle.tv_pre.proofs.wide.+comparisons.Goals as goal

pub comparisons_of-returns-in_ok-comparisons_of_all-in-And : goal.comparisons_of-returns-in_ok-comparisons_of_all-in-And
comparisons_of-returns-in_ok-comparisons_of_all-in-And t c =
    let n = c.args.variables in
    let f = all_of (properties c.in-And.parts.items) in
    let e : property c.args.tree.now ≡ f =
    ap property c.in-And.is ∙ ap property (sym (rolls-And c.in-And.parts)) ∙ fold-roll-Tree Property property_node (Tree-F.And c.in-And.parts) in
    subst (λ xs. IfOk c.joined.result (AreTold n xs)) (sym (ap subformulas e))
    (c.joined.ensures n (f ∷ []) (all_subformulas (properties c.in-And.parts.items)) (itself_told n f tt)
    (subst (λ ts. AreTold n (all_subformulas (properties ts)) c.in_ok-comparisons_of_all-in-And.field-0) c.deref.ensures.value c.in_ok-comparisons_of_all-in-And.ensures))

pub comparisons_of-returns-in_ok-comparisons_of_all-in-Or : goal.comparisons_of-returns-in_ok-comparisons_of_all-in-Or
comparisons_of-returns-in_ok-comparisons_of_all-in-Or t c =
    let n = c.args.variables in
    let f = some_of (properties c.in-Or.parts.items) in
    let e : property c.args.tree.now ≡ f =
    ap property c.in-Or.is ∙ ap property (sym (rolls-Or c.in-Or.parts)) ∙ fold-roll-Tree Property property_node (Tree-F.Or c.in-Or.parts) in
    subst (λ xs. IfOk c.joined-in-Or.result (AreTold n xs)) (sym (ap subformulas e))
    (c.joined-in-Or.ensures n (f ∷ []) (all_subformulas (properties c.in-Or.parts.items)) (itself_told n f tt)
    (subst (λ ts. AreTold n (all_subformulas (properties ts)) c.in_ok-comparisons_of_all-in-Or.field-0) c.deref-in-Or.ensures.value c.in_ok-comparisons_of_all-in-Or.ensures))

pub comparisons_of-returns-in_ok-comparisons_of-in-Next : goal.comparisons_of-returns-in_ok-comparisons_of-in-Next
comparisons_of-returns-in_ok-comparisons_of-in-Next t c =
    let n = c.args.variables in
    let f = next c.in-Next.field-0 (property c.in-Next.inner.value) in
    let e : property c.args.tree.now ≡ f =
    ap property c.in-Next.is ∙ ap property (sym (rolls-Next c.in-Next.field-0 c.in-Next.inner)) ∙ fold-roll-Tree Property property_node (Tree-F.Next c.in-Next.field-0 c.in-Next.inner) in
    subst (λ xs. IfOk c.joined-in-Next.result (AreTold n xs)) (sym (ap subformulas e))
    (c.joined-in-Next.ensures n (f ∷ []) (subformulas (property c.in-Next.inner.value)) (itself_told n f tt)
    (subst (λ (z : Tree). AreTold n (subformulas (property z)) c.in_ok-comparisons_of-in-Next.field-0) c.deref-in-Next.ensures c.in_ok-comparisons_of-in-Next.ensures))

pub comparisons_of-returns-in_ok-joined-in-Fix : goal.comparisons_of-returns-in_ok-joined-in-Fix
comparisons_of-returns-in_ok-joined-in-Fix t c =
    let n = c.args.variables in
    let one = subformulas (property c.in-Fix.first.value) in
    let two = subformulas (property c.in-Fix.second.value) in
    let f = fix c.in-Fix.field-0 c.in-Fix.field-1 (property c.in-Fix.first.value) (property c.in-Fix.second.value) in
    let e : property c.args.tree.now ≡ f =
    ap property c.in-Fix.is ∙ ap property (sym (rolls-Fix c.in-Fix.field-0 c.in-Fix.field-1 c.in-Fix.first c.in-Fix.second)) ∙ fold-roll-Tree Property property_node (Tree-F.Fix c.in-Fix.field-0 c.in-Fix.field-1 c.in-Fix.first c.in-Fix.second) in
    subst (λ xs. IfOk c.joined-in-Fix-2.result (AreTold n xs)) (sym (ap subformulas e))
    (c.joined-in-Fix-2.ensures n (f ∷ []) (one ++ two) (itself_told n f tt)
    (subst (λ r. IfOk r (AreTold n (one ++ two))) c.in_ok-joined-in-Fix.was
    (c.joined-in-Fix.ensures n one two (subst (λ (z : Tree). AreTold n (subformulas (property z)) c.in_ok-first-in-Fix.first) c.deref-in-Fix.ensures c.in_ok-first-in-Fix.ensures)
    (subst (λ (z : Tree). AreTold n (subformulas (property z)) c.in_ok-second-in-Fix.second) c.deref-in-Fix-2.ensures c.in_ok-second-in-Fix.ensures))))

pub comparisons_of_all-trees-preserved : goal.comparisons_of_all-trees-preserved
comparisons_of_all-trees-preserved t c =
    let n = c.args.variables in
    let trees = c.args.trees.now in
    let i = c.trees.tree-index in
    let tree = c.tree-item.result in
    let front = all_subformulas (properties (take i trees)) in
    let back = subformulas (property tree) in
    let both = c.joined.ensures n front back c.trees.invariant.0 c.in_ok-more.ensures in
    (subst (λ xs. AreTold n xs c.in_ok-told.told) (sym (one_more_told trees i tree c.trees-test.true c.tree-item.is)) (subst (λ r. IfOk r (AreTold n (front ++ back))) c.in_ok-told.was both), linear_later trees (i + 1) c.requires.linear)
