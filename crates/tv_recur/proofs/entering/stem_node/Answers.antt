use Rattle.std.proofs.Common.{◌≡◌, ◌∙◌, ◌++◌, ◌∷◌, [], ap}
use Rattle.tv_cases.specs.Systems.{cases_of}
use Rattle.tv_cases.specs.Views.{case_view}
use Rattle.tv_cert.specs.declared.node.Proof.TheVariants.{Chosen}
use Rattle.tv_recur.specs.Nodes.{on_piece}
use Rattle.tv_recur.proofs.KeepLemmas.{stem_shape, stem_goes}
use Rattle.tv_recur.proofs.ReadLemmas.{undrawn_wide}
use Rattle.tv_recur.proofs.entering.stem_node.Goals as goal
use Rattle.tv_cases.proofs.LeavingLemmas.{case_of_system}

pub endless_node-requires-clause-shape : goal.endless_node-requires-clause-shape
endless_node-requires-clause-shape c =
    let about = cases_of c.args.about.now in
    let kept = case_view c.args.kept.now in
    let good = case_of_system about kept c.args.about.now.are_cases c.requires.among in
    let pieces : c.push_item-2.new.items.items ≡ on_piece about.variables kept.from kept.guards ∷ on_piece about.variables about.start c.args.stem.rows.now ∷ [] =
    c.in_ok-push_item-2.ensures
    ∙ (λ i. (c.in_ok-push_item.ensures ∙ (λ j. c.new-pieces.ensures.items j ++ (c.in_ok-guards.ensures ∙ (λ k. on_piece (c.variables.ensures.same k) kept.from (c.deref.ensures.value k))) j ∷ [])) i
    ++ (c.in_ok-first.ensures ∙ (λ k. on_piece (c.variables-2.ensures.same k) (c.start.ensures.same k) c.args.stem.rows.now)) i ∷ []) in
    stem_shape about kept c.args.choice c.args.stem c.push_item-2.new.items.items c.requires.kept c.requires.stem pieces good.leaves c.args.about.now.are_cases.starts (undrawn_wide about.variables kept c.requires.kept.no_draws good.guards)

pub endless_node-requires-clause-goes_on : goal.endless_node-requires-clause-goes_on
endless_node-requires-clause-goes_on c =
    let about = cases_of c.args.about.now in
    let kept = case_view c.args.kept.now in
    let pieces : c.push_item-2.new.items.items ≡ on_piece about.variables kept.from kept.guards ∷ on_piece about.variables about.start c.args.stem.rows.now ∷ [] =
    c.in_ok-push_item-2.ensures
    ∙ (λ i. (c.in_ok-push_item.ensures ∙ (λ j. c.new-pieces.ensures.items j ++ (c.in_ok-guards.ensures ∙ (λ k. on_piece (c.variables.ensures.same k) kept.from (c.deref.ensures.value k))) j ∷ [])) i
    ++ (c.in_ok-first.ensures ∙ (λ k. on_piece (c.variables-2.ensures.same k) (c.start.ensures.same k) c.args.stem.rows.now)) i ∷ []) in
    let proofs : c.push_item-4.new.items.items ≡ Chosen c.args.choice ∷ Chosen c.args.stem.choice ∷ [] =
    c.in_ok-push_item-4.ensures ∙ ap (λ xs. xs ++ Chosen c.args.stem.choice ∷ []) (c.in_ok-push_item-3.ensures ∙ ap (λ xs. xs ++ Chosen c.args.choice ∷ []) c.new-proofs.ensures.items) in
    stem_goes about kept c.args.choice c.args.stem c.push_item-2.new.items.items c.requires.kept c.requires.stem pieces c.push_item-4.new.items.items proofs
