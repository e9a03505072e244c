use Rattle.std.proofs.Common.{◌∙◌, ◌++◌, ◌∷◌, [], ap}
use Rattle.tv_cases.specs.Systems.{cases_of}
use Rattle.tv_cases.specs.Views.{case_view}
use Rattle.tv_cert.specs.declared.node.Proof.TheVariants.{Chosen}
use Rattle.tv_recur.specs.Nodes.{on_piece}
use Rattle.tv_recur.proofs.KeepLemmas.{lone_goes}
use Rattle.tv_recur.proofs.staying.lone_node.Goals as goal

pub endless_node-requires-clause-goes_on : goal.endless_node-requires-clause-goes_on
endless_node-requires-clause-goes_on c =
    let about = cases_of c.args.about.now in
    let case = case_view c.args.case.now in
    let rows = c.args.rows.now in
    lone_goes about case rows c.args.choice c.push_item.new.items.items c.push_item-2.new.items.items
    (c.in_ok-push_item.ensures ∙ (λ i. c.new-pieces.ensures.items i ++ (c.in_ok-piece.ensures ∙ ap (λ n. on_piece n case.from rows) c.variables.ensures.same) i ∷ []))
    (c.in_ok-push_item-2.ensures ∙ ap (λ xs. xs ++ Chosen c.args.choice ∷ []) c.new-proofs.ensures.items)
    c.requires.back c.requires.leads
