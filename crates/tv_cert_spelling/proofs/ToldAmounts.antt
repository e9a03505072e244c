-- The values of nodes tell how many obligations a certificate has.
use Rattle.std.proofs.Common.{◌≡◌, ℕ, ◌+◌, length, refl, sym, ap, ◌∙◌}
use Rattle.std.proofs.lemmas.List.{length-map}
use Rattle.tv_formula.specs.Properties.{Property}
use Rattle.tv_cert.specs.declared.node.Node.{Node, Node', Row_of-Node, end_of-Node, more_of-Node}
use Rattle.tv_cert.specs.declared.node.Verdict.{Verdict}
use Rattle.tv_cert.specs.Nodes.{obligations}
use Rattle.tv_cert.specs.Obligations.{About}
use Rattle.tv_cert.specs.Shapes.{HasShape}
use Rattle.tv_shape.specs.Amounts.{proofs_below, kid_proofs}
use Rattle.tv_shape.proofs.AmountLemmas.{obligations_counted}
use Rattle.tv_cert_spelling.specs.NodeValues.{proof_value, NodeValue, node, NodeValues, none, more, node_value, child_values}

abbrev mutual
  -- the proofs of a node and of those below it
  value_proofs : NodeValue → ℕ
  value_proofs (node ps m kids proofs) = kid_value_proofs kids + length proofs

  kid_value_proofs : NodeValues → ℕ
  kid_value_proofs none = 0
  kid_value_proofs (more v vs) = value_proofs v + kid_value_proofs vs

mutual
  proofs_valued : (n : Node) → proofs_below n ≡ value_proofs (node_value n)
  proofs_valued (Node' ps m shape kids proofs) = λ i. kid_proofs_valued kids i + sym (length-map proofs.items proof_value) i

  kid_proofs_valued : {k : _} (kids : Row_of-Node k) → kid_proofs kids ≡ kid_value_proofs (child_values kids)
  kid_proofs_valued end_of-Node = refl
  kid_proofs_valued (more_of-Node a kids) = λ i. proofs_valued a i + kid_proofs_valued kids i

pub same_obligations : (about : About) (f : Property) (a b : Node) (v w : Verdict) → HasShape about f a → HasShape about f b → node_value a ≡ node_value b → length (obligations about f a v) ≡ length (obligations about f b w)
same_obligations about f a b v w h g same =
    obligations_counted about f a v h
    ∙ ap (λ n. n + 1) (proofs_valued a ∙ ap value_proofs same ∙ sym (proofs_valued b))
    ∙ sym (obligations_counted about f b w g)
