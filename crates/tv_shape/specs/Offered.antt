use Rattle.std.specs.Prelude.{List, [], ◌∷◌}
use Rattle.tv_cert.specs.declared.node.Proof.{Proof}
use Rattle.tv_cert.specs.Obligations.{Owed}
use Rattle.tv_cert.specs.Shapes.{ProofShape}

-- there is a proof at the front, which has the shape of what is owed
abbrev pub FirstShape : Owed → List Proof → Type 0
FirstShape owed [] = ⊥
FirstShape owed (p ∷ proofs) = ProofShape owed p
