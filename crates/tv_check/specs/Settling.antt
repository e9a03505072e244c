use Rattle.std.specs.Prelude.{List, [], ◌∷◌, Option, None, Some}
use Rattle.tv_cert.specs.declared.node.Proof.{Proof}

-- the proof at the front
abbrev pub first_proof : List Proof → Option Proof
first_proof [] = None
first_proof (p ∷ proofs) = Some p
