-- What is read of the proofs of a node.
use Rattle.std.specs.Prelude.{List, false, Result}
use Rattle.std.specs.List.{AllZip}
use Rattle.tv_cert.specs.declared.node.Proof.{Proof}
use Rattle.tv_cert.specs.Obligations.{Obligation, Owed}
use Rattle.tv_cert.specs.Shapes.{ProofShape}
use Rattle.tv_cert_reader.specs.CertificateLines.{proof_lines}
use Rattle.tv_cert_reader.specs.Demands.{demand_of}
use Rattle.tv_cert_reader.specs.ChoiceGrammar.{demanded}
use Rattle.tv_cert_reader.specs.declared.cursor.Cursor.{Cursor}
use Rattle.tv_cert_reader.specs.declared.failure.Failure.{Failure}
use Rattle.tv_cert_reader.specs.Reading.{Reads}

-- a proof of the shape that is owed is read
abbrev pub ReadsProof : Owed → Cursor → Cursor → Result Proof Failure → Type 0
ReadsProof o old new result = Reads (λ p. p) (ProofShape o) proof_lines (demanded false (demand_of o)) old new result

-- one for each obligation, in order
abbrev pub AreProofsOf : List Obligation → List Proof → Type 0
AreProofsOf os proofs = AllZip (λ o p. ProofShape o.owed p) os proofs
