-- What is done with an obligation whose proof stands next.
use Rattle.std.specs.Prelude.{◌≡◌, Bool, true, false, Option, None, Some, Result, Ok, Err}
use Rattle.tv_cert.specs.declared.node.Proof.{Proof}
use Rattle.tv_cert.specs.Obligations.{Obligation, Entry}
use Rattle.tv_cert.specs.Shapes.{ProofShape}
use Rattle.tv_cert_reader.specs.CertificateLines.{proof_lines}
use Rattle.tv_cert_reader.specs.Demands.{demand_of}
use Rattle.tv_cert_reader.specs.ChoiceGrammar.{demanded}
use Rattle.tv_cert_reader.specs.declared.cursor.Cursor.{Cursor}
use Rattle.tv_cert_reader.specs.declared.failure.Failure.{Failure}
use Rattle.tv_cert_reader.specs.Reading.{Takes, FailsBy}

-- what is kept of a proof
abbrev pub kept_proof : Bool → Proof → Option Proof
kept_proof true proof = Some proof
kept_proof false proof = None

-- a proof of what is owed is read, and handed on from one state to another
pub record IsTaken {T : Type 0} (takes : T → Entry → T → Type 0) (whole : Bool) (o : Obligation) (v w : T) (old new : Cursor) (kept : Option Proof) : Type 0 where
  pub proof : Proof
  pub is_proof : ProofShape o.owed proof
  pub took : Takes (proof_lines proof) old new
  pub taken : takes v (record { obligation = o; proof = Some proof }) w
  pub kept_is : kept ≡ kept_proof whole proof

abbrev pub TakesProof : {T : Type 0} → (T → Entry → T → Type 0) → Bool → Obligation → T → T → Cursor → Cursor → Result (Option Proof) Failure → Type 0
TakesProof takes whole o v w old new (Ok kept) = IsTaken takes whole o v w old new kept
TakesProof takes whole o v w old new (Err f) = FailsBy (demanded false (demand_of o.owed)) old f

-- none is: this is why
pub record IsStopped (o : Obligation) (old : Cursor) (told : Option Failure) : Type 0 where
  pub failure : Failure
  pub is_told : told ≡ Some failure
  pub fails : FailsBy (demanded false (demand_of o.owed)) old failure
