-- What a walk over the lines of nodes has done.
use Rattle.std.specs.Prelude.{◌≡◌, ℕ, ◌+◌, ◌≤◌, ◌^◌, Bool, true, false, List, [], ◌∷◌, ◌++◌, map, Some, Result, Ok, Err}
use Rattle.std.specs.Global.{Vec}
use Rattle.std.specs.List.{flat_map}
use Rattle.tv_grammar.specs.Langs.{each}
use Rattle.tv_cases.specs.LinearCases.{CaseSystem}
use Rattle.tv_cert.specs.declared.node.Node.{Node}
use Rattle.tv_cert.specs.declared.node.Proof.{Proof}
use Rattle.tv_cert.specs.NodeViews.{pieces_list}
use Rattle.tv_cert.specs.Nodes.{size, node_entries}
use Rattle.tv_cert.specs.Obligations.{Obligation, Entry, paired}
use Rattle.tv_cert.specs.Shapes.{ProofShape, NodeShape}
use Rattle.tv_cert.specs.Statements.{Statement}
use Rattle.tv_cert_reader.specs.CertificateLines.{proof_lines, node_lines}
use Rattle.tv_cert_reader.specs.Demands.{demand_of}
use Rattle.tv_cert_reader.specs.ChoiceGrammar.{demanded}
use Rattle.tv_cert_reader.specs.NodeGrammar.{node}
use Rattle.tv_cert_reader.specs.declared.failure.Failure.{Failure}
use Rattle.tv_cert_reader.specs.declared.walk.Walk.{Walk}
use Rattle.tv_cert_reader.specs.Reading.{Takes, FailsBy}
use Rattle.tv_cert_reader.specs.Proofs.{AreProofsOf}

-- what is kept of proofs
abbrev pub kept_proofs : Bool → List Proof → List Proof
kept_proofs true proofs = proofs
kept_proofs false proofs = []

-- from one state to another over these obligations with their proofs, one after another
pub data Through {T : Type 0} (takes : T → Entry → T → Type 0) : T → List Entry → T → Type 0 where
  at_end : {v : T} → Through takes v [] v
  further : {u v w : T} {e : Entry} {es : List Entry} → takes u e v → Through takes v es w → Through takes u (e ∷ es) w

-- Each node that was begun has a line of its own, and there is room for as many obligations as lines are left.
pub record HasRoom {T : Type 0} (room : T → ℕ) (w : Walk T) : Type 0 where
  pub nodes : w.nodes ≤ w.cursor.taken
  pub left : 2 ^ 64 ≤ room w.taker + w.cursor.taken + 1

-- the proof of an obligation is handed on
pub record IsPassed {T : Type 0} (takes : T → Entry → T → Type 0) (whole : Bool) (o : Obligation) (v w : Walk T) : Type 0 where
  pub proof : Proof
  pub is_proof : ProofShape o.owed proof
  pub took : Takes (proof_lines proof) v.cursor w.cursor
  pub taken : takes v.taker (record { obligation = o; proof = Some proof }) w.taker
  pub nodes : w.nodes ≡ v.nodes
  pub kept : w.proofs.items ≡ v.proofs.items ++ kept_proofs whole (proof ∷ [])

abbrev pub PassesProof : {T : Type 0} → (T → Entry → T → Type 0) → Bool → Obligation → Walk T → Walk T → Result (Unit {0}) Failure → Type 0
PassesProof takes whole o v w (Ok done) = IsPassed takes whole o v w
PassesProof takes whole o v w (Err f) = FailsBy (demanded false (demand_of o.owed)) v.cursor f

-- one for each obligation, in order; those that are kept stand after others
pub record AreTaken {T : Type 0} (takes : T → Entry → T → Type 0) (whole : Bool) (os : List Obligation) (old new : Walk T) (before after : List Proof) : Type 0 where
  pub proofs : List Proof
  pub are : AreProofsOf os proofs
  pub took : Takes (flat_map proof_lines proofs) old.cursor new.cursor
  pub taken : Through takes old.taker (paired os proofs) new.taker
  pub nodes : new.nodes ≡ old.nodes
  pub kept : after ≡ before ++ kept_proofs whole proofs

abbrev pub TakesOwn : {T : Type 0} → (T → Entry → T → Type 0) → Bool → List Obligation → Walk T → Walk T → Result (Vec Proof) Failure → Type 0
TakesOwn takes whole os old new (Ok kept) = AreTaken takes whole os old new [] kept.items
TakesOwn takes whole os old new (Err f) = FailsBy (each (demanded false) (map (λ o. demand_of o.owed) os)) old.cursor f

-- The lines of a node that is to show this are taken off, and the proofs that it and the nodes below it owe are handed on; `head` is what
-- is kept of the node.
pub record IsWalked {T : Type 0} (takes : T → Entry → T → Type 0) (room : T → ℕ) (whole : Bool) (system : CaseSystem) (s : Statement) (old new : Walk T) (head : Node) : Type 0 where
  pub node : Node
  pub is_node : NodeShape system s node
  pub took : Takes (node_lines s node) old.cursor new.cursor
  pub kept : whole ≡ true → head ≡ node
  pub pieces : pieces_list head ≡ pieces_list node
  pub nodes : new.nodes ≡ old.nodes + size node
  pub taken : Through takes old.taker (node_entries old.nodes system s node) new.taker
  pub counted : HasRoom room new

abbrev pub Walks : {T : Type 0} → (T → Entry → T → Type 0) → (T → ℕ) → Bool → CaseSystem → Statement → Walk T → Walk T → Result Node Failure → Type 0
Walks takes room whole system s old new (Ok head) = IsWalked takes room whole system s old new head
Walks takes room whole system s old new (Err f) = FailsBy (node false system s) old.cursor f
