-- The endless run that the choices of a certificate lead along, where they are those of a node which shows that some run is endless.
use Rattle.std.specs.Prelude.{◌≡◌, ℕ, zero, suc, List, [], ◌∷◌, ◌++◌, map, ℤ, pos, slice_get, Option, None, Some, ◌==◌, if◌then◌else◌, All, length, Vec}
use Rattle.std.specs.Global.{Global}
use Rattle.std.specs.List.{filter}
use Rattle.std.specs.Int.RustNames.{int_le}
use Rattle.tv_linear.specs.declared.choice.ChoiceTree.{ChoiceTree, Split', Empty, NoStep, Take}
use Rattle.tv_linear.specs.Linear.{Linear, value, IsMet}
use Rattle.tv_linear.specs.Known.{term_value}
use Rattle.tv_linear.specs.Terms.{terms_after}
use Rattle.tv_program.specs.Steps.{State, Steps}
use Rattle.tv_program.specs.Systems.{System}
use Rattle.tv_program.specs.Runs.{IsRun, follow}
use Rattle.tv_cases.specs.LinearCases.{LinearCase, CaseSystem}
use Rattle.tv_cert.specs.declared.node.Marked.{Marked}
use Rattle.tv_cert.specs.declared.node.Node.{Node, Node'}
use Rattle.tv_cert.specs.declared.node.Proof.{Proof}
use Rattle.tv_cert.specs.declared.node.Proof.TheVariants.{Covered, Chosen}
use Rattle.tv_cert.specs.declared.node.Verdict.{Verdict}
use Rattle.tv_cert.specs.declared.node.Verdict.TheVariants.{Proved, Disproved}
use Rattle.tv_cert.specs.Pieces.{place_of}

-- a state in a piece, at which this choice is offered
pub record Spot : Type 0 where
  pub piece : Marked
  pub proof : Proof
  pub state : State

-- the pieces of a node that owes one proof a piece, each with its proof
abbrev pub offered : List Marked → List Proof → List (Marked × Proof)
offered [] proofs = []
offered (p ∷ ps) [] = []
offered (p ∷ ps) (q ∷ proofs) = (p, q) ∷ offered ps proofs

abbrev pub all_offered : Node → List (Marked × Proof)
all_offered (Node' ps m shape kids proofs) = offered ps proofs.items

-- those at a location, in order
abbrev pub offered_at : List (Marked × Proof) → ℕ → List (Marked × Proof)
offered_at all l = filter (λ o. place_of o.0 == l) all

-- where the truth of its split rows leads in a choice
abbrev pub chosen_at : List ℤ → ChoiceTree → ChoiceTree
chosen_at xs (Split' r p a q b) = (if int_le (value r xs) (pos 0) then chosen_at xs a else chosen_at xs b)
chosen_at xs (Empty ms) = Empty ms
chosen_at xs (NoStep covers) = NoStep covers
chosen_at xs (Take k target j draws lists) = Take k target j draws lists

-- the state after a case over n variables, whose draws have the values of these terms
abbrev pub after_case : ℕ → LinearCase → List Linear → State → State
after_case n c draws s = record { location = c.to; values = map (term_value (s.values ++ map (λ d. value d s.values) draws)) (terms_after n c.updates) }

-- the state in a piece that is entered
abbrev pub entering : Option (Marked × Proof) → State → Spot → Spot
entering None t here = here
entering (Some o) t here = record { piece = o.0; proof = o.1; state = t }

-- after a case that is taken into a target
abbrev pub taking : CaseSystem → List (Marked × Proof) → Option LinearCase → ℕ → List Linear → Spot → Spot
taking system all None target draws here = here
taking system all (Some c) target draws here = entering (slice_get (offered_at all c.to) target) (after_case system.variables c draws here.state) here

-- after what a choice ends in
abbrev pub going : CaseSystem → List (Marked × Proof) → ChoiceTree → Spot → Spot
going system all (Split' r p a q b) here = here
going system all (Empty ms) here = here
going system all (NoStep covers) here = here
going system all (Take k target j draws lists) here = taking system all (slice_get system.cases k) target draws.items here

abbrev pub going_by : CaseSystem → List (Marked × Proof) → Proof → Spot → Spot
going_by system all (Covered tree) here = here
going_by system all (Chosen tree) here = going system all (chosen_at here.state.values tree) here

-- The rule that is followed: down the choice by the truth of its split rows, over the case that it takes, with the values of its
-- terms for the draws, into its target.
abbrev pub onward : CaseSystem → List (Marked × Proof) → Spot → Spot
onward system all here = going_by system all here.proof here

-- What is taken at a spot: where its choice leads, a case that is from its location, with as many draws as there are terms and all guards
-- met at their values, and what is offered where the case enters.
pub record TakesAt (system : CaseSystem) (all : List (Marked × Proof)) (here : Spot) : Type 0 where
  pub tree : ChoiceTree
  pub chosen : here.proof ≡ Chosen tree
  pub number : ℕ
  pub target : ℕ
  pub fall : ℕ
  pub draws : Vec Linear Global
  pub lists : Vec (Vec ℤ Global) Global
  pub ends : chosen_at here.state.values tree ≡ Take number target fall draws lists
  pub taken : LinearCase
  pub is : slice_get system.cases number ≡ Some taken
  pub from : taken.from ≡ here.state.location
  pub many : length draws.items ≡ taken.draws
  pub wide : length here.state.values ≡ system.variables
  pub guards : All (IsMet (here.state.values ++ map (λ d. value d here.state.values) draws.items)) taken.guards
  pub entered : Marked × Proof
  pub offers : slice_get (offered_at all taken.to) target ≡ Some entered

-- the states after the first, for n turns of a rule
abbrev pub followed : (Spot → Spot) → Spot → ℕ → List State
followed rule here zero = []
followed rule here (suc n) = followed rule here n ++ (follow rule here (suc n)).state ∷ []

-- From the values, in the piece of the root that is named, the rule leads along a run of any number of steps, each the front of the
-- next.
pub record Follows (p : System) (system : CaseSystem) (root : Node) (k : ℕ) (values : List ℤ) : Type 0 where
  pub first : Spot
  pub piece : slice_get (offered_at (all_offered root) system.start) k ≡ Some (first.piece, first.proof)
  pub begins : first.state ≡ record { location = p.start; values = values }
  pub runs : (n : ℕ) → IsRun (Steps p) first.state (followed (onward system (all_offered root)) first n)

-- what a certificate that says disproved leads along
abbrev pub FollowsFrom : System → CaseSystem → Node → Verdict → Type 0
FollowsFrom p system root (Proved start) = Unit {0}
FollowsFrom p system root (Disproved k values) = Follows p system root k values.items
