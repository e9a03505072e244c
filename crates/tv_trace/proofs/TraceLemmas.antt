-- The run that a certificate leads along, by its root.
use Rattle.std.proofs.Common.{◌≡◌, ℕ, ◌∙◌, List, Result, Ok, Vec, ℤ, length, refl, sym, subst}
use Rattle.std.specs.Global.{Global}
use Rattle.tv_program.specs.Systems.{System, IsLimited}
use Rattle.tv_cases.specs.Answers.{IsOfProgram, HaveSameSteps}
use Rattle.tv_cases.specs.LinearCases.{CaseSystem}
use Rattle.tv_cases.specs.ProgramCases.{linear_cases}
use Rattle.tv_cases.proofs.CaseLimits.{plain-edges}
use Rattle.tv_cases.proofs.SameSteps.{same-steps}
use Rattle.tv_cert.specs.declared.claim.Claim.{Claim}
use Rattle.tv_cert.specs.declared.node.Marked.{Marked}
use Rattle.tv_cert.specs.declared.node.Node.{Node, Node', out-Node}
use Rattle.tv_cert.specs.declared.node.Proof.{Proof}
use Rattle.tv_cert.specs.declared.node.Verdict.TheVariants.{Disproved}
use Rattle.tv_cert.specs.NodeViews.{pieces_list}
use Rattle.tv_shape.specs.Certificates.{IsSettling}
use Rattle.tv_shape.specs.declared.certificate.Certificate.{Certificate}
use Rattle.tv_sound.specs.Following.{offered, all_offered, onward}
use Rattle.tv_sound.proofs.ClaimLemmas.{takes_along}
use Rattle.tv_sound.proofs.Following.{TakesAlong}
use Rattle.tv_trace.specs.declared.shown.Shown.{Shown}
use Rattle.tv_trace.specs.declared.shown.TraceFault.{TraceFault}
use Rattle.tv_trace.specs.Steps.{FollowsAt}
use Rattle.tv_trace.specs.Tracing.{ClaimsEnd, TracesFrom, AreRun, Traces, shown_states}
use Rattle.tv_trace.proofs.RunLemmas.{shown_run}

offered_is : (root : Node) → offered (pieces_list root) (out-Node root).proofs.items ≡ all_offered root
unfolding out-Node denote.Hole.Carrier.out
offered_is (Node' ps m shape kids proofs) = refl

-- what is offered at the root, as it was read
pub root_offers : (root : Node) (pieces : List Marked) (proofs : List Proof) → pieces ≡ pieces_list root → proofs ≡ (out-Node root).proofs.items → offered pieces proofs ≡ all_offered root
root_offers root pieces proofs e f = (λ i. offered (e i) (f i)) ∙ offered_is root

module _ (p : System) (system : CaseSystem) (limited : IsLimited p) (of_program : IsOfProgram p system) (cases : linear_cases p ≡ Ok system.cases) (claim : Claim) (c : Certificate) (settles : IsSettling system claim c) (ends : ClaimsEnd claim) (k : ℕ) (values : Vec ℤ Global) (says : c.verdict ≡ Disproved k values) where
  steps : HaveSameSteps p system
  steps = same-steps p system cases (plain-edges (length p.variables) (length p.locations) p.start p.edges limited)

  along : TakesAlong p system c.root k values.items
  along = takes_along p system of_program steps claim c settles.of settles.met k values says ends.property ends.claimed ends.ends

  abbrev follows : FollowsAt p system (all_offered c.root) k values.items
  follows = record { first = along.follows.first; piece = along.follows.piece; begins = along.follows.begins; takes = along.takes }

  module _ (pieces : List Marked) (proofs : List Proof) (xs : List ℤ) (same : offered pieces proofs ≡ all_offered c.root) (read : xs ≡ values.items) where
    pub follows_at : FollowsAt p system (offered pieces proofs) k xs
    follows_at = subst (λ os. FollowsAt p system os k xs) (sym same) (subst (FollowsAt p system (all_offered c.root) k) (sym read) follows)

    module _ (count : ℕ) (result : Result (Vec Shown Global) TraceFault) (shows : (f : FollowsAt p system (offered pieces proofs) k xs) → Traces p (onward system (offered pieces proofs)) f.first count result) where
      traces : Traces p (onward system (all_offered c.root)) along.follows.first count result
      traces =
          subst (λ ys. (f : FollowsAt p system (all_offered c.root) k ys) → Traces p (onward system (all_offered c.root)) f.first count result) read
          (subst (λ os. (f : FollowsAt p system os k xs) → Traces p (onward system os) f.first count result) same shows)
          follows

      pub traced : TracesFrom p system c.root c.verdict count result
      traced = subst (λ v. TracesFrom p system c.root v count result) (sym says) (record { follows = along.follows; traces = traces })

      pub is_run : AreRun p (shown_states result)
      is_run = shown_run p (onward system (all_offered c.root)) along.follows.first along.follows.runs count result traces
