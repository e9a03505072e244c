-- Proofs that are gone over one after another.
use Rattle.std.specs.Prelude.{◌≡◌, ◌↔◌, ℕ, ◌+◌, ◌≤◌, List, ◌++◌, length, drop, get_or, Bool, false, Option, None, Some, Result, MatchResult}
use Rattle.std.specs.List.{AllZip}
use Rattle.tv_linear.specs.declared.cover.CoverTree.{CoverTree}
use Rattle.tv_cases.specs.LinearCases.{LinearCase, CaseSystem}
use Rattle.tv_cert.specs.declared.failing.Failing.{Failing}
use Rattle.tv_cert.specs.declared.node.Kind.TheVariants as kind
use Rattle.tv_cert.specs.declared.node.Marked.{Marked}
use Rattle.tv_cert.specs.declared.node.Proof.{Proof}
use Rattle.tv_cert.specs.declared.node.Verdict.TheVariants.{Proved}
use Rattle.tv_cert.specs.AboutSystem.{about_of}
use Rattle.tv_cert.specs.FirstFailing.{IsFirstFailing}
use Rattle.tv_cert.specs.Nodes.{root_entry}
use Rattle.tv_cert.specs.Obligations.{Obligation, IsMetEntry, AllMet, paired}
use Rattle.tv_cert.specs.Shapes.{ProofShape}
use Rattle.tv_rank.specs.Ways.{case_at}
use Rattle.tv_finitely.specs.Splits.{SplitSystem}

-- the case with a number, and whether it enters
abbrev pub marked_at : SplitSystem → ℕ → LinearCase × Bool
marked_at s k = (case_at s.system.cases k, get_or s.enters k false)

-- one proof of the shape of each obligation, in order
abbrev pub Offered : List Obligation → List Proof → Type 0
Offered os proofs = AllZip (λ o p. ProofShape o.owed p) os proofs

-- the proofs from one on have the shapes of the obligations and go on with the proof that is told; or they do not begin so
abbrev pub IsShaped : List Obligation → List Proof → ℕ → Option ℕ → Type 0
IsShaped os proofs from None = (more : List Obligation) → Offered (os ++ more) (drop from proofs) → ⊥
IsShaped os proofs from (Some next) =
    (next ≡ from + length os) × (next ≤ length proofs)
    × ((more : List Obligation) → Offered more (drop next proofs) ↔ Offered (os ++ more) (drop from proofs))

-- the proofs from one on meet the obligations, and the next proof is told, or the first obligation that is not met
abbrev pub IsSettledFrom : List Obligation → List Proof → ℕ → Result ℕ Failing → Type 0
IsSettledFrom os proofs from result =
    MatchResult result (λ next. AllMet (paired os (drop from proofs)) × (next ≡ from + length os) × (next ≤ length proofs))
    (λ f. IsFirstFailing (paired os (drop from proofs)) from f)

-- the last obligation is met, or it fails after `met` others
abbrev pub SettlesRoot : CaseSystem → List Marked → CoverTree → ℕ → Result (Unit {0}) Failing → Type 0
SettlesRoot system pieces root met result =
    MatchResult result (λ done. IsMetEntry (root_entry (about_of system) pieces (Proved root)))
    (λ f. (¬ (IsMetEntry (root_entry (about_of system) pieces (Proved root)))) × (f ≡ record { number = met + 1; node = 0; kind = kind.Root }))
