-- The last obligation of a certificate.
use Rattle.std.specs.Prelude.{◌≡◌, ℕ, ◌+◌, List, length, Result, MatchResult}
use Rattle.tv_cases.specs.LinearCases.{CaseSystem}
use Rattle.tv_cert.specs.declared.node.Kind.TheVariants as kind
use Rattle.tv_cert.specs.declared.node.Marked.{Marked}
use Rattle.tv_cert.specs.declared.node.Node.{Node}
use Rattle.tv_cert.specs.declared.node.Verdict.{Verdict}
use Rattle.tv_cert.specs.declared.node.Verdict.TheVariants.{Proved, Disproved}
use Rattle.tv_cert.specs.Pieces.{AreOver}
use Rattle.tv_cert.specs.Obligations.{IsMetEntry}
use Rattle.tv_cert.specs.Nodes.{pieces_of, root_entry}
use Rattle.tv_cert.specs.AboutSystem.{about_of}
use Rattle.tv_cert.specs.declared.failing.Failing.{Failing}

-- the rows of the root's pieces are over as many variables as there are values
abbrev pub ValuesFit : Verdict → List Marked → Type 0
ValuesFit (Proved start) ps = Unit {0}
ValuesFit (Disproved piece values) ps = AreOver (length values.items) ps

-- the root's obligation is met, or it fails after `seen` others
abbrev pub SettlesRoot : CaseSystem → Node → Verdict → ℕ → Result (Unit {0}) Failing → Type 0
SettlesRoot system root verdict seen result =
    MatchResult result (λ done. IsMetEntry (root_entry (about_of system) (pieces_of root) verdict))
    (λ f. (¬ (IsMetEntry (root_entry (about_of system) (pieces_of root) verdict))) × (f ≡ record { number = seen + 1; node = 0; kind = kind.Root }))
