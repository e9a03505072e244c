-- Certificates of what is proved, and that every run ends.
use Rattle.std.specs.Prelude.{◌≡◌, ℕ, ◌≤◌, List, [], length, All, ℤ}
use Rattle.tv_formula.specs.Properties.{Property, term}
use Rattle.tv_linear.specs.Linear.{Linear, columns, IsMet}
use Rattle.tv_linear.specs.Known.{given, as_given}
use Rattle.tv_linear.specs.Covers.{IsMetCover}
use Rattle.tv_linear.specs.Depth.{splits}
use Rattle.tv_linear.specs.declared.cover.CoverTree.{CoverTree}
use Rattle.tv_linear.specs.declared.region.Piece.{Piece}
use Rattle.tv_cases.specs.LinearCases.{CaseSystem}
use Rattle.tv_farkas.specs.Refuting.{AreShort}
use Rattle.tv_farkas.specs.Trees.{TreeRows, TreeNumbers}
use Rattle.tv_cert.specs.declared.node.Node.{Node}
use Rattle.tv_cert.specs.declared.node.Verdict.{Verdict}
use Rattle.tv_cert.specs.declared.node.Verdict.TheVariants.{Proved, Disproved}
use Rattle.tv_cert.specs.Claims.{about_with}
use Rattle.tv_cert.specs.Nodes.{pieces_of, entries, obligations}
use Rattle.tv_cert.specs.Obligations.{AllMet}
use Rattle.tv_cert.specs.Targets.{owed_into, no_fall}
use Rattle.tv_shape.specs.Certificates.{IsOf}
use Rattle.tv_shape.specs.Fitting.{NodesFit}
use Rattle.tv_shape.specs.Narrow.{CoverNarrow}
use Rattle.tv_shape.specs.declared.certificate.Certificate.{Certificate}
use Rattle.tv_rank.specs.Ways.{rows_at}
use Rattle.tv_lexrank.specs.Closing.{owed_plain}

-- all values at the start meet the rows that are known there
abbrev pub BeginsKnown : CaseSystem → List Piece → Type 0
BeginsKnown about known = (xs : List ℤ) → length xs ≡ about.variables → All (IsMet xs) (rows_at known about.start)

-- a cover of all values over v variables by these rows
pub record IsStartCover (v : ℕ) (rows : List Linear) (tree : CoverTree) : Type 0 where
  pub met : IsMetCover v (owed_plain (as_given rows)) [] tree
  pub shallow : splits tree ≤ 128
  pub short : TreeNumbers AreShort tree
  pub even : TreeRows (λ r. columns r ≡ v) tree

-- the node fits the formula and all its obligations are met, and the cover is one of the start by its pieces there
pub record IsRoot (about : CaseSystem) (f : Property) (node : Node) (tree : CoverTree) : Type 0 where
  pub fits : NodesFit (about_with about) f node
  pub nodes : AllMet (entries 0 (about_with about) f node)
  pub met : IsMetCover about.variables (owed_into (pieces_of node) about.start given no_fall) [] tree
  pub shallow : splits tree ≤ 128
  pub even : TreeRows (λ r. columns r ≡ about.variables) tree
  pub narrow : CoverNarrow tree

abbrev pub SaysProved : Verdict → Type 0
SaysProved (Proved tree) = Unit {0}
SaysProved (Disproved k values) = ⊥

-- the certificate is one of the formula, it says that this is proved, and all its obligations are met
pub record IsProofOf (about : CaseSystem) (f : Property) (c : Certificate) : Type 0 where
  pub of : IsOf (about_with about) f c
  pub proved : SaysProved c.verdict
  pub met : AllMet (obligations (about_with about) f c.root c.verdict)

-- the certificate is one that every run ends
abbrev pub IsProofOfEnd : CaseSystem → Certificate → Type 0
IsProofOfEnd about c = IsProofOf about term c
