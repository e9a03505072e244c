-- The pieces of visits by the rounds of all components, and what is owed of the steps.
use Rattle.std.specs.Prelude.{◌≡◌, ℕ, zero, suc, ◌+◌, ◌≤◌, List, [], ◌∷◌, ◌++◌, get_or, Option, Some, Bool}
use Rattle.tv_linear.specs.Linear.{Linear, columns}
use Rattle.tv_linear.specs.Known.{Known}
use Rattle.tv_linear.specs.Covers.{ShownAt, IsMetCover}
use Rattle.tv_linear.specs.Depth.{splits}
use Rattle.tv_linear.specs.declared.cover.CoverTree.{CoverTree}
use Rattle.tv_farkas.specs.Trees.{TreeRows}
use Rattle.tv_cases.specs.LinearCases.{LinearCase, CaseSystem}
use Rattle.tv_cert.specs.MarkedRows.{marked}
use Rattle.tv_cert.specs.declared.node.Mark.TheVariants.{Go}
use Rattle.tv_cert.specs.declared.node.Marked.{Marked}
use Rattle.tv_cert.specs.declared.node.Proof.{Proof}
use Rattle.tv_cert.specs.Obligations.{Obligation, OwedMet, case_change}
use Rattle.tv_cert.specs.Shapes.{ProofShape}
use Rattle.tv_cert.specs.Targets.{owed_into}
use Rattle.tv_rank.specs.Given.{lists}
use Rattle.tv_rank.specs.Ways.{Way, way_of, rows_at}
use Rattle.tv_lexrank.specs.declared.fault.RankFault.{RankFault}
use Rattle.tv_lexrank.specs.declared.falling.Fall.{Fall}
use Rattle.tv_lexrank.specs.declared.shown.CaseShown.{CaseShown}
use Rattle.tv_lexrank.specs.declared.shown.CaseShown.TheVariants.{Untaken, Falls}
use Rattle.tv_lexrank.specs.Closing.{RefusesClosed}
use Rattle.tv_lexrank.specs.Falling.{AreNarrowLines}
use Rattle.tv_lexrank.specs.Known.{way_rows}
use Rattle.tv_lexrank.specs.Pieces.{padded_ranks}
use Rattle.tv_lexrank.specs.Sorting.{IsNeverTaken}
use Rattle.tv_finitely.specs.declared.ranking.Ranking.{Ranking}
use Rattle.tv_finitely.specs.Kept.{visit_fall}
use Rattle.tv_finitely.specs.Obligations.{step_owed}
use Rattle.tv_finitely.specs.Parts.{PartsFrom, rounds_in}
use Rattle.tv_finitely.specs.Splits.{SplitSystem, split_of}
use Rattle.tv_finitely.specs.Walks.{marked_at}

abbrev pub split_in : Ranking → SplitSystem
split_in r = split_of r.about.now

abbrev pub system_of : Ranking → CaseSystem
system_of r = (split_in r).system

-- each component has its rounds
abbrev pub AreRanked : Ranking → Type 0
AreRanked r = PartsFrom (split_in r) r.known.now.pieces.items r.numbers.now 0 r.parts.now

-- the way of a case
abbrev pub way_in : Ranking → ℕ → Way
way_in r k = way_of (system_of r).cases r.known.now.pieces.items k

-- ---- pieces
-- the ranks of a location, with terms that are 0 after them
abbrev pub all_ranks : Ranking → ℕ → List Linear
all_ranks r l =
    let component = get_or r.numbers.now l 0 in
    padded_ranks (system_of r).variables component (rounds_in r.parts.now component) l r.count

-- the piece of the rows that are known at a location, with its ranks
abbrev pub ranked_piece : Ranking → ℕ → Marked
ranked_piece r l = marked l (system_of r).variables Go (rows_at r.known.now.pieces.items l) (all_ranks r l)

-- the pieces at the first locations
abbrev pub ranked_pieces : Ranking → ℕ → List Marked
ranked_pieces r zero = []
ranked_pieces r (suc l) = ranked_pieces r l ++ ranked_piece r l ∷ []

abbrev pub all_pieces : Ranking → List Marked
all_pieces r = ranked_pieces r (system_of r).locations

-- ---- steps
-- what is owed of the ranks over a case, by the fall
abbrev pub fall_owed : Ranking → ℕ → ℕ → Option (List Known)
fall_owed r k j =
    let m = marked_at (split_in r) k in
    visit_fall m.1 (case_change (system_of r).variables m.0) (all_ranks r m.0.from) (ranked_piece r m.0.to) j

-- under the rows that are met where the case is taken, the lines show what is owed of the ranks
pub record FallsOver (r : Ranking) (k : ℕ) (fall : Fall) : Type 0 where
  pub shown : ShownAt ((system_of r).variables + (way_in r k).taken.draws) (way_rows (way_in r k)) (fall_owed r k fall.number) (lists fall.lines.items)
  pub narrow : AreNarrowLines (lists fall.lines.items)

-- what shows a case: it is never taken, or what is owed of the ranks
abbrev pub ShowsCase : Ranking → ℕ → CaseShown → Type 0
ShowsCase r k (Untaken ms) = IsNeverTaken (system_of r).variables (way_in r k) ms.items
ShowsCase r k (Falls fall) = FallsOver r k fall

-- what is owed on entering the pieces over a case
abbrev pub owed_over : Ranking → ℕ → ℕ → ℕ → Option (List Known)
owed_over r k =
    let m = marked_at (split_in r) k in
    owed_into (all_pieces r) m.0.to (case_change (system_of r).variables m.0) (visit_fall m.1 (case_change (system_of r).variables m.0) (all_ranks r m.0.from))

-- the cover of a step over the case is met
pub record ShowsStep (r : Ranking) (k : ℕ) (tree : CoverTree) : Type 0 where
  pub met : IsMetCover ((system_of r).variables + (way_in r k).taken.draws) (owed_over r k) (way_rows (way_in r k)) tree
  pub shallow : splits tree ≤ 128
  pub even : TreeRows (λ q. columns q ≡ (system_of r).variables + (way_in r k).taken.draws) tree

-- the proof has the shape of what is owed, and meets it
pub record IsProvedBy (o : Obligation) (p : Proof) : Type 0 where
  pub shape : ProofShape o.owed p
  pub met : OwedMet o.owed (Some p)

-- what the piece of a location owes over a case
abbrev pub owed_at : Ranking → ℕ → LinearCase × Bool → Obligation
owed_at r l m = step_owed (system_of r) (all_pieces r) (ranked_piece r l) m

abbrev pub IsStepProof : Ranking → ℕ → Proof → Type 0
IsStepProof r k p = let m = marked_at (split_in r) k in IsProvedBy (owed_at r m.0.from m) p

-- a refusal of such a cover: the case leads out of the known rows, or it is not settled whether it does
abbrev pub RefusesStep : Ranking → RankFault → Type 0
RefusesStep r e = RefusesClosed (system_of r) r.known.now.pieces.items r.budget.now e
