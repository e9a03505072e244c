-- What a search for the regions of a formula goes by.
use Rattle.std.specs.Prelude.{ℕ, ◌≤◌, ◌↔◌, [], IsTrue, IfSome}
use Rattle.tv_cases.specs.LinearCases.{CaseSystem}
use Rattle.tv_cases.specs.Systems.{cases_of}
use Rattle.tv_known.specs.Cycles.{IsLastRound}
use Rattle.tv_known.specs.Ranking.{HasLexicographicRanking}
use Rattle.tv_region.specs.Differences.{AreOfDifferences}
use Rattle.tv_region.specs.StepRegions.{HasNoDraws}
use Rattle.tv_lexrank.specs.Nodes.{IsRankedBy}
use Rattle.tv_pre.specs.declared.ranking.Ranking.{Ranking}
use Rattle.tv_pre.specs.declared.ranking.Ranks.{Ranks}
use Rattle.tv_pre.specs.declared.ranking.Ranks.TheVariants.{Known, Lacking, Refused}
use Rattle.tv_pre.specs.declared.search.Search.{Search}
use Rattle.tv_pre.specs.Unserved.{IsUnranked, IsRankingRefused}

abbrev pub system_of : Search → CaseSystem
system_of search = cases_of search.setting.now.about.now

-- the node ranks all states of the program, and each case is shown; the cases have a lexicographic ranking
pub record IsRanking (about : CaseSystem) (ranking : Ranking) : Type 0 where
  pub ranked : IsRankedBy about [] ranking.node ranking.shown.items
  pub lexicographic : HasLexicographicRanking about

-- what is known of the ranks of the cases, where the search for them goes on for `pivots` pivots
abbrev pub AreRanks : CaseSystem → ℕ → Ranks → Type 0
AreRanks about pivots (Known ranking) = IsRanking about ranking
AreRanks about pivots Lacking = IsUnranked about
AreRanks about pivots (Refused system fault) = IsRankingRefused about pivots system fault

-- the search has the last round, and says of the cases what is so
pub record IsSearch (search : Search) : Type 0 where
  pub splits : search.setting.now.budget.now.splits ≤ 128
  pub last : IsLastRound (system_of search) 8 search.last
  pub plain : IsTrue search.plain ↔ HasNoDraws (system_of search)
  pub differences : IsTrue search.differences ↔ AreOfDifferences (system_of search)
  pub ranks : IfSome search.ranks.now (AreRanks (system_of search) search.setting.now.budget.now.pivots)
