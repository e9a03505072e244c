-- A program without a cycle has a lexicographic ranking, and no system is asked for one.
use Rattle.std.proofs.Common.{ℕ, ◌<◌, List, length, get_or, arith, sym, ap, ◌∙◌}
use Rattle.std.specs.Prelude.{All}
use Rattle.std.proofs.lemmas.List.Elements.{All-get_or}
use Rattle.tv_linear.specs.declared.region.Piece.{Piece}
use Rattle.tv_simplex.specs.declared.fault.SolveFault.{SolveFault}
use Rattle.tv_cases.specs.LinearCases.{CaseSystem, IsCase}
use Rattle.tv_known.specs.Cycles.{HasCycle, case_at, no_case}
use Rattle.tv_known.specs.Ranking.{AreInside, HasLexicographicRanking}
use Rattle.tv_rank.specs.declared.name.Name.{Name}
use Rattle.tv_rank.specs.declared.name.Name.TheVariants as name
use Rattle.tv_lexrank.specs.declared.fault.RankFault.TheVariants as fault
use Rattle.tv_lexrank.specs.First.{AreComponents, RefusesFirst}
use Rattle.tv_lexrank.specs.Known.{HaveRows, AreBare}
use Rattle.tv_lexrank.specs.Parts.{AreTakenOut}
use Rattle.tv_lexrank.specs.Sorting.{LeadsInside}
use Rattle.tv_lexrank.proofs.NotStuck.{inside_left}

-- rows are known nowhere, so not somewhere
bare_has_none : (known : List Piece) → AreBare known → HaveRows known → ⊥
bare_has_none known bare (l, some) = (let e = ap length (bare l) in omega (arith, some, e))

module _ (about : CaseSystem) (acyclic : HasCycle about → ⊥) where
  none_inside : (set : List ℕ) → AreInside about set → (j : ℕ) → j < length set → ⊥
  none_inside set h j within = acyclic (get_or set j 0, h.numbered j within, (h.inside j within).1)

  pub acyclic_ranked : HasLexicographicRanking about
  acyclic_ranked set many inside points = absurd (none_inside set inside 0 many)

  module _ (cases : All (IsCase about.variables about.locations) about.cases) (numbers : List ℕ) (h : AreComponents about numbers) where
    -- no case leads inside a component
    none_leads : (component k : ℕ) → k < length about.cases → LeadsInside numbers component (case_at about.cases k) → ⊥
    none_leads component k within inside =
        let c = case_at about.cases k in
        let proper = All-get_or (IsCase about.variables about.locations) about.cases k no_case within cases in
        acyclic (k, within, (h.grouped c.from c.to proper.leaves proper.enters (inside.0 ∙ sym inside.1)).1)

    -- so that none is sorted into one
    none_taken : (known : List Piece) (component : ℕ) (set : List ℕ) → AreTakenOut about known numbers component set → (j : ℕ) → j < length set → ⊥
    none_taken known component set taken j within =
        let sorted = taken.2 in
        none_leads component (get_or set j 0) (sorted.numbered j within) (sorted.inside j within)

    none_set : (known : List Piece) (component : ℕ) (set : List ℕ) → AreTakenOut about known numbers component set → AreInside about set
    none_set known component set taken = record {
      numbered = λ j within. absurd (none_taken known component set taken j within);
      inside = λ j within. absurd (none_taken known component set taken j within);
      together = λ j i within other. absurd (none_taken known component set taken j within);
    }

  pub never_refused : All (IsCase about.variables about.locations) about.cases → (pivots : ℕ) (system : Name) (e : SolveFault) → RefusesFirst about pivots (fault.Solve system e) → ⊥
  never_refused cases pivots (name.Empty k) e (numbers, known, h, bare, attempt) =
      let refused = attempt.1 in
      none_leads cases numbers h attempt.0 k refused.1 refused.2
  never_refused cases pivots (name.Rank c round falling) e (numbers, known, h, bare, attempt) =
      let refused = attempt.1 in
      let named = refused.2 in
      let r = named.2 in
      let falls = r.falls in
      none_inside r.left (inside_left about known refused.0 r.rounds r.left r.lead (none_set cases numbers h known attempt.0 refused.0 refused.1)) falls.place falls.within
  never_refused cases pivots (name.Rows rows) e (numbers, known, h, bare, attempt) = (let refused = attempt.1 in bare_has_none known bare refused.0)
  never_refused cases pivots (name.Later s falling) e (numbers, known, h, bare, attempt) =
      let refused = attempt.1 in
      let named = refused.2 in
      bare_has_none known bare named.0
