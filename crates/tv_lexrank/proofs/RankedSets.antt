-- Where components are ranked without known rows, the cases have a lexicographic linear ranking over the rationals.
use Rattle.std.proofs.Common.{◌≡◌, ◌∙◌, inl, inr, ℕ, ◌+◌, ◌<◌, ◌≤◌, List, [], ◌++◌, length, get_or, All, arith, sym, ap, subst, ℤ, pos, ◌+ℤ◌, ◌≤ℤ◌}
use Rattle.std.proofs.lemmas.Bool.{cases_lt}
use Rattle.std.proofs.lemmas.List.Elements.{All-from_get_or}
use Rattle.tv_linear.specs.Linear.{Linear, linear, columns, IsScaledPoint}
use Rattle.tv_linear.specs.Refutation.{Refutes}
use Rattle.tv_linear.specs.declared.region.Piece.{Piece}
use Rattle.tv_linear.proofs.KnownLemmas.{as_given-append}
use Rattle.tv_linear.proofs.ListLaws.{get_or-table}
use Rattle.tv_linear.proofs.PlainLists.{length-table}
use Rattle.tv_cases.specs.LinearCases.{CaseSystem, AreCases}
use Rattle.tv_known.specs.Cycles.{Leads, here, along, AreTogether}
use Rattle.tv_known.specs.Ranking.{IsCasePoint, HasCasePoint, value_before, value_after, RanksCases, case_in, AreInside, HasLexicographicRanking}
use Rattle.tv_rank.specs.Given.{lists}
use Rattle.tv_rank.specs.Rankings.{IsWayPoint, Ranks, local_term, listed_terms}
use Rattle.tv_rank.specs.Ways.{case_at, way_of, way_at}
use Rattle.tv_rank.specs.declared.found.LocalTerm.{LocalTerm}
use Rattle.tv_rank.proofs.Rational.{refuted_way}
use Rattle.tv_lexrank.specs.declared.part.Part.{Part}
use Rattle.tv_lexrank.specs.declared.round.Round.{Round}
use Rattle.tv_lexrank.specs.Attempt.{AreBelow, NeverRises, PartsFrom}
use Rattle.tv_lexrank.specs.First.{AreComponents}
use Rattle.tv_lexrank.specs.Greedy.{without, IsRound}
use Rattle.tv_lexrank.specs.Known.{AreBare}
use Rattle.tv_lexrank.specs.Parts.{IsPart}
use Rattle.tv_lexrank.specs.Rounds.{place_in, Chain, end, next}
use Rattle.tv_lexrank.specs.Sorting.{LeadsInside, StandsIn, IsNeverTaken}
use Rattle.tv_lexrank.proofs.Chained.{still_there, found_at}
use Rattle.tv_lexrank.proofs.ShowLemmas.{rounds_chain, local_wide}
use Rattle.tv_lexrank.proofs.SortLemmas.{of_case}
use Rattle.tv_lexrank.proofs.StepLemmas.{stands_if}

-- what a lexicographic ranking gives for one set
abbrev IsRankedSet : CaseSystem → List ℕ → Type 0
IsRankedSet about set =
    (falling : ℕ) × (falling < length set) × (terms : List Linear) × All (λ t. columns t ≡ about.variables) terms × RanksCases about.variables (length set) (case_in about set) falling terms

-- each number of the first list stands in the second
abbrev AllStand : List ℕ → List ℕ → Type 0
AllStand set others = (k : ℕ) → k < length set → StandsIn others (get_or set k 0)

listed_wide : (v locations : ℕ) (ts : List LocalTerm) → All (λ t. columns t.row ≡ v) ts → All (λ t. columns t ≡ v) (listed_terms v locations ts)
listed_wide v locations ts h = All-from_get_or (λ t. columns t ≡ v) (listed_terms v locations ts) (linear [] (pos 0)) (λ l k.
    let l_in : l < locations = (let e = length-table locations (local_term v ts) in omega (arith, e, k)) in
    ap columns (get_or-table locations (local_term v ts) l (linear [] (pos 0)) l_in) ∙ local_wide v ts l h)

-- ---- the sets that rounds rank
module _ (about : CaseSystem) (known : List Piece) (bare : AreBare known) where
  -- a point of the guards is one of the rows that are met
  way_point : (n : ℕ) (xs : List ℤ) (z : ℤ) → IsCasePoint about.variables (case_at about.cases n) xs z → IsWayPoint about.variables (way_of about.cases known n) xs z
  way_point n xs z h = record {
    width = h.width;
    meets = subst (λ rows. IsScaledPoint (rows ++ (case_at about.cases n).guards) xs z) (sym (bare (case_at about.cases n).from)) h.meets;
  }

  by_round : (others set : List ℕ) (r : Round) → IsRound about known others r → AllStand set others → (j : ℕ) → j < length set → get_or set j 0 ≡ get_or others r.place 0 → IsRankedSet about set
  by_round others set r round stands j l e = (
    j,
    l,
    listed_terms about.variables about.locations r.terms.items,
    listed_wide about.variables about.locations r.terms.items round.family.wide,
    record {
      grows_nowhere = λ k k_in xs z p.
          let s = stands k k_in in
          subst (λ n. value_after about.variables terms (case_at about.cases n) xs z ≤ℤ value_before terms (case_at about.cases n) xs z) s.2 (ranks.grows_nowhere s.0 s.1 xs z (at (get_or set k 0) (get_or others s.0 0) xs z (sym s.2) p));
      bounded = λ xs z p.
          subst (λ n. pos 0 ≤ℤ value_before terms (case_at about.cases n) xs z) (sym e) (ranks.bounded xs z (at (get_or set j 0) (get_or others r.place 0) xs z e p));
      falls = λ xs z p.
          subst (λ n. (value_after about.variables terms (case_at about.cases n) xs z +ℤ z) ≤ℤ value_before terms (case_at about.cases n) xs z) (sym e) (ranks.falls xs z (at (get_or set j 0) (get_or others r.place 0) xs z e p));
    },
  )
    where
      terms : List Linear
      terms = listed_terms about.variables about.locations r.terms.items

      ranks : Ranks about.variables (length others) (way_at about.cases known others) r.place (listed_terms about.variables about.locations r.terms.items)
      ranks = round.family.ranks

      at : (n m : ℕ) (xs : List ℤ) (z : ℤ) → n ≡ m → IsCasePoint about.variables (case_at about.cases n) xs z → IsWayPoint about.variables (way_of about.cases known m) xs z
      at n m xs z e p = way_point m xs z (subst (λ i. IsCasePoint about.variables (case_at about.cases i) xs z) e p)

  -- the first round that takes out a case of the set ranks it
  by_chain : (others : List ℕ) (rounds : List Round) → Chain about known others rounds → (set : List ℕ) → 0 < length set → AllStand set others → IsRankedSet about set
  by_chain others rounds end set some stands = absurd (let s = stands 0 some in let l = s.1 in omega (arith, l))
  by_chain others rounds (next s r rs round chain) set some stands = elim (cases_lt (place_in set (get_or s r.place 0)) (length set)) [
    | inl l ↦ (let j = stands_if set (get_or s r.place 0) l in by_round s set r round stands j.0 j.1 j.2)
    | inr n ↦ by_chain (without s r.place) rs chain set some (λ k l.
        let t = stands k l in
        let still = still_there s r.place t.0 t.1 (λ e. let f = found_at set (get_or s r.place 0) k l (sym (e ∙ t.2)) in let b = f.0 in omega (arith, b, n)) in
        (still.0, still.1, still.2 ∙ t.2))
  ]

-- ---- the sets inside a component
falls_along : (about : CaseSystem) (numbers : List ℕ) → NeverRises about numbers → (s t : ℕ) → Leads about.cases s t → get_or numbers t 0 ≤ get_or numbers s 0
falls_along about numbers h s t (here u) = omega arith
falls_along about numbers h s t (along k u l r) =
    let a = h k l in
    let b = falls_along about numbers h (case_at about.cases k).to u r in
    omega (arith, a, b)

same_number : (about : CaseSystem) (numbers : List ℕ) → NeverRises about numbers → (s t : ℕ) → AreTogether about.cases s t → get_or numbers t 0 ≡ get_or numbers s 0
same_number about numbers h s t together =
    let a = falls_along about numbers h s t together.0 in
    let b = falls_along about numbers h t s together.1 in
    omega (arith, a, b)

module _ (about : CaseSystem) (known : List Piece) (numbers : List ℕ) (parts : List Part) (limits : AreCases about) (bare : AreBare known) (components : AreComponents about numbers) (below : AreBelow (length parts) numbers) (from : PartsFrom about known numbers 0 parts) where
  -- cases that have a point are taken out
  all_stand : (component : ℕ) (p : Part) (set : List ℕ) → IsPart about known numbers component p → AreInside about set → ((k : ℕ) → k < length set → HasCasePoint about.variables (case_in about set k)) → ((k : ℕ) → k < length set → LeadsInside numbers component (case_in about set k)) → AllStand set p.sorted.set.items
  all_stand component p set h inside points leads k l = elim (h.sorted.each (get_or set k 0) (inside.numbered k l) (leads k l)) [
    | inl s ↦ s
    | inr s ↦ absurd (never (get_or p.sorted.empty.items s.0 0) (get_or set k 0) (get_or (lists p.sorted.refutations.items) s.0 []) s.2 (h.sorted.refuted s.0 s.1) (points k l))
  ]
    where
      never : (m n : ℕ) (ms : List ℤ) → m ≡ n → IsNeverTaken about.variables (way_of about.cases known m) ms → HasCasePoint about.variables (case_at about.cases n) → ⊥
      never m n ms e r (xs, z, q) =
          let w = way_of about.cases known n in
          let s = subst (λ i. IsNeverTaken about.variables (way_of about.cases known i) ms) e r in
          refuted_way about.variables w ms (subst (λ ks. Refutes (about.variables + w.taken.draws) ks ms) (sym (as_given-append w.known w.taken.guards)) s) (xs, z, way_point about known bare n xs z q)

  ranked_inside : (set : List ℕ) → 0 < length set → AreInside about set → ((k : ℕ) → k < length set → HasCasePoint about.variables (case_in about set k)) → IsRankedSet about set
  ranked_inside set some inside points =
      let p = rounds_chain about known numbers 0 component parts from component_in in
      let part = subst (λ z. IsPart about known numbers z p.0) (let q : 0 + component ≡ component = omega arith in q) p.1 in
      by_chain about known bare p.0.sorted.set.items p.0.rounds.items part.chain set some (all_stand component p.0 set part inside points leads)
    where
      component : ℕ
      component = get_or numbers (case_in about set 0).from 0

      component_in : component < length parts
      component_in =
          let c = of_case about (get_or set 0 0) limits (inside.numbered 0 some) in
          below (case_in about set 0).from (subst (λ n. (case_in about set 0).from < n) (sym components.one_each) c.leaves)

      leads : (k : ℕ) → k < length set → LeadsInside numbers component (case_in about set k)
      leads k l =
          let a = same_number about numbers components.never_rises (case_in about set 0).from (case_in about set k).from (inside.together 0 k some l) in
          let b = same_number about numbers components.never_rises (case_in about set k).from (case_in about set k).to (inside.inside k l) in
          (a, b ∙ a)

  pub has_ranking : HasLexicographicRanking about
  has_ranking = λ set some inside points. ranked_inside set some inside points
