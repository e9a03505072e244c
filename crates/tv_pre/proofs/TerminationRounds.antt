-- The rounds of termination and of its negation.
use Rattle.std.proofs.Common.{◌≡◌, inl, inr, ℕ, suc, ◌+◌, ◌≤◌, List, [], ◌∷◌, ◌++◌, length, refl, sym, ◌∙◌, subst, arith, true, false}
use Rattle.std.specs.Prelude.{All}
use Rattle.std.proofs.Math.Nat.{le-max_left, le-max_right, le_refl}
use Rattle.tv_formula.specs.declared.tree.Path.{Path}
use Rattle.tv_formula.specs.declared.tree.Path.TheVariants.{Every, Any}
use Rattle.tv_formula.specs.Properties.{Property, term, negated}
use Rattle.tv_program.specs.Steps.{State}
use Rattle.tv_linear.specs.declared.region.Piece.{Piece}
use Rattle.tv_linear.specs.declared.region.Region.{Region}
use Rattle.tv_farkas.specs.declared.budget.Budget.{Budget}
use Rattle.tv_cases.specs.Comparisons.{comparison_lists}
use Rattle.tv_cases.specs.LinearCases.{CaseSystem, CaseSteps, IsCase}
use Rattle.tv_cases.proofs.ContainsLemmas.{Contains-here, Contains-later, Contains-none}
use Rattle.tv_cert.specs.Obligations.{hold_side}
use Rattle.tv_cert.specs.Statements.{Statement}
use Rattle.tv_cert.specs.Statements as statements
use Rattle.tv_known.specs.Cycles.{IsLastRound, IsStateOf}
use Rattle.tv_known.specs.Rounds.{GoesInto, StaysIn, must_end, Goes, Stops}
use Rattle.tv_known.specs.Sizes.{next_count, shrinking_count, term_count, no_term_count, greatest_count}
use Rattle.tv_known.proofs.RoundLemmas.{stays_state}
use Rattle.tv_region.specs.Regions.{IsRegion, count_at}
use Rattle.tv_region.specs.StepRegions.{InState, HasNoDraws}
use Rattle.tv_rounds.specs.declared.answer.Rounds.{Rounds}
use Rattle.tv_rounds.specs.Answers.{IsRound, AreLayers}
use Rattle.tv_rounds.specs.Calls.{IsNowhere}
use Rattle.tv_rounds.specs.Sides.{RoundOf, IsSettledBy}
use Rattle.tv_pre.specs.declared.fault.PreFault.{PreFault}
use Rattle.tv_pre.specs.declared.sides.Sides.{Sides}
use Rattle.tv_pre.specs.Along.{arguments, AreRoundsOf}
use Rattle.tv_pre.specs.Built.{IsBuilt, of_joined, AreBuilt, ArePiecesBuilt, IsAsked, IsPreFault, IsFaultOf}
use Rattle.tv_pre.specs.Counted.{IsWithinFew, IsCountedFor, IsCountedBefore, AreFullyCounted}
use Rattle.tv_pre.specs.Ending.{AreEndLayers, AsksEndLayers}
use Rattle.tv_pre.specs.Fixed.{IsJoined}
use Rattle.tv_pre.specs.Growing.{IsEverywhere, AreNextLayers}
use Rattle.tv_pre.specs.Inclusions.{OfPieces, LeadsTo}
use Rattle.tv_pre.specs.Pieces.{InPieces}
use Rattle.tv_pre.specs.Questions.{Question}
use Rattle.tv_pre.specs.Sized.{hold_count, end_count, AreCounted, IsFewEnd, IsFewAlong, IsFewJoined}
use Rattle.tv_pre.specs.Termination.{AreSidesOf}
use Rattle.tv_pre.proofs.AlongLemmas.{first_layers, until_built, answer_built}
use Rattle.tv_pre.proofs.AskedLemmas.{steps_asked, append_built}
use Rattle.tv_pre.proofs.BuiltLemmas.{built_to, asked_to, fault_to, one_built, more_built, pieces_of}
use Rattle.tv_pre.proofs.CountedFormulas.{next_one}
use Rattle.tv_pre.proofs.CountedLemmas.{within_more}
use Rattle.tv_pre.proofs.FewTargets.{few_more, call_few}
use Rattle.tv_pre.proofs.FormulaLemmas.{ends_is, never_is}
use Rattle.tv_pre.proofs.SizedLemmas.{everywhere_few, nowhere_few, sides_counted, grown_joined, grown_few, shrunk_within, last_before}

module _ (about : CaseSystem) where
  -- ---- layers
  -- what each step from a layer leads into
  end_layers : (sides : Sides) → sides.path ≡ Every → (earlier : List Piece) (layers : List Region) → AreNextLayers about sides earlier layers → AreEndLayers about earlier layers
  end_layers sides e earlier [] h = tt
  end_layers sides e earlier (layer ∷ layers) h = (
    record { over = h.0.over; leads = λ s p m. (subst (λ (q : Path). GoesInto (CaseSteps about) q (InPieces earlier) s) e (h.0.goes s p m)).1 },
    end_layers sides e (earlier ++ layer.pieces.items) layers h.1,
  )

  -- after the states without a step
  pub stops_first : (stops : Region) (layers : List Region) → IsRegion about.variables about.locations stops → ((s : State) → IsStateOf about s → InState stops s → Stops about s) → AreEndLayers about stops.pieces.items layers → AreEndLayers about [] (stops ∷ layers)
  stops_first stops layers over none h = (record { over = over; leads = λ s p m t st. absurd (none s p m t st) }, h)

  layers_asked : (s : Statement) (h : ℕ) (earlier : List Piece) (layers : List Region) (a : Question) → ArePiecesBuilt about s h earlier → AreBuilt about s h layers → AsksEndLayers about earlier layers a → IsAsked about s (suc h) a
  layers_asked s h earlier [] a f b w = absurd w
  layers_asked s h earlier (layer ∷ layers) a f b (inl w) =
      steps_asked about s h layer.pieces.items earlier w.0 a (pieces_of about s h layer (b layer (Contains-here layer layers))) w.1 f w.2
  layers_asked s h earlier (layer ∷ layers) a f b (inr w) =
      layers_asked s h (earlier ++ layer.pieces.items) layers a (append_built about s h earlier layer f (b layer (Contains-here layer layers))) (λ x c. b x (Contains-later layer x layers c)) w

  pub ends_asked : (s : Statement) (h k : ℕ) (layers : List Region) (a : Question) → suc h ≤ k → AreBuilt about s h layers → AsksEndLayers about [] layers a → IsAsked about s k a
  ends_asked s h k layers a l b w = asked_to about s (suc h) k a l (layers_asked s h [] layers a (record { regions = []; built = λ x c. absurd (Contains-none x c); whole = refl }) b w)

  -- ---- refusals
  pub back_refused : (budget : Budget) (s : Statement) (last : ℕ) (into : Region) (fault r : PreFault) → IsBuilt about s 0 into → r ≡ fault → IsFaultOf about budget 1 (into ∷ []) fault → IsPreFault about s budget ((last + 2) + (last + 2)) r
  back_refused budget s last into fault r m e f =
      subst (IsPreFault about s budget ((last + 2) + (last + 2))) (sym e) (fault_to about s budget (1 + 0) ((last + 2) + (last + 2)) fault (omega arith) (f s 0 (one_built about s 0 into m)))

  pub rounds_refused : (budget : Budget) (s : Statement) (last : ℕ) (given : List Region) (fault r : PreFault) → AreBuilt about s 1 given → r ≡ fault → IsFaultOf about budget (last + 1) given fault → IsPreFault about s budget ((last + 2) + (last + 2)) r
  rounds_refused budget s last given fault r m e f =
      subst (IsPreFault about s budget ((last + 2) + (last + 2))) (sym e) (fault_to about s budget ((last + 1) + 1) ((last + 2) + (last + 2)) fault (omega arith) (f s 1 m))

  -- ---- counts
  module _ (budget : Budget) (most : ℕ) where
    pub term_counted : (r : PreFault) → (HasNoDraws about → (m : ℕ) → IsLastRound about 9 m → IsWithinFew about budget (IsAsked about statements.ends ((most + 2) + (most + 2))) (term_count about.cases m) r) → IsCountedFor about budget most statements.ends r
    term_counted r h plain m is f parts e =
        let asked = IsAsked about statements.ends ((most + 2) + (most + 2)) in
        subst (λ (g : Property). IsWithinFew about budget asked (greatest_count about.cases m g) r) (sym (ends_is (comparison_lists about.variables) f e))
        (few_more about budget asked asked (term_count about.cases m) (greatest_count about.cases m term) (λ a x. x) (λ l. le-max_left (term_count about.cases m l) (next_count about.cases Every (λ k. 1) l)) r (h plain m is))

    pub never_counted : (r : PreFault) → (HasNoDraws about → (m : ℕ) → IsLastRound about 9 m → IsWithinFew about budget (IsAsked about statements.never_ends ((most + 2) + (most + 2))) (no_term_count about.cases m) r) → IsCountedFor about budget most statements.never_ends r
    never_counted r h plain m is f parts e =
        let asked = IsAsked about statements.never_ends ((most + 2) + (most + 2)) in
        subst (λ (g : Property). IsWithinFew about budget asked (greatest_count about.cases m g) r) (sym (never_is (comparison_lists about.variables) f e))
        (few_more about budget asked asked (no_term_count about.cases m) (greatest_count about.cases m (negated term)) (λ a x. x) (λ l. le-max_left (no_term_count about.cases m l) (next_count about.cases Any (λ k. 1) l)) r (h plain m is))

    pub stops_counted : (none : Region) (r : PreFault) → IsNowhere about none → IsCountedBefore about Every none r → IsCountedFor about budget most statements.ends r
    stops_counted none r n h plain m is f parts e =
        let asked = IsAsked about statements.ends ((most + 2) + (most + 2)) in
        subst (λ (g : Property). IsWithinFew about budget asked (greatest_count about.cases m g) r) (sym (ends_is (comparison_lists about.variables) f e))
        (call_few about budget asked (greatest_count about.cases m term) r
        (within_more (next_count about.cases Every (λ k. 1)) (greatest_count about.cases m term) (λ l. le-max_right (term_count about.cases m l) (next_count about.cases Every (λ k. 1) l)) r
        (h plain (λ k. 1) (λ l. one (count_at l none) (nowhere_few about none n l)))))
      where
        one : (a : ℕ) → a ≤ 0 → a ≤ 1
        one a h = omega (arith, h)

    pub goes_counted : (all : Region) (r : PreFault) → IsEverywhere about all → IsCountedBefore about Any all r → IsCountedFor about budget most statements.never_ends r
    goes_counted all r a h plain m is f parts e =
        let asked = IsAsked about statements.never_ends ((most + 2) + (most + 2)) in
        subst (λ (g : Property). IsWithinFew about budget asked (greatest_count about.cases m g) r) (sym (never_is (comparison_lists about.variables) f e))
        (call_few about budget asked (greatest_count about.cases m (negated term)) r
        (within_more (next_count about.cases Any (λ k. 1)) (greatest_count about.cases m (negated term)) (λ l. le-max_right (no_term_count about.cases m l) (next_count about.cases Any (λ k. 1) l)) r
        (h plain (λ k. 1) (everywhere_few about all a))))

  -- ---- sides
  module _ (path : Path) (f g : Property) (sides : Sides) (h : AreSidesOf about path f g sides.first.now sides.second.now) where
    pub counted_sides : HasNoDraws about → AreCounted sides (λ k. 1) (next_count about.cases path (λ k. 1))
    counted_sides plain = record { first = h.first_few; second = h.second_few plain }

    pub fully_counted : HasNoDraws about → AreFullyCounted sides (λ k. 1) (next_count about.cases path (λ k. 1))
    fully_counted plain = record { counts = counted_sides plain; some_first = λ l. le_refl 1; some_second = next_one about.cases path (λ k. 1) }

    pub sides_made : (s : Statement) (end : Region) → IsBuilt about s 1 end → AreBuilt about s 1 (end ∷ arguments sides)
    sides_made s end m = more_built about s 1 end (arguments sides) m (more_built about s 1 sides.first.now (sides.second.now ∷ []) (h.first_built s) (one_built about s 1 sides.second.now (h.second_built s)))

  module _ (cases : All (IsCase about.variables about.locations) about.cases) (last : ℕ) (search : IsLastRound about 8 last) (sides : Sides) (end : Region) (bounded : IsFewEnd sides end) (answer : Rounds) (r : AreRoundsOf about last sides end answer) where
    -- ---- rounds that grow
    module _ (layers : List Region) (each : AreLayers about r.point 0 layers) (short : length layers ≤ last) where
      pub behind_stops : sides.path ≡ Every → IsRegion about.variables about.locations end → ((s : State) → IsStateOf about s → InState end s → Stops about s) → AreEndLayers about [] (end ∷ layers)
      behind_stops e over none = stops_first end layers over none (end_layers sides e end.pieces.items layers (first_layers about cases sides end r.point r.of layers each))

      pub layers_made : (s : Statement) → AreBuilt about s 1 (end ∷ arguments sides) → AreBuilt about s ((last + 1) + 1) (end ∷ layers)
      layers_made s m = until_built about last sides end s 1 m layers (answer_built about last sides end s 1 m answer r layers short each cases)

      pub joined_made : (s : Statement) (region : Region) → AreBuilt about s 1 (end ∷ arguments sides) → IsJoined about (end ∷ layers) region → IsBuilt about s ((last + 2) + (last + 2)) region
      joined_made s region m j =
          built_to about s (suc ((last + 1) + 1)) ((last + 2) + (last + 2)) region (omega arith)
          (of_joined ((last + 1) + 1) (end ∷ layers) region (layers_made s m) (let few : length (end ∷ layers) ≤ ((last + 1) + 1) + 2 = omega (arith, short) in few) j)

      pub joined_all : must_end sides.shape ≡ true → IsFewJoined about sides (end ∷ layers)
      joined_all must = grown_joined about sides end bounded must r.point r.of layers each (λ m is. last_before about last m (length layers) search is short)

      pub joined_few : must_end sides.shape ≡ true → (region : Region) → IsJoined about (end ∷ layers) region → IsFewAlong about sides region
      joined_few must region j = grown_few about sides end region bounded must r.point r.of layers each (λ m is. last_before about last m (length layers) search is short) j

    -- ---- rounds that shrink
    module _ (k : ℕ) (round : Region) (early : k ≤ last) (is_round : IsRound false about r.point k round) where
      pub round_few : must_end sides.shape ≡ false → IsFewAlong about sides round
      round_few must plain m is f g h l =
          let hold = hold_count sides.shape f g in
          let ends = end_count sides.shape f g in
          shrunk_within about sides f g m l must (count_at l round) k (last_before about last m k search is early)
          (subst (λ (p : Path). count_at l round ≤ shrinking_count about.cases p hold ends k l) r.of.path (is_round.bounded plain hold ends (sides_counted sides f g h end r.point r.of bounded) l))

      -- from each state of a settled round some step leads into it, where none is at the end and each on the way has a step
      pub round_leads : sides.path ≡ Any → ((s : State) → InState end s → ⊥) → ((s : State) → IsStateOf about s → InState (hold_side sides.shape sides.first.now sides.second.now) s → Goes about s) → IsSettledBy false about r.point k → OfPieces about round.pieces.items (LeadsTo about Any (InState round))
      round_leads e none goes settled s p m = elim ((settled s p).0 ((is_round.set.same s p).0 m)) [
        | inl x ↦ absurd (none s (subst (λ z. InState z s) r.of.ends x))
        | inr x ↦ elim (subst (λ (q : Path). StaysIn (CaseSteps about) q (RoundOf false about r.point k) s) (r.of.path ∙ e) x.1) [
          | inl some ↦ (some.0, some.1, (is_round.set.same some.0 (stays_state about cases s some.0 p some.1)).1 some.2)
          | inr stops ↦ (let go = goes s p (subst (λ z. InState z s) r.of.hold x.0) in absurd (stops go.0 go.1))
        ]
      ]
