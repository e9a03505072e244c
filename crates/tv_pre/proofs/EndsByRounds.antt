-- What the rounds of termination tell.
use Rattle.std.proofs.Common.{◌≡◌, inl, inr, ℕ, suc, ◌+◌, ◌≤◌, List, [], ◌∷◌, length, refl, sym, ◌∙◌, subst, arith, true}
use Rattle.std.specs.Prelude.{All, None, Some, IfSome}
use Rattle.tv_formula.specs.declared.tree.Path.{Path}
use Rattle.tv_formula.specs.declared.tree.Path.TheVariants.{Every}
use Rattle.tv_formula.specs.declared.tree.Shape.{Shape}
use Rattle.tv_formula.specs.declared.tree.Shape.TheVariants.{Until}
use Rattle.tv_formula.specs.Properties.{term, fix}
use Rattle.tv_program.specs.Steps.{State}
use Rattle.tv_linear.specs.declared.region.Region.{Region}
use Rattle.tv_farkas.specs.declared.budget.Budget.{Budget}
use Rattle.tv_farkas.specs.declared.fault.CoverFault.{CoverFault}
use Rattle.tv_cases.specs.LinearCases.{CaseSystem, IsCase}
use Rattle.tv_cert.specs.Statements as statements
use Rattle.tv_known.specs.Cycles.{IsLastRound, IsStateOf}
use Rattle.tv_known.specs.Rounds.{EndSides, FixRound, must_end, Stops}
use Rattle.tv_known.specs.Sizes.{next_count, fix_count, term_count}
use Rattle.tv_region.specs.Regions.{lists_at, count_at}
use Rattle.tv_region.specs.StepRegions.{InState, HasNoDraws}
use Rattle.tv_rounds.specs.declared.answer.Rounds.{Rounds}
use Rattle.tv_rounds.specs.Answers.{AreLayers, Differ}
use Rattle.tv_rounds.specs.Calls.{IsNowhere}
use Rattle.tv_pre.specs.declared.fault.PreFault.{PreFault}
use Rattle.tv_pre.specs.declared.gap.Gap.TheVariants.{Inexact, Open}
use Rattle.tv_pre.specs.declared.outcome.Found.{Found}
use Rattle.tv_pre.specs.declared.sides.Sides.{Sides}
use Rattle.tv_pre.specs.Along.{arguments, AreWithin, AreBefore, AreAtEnd, AreRoundsOf, IsFullAlong, IsOpenAlong}
use Rattle.tv_pre.specs.Built.{of_everywhere, of_nowhere, of_joined, AreBuilt, IsAsked, IsBuiltOf, IsFaultOf}
use Rattle.tv_pre.specs.Counted.{IsFewInto, IsWithinFew, IsCountedFor, IsAskedAlong, IsCountedAlong}
use Rattle.tv_pre.specs.Ending.{AreEndLayers, AsksEndLayers}
use Rattle.tv_pre.specs.Faults.{IsOfCover}
use Rattle.tv_pre.specs.Finding.{IsTameFor, IsTameStatement, IsGapFor, IsFound, IsRefusedFor}
use Rattle.tv_pre.specs.Fixed.{AreOver, IsJoined}
use Rattle.tv_pre.specs.Full.{IsFull}
use Rattle.tv_pre.specs.Growing.{IsEverywhere}
use Rattle.tv_pre.specs.Parts.{IsPart, joined_pieces}
use Rattle.tv_pre.specs.Questions.{Question, IsRefusal}
use Rattle.tv_pre.specs.Sized.{end_count, IsFewEnd, IsFewAlong}
use Rattle.tv_pre.specs.Termination.{anything, stopping, AreSidesOf}
use Rattle.tv_pre.specs.Unserved.{IsUnranked}
use Rattle.std.proofs.Math.Nat.{le_refl}
use Rattle.tv_pre.proofs.BuiltLemmas.{asked_to, built_to, one_built, rest_built}
use Rattle.tv_pre.proofs.ExactLemmas.{fix_open, denied_open}
use Rattle.tv_pre.proofs.FewTargets.{few_more, cover_few, steps_few, end_layers_few}
use Rattle.tv_pre.proofs.GapLemmas.{ends_gap}
use Rattle.tv_pre.proofs.PassedLemmas.{cover_fault}
use Rattle.tv_pre.proofs.SetLemmas.{no_piece}
use Rattle.tv_pre.proofs.SizedLemmas.{none_less}
use Rattle.tv_pre.proofs.TameLemmas.{tame_built}
use Rattle.tv_pre.proofs.TerminationFound.{term_found}
use Rattle.tv_pre.proofs.TerminationMeaning.{untrue, term_full, term_open, never_open}
use Rattle.tv_pre.proofs.TerminationSides.{back_built}
use Rattle.tv_pre.proofs.TerminationRounds.{stops_first, ends_asked, rounds_refused, term_counted, counted_sides, fully_counted, sides_made, behind_stops, layers_made, joined_made, joined_all, joined_few}

-- the fixpoint of these sides is the until over every run
module _ (about : CaseSystem) (cases : All (IsCase about.variables about.locations) about.cases) (last : ℕ) (search : IsLastRound about 8 last) (sides : Sides) (path : sides.path ≡ Every) (shape : sides.shape ≡ Until) (h : AreSidesOf about Every anything stopping sides.first.now sides.second.now) where
  -- something of the path and the shape is so of the until
  as_until : (P : Path → Shape → Type 0) → P sides.path sides.shape → P Every Until
  as_until P x = subst (λ q. P q Until) path (subst (λ w. P sides.path w) shape x)

  pub both_over : AreOver about sides
  both_over = record { first = h.first_over; second = h.second_over }

  pub at_stops : AreAtEnd about sides sides.second.now
  at_stops =
      subst (λ (w : Shape). AreWithin about (Unit {0}) (λ s. EndSides w (InState sides.first.now) (InState sides.second.now) s) sides.second.now) (sym shape)
      (record { over = h.second_over; right = λ s p m. m; all = λ u s p m. m })

  pub stops_few : IsFewEnd sides sides.second.now
  stops_few f g c l = subst (λ (w : Shape). count_at l sides.second.now ≤ end_count w f g l) (sym shape) (c.second l)

  stop_there : (s : State) → IsStateOf about s → InState sides.second.now s → Stops about s
  stop_there s p m t st = untrue ((h.second_exact s p).0 m t st)

  full_term : (region : Region) → IsFullAlong about sides region → IsFull about term region
  full_term region full = term_full about cases h.goes region (as_until (λ q w. IsFull about (fix q w anything stopping) region) (full anything stopping h.first_full h.second_full))

  few_term : (region : Region) → IsFewAlong about sides region → HasNoDraws about → (m : ℕ) → IsLastRound about 9 m → (l : ℕ) → count_at l region ≤ term_count about.cases m l
  few_term region bounded plain m is l =
      let back = next_count about.cases Every (λ k. 1) in
      as_until (λ q w. count_at l region ≤ fix_count about.cases m q w (λ k. 1) back l) (bounded plain m is (λ k. 1) back (counted_sides about Every anything stopping sides h plain) l)

  pub open_gap : IsOpenAlong about last sides → IsUnranked about → IsGapFor about last statements.ends (Open 0)
  open_gap open_here lacks =
      let first = sides.first.now in
      let second = sides.second.now in
      let differs = as_until (λ q w. Differ about (FixRound about q w (InState first) (InState second) last) (FixRound about q w (InState first) (InState second) (suc last))) open_here in
      ends_gap about last lacks
      (term_open about cases last (fix_open about cases Every Until anything stopping first second h.first_exact h.second_exact last differs))
      (λ goes. never_open about cases last (denied_open about cases Every Until anything stopping first second h.first_exact h.second_exact last differs h.first_over h.second_over h.first_full h.second_full goes))

  -- ---- refusals
  made : AreBuilt about statements.ends 1 (sides.second.now ∷ arguments sides)
  made = sides_made about Every anything stopping sides h statements.ends sides.second.now (h.second_built statements.ends)

  pub until_refused : (budget : Budget) (fault r : PreFault) → r ≡ fault → IsFaultOf about budget (last + 1) (sides.second.now ∷ arguments sides) fault → IsRefusedFor about budget last statements.ends r
  until_refused budget fault r e f = rounds_refused about budget statements.ends last (sides.second.now ∷ arguments sides) fault r made e f

  -- what is asked of whatever formula the sides are made for is asked of termination
  asked_along : (a : Question) → IsAskedAlong about (last + 2) sides a → IsAsked about statements.ends ((last + 2) + (last + 2)) a
  asked_along a f = asked_to about statements.ends ((last + 2) + 1) ((last + 2) + (last + 2)) a (omega arith) (f statements.ends 1 (rest_built about statements.ends 1 sides.second.now (arguments sides) made))

  pub until_counted : (budget : Budget) (fault r : PreFault) → r ≡ fault → IsCountedAlong about budget (last + 2) sides fault → IsCountedFor about budget last statements.ends r
  until_counted budget fault r e c =
      let back = next_count about.cases Every (λ k. 1) in
      let asks = IsAskedAlong about (last + 2) sides in
      subst (IsCountedFor about budget last statements.ends) (sym e)
      (term_counted about budget last fault (λ plain m is.
      few_more about budget asks (IsAsked about statements.ends ((last + 2) + (last + 2))) (term_count about.cases m) (term_count about.cases m) asked_along (λ l. le_refl (term_count about.cases m l)) fault
      (as_until (λ q w. IsWithinFew about budget asks (fix_count about.cases m q w (λ k. 1) back) fault) (c plain m is (λ k. 1) back (fully_counted about Every anything stopping sides h plain)))))

  -- ---- layers
  module _ (answer : Rounds) (r : AreRoundsOf about last sides sides.second.now answer) (layers : List Region) (each : AreLayers about r.point 0 layers) (short : length layers ≤ last) where
    pub layers_end : AreEndLayers about [] (sides.second.now ∷ layers)
    layers_end = behind_stops about cases last search sides sides.second.now stops_few answer r layers each short path h.second_over stop_there

    layers_asks : (a : Question) → AsksEndLayers about [] (sides.second.now ∷ layers) a → IsAsked about statements.ends ((last + 2) + (last + 2)) a
    layers_asks a w = ends_asked about statements.ends ((last + 1) + 1) ((last + 2) + (last + 2)) (sides.second.now ∷ layers) a (omega arith) (layers_made about cases last search sides sides.second.now stops_few answer r layers each short statements.ends made) w

    pub layers_refused : (budget : Budget) (fault : CoverFault) (f : PreFault) → IsOfCover fault f → IsRefusal about budget (AsksEndLayers about [] (sides.second.now ∷ layers)) fault → IsRefusedFor about budget last statements.ends f
    layers_refused budget fault f is refusal = cover_fault about budget statements.ends ((last + 2) + (last + 2)) (AsksEndLayers about [] (sides.second.now ∷ layers)) layers_asks fault f is refusal

    layers_within : HasNoDraws about → (m : ℕ) → IsLastRound about 9 m → (l : ℕ) → length (lists_at l (joined_pieces (sides.second.now ∷ layers))) ≤ term_count about.cases m l
    layers_within plain m is l =
        let back = next_count about.cases Every (λ k. 1) in
        let many = length (lists_at l (joined_pieces (sides.second.now ∷ layers))) in
        let all = joined_all about cases last search sides sides.second.now stops_few answer r layers each short (subst (λ (w : Shape). must_end w ≡ true) (sym shape) refl) in
        as_until (λ q w. many ≤ fix_count about.cases m q w (λ k. 1) back l) (all plain m is (λ k. 1) back (counted_sides about Every anything stopping sides h plain) l)

    -- a refused question how the steps from a layer lead into those before it
    pub layers_counted : (budget : Budget) (fault : CoverFault) (f : PreFault) → IsOfCover fault f → IsRefusal about budget (AsksEndLayers about [] (sides.second.now ∷ layers)) fault → IsCountedFor about budget last statements.ends f
    layers_counted budget fault f is refusal =
        term_counted about budget last f (λ plain m o.
        cover_few about budget (AsksEndLayers about [] (sides.second.now ∷ layers)) (IsAsked about statements.ends ((last + 2) + (last + 2))) (term_count about.cases m) layers_asks
        (λ a w. end_layers_few about (term_count about.cases m) [] (sides.second.now ∷ layers) a w (layers_within plain m o)) fault f is refusal)

    pub layers_found : (found : Found) → IsJoined about (sides.second.now ∷ layers) found.part.region → IsPart about term found.part.region found.part.node → found.size ≡ 1 → IfSome found.gap (IsGapFor about last statements.ends) → (found.gap ≡ None → IsFullAlong about sides found.part.region) → IsFound about last statements.ends found
    layers_found found j part size gap full =
        term_found about last found j.over part (joined_made about cases last search sides sides.second.now stops_few answer r layers each short statements.ends found.part.region made j) size gap (λ none. full_term found.part.region (full none))
        (few_term found.part.region (joined_few about cases last search sides sides.second.now stops_few answer r layers each short (subst (λ (w : Shape). must_end w ≡ true) (sym shape) refl) found.part.region j))

-- ---- the states without a step alone, where going back is not exact
module _ (about : CaseSystem) (last : ℕ) (none stops : Region) (n : IsNowhere about none) (before : AreBefore about Every none stops) (built : IsBuiltOf about 1 (none ∷ []) stops) (layers : List Region) (e : layers ≡ []) where
  pub alone_end : AreEndLayers about [] (stops ∷ layers)
  alone_end =
      stops_first about stops layers before.over (λ s p m t st. no_piece none.pieces.items t n.none (before.right s p m t st))
      (subst (AreEndLayers about stops.pieces.items) (sym e) tt)

  alone_few : length (stops ∷ layers) ≤ 1 + 2
  alone_few = subst (λ ls. length (stops ∷ ls) ≤ 1 + 2) (sym e) (omega arith)

  alone_made : AreBuilt about statements.ends 1 (stops ∷ layers)
  alone_made = subst (λ ls. AreBuilt about statements.ends 1 (stops ∷ ls)) (sym e) (one_built about statements.ends 1 stops (back_built about none stops built statements.ends (of_nowhere 0 none n)))

  alone_asks : (a : Question) → AsksEndLayers about [] (stops ∷ layers) a → IsAsked about statements.ends ((last + 2) + (last + 2)) a
  alone_asks a w = ends_asked about statements.ends 1 ((last + 2) + (last + 2)) (stops ∷ layers) a (omega arith) alone_made w

  pub alone_refused : (budget : Budget) (fault : CoverFault) (f : PreFault) → IsOfCover fault f → IsRefusal about budget (AsksEndLayers about [] (stops ∷ layers)) fault → IsRefusedFor about budget last statements.ends f
  alone_refused budget fault f is refusal = cover_fault about budget statements.ends ((last + 2) + (last + 2)) (AsksEndLayers about [] (stops ∷ layers)) alone_asks fault f is refusal

  -- they ask of no targets
  alone_into : (bound : ℕ → ℕ) (a : Question) → AsksEndLayers about [] (stops ∷ layers) a → IsFewInto bound a
  alone_into bound a (inl w) = steps_few about bound w.0 [] a w.2 (λ l. none_less (bound l))
  alone_into bound a (inr w) = absurd (subst (λ ls. AsksEndLayers about stops.pieces.items ls a) e w)

  pub alone_counted : (budget : Budget) (fault : CoverFault) (f : PreFault) → IsOfCover fault f → IsRefusal about budget (AsksEndLayers about [] (stops ∷ layers)) fault → IsCountedFor about budget last statements.ends f
  alone_counted budget fault f is refusal =
      term_counted about budget last f (λ plain m o.
      cover_few about budget (AsksEndLayers about [] (stops ∷ layers)) (IsAsked about statements.ends ((last + 2) + (last + 2))) (term_count about.cases m) alone_asks (alone_into (term_count about.cases m)) fault f is refusal)

  pub ends_wild : (anywhere : Region) → IsEverywhere about anywhere → (IsTameFor about anywhere stops → ⊥) → IsTameStatement about statements.ends → ⊥
  ends_wild anywhere all wild tame = wild (tame_built about statements.ends tame 1 1 anywhere stops (of_everywhere 1 anywhere all) (back_built about none stops built statements.ends (of_nowhere 0 none n)))

  pub alone_found : (anywhere : Region) → IsEverywhere about anywhere → (IsTameFor about anywhere stops → ⊥) → (found : Found) → IsJoined about (stops ∷ layers) found.part.region → IsPart about term found.part.region found.part.node → found.size ≡ 1 → found.gap ≡ Some Inexact → IsFound about last statements.ends found
  alone_found anywhere all wild found j part size gap =
      term_found about last found j.over part (built_to about statements.ends (suc 1) ((last + 2) + (last + 2)) found.part.region (omega arith) (of_joined 1 (stops ∷ layers) found.part.region alone_made alone_few j)) size
      (subst (λ o. IfSome o (IsGapFor about last statements.ends)) (sym gap) (record { wild = ends_wild anywhere all wild; moves = λ l. l }))
      (λ whole. absurd (let other : Some Inexact ≡ None = sym gap ∙ whole in cc)) (λ plain m is l. absurd (wild (inl plain)))
