-- What the rounds of the negation of termination tell.
use Rattle.std.proofs.Common.{◌≡◌, ℕ, suc, ◌+◌, ◌≤◌, ◌*◌, [], ◌∷◌, refl, sym, subst, arith, false}
use Rattle.std.specs.Prelude.{All, None, IfSome}
use Rattle.tv_formula.specs.declared.tree.Path.{Path}
use Rattle.tv_formula.specs.declared.tree.Path.TheVariants.{Any}
use Rattle.tv_formula.specs.declared.tree.Shape.{Shape}
use Rattle.tv_formula.specs.declared.tree.Shape.TheVariants.{Release}
use Rattle.tv_formula.specs.Properties.{term, negated, fix}
use Rattle.tv_program.specs.Steps.{State}
use Rattle.tv_linear.specs.declared.region.Region.{Region}
use Rattle.tv_farkas.specs.declared.budget.Budget.{Budget}
use Rattle.tv_farkas.specs.declared.fault.CoverFault.{CoverFault}
use Rattle.tv_cases.specs.LinearCases.{CaseSystem, IsCase}
use Rattle.tv_cert.specs.Obligations.{hold_side}
use Rattle.tv_cert.specs.Statements as statements
use Rattle.tv_known.specs.Cycles.{IsLastRound, IsStateOf}
use Rattle.tv_known.specs.Rounds.{EndSides, FixRound, must_end, Goes}
use Rattle.tv_known.specs.Sizes.{next_count, fix_count, no_term_count}
use Rattle.tv_known.proofs.SizeLemmas.{trans}
use Rattle.tv_region.specs.Regions.{IsRegion, count_at}
use Rattle.tv_region.specs.StepRegions.{InState, HasNoDraws}
use Rattle.tv_rounds.specs.declared.answer.Rounds.{Rounds}
use Rattle.tv_rounds.specs.Answers.{IsRound, Differ}
use Rattle.tv_rounds.specs.Calls.{IsNowhere}
use Rattle.tv_rounds.specs.Sides.{IsSettledBy}
use Rattle.tv_pre.specs.declared.fault.PreFault.{PreFault}
use Rattle.tv_pre.specs.declared.gap.Gap.TheVariants.{Inexact, Open}
use Rattle.tv_pre.specs.declared.outcome.Found.{Found}
use Rattle.tv_pre.specs.declared.sides.Sides.{Sides}
use Rattle.tv_pre.specs.Along.{arguments, AreWithin, AreAtEnd, AreRoundsOf, IsFullAlong, IsOpenAlong}
use Rattle.tv_pre.specs.Built.{IsBuilt, of_everywhere, of_nowhere, AreBuilt, IsAsked, IsBuiltOf, IsFaultOf}
use Rattle.tv_pre.specs.Counted.{IsWithinFew, IsCountedFor, IsAskedAlong, IsCountedAlong}
use Rattle.tv_pre.specs.Faults.{IsOfCover}
use Rattle.tv_pre.specs.Finding.{IsTameFor, IsGapFor, IsFound, IsRefusedFor}
use Rattle.tv_pre.specs.Fixed.{AreOver}
use Rattle.tv_pre.specs.Full.{IsFull}
use Rattle.tv_pre.specs.Growing.{IsEverywhere}
use Rattle.tv_pre.specs.Inclusions.{OfPieces, LeadsTo}
use Rattle.tv_pre.specs.Parts.{IsPart}
use Rattle.tv_pre.specs.Questions.{Question, IsRefusal, AsksOf, AsksNext}
use Rattle.tv_pre.specs.Sized.{end_count, IsFewEnd, IsFewAlong}
use Rattle.tv_pre.specs.Termination.{nothing, going, AreSidesOf}
use Rattle.tv_pre.specs.Unserved.{IsUnranked}
use Rattle.tv_pre.proofs.AlongLemmas.{round_built}
use Rattle.tv_pre.proofs.AskedLemmas.{next_asked}
use Rattle.std.proofs.Math.Nat.{le_refl}
use Rattle.tv_pre.proofs.BuiltLemmas.{built_to, asked_to, pieces_of, rest_built}
use Rattle.tv_pre.proofs.ExactLemmas.{fix_open, denied_open}
use Rattle.tv_pre.proofs.FewTargets.{few_more, cover_few, next_few}
use Rattle.tv_pre.proofs.GapLemmas.{never_gap}
use Rattle.tv_pre.proofs.PassedLemmas.{cover_fault}
use Rattle.tv_pre.proofs.SetLemmas.{no_piece}
use Rattle.tv_pre.proofs.SizedLemmas.{none_less, nowhere_few}
use Rattle.tv_pre.proofs.TameLemmas.{tame_built}
use Rattle.tv_pre.proofs.TerminationFound.{never_found}
use Rattle.tv_pre.proofs.TerminationMeaning.{never_full, term_open, never_open}
use Rattle.tv_pre.proofs.TerminationSides.{back_built}
use Rattle.tv_pre.proofs.TerminationRounds.{rounds_refused, never_counted, counted_sides, fully_counted, sides_made, round_few, round_leads}

-- the fixpoint of these sides is the release over some run
module _ (about : CaseSystem) (cases : All (IsCase about.variables about.locations) about.cases) (last : ℕ) (search : IsLastRound about 8 last) (sides : Sides) (path : sides.path ≡ Any) (shape : sides.shape ≡ Release) (n : IsNowhere about sides.first.now) (h : AreSidesOf about Any nothing going sides.first.now sides.second.now) where
  -- something of the path and the shape is so of the release
  as_release : (P : Path → Shape → Type 0) → P sides.path sides.shape → P Any Release
  as_release P x = subst (λ q. P q Release) path (subst (λ w. P sides.path w) shape x)

  pub both_over : AreOver about sides
  both_over = record { first = h.first_over; second = h.second_over }

  none_there : (s : State) → InState sides.first.now s → ⊥
  none_there s m = no_piece sides.first.now.pieces.items s n.none m

  pub at_none : AreAtEnd about sides sides.first.now
  at_none =
      subst (λ (w : Shape). AreWithin about (Unit {0}) (λ s. EndSides w (InState sides.first.now) (InState sides.second.now) s) sides.first.now) (sym shape)
      (record { over = h.first_over; right = λ s p m. absurd (none_there s m); all = λ u s p m. m.0 })

  pub none_few : IsFewEnd sides sides.first.now
  none_few f g c l =
      subst (λ (w : Shape). count_at l sides.first.now ≤ end_count w f g l) (sym shape) (trans (count_at l sides.first.now) 0 (f l * g l) (nowhere_few about sides.first.now n l) (none_less (f l * g l)))

  go_there : (s : State) → IsStateOf about s → InState (hold_side sides.shape sides.first.now sides.second.now) s → Goes about s
  go_there s p m = let w = (h.second_exact s p).0 (subst (λ (z : Shape). InState (hold_side z sides.first.now sides.second.now) s) shape m) in (w.0, w.1)

  full_never : (region : Region) → IsFullAlong about sides region → IsFull about (negated term) region
  full_never region full = never_full about region (as_release (λ q w. IsFull about (fix q w nothing going) region) (full nothing going h.first_full h.second_full))

  few_never : (region : Region) → IsFewAlong about sides region → HasNoDraws about → (m : ℕ) → IsLastRound about 9 m → (l : ℕ) → count_at l region ≤ no_term_count about.cases m l
  few_never region bounded plain m is l =
      let back = next_count about.cases Any (λ k. 1) in
      as_release (λ q w. count_at l region ≤ fix_count about.cases m q w (λ k. 1) back l) (bounded plain m is (λ k. 1) back (counted_sides about Any nothing going sides h plain) l)

  pub open_gap : IsOpenAlong about last sides → IsUnranked about → IsGapFor about last statements.never_ends (Open 0)
  open_gap open_here lacks =
      let first = sides.first.now in
      let second = sides.second.now in
      let differs = as_release (λ q w. Differ about (FixRound about q w (InState first) (InState second) last) (FixRound about q w (InState first) (InState second) (suc last))) open_here in
      never_gap about last lacks
      (never_open about cases last (fix_open about cases Any Release nothing going first second h.first_exact h.second_exact last differs))
      (λ goes. term_open about cases last (denied_open about cases Any Release nothing going first second h.first_exact h.second_exact last differs h.first_over h.second_over h.first_full h.second_full goes))

  -- ---- refusals
  made : AreBuilt about statements.never_ends 1 (sides.first.now ∷ arguments sides)
  made = sides_made about Any nothing going sides h statements.never_ends sides.first.now (h.first_built statements.never_ends)

  pub release_refused : (budget : Budget) (fault r : PreFault) → r ≡ fault → IsFaultOf about budget (last + 1) (sides.first.now ∷ arguments sides) fault → IsRefusedFor about budget last statements.never_ends r
  release_refused budget fault r e f = rounds_refused about budget statements.never_ends last (sides.first.now ∷ arguments sides) fault r made e f

  -- what is asked of whatever formula the sides are made for is asked of the negation of termination
  asked_along : (a : Question) → IsAskedAlong about (last + 2) sides a → IsAsked about statements.never_ends ((last + 2) + (last + 2)) a
  asked_along a f = asked_to about statements.never_ends ((last + 2) + 1) ((last + 2) + (last + 2)) a (omega arith) (f statements.never_ends 1 (rest_built about statements.never_ends 1 sides.first.now (arguments sides) made))

  pub release_counted : (budget : Budget) (fault r : PreFault) → r ≡ fault → IsCountedAlong about budget (last + 2) sides fault → IsCountedFor about budget last statements.never_ends r
  release_counted budget fault r e c =
      let back = next_count about.cases Any (λ k. 1) in
      let asks = IsAskedAlong about (last + 2) sides in
      subst (IsCountedFor about budget last statements.never_ends) (sym e)
      (never_counted about budget last fault (λ plain m is.
      few_more about budget asks (IsAsked about statements.never_ends ((last + 2) + (last + 2))) (no_term_count about.cases m) (no_term_count about.cases m) asked_along (λ l. le_refl (no_term_count about.cases m l)) fault
      (as_release (λ q w. IsWithinFew about budget asks (fix_count about.cases m q w (λ k. 1) back) fault) (c plain m is (λ k. 1) back (fully_counted about Any nothing going sides h plain)))))

  -- ---- a settled round
  module _ (answer : Rounds) (r : AreRoundsOf about last sides sides.first.now answer) (k : ℕ) (round : Region) (early : k ≤ last) (is_round : IsRound false about r.point k round) where
    pub round_goes : IsSettledBy false about r.point k → OfPieces about round.pieces.items (LeadsTo about Any (InState round))
    round_goes settled = round_leads about cases last search sides sides.first.now none_few answer r k round early is_round path none_there go_there settled

    round_made : IsBuilt about statements.never_ends (last + 1) round
    round_made = round_built about last sides sides.first.now statements.never_ends 1 made answer r k round early is_round

    round_asks : (a : Question) → AsksOf (λ q. AsksNext about Any q round.pieces.items) round.pieces.items a → IsAsked about statements.never_ends ((last + 2) + (last + 2)) a
    round_asks a w =
        let own = pieces_of about statements.never_ends (last + 1) round round_made in
        asked_to about statements.never_ends (suc (last + 1)) ((last + 2) + (last + 2)) a (omega arith) (next_asked about statements.never_ends (last + 1) Any round.pieces.items round.pieces.items w.0 a own w.1 own w.2)

    pub round_refused : (budget : Budget) (fault : CoverFault) (f : PreFault) → IsOfCover fault f → IsRefusal about budget (AsksOf (λ q. AsksNext about Any q round.pieces.items) round.pieces.items) fault → IsRefusedFor about budget last statements.never_ends f
    round_refused budget fault f is refusal =
        cover_fault about budget statements.never_ends ((last + 2) + (last + 2)) (AsksOf (λ q. AsksNext about Any q round.pieces.items) round.pieces.items) round_asks fault f is refusal

    round_within : HasNoDraws about → (m : ℕ) → IsLastRound about 9 m → (l : ℕ) → count_at l round ≤ no_term_count about.cases m l
    round_within plain m is l = few_never round (round_few about cases last search sides sides.first.now none_few answer r k round early is_round (subst (λ (w : Shape). must_end w ≡ false) (sym shape) refl)) plain m is l

    -- a refused question whether from each state of a piece some step leads into the round
    pub round_counted : (budget : Budget) (fault : CoverFault) (f : PreFault) → IsOfCover fault f → IsRefusal about budget (AsksOf (λ q. AsksNext about Any q round.pieces.items) round.pieces.items) fault → IsCountedFor about budget last statements.never_ends f
    round_counted budget fault f is refusal =
        never_counted about budget last f (λ plain m o.
        cover_few about budget (AsksOf (λ q. AsksNext about Any q round.pieces.items) round.pieces.items) (IsAsked about statements.never_ends ((last + 2) + (last + 2))) (no_term_count about.cases m) round_asks
        (λ a w. next_few about (no_term_count about.cases m) Any w.0 round.pieces.items a w.2 (round_within plain m o)) fault f is refusal)

    pub round_found : (found : Found) → round ≡ found.part.region → IsPart about (negated term) found.part.region found.part.node → found.size ≡ 1 → IfSome found.gap (IsGapFor about last statements.never_ends) → (found.gap ≡ None → IsFullAlong about sides round) → IsFound about last statements.never_ends found
    round_found found e part size gap full =
        never_found about last found (subst (IsRegion about.variables about.locations) e is_round.set.fits) part
        (subst (IsBuilt about statements.never_ends ((last + 2) + (last + 2))) e (built_to about statements.never_ends (last + 1) ((last + 2) + (last + 2)) round (omega arith) round_made)) size gap
        (λ none. subst (IsFull about (negated term)) e (full_never round (full none)))
        (λ plain m is l. subst (λ (z : Region). count_at l z ≤ no_term_count about.cases m l) e (few_never round (round_few about cases last search sides sides.first.now none_few answer r k round early is_round (subst (λ (w : Shape). must_end w ≡ false) (sym shape) refl)) plain m is l))

-- ---- nothing, where going back is not exact
pub never_wild : (about : CaseSystem) (last : ℕ) (anywhere none goes : Region) → IsEverywhere about anywhere → IsNowhere about none → IsBuiltOf about 1 (anywhere ∷ []) goes → (IsTameFor about goes none → ⊥) → IsGapFor about last statements.never_ends Inexact
never_wild about last anywhere none goes e n built wild = record {
  wild = λ tame. wild (tame_built about statements.never_ends tame 1 1 goes none (back_built about anywhere goes built statements.never_ends (of_everywhere 0 anywhere e)) (of_nowhere 1 none n));
  moves = λ l. l;
}
