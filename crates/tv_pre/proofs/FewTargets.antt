-- How many targets the questions of a formula have.
use Rattle.std.proofs.Common.{◌≡◌, ◌⊎◌, inl, inr, ℕ, ◌+◌, ◌*◌, ◌<◌, ◌≤◌, List, [], ◌∷◌, ◌++◌, length, length-append, refl, sym, subst, arith, Bool, true, false, append_assoc}
use Rattle.std.specs.Prelude.{Contains}
use Rattle.std.proofs.Math.Nat.{le_refl}
use Rattle.tv_formula.specs.declared.tree.Path.{Path}
use Rattle.tv_formula.specs.declared.tree.Path.TheVariants.{Every, Any}
use Rattle.tv_formula.specs.declared.tree.Shape.{Shape}
use Rattle.tv_formula.specs.declared.tree.Shape.TheVariants.{Until, Weak, Release, Strong}
use Rattle.tv_linear.specs.declared.region.Piece.{Piece}
use Rattle.tv_linear.specs.declared.region.Region.{Region}
use Rattle.tv_farkas.specs.declared.budget.Budget.{Budget}
use Rattle.tv_farkas.specs.declared.fault.CoverFault.{CoverFault}
use Rattle.tv_farkas.specs.declared.fault.CoverFault.TheVariants as covers
use Rattle.tv_cases.specs.LinearCases.{LinearCase, CaseSystem}
use Rattle.tv_cases.proofs.ContainsLemmas.{Contains-cases, Contains-none}
use Rattle.tv_cases.proofs.ProductLemmas.{larger}
use Rattle.tv_cert.specs.Obligations.{hold_side, end_sides}
use Rattle.tv_known.specs.Cycles.{IsLastRound}
use Rattle.tv_known.specs.Rounds.{must_end}
use Rattle.tv_known.specs.Sizes.{some_count, all_count, going_count, growing_count, shrinking_count, fix_count}
use Rattle.tv_known.proofs.SizeLemmas.{trans, times_one, two_ones}
use Rattle.tv_region.specs.Regions.{lists_at, count_at}
use Rattle.tv_region.specs.StepRegions.{HasNoDraws}
use Rattle.tv_rounds.specs.Calls.{IsNowhere}
use Rattle.tv_rounds.proofs.CountLemmas.{all_one, some_one}
use Rattle.tv_rounds.proofs.FaultCounts as calls
use Rattle.tv_pre.specs.declared.fault.PreFault.{PreFault}
use Rattle.tv_pre.specs.declared.fault.PreFault.TheVariants as faults
use Rattle.tv_pre.specs.declared.sides.Sides.{Sides}
use Rattle.tv_pre.specs.Counted.{IsWithin, into_of, IsFewInto, IsFewRefused, IsWithinFew, AreFullyCounted}
use Rattle.tv_pre.specs.Ending.{AsksEndLayers}
use Rattle.tv_pre.specs.Faults.{IsOfCover}
use Rattle.tv_pre.specs.Fixed.{AsksEnds, AsksWay, AsksStaying}
use Rattle.tv_pre.specs.Growing.{AsksCome, AsksLayers}
use Rattle.tv_pre.specs.Parts.{joined_pieces}
use Rattle.tv_pre.specs.Questions.{Question, lies, steps, chooses, IsRefusal, AsksEach, AsksSteps, AsksNext, AsksStay}
use Rattle.tv_pre.specs.RankedUntil.{AsksComing}
use Rattle.tv_pre.specs.Sized.{hold_count, end_count, IsFewJoined}
use Rattle.tv_pre.proofs.SizedLemmas.{none_less, everywhere_few, side_few, within, grown_within, shrunk_within, first_round, last_is_one}
use Rattle.tv_pre.proofs.TargetLemmas.{lists_at-append}

-- ---- refusals
into_more : (b c : ℕ → ℕ) → ((l : ℕ) → b l ≤ c l) → (a : Question) → IsFewInto b a → IsFewInto c a
into_more b c w a h = λ l. trans (length (lists_at l (into_of a))) (b l) (c l) (h l) (w l)

module _ (about : CaseSystem) (budget : Budget) where
  pub few_more : (asks wider : Question → Type 0) (b c : ℕ → ℕ) → ((a : Question) → asks a → wider a) → ((l : ℕ) → b l ≤ c l) → (r : PreFault) → IsWithinFew about budget asks b r → IsWithinFew about budget wider c r
  few_more asks wider b c f w (faults.Region k) h = calls.within_more b c w k h
  few_more asks wider b c f w (faults.Cover k) h = record { question = h.question; asked = f h.question h.asked; few = into_more b c w h.question h.few; refuses = h.refuses }
  few_more asks wider b c f w (faults.Rank system k) h = tt
  few_more asks wider b c f w faults.Memory h = tt

  -- a refusal of a call on regions
  pub call_few : (asks : Question → Type 0) (bound : ℕ → ℕ) (r : PreFault) → IsWithin bound r → IsWithinFew about budget asks bound r
  call_few asks bound (faults.Region k) h = h
  call_few asks bound (faults.Cover k) h = absurd h
  call_few asks bound (faults.Rank system k) h = absurd h
  call_few asks bound faults.Memory h = tt

  module _ (own asks : Question → Type 0) (bound : ℕ → ℕ) (asked : (a : Question) → own a → asks a) (few : (a : Question) → own a → IsFewInto bound a) where
    question_few : (fault : CoverFault) → (fault ≡ covers.Memory → ⊥) → IsRefusal about budget own fault → IsFewRefused about budget asks bound fault
    question_few (covers.Splits path) n m = record { question = m.question; asked = asked m.question m.asked; few = few m.question m.asked; refuses = m.refuses }
    question_few (covers.Solve kept f) n m = record { question = m.question; asked = asked m.question m.asked; few = few m.question m.asked; refuses = m.refuses }
    question_few (covers.Wide column) n m = record { question = m.question; asked = asked m.question m.asked; few = few m.question m.asked; refuses = m.refuses }
    question_few covers.Memory n m = absurd (n cc)

    -- a refusal of one of these questions
    pub cover_few : (fault : CoverFault) (r : PreFault) → IsOfCover fault r → IsRefusal about budget own fault → IsWithinFew about budget asks bound r
    cover_few fault (faults.Region k) is m = absurd is
    cover_few fault (faults.Cover k) is m = question_few k is.1 (subst (IsRefusal about budget own) is.0 m)
    cover_few fault (faults.Rank system k) is m = absurd is
    cover_few fault faults.Memory is m = tt

-- ---- pieces
front_less : (l : ℕ) (ps qs : List Piece) → length (lists_at l ps) ≤ length (lists_at l (ps ++ qs))
front_less l ps qs =
    subst (λ xs. length (lists_at l ps) ≤ length xs) (sym (lists_at-append l ps qs))
    (subst (λ n. length (lists_at l ps) ≤ n) (sym (length-append (lists_at l ps) (lists_at l qs))) (omega arith))

module _ (about : CaseSystem) (bound : ℕ → ℕ) where
  pub lies_few : (q : Piece) (into : List Piece) (a : Question) → a ≡ lies q into → ((l : ℕ) → length (lists_at l into) ≤ bound l) → IsFewInto bound a
  lies_few q into a e h = subst (IsFewInto bound) (sym e) h

  choice_few : (q : Piece) (stop : Bool) (into : List Piece) (a : Question) → a ≡ chooses q stop into → ((l : ℕ) → length (lists_at l into) ≤ bound l) → IsFewInto bound a
  choice_few q stop into a e h = subst (IsFewInto bound) (sym e) h

  pub steps_few : (q : Piece) (into : List Piece) (a : Question) → AsksSteps about q into a → ((l : ℕ) → length (lists_at l into) ≤ bound l) → IsFewInto bound a
  steps_few q into a w h = subst (IsFewInto bound) (sym w.3) h

  pub each_few : (q : Piece) (regions : List Region) (a : Question) → AsksEach q regions a → ((r : Region) → Contains regions r → (l : ℕ) → count_at l r ≤ bound l) → IsFewInto bound a
  each_few q regions a w h = lies_few q w.0.pieces.items a w.2 (h w.0 w.1)

  pub next_few : (path : Path) (q : Piece) (into : List Piece) (a : Question) → AsksNext about path q into a → ((l : ℕ) → length (lists_at l into) ≤ bound l) → IsFewInto bound a
  next_few Every q into a w h = steps_few q into a w h
  next_few Any q into a w h = choice_few q false into a w h

  stay_few : (path : Path) (q : Piece) (into : List Piece) (a : Question) → AsksStay about path q into a → ((l : ℕ) → length (lists_at l into) ≤ bound l) → IsFewInto bound a
  stay_few Every q into a w h = steps_few q into a w h
  stay_few Any q into a w h = choice_few q true into a w h

  come_few : (path : Path) (q : Piece) (into : List Piece) (a : Question) → AsksCome about path q into a → ((l : ℕ) → 1 ≤ bound l) → ((l : ℕ) → length (lists_at l into) ≤ bound l) → IsFewInto bound a
  come_few Every q into a (inl w) one h = choice_few q false w.0.pieces.items a w.2 (λ l. trans (count_at l w.0) 1 (bound l) (everywhere_few about w.0 w.1 l) (one l))
  come_few Every q into a (inr w) one h = steps_few q into a w h
  come_few Any q into a w one h = choice_few q false into a w h

  -- layers each step from which leads into those before
  pub end_layers_few : (earlier : List Piece) (layers : List Region) (a : Question) → AsksEndLayers about earlier layers a → ((l : ℕ) → length (lists_at l (earlier ++ joined_pieces layers)) ≤ bound l) → IsFewInto bound a
  end_layers_few earlier [] a w h = absurd w
  end_layers_few earlier (layer ∷ layers) a (inl w) h =
      let rest = joined_pieces (layer ∷ layers) in
      steps_few w.0 earlier a w.2 (λ l. trans (length (lists_at l earlier)) (length (lists_at l (earlier ++ rest))) (bound l) (front_less l earlier rest) (h l))
  end_layers_few earlier (layer ∷ layers) a (inr w) h =
      end_layers_few (earlier ++ layer.pieces.items) layers a w (λ l. subst (λ ps. length (lists_at l ps) ≤ bound l) (sym (append_assoc earlier layer.pieces.items (joined_pieces layers))) (h l))

-- ---- sides
both_counted : (a b r : Region) (f g : ℕ → ℕ) (l : ℕ) → count_at l a ≤ f l → count_at l b ≤ g l → 1 ≤ f l → 1 ≤ g l → Contains (a ∷ b ∷ []) r → count_at l r ≤ f l * g l
both_counted a b r f g l h k one other c = elim (Contains-cases a r (b ∷ []) c) [
  | inl e ↦ subst (λ x. count_at l x ≤ f l * g l) e (trans (count_at l a) (f l) (f l * g l) h (times_one (f l) (g l) other))
  | inr n ↦ elim (Contains-cases b r [] n) [
    | inl e ↦ subst (λ x. count_at l x ≤ f l * g l) e (trans (count_at l b) (g l) (f l * g l) k (larger (f l) (g l) one))
    | inr m ↦ absurd (Contains-none r m)
  ]
]

second_counted : (b r : Region) (g : ℕ → ℕ) (l : ℕ) → count_at l b ≤ g l → Contains (b ∷ []) r → count_at l r ≤ g l
second_counted b r g l k c = elim (Contains-cases b r [] c) [ inl e ↦ subst (λ x. count_at l x ≤ g l) e k | inr n ↦ absurd (Contains-none r n) ]

ends_counted : (shape : Shape) (a b r : Region) (f g : ℕ → ℕ) (l : ℕ) → count_at l a ≤ f l → count_at l b ≤ g l → 1 ≤ f l → 1 ≤ g l → Contains (end_sides shape a b) r → count_at l r ≤ end_count shape f g l
ends_counted Until a b r f g l h k one other c = second_counted b r g l k c
ends_counted Weak a b r f g l h k one other c = second_counted b r g l k c
ends_counted Release a b r f g l h k one other c = both_counted a b r f g l h k one other c
ends_counted Strong a b r f g l h k one other c = both_counted a b r f g l h k one other c

going_one : (cases : List LinearCase) (path : Path) (b : ℕ → ℕ) (l : ℕ) → 1 ≤ going_count cases path b l
going_one cases Every b l = two_ones (some_count cases (λ k. 1) l) (all_count cases b l) (some_one cases (λ k. 1) l) (all_one cases b l)
going_one cases Any b l = some_one cases b l

pub one_hold : (shape : Shape) (f g : ℕ → ℕ) (l : ℕ) → 1 ≤ f l → 1 ≤ g l → 1 ≤ hold_count shape f g l
one_hold Until f g l h k = h
one_hold Weak f g l h k = h
one_hold Release f g l h k = k
one_hold Strong f g l h k = k

module _ (about : CaseSystem) (sides : Sides) (last : ℕ) (f g : ℕ → ℕ) (full : AreFullyCounted sides f g) where
  abbrev whole : ℕ → ℕ
  whole l = fix_count about.cases last sides.path sides.shape f g l

  end_in : (l : ℕ) → end_count sides.shape f g l ≤ whole l
  end_in l = within about sides f g last l (end_count sides.shape f g l) 0 (none_less last) (first_round sides.shape about.cases sides.path f g l)

  grown_hold : must_end sides.shape ≡ true → 1 ≤ last → (l : ℕ) → hold_count sides.shape f g l ≤ whole l
  grown_hold must one l =
      let hold = hold_count sides.shape f g in
      let ends = end_count sides.shape f g in
      let go = going_count about.cases sides.path ends l in
      let m = times_one (hold l) go (going_one about.cases sides.path ends l) in
      let small : hold l ≤ growing_count about.cases sides.path hold ends 1 l = behind (ends l) (hold l) (hold l * go) m in
      grown_within about sides f g last l must (hold l) 1 one small
    where
      behind : (a b c : ℕ) → b ≤ c → b ≤ a + c
      behind a b c h = omega (arith, h)

  shrunk_hold : must_end sides.shape ≡ false → (l : ℕ) → hold_count sides.shape f g l ≤ whole l
  shrunk_hold must l =
      let hold = hold_count sides.shape f g in
      let ends = end_count sides.shape f g in
      shrunk_within about sides f g last l must (hold l) 0 (none_less last) (front (hold l) (ends l))
    where
      front : (a b : ℕ) → a ≤ a + b
      front a b = omega arith

  pub ends_targets : (done : List Piece) (a : Question) → AsksEnds sides done a → IsFewInto (fix_count about.cases last sides.path sides.shape f g) a
  ends_targets done a w =
      let first = sides.first.now in
      let second = sides.second.now in
      each_few about whole w.0 (end_sides sides.shape first second) a w.2
      (λ r c l. trans (count_at l r) (end_count sides.shape f g l) (whole l) (ends_counted sides.shape first second r f g l (full.counts.first l) (full.counts.second l) (full.some_first l) (full.some_second l) c) (end_in l))

  -- no pieces go on
  pub bare_targets : (done onward own : List Piece) (a : Question) → onward ≡ [] → AsksStaying about sides done onward own a → IsFewInto (fix_count about.cases last sides.path sides.shape f g) a
  bare_targets done onward own a e (inl w) = ends_targets done a w
  bare_targets done onward own a e (inr w) = absurd (Contains-none w.0 (subst (λ ps. Contains ps w.0) e w.1))

  module _ (hold : (l : ℕ) → hold_count sides.shape f g l ≤ whole l) where
    way_targets : (q : Piece) (a : Question) → AsksWay sides q a → IsFewInto whole a
    way_targets q a e =
        let side = hold_side sides.shape sides.first.now sides.second.now in
        lies_few about whole q side.pieces.items a e (λ l. trans (count_at l side) (hold_count sides.shape f g l) (whole l) (side_few sides f g full.counts side refl l) (hold l))

    one_whole : (l : ℕ) → 1 ≤ whole l
    one_whole l = trans 1 (hold_count sides.shape f g l) (whole l) (one_hold sides.shape f g l (full.some_first l) (full.some_second l)) (hold l)

    layers_targets : (earlier : List Piece) (layers : List Region) (a : Question) → AsksLayers about sides earlier layers a → ((l : ℕ) → length (lists_at l (earlier ++ joined_pieces layers)) ≤ whole l) → IsFewInto whole a
    layers_targets earlier [] a w h = absurd w
    layers_targets earlier (layer ∷ layers) a (inl w) h =
        let rest = joined_pieces (layer ∷ layers) in
        elim w.2 [
          | inl e ↦ way_targets w.0 a e
          | inr e ↦ come_few about whole sides.path w.0 earlier a e one_whole (λ l. trans (length (lists_at l earlier)) (length (lists_at l (earlier ++ rest))) (whole l) (front_less l earlier rest) (h l))
        ]
    layers_targets earlier (layer ∷ layers) a (inr w) h =
        layers_targets (earlier ++ layer.pieces.items) layers a w (λ l. subst (λ ps. length (lists_at l ps) ≤ whole l) (sym (append_assoc earlier layer.pieces.items (joined_pieces layers))) (h l))

    staying_targets : (done onward own : List Piece) (a : Question) → AsksStaying about sides done onward own a → ((l : ℕ) → length (lists_at l own) ≤ whole l) → IsFewInto whole a
    staying_targets done onward own a (inl w) h = ends_targets done a w
    staying_targets done onward own a (inr w) h = elim w.2 [
      | inl e ↦ way_targets w.0 a e
      | inr e ↦ stay_few about whole sides.path w.0 own a e h
    ]

    coming_targets : (done onward own : List Piece) (a : Question) → AsksComing about sides done onward own a → ((l : ℕ) → length (lists_at l own) ≤ whole l) → IsFewInto whole a
    coming_targets done onward own a (inl w) h = ends_targets done a w
    coming_targets done onward own a (inr w) h = elim w.2 [
      | inl e ↦ way_targets w.0 a e
      | inr e ↦ come_few about whole Every w.0 own a e one_whole h
    ]

-- ---- fixpoints
module _ (about : CaseSystem) (sides : Sides) where
  -- the questions have no more targets at each location than are counted for the fixpoint
  abbrev pub FewTargets : (Question → Type 0) → Type 0
  FewTargets asks = HasNoDraws about → (last : ℕ) → IsLastRound about 9 last → (f g : ℕ → ℕ) → AreFullyCounted sides f g → (a : Question) → asks a → IsFewInto (fix_count about.cases last sides.path sides.shape f g) a

  pub until_targets : must_end sides.shape ≡ true → about.start < about.locations → (end : Region) (layers : List Region) → IsFewJoined about sides (end ∷ layers) → FewTargets (λ a. AsksEnds sides end.pieces.items a ⊎ AsksLayers about sides end.pieces.items layers a)
  until_targets must start end layers joined plain last is f g full a (inl w) = ends_targets about sides last f g full end.pieces.items a w
  until_targets must start end layers joined plain last is f g full a (inr w) =
      layers_targets about sides last f g full (grown_hold about sides last f g full must (last_is_one about last start is)) end.pieces.items layers a w (joined plain last is f g full.counts)

  pub weak_targets : must_end sides.shape ≡ false → (end onward : Region) → IsFewJoined about sides (end ∷ onward ∷ []) → FewTargets (AsksStaying about sides end.pieces.items onward.pieces.items (joined_pieces (end ∷ onward ∷ [])))
  weak_targets must end onward joined plain last is f g full a w =
      staying_targets about sides last f g full (shrunk_hold about sides last f g full must) end.pieces.items onward.pieces.items (joined_pieces (end ∷ onward ∷ [])) a w (joined plain last is f g full.counts)

  pub ranked_targets : must_end sides.shape ≡ true → about.start < about.locations → (end onward : Region) → IsFewJoined about sides (end ∷ onward ∷ []) → FewTargets (AsksComing about sides end.pieces.items onward.pieces.items (joined_pieces (end ∷ onward ∷ [])))
  ranked_targets must start end onward joined plain last is f g full a w =
      coming_targets about sides last f g full (grown_hold about sides last f g full must (last_is_one about last start is)) end.pieces.items onward.pieces.items (joined_pieces (end ∷ onward ∷ [])) a w (joined plain last is f g full.counts)
