-- How many pieces refused calls on regions report, and how many targets refused questions have.
use Rattle.std.proofs.Common.{◌≡◌, ℕ, zero, suc, ◌+◌, ◌*◌, ◌<◌, ◌≤◌, List, [], ◌∷◌, length, get_or, take, refl, sym, ap, ◌∙◌, subst, arith, Bool, true, false}
use Rattle.std.specs.Prelude.{All, Contains, max, sum}
use Rattle.tv_cases.proofs.AmountLemmas.{sum-cons}
use Rattle.std.proofs.Math.Nat.{le-max_left, le-max_right, le_refl}
use Rattle.tv_formula.specs.declared.tree.Path.{Path}
use Rattle.tv_formula.specs.declared.tree.Path.TheVariants.{Every, Any}
use Rattle.tv_formula.specs.declared.tree.Shape.{Shape}
use Rattle.tv_formula.specs.declared.tree.Shape.TheVariants.{Until, Weak, Release, Strong}
use Rattle.tv_linear.specs.declared.region.Piece.{Piece}
use Rattle.tv_linear.specs.declared.region.Region.{Region}
use Rattle.tv_farkas.specs.declared.budget.Budget.{Budget}
use Rattle.tv_farkas.specs.declared.fault.CoverFault.{CoverFault}
use Rattle.tv_cases.specs.LinearCases.{CaseSystem, IsCase}
use Rattle.tv_cert.specs.Obligations.{hold_side}
use Rattle.tv_known.specs.Cycles.{IsLastRound}
use Rattle.tv_known.specs.Rounds.{must_end}
use Rattle.tv_known.specs.Sizes.{product, some_count, all_count, stop_count, next_count, staying_count, growing_count, shrinking_count, fix_count}
use Rattle.tv_region.specs.Regions.{lists_at, count_at}
use Rattle.tv_region.specs.StepRegions.{HasNoDraws}
use Rattle.tv_region.specs.Algebra.{IsBothFault, IsEitherFault}
use Rattle.tv_region.specs.declared.fault.RegionFault.{RegionFault}
use Rattle.tv_rounds.specs.declared.fixed_point.FixedPoint.{FixedPoint}
use Rattle.tv_rounds.specs.declared.fault.RoundFault.{RoundFault}
use Rattle.tv_rounds.specs.Calls.{IsNowhere}
use Rattle.tv_rounds.specs.Counts.{IsFaultWithin, round_bound}
use Rattle.tv_rounds.specs.Walks.{IsBackFault}
use Rattle.tv_rounds.specs.Answers as answers
use Rattle.tv_rounds.specs.Answers.{IsRound, IsCountedBy, AreOpen, IsCompared, growing, shrinking}
use Rattle.tv_rounds.proofs.CountLemmas.{all_one}
use Rattle.tv_rounds.proofs.CountedCalls.{next_staying}
use Rattle.tv_rounds.proofs.FaultCounts as calls
use Rattle.tv_rounds.proofs.FaultCounts.{both_counted, either_counted, back_counted}
use Rattle.tv_pre.specs.declared.fault.PreFault.{PreFault}
use Rattle.tv_pre.specs.declared.fault.PreFault.TheVariants as faults
use Rattle.tv_pre.specs.declared.sides.Sides.{Sides}
use Rattle.tv_pre.specs.Along.{IsOfSides}
use Rattle.tv_pre.specs.Around.{two_ends}
use Rattle.tv_pre.specs.Counted.{IsWithin, some_counts_at, AreFullyCounted, IsAskedAlong, IsAskedBetween, IsCountedBefore, IsCountedStaying, IsCountedEnd, IsCountedOnward, IsCountedGoing, IsCountedAlong, IsCountedBetween}
use Rattle.tv_pre.specs.Faults.{IsOfRegion, IsOfCover, IsOfRounds}
use Rattle.tv_pre.specs.Growing.{IsEverywhere}
use Rattle.tv_pre.specs.Parts.{joined_pieces}
use Rattle.tv_pre.specs.Questions.{Question, lies, IsRefusal}
use Rattle.tv_pre.specs.Sized.{counts_at, hold_count, end_count, IsFewBefore, IsFewStaying, IsFewEnd, IsFewJoined}
use Rattle.tv_pre.proofs.FewTargets.{few_more, call_few, cover_few, one_hold, FewTargets}
use Rattle.tv_pre.proofs.SizedLemmas.{none_less, product_last, sum_last, counts_more, everywhere_few, nowhere_few, all_of_none, stops_few, side_few, sides_counted, one_end_of, two_ends_of, within, grown_within, shrunk_within, first_round, last_is_one, last_before, one_later, plus}
use Rattle.tv_cases.proofs.ProductLemmas.{larger}
use Rattle.tv_known.proofs.SizeLemmas.{trans, times_one, two_ones}
use Rattle.std.proofs.lemmas.Nat.{mul-le}

-- ---- faults that are kept
pub region_within : (bound : ℕ → ℕ) (fault : RegionFault) (r : PreFault) → IsOfRegion fault r → IsFaultWithin bound fault → IsWithin bound r
region_within bound fault (faults.Region k) is h = subst (IsFaultWithin bound) is.0 h
region_within bound fault (faults.Cover k) is h = absurd is
region_within bound fault (faults.Rank system k) is h = absurd is
region_within bound fault faults.Memory is h = tt

pub within_more : (b c : ℕ → ℕ) → ((l : ℕ) → b l ≤ c l) → (r : PreFault) → IsWithin b r → IsWithin c r
within_more b c w (faults.Region k) h = calls.within_more b c w k h
within_more b c w (faults.Cover k) h = h
within_more b c w (faults.Rank system k) h = h
within_more b c w faults.Memory h = tt

-- ---- regions together
some_product : (l : ℕ) (regions : List Region) → 1 ≤ product (some_counts_at l regions)
some_product l [] = le_refl 1
some_product l (r ∷ rs) = trans 1 (max 1 (count_at l r)) (max 1 (count_at l r) * product (some_counts_at l rs)) (le-max_left 1 (count_at l r)) (times_one (max 1 (count_at l r)) (product (some_counts_at l rs)) (some_product l rs))

taken_product : (l : ℕ) (regions : List Region) (j : ℕ) → product (counts_at l (take j regions)) ≤ product (some_counts_at l regions)
taken_product l [] zero = le_refl 1
taken_product l [] (suc j) = le_refl 1
taken_product l (r ∷ rs) zero = some_product l (r ∷ rs)
taken_product l (r ∷ rs) (suc j) = mul-le (count_at l r) (product (counts_at l (take j rs))) (max 1 (count_at l r)) (product (some_counts_at l rs)) (le-max_right 1 (count_at l r)) (taken_product l rs j)

taken_sum : (l : ℕ) (regions : List Region) (j : ℕ) → sum (counts_at l (take j regions)) ≤ sum (counts_at l regions)
taken_sum l [] zero = le_refl (sum [])
taken_sum l [] (suc j) = le_refl (sum [])
taken_sum l (r ∷ rs) zero = none_less (sum (counts_at l (r ∷ rs)))
taken_sum l (r ∷ rs) (suc j) =
    subst (λ n. n ≤ sum (counts_at l (r ∷ rs))) (sym (sum-cons (count_at l r) (counts_at l (take j rs))))
    (subst (λ n. count_at l r + sum (counts_at l (take j rs)) ≤ n) (sym (sum-cons (count_at l r) (counts_at l rs)))
    (plus (count_at l r) (sum (counts_at l (take j rs))) (count_at l r) (sum (counts_at l rs)) (le_refl (count_at l r)) (taken_sum l rs j)))

pub common_counted : (regions : List Region) (i : ℕ) (common r : Region) (budget : Budget) (fault : RegionFault) → i < length regions → r ≡ get_or regions i r → ((l : ℕ) → count_at l common ≤ product (counts_at l (take i regions))) → IsBothFault common r budget fault → IsFaultWithin (λ l. product (some_counts_at l regions)) fault
common_counted regions i common r budget fault n e bounded h =
    both_counted common r budget (λ l. product (some_counts_at l regions))
    (λ l. trans (count_at l common * count_at l r) (product (counts_at l (take i regions)) * count_at l r) (product (some_counts_at l regions))
    (mul-le (count_at l common) (count_at l r) (product (counts_at l (take i regions))) (count_at l r) (bounded l) (le_refl (count_at l r)))
    (subst (λ k. k ≤ product (some_counts_at l regions)) (ap product (counts_more l regions i r n e) ∙ product_last (counts_at l (take i regions)) (count_at l r)) (taken_product l regions (i + 1)))) fault h

pub whole_counted : (regions : List Region) (i : ℕ) (whole r : Region) (budget : Budget) (fault : RegionFault) → i < length regions → r ≡ get_or regions i r → ((l : ℕ) → count_at l whole ≤ sum (counts_at l (take i regions))) → IsEitherFault whole r budget fault → IsFaultWithin (λ l. sum (counts_at l regions)) fault
whole_counted regions i whole r budget fault n e bounded h =
    either_counted whole r budget (λ l. sum (counts_at l regions))
    (λ l. trans (count_at l whole + count_at l r) (sum (counts_at l (take i regions)) + count_at l r) (sum (counts_at l regions))
    (plus (count_at l whole) (count_at l r) (sum (counts_at l (take i regions))) (count_at l r) (bounded l) (le_refl (count_at l r)))
    (subst (λ k. k ≤ sum (counts_at l regions)) (ap sum (counts_more l regions i r n e) ∙ sum_last (counts_at l (take i regions)) (count_at l r)) (taken_sum l regions (i + 1)))) fault h

-- ---- going back
module _ (about : CaseSystem) where
  pub before_counted : (path : Path) (into : Region) (budget : Budget) (fault : RegionFault) (r : PreFault) → IsOfRegion fault r → IsBackFault about path into budget fault → IsCountedBefore about path into r
  before_counted path into budget fault r is h plain b bounded = region_within (next_count about.cases path b) fault r is (back_counted about into budget fault plain b bounded path h)

  pub before_staying : (path : Path) (into : Region) (r : PreFault) → IsCountedBefore about path into r → IsCountedStaying about path into r
  before_staying path into r h plain b bounded = within_more (next_count about.cases path b) (staying_count about.cases path b) (next_staying about.cases path b) r (h plain b bounded)

  pub stops_staying : (path : Path) (into none : Region) (r : PreFault) → path ≡ Any → IsNowhere about none → IsCountedBefore about Every none r → IsCountedStaying about path into r
  stops_staying Every into none r e n h = absurd cc
  stops_staying Any into none r e n h = λ plain b bounded.
      within_more (all_count about.cases (λ k. 0)) (staying_count about.cases Any b)
      (λ l. (let z = all_of_none about.cases l in omega (arith, z))) r (h plain (λ k. 0) (nowhere_few about none n))

  pub stay_counted : (path : Path) (into back none stops : Region) (budget : Budget) (fault : RegionFault) (r : PreFault) → path ≡ Any → IsNowhere about none → IsFewBefore about path into back → IsFewBefore about Every none stops → IsOfRegion fault r → IsEitherFault back stops budget fault → IsCountedStaying about path into r
  stay_counted Every into back none stops budget fault r e n bounded stop is h = absurd cc
  stay_counted Any into back none stops budget fault r e n bounded stop is h = λ plain b w.
      region_within (staying_count about.cases Any b) fault r is
      (either_counted back stops budget (staying_count about.cases Any b)
      (λ l. plus (count_at l back) (count_at l stops) (some_count about.cases b l) (stop_count about.cases l) (bounded plain b w l) (stops_few about none stops n plain stop l)) fault h)

-- ---- sides
pub end_one : (shape : Shape) (f g : ℕ → ℕ) (l : ℕ) → 1 ≤ f l → 1 ≤ g l → 1 ≤ end_count shape f g l
end_one Until f g l h k = k
end_one Weak f g l h k = k
end_one Release f g l h k = two_ones (f l) (g l) h k
end_one Strong f g l h k = two_ones (f l) (g l) h k

pub one_end_counted : (about : CaseSystem) (sides : Sides) (none : Region) (budget : Budget) (fault : RegionFault) (r : PreFault) → IsNowhere about none → two_ends sides.shape ≡ false → IsOfRegion fault r → IsEitherFault sides.second.now none budget fault → IsCountedEnd sides r
one_end_counted about sides none budget fault r n t is h f g bounded =
    region_within (end_count sides.shape f g) fault r is
    (either_counted sides.second.now none budget (end_count sides.shape f g)
    (λ l. subst (λ k. count_at l sides.second.now + count_at l none ≤ k) (sym (one_end_of sides.shape f g l t))
    (let z = nowhere_few about none n l in let s = bounded.second l in omega (arith, z, s))) fault h)

pub two_ends_counted : (sides : Sides) (budget : Budget) (fault : RegionFault) (r : PreFault) → two_ends sides.shape ≡ true → IsOfRegion fault r → IsBothFault sides.first.now sides.second.now budget fault → IsCountedEnd sides r
two_ends_counted sides budget fault r t is h f g bounded =
    region_within (end_count sides.shape f g) fault r is
    (both_counted sides.first.now sides.second.now budget (end_count sides.shape f g)
    (λ l. subst (λ k. count_at l sides.first.now * count_at l sides.second.now ≤ k) (sym (two_ends_of sides.shape f g l t))
    (mul-le (count_at l sides.first.now) (count_at l sides.second.now) (f l) (g l) (bounded.first l) (bounded.second l))) fault h)

module _ (about : CaseSystem) (sides : Sides) where
  -- ---- those on the way
  pub staying_onward : (into : Region) (r : PreFault) → IsCountedStaying about sides.path into r → IsCountedOnward about sides into r
  staying_onward into r h plain f g b full bounded =
      let staying = staying_count about.cases sides.path b in
      within_more staying (λ l. hold_count sides.shape f g l * staying l) (λ l. larger (hold_count sides.shape f g l) (staying l) (one_hold sides.shape f g l (full.some_first l) (full.some_second l))) r (h plain b bounded)

  pub onward_counted : (into stays hold : Region) (budget : Budget) (fault : RegionFault) (r : PreFault) → hold ≡ hold_side sides.shape sides.first.now sides.second.now → IsFewStaying about sides.path into stays → IsOfRegion fault r → IsBothFault hold stays budget fault → IsCountedOnward about sides into r
  onward_counted into stays hold budget fault r e bounded is h plain f g b full w =
      let bound = λ (l : ℕ). hold_count sides.shape f g l * staying_count about.cases sides.path b l in
      region_within bound fault r is
      (both_counted hold stays budget bound
      (λ l. mul-le (count_at l hold) (count_at l stays) (hold_count sides.shape f g l) (staying_count about.cases sides.path b l) (side_few sides f g full.counts hold e l) (bounded plain b w l)) fault h)

  pub goes_going : (all : Region) (r : PreFault) → IsEverywhere about all → IsCountedBefore about Any all r → IsCountedGoing about sides r
  goes_going all r a h plain f g full =
      let some = some_count about.cases (λ k. 1) in
      within_more some (λ l. hold_count sides.shape f g l * some l) (λ l. larger (hold_count sides.shape f g l) (some l) (one_hold sides.shape f g l (full.some_first l) (full.some_second l))) r (h plain (λ k. 1) (everywhere_few about all a))

  pub going_counted : (all goes hold : Region) (budget : Budget) (fault : RegionFault) (r : PreFault) → IsEverywhere about all → hold ≡ hold_side sides.shape sides.first.now sides.second.now → IsFewBefore about Any all goes → IsOfRegion fault r → IsBothFault hold goes budget fault → IsCountedGoing about sides r
  going_counted all goes hold budget fault r a e bounded is h plain f g full =
      let bound = λ (l : ℕ). hold_count sides.shape f g l * some_count about.cases (λ k. 1) l in
      region_within bound fault r is
      (both_counted hold goes budget bound
      (λ l. mul-le (count_at l hold) (count_at l goes) (hold_count sides.shape f g l) (some_count about.cases (λ k. 1) l) (side_few sides f g full.counts hold e l) (bounded plain (λ k. 1) (everywhere_few about all a) l)) fault h)

  -- ---- the fixpoint
  -- a refusal of a call on regions
  pub call_along : (budget : Budget) (k : ℕ) (r : PreFault) → (HasNoDraws about → (last : ℕ) → IsLastRound about 9 last → (f g : ℕ → ℕ) → AreFullyCounted sides f g → IsWithin (fix_count about.cases last sides.path sides.shape f g) r) → IsCountedAlong about budget k sides r
  call_along budget k r h plain last o f g full = call_few about budget (IsAskedAlong about k sides) (fix_count about.cases last sides.path sides.shape f g) r (h plain last o f g full)

  -- a refusal of a question with few targets
  pub cover_along : (budget : Budget) (k : ℕ) (own : Question → Type 0) → ((a : Question) → own a → IsAskedAlong about k sides a) → FewTargets about sides own → (fault : CoverFault) (r : PreFault) → IsOfCover fault r → IsRefusal about budget own fault → IsCountedAlong about budget k sides r
  cover_along budget k own asked few fault r is m plain last o f g full =
      cover_few about budget own (IsAskedAlong about k sides) (fix_count about.cases last sides.path sides.shape f g) asked (few plain last o f g full) fault r is m

  pub between_along : (budget : Budget) (k : ℕ) (end onward : Region) → IsFewJoined about sides (end ∷ onward ∷ []) → ((a : Question) → IsAskedBetween about end onward a → IsAskedAlong about k sides a) → (r : PreFault) → IsCountedBetween about budget end onward r → IsCountedAlong about budget k sides r
  between_along budget k end onward joined asked r h plain last o f g full =
      few_more about budget (IsAskedBetween about end onward) (IsAskedAlong about k sides) (λ l. length (lists_at l (joined_pieces (end ∷ onward ∷ [])))) (fix_count about.cases last sides.path sides.shape f g) asked (joined plain last o f g full.counts) r h

  pub end_along : (budget : Budget) (k : ℕ) (r : PreFault) → IsCountedEnd sides r → IsCountedAlong about budget k sides r
  end_along budget k r h = call_along budget k r (λ plain last is f g full.
      let ends = end_count sides.shape f g in
      within_more ends (fix_count about.cases last sides.path sides.shape f g)
      (λ l. within about sides f g last l (ends l) 0 (none_less last) (first_round sides.shape about.cases sides.path f g l)) r (h f g full.counts))

  pub going_along : (budget : Budget) (k : ℕ) → must_end sides.shape ≡ true → sides.path ≡ Every → about.start < about.locations → (r : PreFault) → IsCountedGoing about sides r → IsCountedAlong about budget k sides r
  going_along budget k must path start r h = call_along budget k r (λ plain last is f g full.
      let hold = hold_count sides.shape f g in
      let ends = end_count sides.shape f g in
      let some = some_count about.cases (λ k. 1) in
      within_more (λ l. hold l * some l) (fix_count about.cases last sides.path sides.shape f g)
      (λ l.
      (let all = all_count about.cases ends l in
      let m = mul-le (hold l) (some l) (hold l) (some l * all) (le_refl (hold l)) (times_one (some l) all (all_one about.cases ends l)) in
      let one : hold l * some l ≤ growing_count about.cases Every hold ends 1 l = omega (arith, m) in
      grown_within about sides f g last l must (hold l * some l) 1 (last_is_one about last start is) (subst (λ (p : Path). hold l * some l ≤ growing_count about.cases p hold ends 1 l) (sym path) one))) r (h plain f g full))

  module _ (end : Region) (bounded : IsFewEnd sides end) (point : FixedPoint) (of : IsOfSides sides end point) where
    -- a settled round that shrinks is followed by one more
    pub onward_along : (budget : Budget) (n : ℕ) → must_end sides.shape ≡ false → (k : ℕ) (round : Region) → IsRound false about point k round → ((last : ℕ) → IsLastRound about 9 last → suc k ≤ last) → (r : PreFault) → IsCountedOnward about sides round r → IsCountedAlong about budget n sides r
    onward_along budget n must k round is_round early r h = call_along budget n r (λ plain last is f g full.
        let hold = hold_count sides.shape f g in
        let ends = end_count sides.shape f g in
        let b = shrinking_count about.cases sides.path hold ends k in
        let rounds : (i : ℕ) → count_at i round ≤ b i = λ i. subst (λ (p : Path). count_at i round ≤ shrinking_count about.cases p hold ends k i) of.path (is_round.bounded plain hold ends (sides_counted sides f g full.counts end point of bounded) i) in
        let bound = λ (l : ℕ). hold l * staying_count about.cases sides.path b l in
        within_more bound (fix_count about.cases last sides.path sides.shape f g)
        (λ l. shrunk_within about sides f g last l must (bound l) (suc k) (early last is) (later (ends l) (bound l))) r (h plain f g b full rounds))
      where
        later : (a b : ℕ) → b ≤ a + b
        later a b = omega arith

    -- a refusal of the rounds
    module _ (cases : All (IsCase about.variables about.locations) about.cases) (start : about.start < about.locations) (n : ℕ) (is_last : IsLastRound about 8 n) where
      -- each round up to the last counts, and so does the next one where those before are open
      growth_within : (last : ℕ) (f g : ℕ → ℕ) (b : Bool) → must_end sides.shape ≡ b → (j : ℕ) → j ≤ last → (x : ℕ) → round_bound b about.cases point.path j (hold_count sides.shape f g) (end_count sides.shape f g) x ≤ fix_count about.cases last sides.path sides.shape f g x
      growth_within last f g true e j m x =
          let hold = hold_count sides.shape f g in
          let ends = end_count sides.shape f g in
          subst (λ (p : Path). growing_count about.cases p hold ends j x ≤ fix_count about.cases last sides.path sides.shape f g x) (sym of.path)
          (grown_within about sides f g last x e (growing_count about.cases sides.path hold ends j x) j m (le_refl (growing_count about.cases sides.path hold ends j x)))
      growth_within last f g false e j m x =
          let hold = hold_count sides.shape f g in
          let ends = end_count sides.shape f g in
          subst (λ (p : Path). shrinking_count about.cases p hold ends j x ≤ fix_count about.cases last sides.path sides.shape f g x) (sym of.path)
          (shrunk_within about sides f g last x e (shrinking_count about.cases sides.path hold ends j x) j m (le_refl (shrinking_count about.cases sides.path hold ends j x)))

      -- the region that another one is compared with is a round up to the last that counts
      compared_within : HasNoDraws about → (last : ℕ) → IsLastRound about 9 last → (f g : ℕ → ℕ) → AreFullyCounted sides f g → (b : Bool) → must_end sides.shape ≡ b → (k : ℕ) (inner outer : Region) → k ≤ n → AreOpen b about point k → IsCompared about point k b inner outer → (x : ℕ) → count_at x outer ≤ fix_count about.cases last sides.path sides.shape f g x
      compared_within plain last o f g full _ e k _ outer early opens (growing layer round a c) x =
          let hold = hold_count sides.shape f g in
          let ends = end_count sides.shape f g in
          let counts = sides_counted sides f g full.counts end point of bounded in
          trans (count_at x round) (growing_count about.cases point.path hold ends k x) (fix_count about.cases last sides.path sides.shape f g x) (c.bounded plain hold ends counts x)
          (growth_within last f g true e k (last_before about n last k is_last o early) x)
      compared_within plain last o f g full _ e k _ outer early opens (shrinking round next a c) x =
          let hold = hold_count sides.shape f g in
          let ends = end_count sides.shape f g in
          let counts = sides_counted sides f g full.counts end point of bounded in
          trans (count_at x next) (shrinking_count about.cases point.path hold ends (suc k) x) (fix_count about.cases last sides.path sides.shape f g x) (c.bounded plain hold ends counts x)
          (growth_within last f g false e (suc k) (one_later about cases n last k start is_last o early false point opens) x)

      pub rounds_along : (budget : Budget) (k : ℕ) → ((round : ℕ) (inner outer : Region) → round ≤ n → IsCompared about point round (must_end sides.shape) inner outer → (q : Piece) → Contains inner.pieces.items q → IsAskedAlong about k sides (lies q outer.pieces.items)) → (fault : RoundFault) (r : PreFault) → IsOfRounds fault r → answers.IsFaultOf (must_end sides.shape) about point n budget fault → IsCountedBy (must_end sides.shape) about point n fault → IsCountedAlong about budget k sides r
      rounds_along budget i asked fault (faults.Region k) is refused h plain last o f g full =
          let hold = hold_count sides.shape f g in
          let ends = end_count sides.shape f g in
          let w = subst (IsCountedBy (must_end sides.shape) about point n) is h in
          calls.within_more (round_bound (must_end sides.shape) about.cases point.path (suc w.at) hold ends) (fix_count about.cases last sides.path sides.shape f g)
          (λ x. growth_within last f g (must_end sides.shape) refl (suc w.at) (one_later about cases n last w.at start is_last o w.early (must_end sides.shape) point w.open_before) x) k
          (w.bounded plain hold ends (record {
            counts = sides_counted sides f g full.counts end point of bounded;
            some_hold = λ x. one_hold sides.shape f g x (full.some_first x) (full.some_second x);
            some_end = λ x. end_one sides.shape f g x (full.some_first x) (full.some_second x);
          }))
      rounds_along budget i asked fault (faults.Cover k) is refused h plain last o f g full =
          let m = subst (answers.IsFaultOf (must_end sides.shape) about point n budget) is refused in
          let v = m.0 in
          record {
            question = lies v.refused.piece v.outer.pieces.items;
            asked = asked v.round v.inner v.outer v.early v.compared v.refused.piece v.refused.among;
            few = λ x. compared_within plain last o f g full (must_end sides.shape) refl v.round v.inner v.outer v.early v.open_before v.compared x;
            refuses = v.refused.refused;
          }
      rounds_along budget i asked fault (faults.Rank system k) is refused h plain last o f g full = tt
      rounds_along budget i asked fault faults.Memory is refused h plain last o f g full = tt
