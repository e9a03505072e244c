-- How many pieces a refused call on regions reports.
use Rattle.std.proofs.Common.{◌≡◌, inl, inr, ℕ, ◌+◌, ◌*◌, ◌≤◌, List, [], ◌∷◌, ◌++◌, map, length, refl, sym, subst, arith, cond}
use Rattle.std.specs.Prelude.{max, sum, ◌==◌}
use Rattle.std.proofs.Math.Nat.{le-max_left, le-max_right, min-le_left}
use Rattle.tv_formula.specs.declared.tree.Path.{Path}
use Rattle.tv_formula.specs.declared.tree.Path.TheVariants.{Every, Any}
use Rattle.tv_linear.specs.Linear.{Linear}
use Rattle.tv_linear.specs.declared.region.Region.{Region}
use Rattle.tv_farkas.specs.declared.budget.Budget.{Budget}
use Rattle.tv_cases.specs.LinearCases.{LinearCase, CaseSystem, leaving}
use Rattle.tv_region.specs.Met.{Has}
use Rattle.tv_region.specs.Regions.{lists_at, count_at, HasRow, capped, IsCount, IsRegionFault}
use Rattle.tv_region.specs.Algebra.{OfEither, OfRest, denied_count, IsBothFault, IsEitherFault, IsRestFault}
use Rattle.tv_region.specs.Adding.{IsWideDenial, NoColumn, row_product}
use Rattle.tv_region.specs.Steps as regions
use Rattle.tv_region.specs.Steps.{drawn_cases}
use Rattle.tv_region.specs.StepRegions.{HasNoDraws, MadeBefore, IsWideBefore, IsEveryCount, of_plain, of_drawn, of_joined, IsAnyFault, IsEveryFault}
use Rattle.tv_region.specs.declared.fault.RegionFault.{RegionFault}
use Rattle.tv_region.specs.declared.fault.RegionFault.TheVariants.{Disjuncts, Wide, Solve, Memory}
use Rattle.tv_known.specs.Sizes.{some_count, all_count, stop_count, next_count}
use Rattle.tv_rounds.specs.Calls.{IsNowhere}
use Rattle.tv_rounds.specs.Counts.{IsFaultWithin}
use Rattle.tv_rounds.specs.Walks.{IsBackFault, IsGoingFault, IsStoppingFault}
use Rattle.tv_rounds.proofs.CountLemmas.{some_sum, every_product, none_at, one_at}
use Rattle.tv_known.proofs.SizeLemmas.{trans}

-- ---- cases with draws
none_drawn : (cs : List LinearCase) → ((c : LinearCase) → Has cs c → c.draws ≡ 0) → (d : LinearCase) → Has (drawn_cases cs) d → ⊥
none_drawn [] plain d h = h
none_drawn (c ∷ cs) plain d h = none_drawn cs (λ x m. plain x (inr m)) d (subst (λ n. Has (cond (n == 0) (drawn_cases cs) (c ∷ drawn_cases cs)) d) (plain c (inl refl)) h)

has_middle : (before after : List LinearCase) (c : LinearCase) → Has (before ++ c ∷ after) c
has_middle [] after c = inl refl
has_middle (b ∷ before) after c = inr (has_middle before after c)

-- ---- what a call reports
pub within_more : (b c : ℕ → ℕ) → ((l : ℕ) → b l ≤ c l) → (fault : RegionFault) → IsFaultWithin b fault → IsFaultWithin c fault
within_more b c w (Disjuncts l k) h = trans k (b l) (c l) h (w l)
within_more b c w (Wide column) h = tt
within_more b c w (Solve rows fault) h = tt
within_more b c w Memory h = tt

-- a capped number is no greater
told_less : (k n m : ℕ) → k ≡ capped n → n ≤ m → k ≤ m
told_less k n m e l = subst (λ j. j ≤ m) (sym e) (trans (capped n) n m (min-le_left n _) l)

fault_within : (n : ℕ) (Made : ℕ → Linear → Type 0) (TooWide : ℕ → Type 0) (Counted : ℕ → ℕ → Type 0) (budget : Budget) (bound : ℕ → ℕ) → ((l k : ℕ) → Counted l k → k ≤ bound l) → (fault : RegionFault) → IsRegionFault n Made TooWide Counted budget fault → IsFaultWithin bound fault
fault_within n Made TooWide Counted budget bound less (Disjuncts l k) h = less l k h.0
fault_within n Made TooWide Counted budget bound less (Wide column) h = tt
fault_within n Made TooWide Counted budget bound less (Solve rows fault) h = tt
fault_within n Made TooWide Counted budget bound less Memory h = tt

pub both_counted : (a b : Region) (budget : Budget) (bound : ℕ → ℕ) → ((l : ℕ) → count_at l a * count_at l b ≤ bound l) → (fault : RegionFault) → IsBothFault a b budget fault → IsFaultWithin bound fault
both_counted a b budget bound w fault h =
    fault_within a.variables (OfEither a b) NoColumn (IsCount (λ l. count_at l a * count_at l b)) budget bound (λ l k e. told_less k (count_at l a * count_at l b) (bound l) e (w l)) fault h

pub either_counted : (a b : Region) (budget : Budget) (bound : ℕ → ℕ) → ((l : ℕ) → count_at l a + count_at l b ≤ bound l) → (fault : RegionFault) → IsEitherFault a b budget fault → IsFaultWithin bound fault
either_counted a b budget bound w fault h =
    fault_within a.variables (OfEither a b) NoColumn (IsCount (λ l. count_at l a + count_at l b)) budget bound (λ l k e. told_less k (count_at l a + count_at l b) (bound l) e (w l)) fault h

module _ (about : CaseSystem) where
  -- the complement of no states is one piece
  everywhere_counted : (a : Region) (budget : Budget) (bound : ℕ → ℕ) → IsNowhere about a → ((l : ℕ) → 1 ≤ bound l) → (fault : RegionFault) → IsRestFault a budget fault → IsFaultWithin bound fault
  everywhere_counted a budget bound n w fault h =
      fault_within a.variables (OfRest a) (IsWideDenial (HasRow a)) (IsCount (denied_count a)) budget bound
      (λ l k e. told_less k (denied_count a l) (bound l) e (subst (λ ps. row_product (lists_at l ps) ≤ bound l) (sym n.none) (w l))) fault h

  module _ (target : Region) (budget : Budget) (fault : RegionFault) where
    any_counted : (b : ℕ → ℕ) → ((l : ℕ) → count_at l target ≤ b l) → IsAnyFault about target budget fault → IsFaultWithin (some_count about.cases b) fault
    any_counted b bounded h =
        fault_within about.variables (MadeBefore about target) (IsWideBefore about target) (IsCount (λ l. regions.some_count l about.cases target.pieces.items)) budget (some_count about.cases b)
        (λ l k e. (let s = sum (map (λ (c : LinearCase). b c.to) (leaving l about.cases)) in
        told_less k (regions.some_count l about.cases target.pieces.items) (max 1 s) e
        (trans (regions.some_count l about.cases target.pieces.items) s (max 1 s) (some_sum l target.pieces.items (λ c. b c.to) about.cases (λ c. bounded c.to)) (le-max_right 1 s)))) fault h

    module _ (plain : HasNoDraws about) where
      each_told : (bound : ℕ → ℕ) → ((l : ℕ) → regions.every_count l about.cases target.pieces.items ≤ bound l) → (l k : ℕ) → IsEveryCount about target.pieces.items l k → k ≤ bound l
      each_told bound w _ _ (of_plain l k e) = told_less k (regions.every_count l about.cases target.pieces.items) (bound l) e (w l)
      each_told bound w _ _ (of_drawn l k c m is) = absurd (none_drawn about.cases plain c m)
      each_told bound w _ _ (of_joined l k before after c first second e from one all is) = absurd (none_drawn about.cases plain c (subst (λ cs. Has cs c) (sym e) (has_middle before after c)))

      every_counted : (bound : ℕ → ℕ) → ((l : ℕ) → regions.every_count l about.cases target.pieces.items ≤ bound l) → IsEveryFault about target budget fault → IsFaultWithin bound fault
      every_counted bound w h =
          fault_within about.variables (MadeBefore about target) (IsWideBefore about target) (IsEveryCount about target.pieces.items) budget bound (each_told bound w) fault h

      all_counted : (b : ℕ → ℕ) → ((l : ℕ) → count_at l target ≤ b l) → IsEveryFault about target budget fault → IsFaultWithin (all_count about.cases b) fault
      all_counted b bounded h =
          every_counted (all_count about.cases b)
          (λ l. every_product l target.pieces.items (λ c. max 1 (length c.guards + b c.to)) about.cases plain
          (λ c. trans (length c.guards + count_at c.to target) (length c.guards + b c.to) (max 1 (length c.guards + b c.to)) (let f = bounded c.to in omega (arith, f)) (le-max_right 1 (length c.guards + b c.to)))) h

      -- going back into a region that has at most b l pieces at location l
      pub back_counted : (b : ℕ → ℕ) → ((l : ℕ) → count_at l target ≤ b l) → (path : Path) → IsBackFault about path target budget fault → IsFaultWithin (next_count about.cases path b) fault
      back_counted b bounded Every h = all_counted b bounded h
      back_counted b bounded Any h = any_counted b bounded h

      none_counted : IsNowhere about target → IsEveryFault about target budget fault → IsFaultWithin (stop_count about.cases) fault
      none_counted n h =
          every_counted (stop_count about.cases)
          (λ l. every_product l target.pieces.items (λ c. max 1 (length c.guards)) about.cases plain
          (λ c. trans (length c.guards + count_at c.to target) (length c.guards) (max 1 (length c.guards)) (let z = none_at about target n c.to in omega (arith, z)) (le-max_right 1 (length c.guards)))) h

  pub going_counted : (budget : Budget) (fault : RegionFault) → IsGoingFault about budget fault → IsFaultWithin (some_count about.cases (λ k. 1)) fault
  going_counted budget fault (nowhere, n, inl h) = everywhere_counted nowhere budget (some_count about.cases (λ k. 1)) n (λ l. le-max_left 1 (sum (map (λ (c : LinearCase). 1) (leaving l about.cases)))) fault h
  going_counted budget fault (nowhere, n, inr h) = any_counted h.0 budget fault (λ k. 1) (one_at about nowhere h.0 n h.1) h.2

  pub stopping_counted : HasNoDraws about → (budget : Budget) (fault : RegionFault) → IsStoppingFault about budget fault → IsFaultWithin (stop_count about.cases) fault
  stopping_counted plain budget fault (nowhere, n, h) = none_counted nowhere budget fault plain n h
