-- How many pieces the rounds have.
use Rattle.std.proofs.Common.{◌≡◌, inl, inr, ℕ, ◌+◌, ◌*◌, ◌≤◌, List, [], ◌∷◌, map, length, refl, sym, subst, arith, Bool, true, false, cond}
use Rattle.std.specs.Prelude.{max, sum, ◌==◌}
use Rattle.std.proofs.Math.Nat.{le-max_left, le-max_right}
use Rattle.tv_formula.specs.declared.tree.Path.{Path}
use Rattle.tv_formula.specs.declared.tree.Path.TheVariants.{Every, Any}
use Rattle.tv_linear.specs.declared.region.Piece.{Piece}
use Rattle.tv_linear.specs.declared.region.Region.{Region}
use Rattle.tv_cases.specs.LinearCases.{LinearCase, CaseSystem, leaving}
use Rattle.tv_cases.proofs.AmountLemmas.{sum-cons}
use Rattle.tv_region.specs.Met.{Has}
use Rattle.tv_region.specs.Adding.{row_product}
use Rattle.tv_region.specs.Regions.{lists_at, count_at}
use Rattle.tv_region.specs.Algebra.{IsRest}
use Rattle.tv_region.specs.Steps as regions
use Rattle.tv_region.specs.StepRegions.{HasNoDraws, IsBefore, IsBeforeAll}
use Rattle.tv_known.specs.Sizes.{product, some_count, all_count, stop_count, next_count}
use Rattle.tv_rounds.specs.Calls.{IsNowhere}
use Rattle.tv_rounds.specs.Walks.{IsBack, IsGoing, IsStopping}
use Rattle.tv_known.proofs.SizeLemmas.{trans, two_ones}
use Rattle.std.proofs.lemmas.Nat.{mul-le}

-- ---- over the cases from a location
product_one : (g : LinearCase → ℕ) → ((c : LinearCase) → 1 ≤ g c) → (cs : List LinearCase) → 1 ≤ product (map g cs)
product_one g w [] = omega arith
product_one g w (c ∷ cs) = two_ones (g c) (product (map g cs)) (w c) (product_one g w cs)

pub all_one : (cases : List LinearCase) (b : ℕ → ℕ) (l : ℕ) → 1 ≤ all_count cases b l
all_one cases b l = product_one (λ c. max 1 (length c.guards + b c.to)) (λ c. le-max_left 1 (length c.guards + b c.to)) (leaving l cases)

pub some_one : (cases : List LinearCase) (b : ℕ → ℕ) (l : ℕ) → 1 ≤ some_count cases b l
some_one cases b l = le-max_left 1 (sum (map (λ c. b c.to) (leaving l cases)))

summed : (b : Bool) (n m : ℕ) (g : LinearCase → ℕ) (c : LinearCase) (rest : List LinearCase) → n ≤ g c → m ≤ sum (map g rest) → cond b n 0 + m ≤ sum (map g (cond b (c ∷ rest) rest))
summed true n m g c rest h k = subst (λ x. n + m ≤ x) (sym (sum-cons (g c) (map g rest))) (omega (arith, h, k))
summed false n m g c rest h k = omega (arith, k)

multiplied : (b d : Bool) (n m : ℕ) (g : LinearCase → ℕ) (c : LinearCase) (rest : List LinearCase) → d ≡ true → n ≤ g c → m ≤ product (map g rest) → cond b (cond d n 1) 1 * m ≤ product (map g (cond b (c ∷ rest) rest))
multiplied true true n m g c rest e h k = mul-le n m (g c) (product (map g rest)) h k
multiplied true false n m g c rest e h k = cc
multiplied false d n m g c rest e h k = omega (arith, k)

no_draw : (n : ℕ) → n ≡ 0 → (n == 0) ≡ true
no_draw n e = subst (λ k. (k == 0) ≡ true) (sym e) refl

module _ (l : ℕ) (target : List Piece) (g : LinearCase → ℕ) where
  pub some_sum : (cs : List LinearCase) → ((c : LinearCase) → length (lists_at c.to target) ≤ g c) → regions.some_count l cs target ≤ sum (map g (leaving l cs))
  some_sum [] h = omega arith
  some_sum (c ∷ cs) h = summed (c.from == l) (length (lists_at c.to target)) (regions.some_count l cs target) g c (leaving l cs) (h c) (some_sum cs h)

  pub every_product : (cs : List LinearCase) → ((c : LinearCase) → Has cs c → c.draws ≡ 0) → ((c : LinearCase) → length c.guards + length (lists_at c.to target) ≤ g c) → regions.every_count l cs target ≤ product (map g (leaving l cs))
  every_product [] plain h = omega arith
  every_product (c ∷ cs) plain h =
      multiplied (c.from == l) (c.draws == 0) (length c.guards + length (lists_at c.to target)) (regions.every_count l cs target) g c (leaving l cs) (no_draw c.draws (plain c (inl refl))) (h c)
      (every_product cs (λ d m. plain d (inr m)) h)

-- ---- of the regions
module _ (about : CaseSystem) where
  -- going back from a region that has at most bound l pieces at location l
  module _ (bound : ℕ → ℕ) (target region : Region) (bounded : (l : ℕ) → count_at l target ≤ bound l) (l : ℕ) where
    some_few : IsBefore about target region → count_at l region ≤ some_count about.cases bound l
    some_few h =
        let s = sum (map (λ (c : LinearCase). bound c.to) (leaving l about.cases)) in
        trans (count_at l region) (regions.some_count l about.cases target.pieces.items) (max 1 s) (h.bounded l)
        (trans (regions.some_count l about.cases target.pieces.items) s (max 1 s) (some_sum l target.pieces.items (λ c. bound c.to) about.cases (λ c. bounded c.to)) (le-max_right 1 s))

    all_few : HasNoDraws about → IsBeforeAll about target region → count_at l region ≤ all_count about.cases bound l
    all_few plain h =
        trans (count_at l region) (regions.every_count l about.cases target.pieces.items) (all_count about.cases bound l) (h.bounded l plain)
        (every_product l target.pieces.items (λ c. max 1 (length c.guards + bound c.to)) about.cases plain
        (λ c. trans (length c.guards + count_at c.to target) (length c.guards + bound c.to) (max 1 (length c.guards + bound c.to)) (let f = bounded c.to in omega (arith, f)) (le-max_right 1 (length c.guards + bound c.to))))

    pub back_few : (path : Path) → HasNoDraws about → IsBack about path target region → count_at l region ≤ next_count about.cases path bound l
    back_few Every plain h = all_few plain h
    back_few Any plain h = some_few h

  pub none_at : (a : Region) → IsNowhere about a → (l : ℕ) → count_at l a ≤ 0
  none_at a n l = subst (λ ps. length (lists_at l ps) ≤ 0) (sym n.none) (omega arith)

  pub one_at : (a b : Region) → IsNowhere about a → IsRest a b → (l : ℕ) → count_at l b ≤ 1
  one_at a b n h l = subst (λ ps. count_at l b ≤ row_product (lists_at l ps)) n.none (h.bounded l)

  pub going_few : (region : Region) → IsGoing about region → (l : ℕ) → count_at l region ≤ some_count about.cases (λ k. 1) l
  going_few region h l = some_few (λ k. 1) h.everywhere region (one_at h.nowhere h.everywhere h.none h.all) l h.before

  pub stopping_few : (region : Region) → HasNoDraws about → IsStopping about region → (l : ℕ) → count_at l region ≤ stop_count about.cases l
  stopping_few region plain h l =
      trans (count_at l region) (regions.every_count l about.cases h.nowhere.pieces.items) (stop_count about.cases l) (h.before.bounded l plain)
      (every_product l h.nowhere.pieces.items (λ c. max 1 (length c.guards)) about.cases plain
      (λ c. trans (length c.guards + count_at c.to h.nowhere) (length c.guards) (max 1 (length c.guards)) (let z = none_at h.nowhere h.none c.to in omega (arith, z)) (le-max_right 1 (length c.guards))))
