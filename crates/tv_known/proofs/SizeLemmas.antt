-- What the size of a property bounds.
use Rattle.std.proofs.Common.{◌≡◌, inl, inr, ℕ, zero, suc, ◌+◌, ◌*◌, ◌<◌, ◌≤◌, List, [], ◌∷◌, ◌++◌, map, length, refl, sym, ap, subst, ◌∙◌, arith, Bool, true, false, cond}
use Rattle.std.specs.Prelude.{max, sum, Contains, ◌==◌}
use Rattle.std.proofs.Math.Nat.{le-max_left, le-max_right, le_refl}
use Rattle.std.proofs.lemmas.List.Elements.{Contains-append_cases}
use Rattle.tv_formula.specs.Properties.{Property, truth, compare, at, term, negated, all_of, some_of, next, fix, Properties, none, more}
use Rattle.tv_formula.specs.Normal.{normal, negation}
use Rattle.tv_cases.specs.LinearCases.{LinearCase, CaseSystem, from_of, leaving}
use Rattle.tv_cases.proofs.AmountLemmas.{sum-cons}
use Rattle.tv_cases.proofs.ContainsLemmas.{Contains-cases, Contains-none}
use Rattle.tv_known.specs.Subformulas.{subformulas, all_subformulas}
use Rattle.tv_known.specs.Sizes.{product, some_count, all_count, stop_count, round_count, greatest_up_to, count, negated_count, greatest_of_negated, greatest_count, greatest_counts, greatest_below, size_bound}
use Rattle.tv_known.specs.Laws.{SizeBoundsCounts, SizeBoundsRounds, EachCaseCounts}
use Rattle.tv_cases.proofs.Updated.{same_number}
use Rattle.tv_cases.proofs.ProductLemmas.{larger}
use Rattle.std.proofs.lemmas.Bool.{cases_eq}

-- ---- greatest numbers

pub trans : (a b c : ℕ) → a ≤ b → b ≤ c → a ≤ c
trans a b c h k = omega arith

pub below_greatest : (n : ℕ) (f : ℕ → ℕ) (k : ℕ) → k < n → f k ≤ greatest_below n f
below_greatest zero f k l = absurd (omega arith)
below_greatest (suc n) f k l = elim (cases_eq k n) [
  | inl e ↦ subst (λ j. f j ≤ greatest_below (suc n) f) (sym e) (le-max_right (greatest_below n f) (f n))
  | inr o ↦ trans (f k) (greatest_below n f) (greatest_below (suc n) f) (below_greatest n f k (omega arith)) (le-max_left (greatest_below n f) (f n))
]

pub up_to_greatest : (n : ℕ) (f : ℕ → ℕ) (k : ℕ) → k ≤ n → f k ≤ greatest_up_to n f
up_to_greatest zero f k l = subst (λ j. f j ≤ f 0) (sym (none_below k l)) (le_refl (f 0)) where
  none_below : (k : ℕ) → k ≤ 0 → k ≡ 0
  none_below k l = omega arith
up_to_greatest (suc n) f k l = elim (cases_eq k (suc n)) [
  | inl e ↦ subst (λ j. f j ≤ greatest_up_to (suc n) f) (sym e) (le-max_right (greatest_up_to n f) (f (suc n)))
  | inr o ↦ trans (f k) (greatest_up_to n f) (greatest_up_to (suc n) f) (up_to_greatest n f k (omega arith)) (le-max_left (greatest_up_to n f) (f (suc n)))
]

-- ---- subformulas

module _ (cases : List LinearCase) (last l : ℕ) where
  own_negated : (f : Property) → negated_count cases last f l ≤ greatest_of_negated cases last f l
  own_negated term = le-max_left _ _
  own_negated (truth b) = le_refl 1
  own_negated (compare r a b) = le_refl 1
  own_negated (at k) = le_refl 1
  own_negated (negated f) = le_refl 1
  own_negated (all_of fs) = le_refl 1
  own_negated (some_of fs) = le_refl 1
  own_negated (next p f) = le_refl 1
  own_negated (fix p w f g) = le_refl 1

  own_count : (f : Property) → count cases last f l ≤ greatest_count cases last f l
  own_count (truth b) = le_refl 1
  own_count (compare r a b) = le_refl (count cases last (compare r a b) l)
  own_count (at k) = le_refl 1
  own_count term = le-max_left _ _
  own_count (negated f) = own_negated f
  own_count (all_of fs) = le-max_left (count cases last (all_of fs) l) (greatest_counts cases last fs l)
  own_count (some_of fs) = le-max_left (count cases last (some_of fs) l) (greatest_counts cases last fs l)
  own_count (next p f) = le-max_left (count cases last (next p f) l) (greatest_count cases last f l)
  own_count (fix p w f g) = le-max_left _ _

  -- the one subformula, or one further in
  one_or : (f part : Property) (rest : List Property) → count cases last f l ≤ greatest_count cases last f l → (Contains rest part → count cases last part l ≤ greatest_count cases last f l) → Contains (f ∷ rest) part → count cases last part l ≤ greatest_count cases last f l
  one_or f part rest own later c = elim (Contains-cases f part rest c) [ inl e ↦ subst (λ g. count cases last g l ≤ greatest_count cases last f l) e own | inr k ↦ later k ]

  alone : (f part : Property) → count cases last f l ≤ greatest_count cases last f l → Contains (f ∷ []) part → count cases last part l ≤ greatest_count cases last f l
  alone f part own c = one_or f part [] own (λ k. absurd (Contains-none part k)) c

  mutual
    pub part_count : (f part : Property) → Contains (subformulas f) part → count cases last part l ≤ greatest_count cases last f l
    part_count (truth b) part c = alone (truth b) part (own_count (truth b)) c
    part_count (compare r a b) part c = alone (compare r a b) part (own_count (compare r a b)) c
    part_count (at k) part c = alone (at k) part (own_count (at k)) c
    part_count term part c = alone term part (own_count term) c
    part_count (negated f) part c = alone (negated f) part (own_count (negated f)) c
    part_count (all_of fs) part c =
        one_or (all_of fs) part (all_subformulas fs) (own_count (all_of fs))
        (λ k. trans (count cases last part l) (greatest_counts cases last fs l) (greatest_count cases last (all_of fs) l) (parts_count fs part k) (le-max_right (count cases last (all_of fs) l) (greatest_counts cases last fs l))) c
    part_count (some_of fs) part c =
        one_or (some_of fs) part (all_subformulas fs) (own_count (some_of fs))
        (λ k. trans (count cases last part l) (greatest_counts cases last fs l) (greatest_count cases last (some_of fs) l) (parts_count fs part k) (le-max_right (count cases last (some_of fs) l) (greatest_counts cases last fs l))) c
    part_count (next p f) part c =
        one_or (next p f) part (subformulas f) (own_count (next p f))
        (λ k. trans (count cases last part l) (greatest_count cases last f l) (greatest_count cases last (next p f) l) (part_count f part k) (le-max_right (count cases last (next p f) l) (greatest_count cases last f l))) c
    part_count (fix p w f g) part c =
        let a = greatest_count cases last f l in
        let b = greatest_count cases last g l in
        let side = le-max_right (count cases last (fix p w f g) l) (max a b) in
        one_or (fix p w f g) part (subformulas f ++ subformulas g) (own_count (fix p w f g))
        (λ k. elim (Contains-append_cases (subformulas f) (subformulas g) part k) [
          | inl left ↦ trans (count cases last part l) (max a b) (greatest_count cases last (fix p w f g) l) (trans (count cases last part l) a (max a b) (part_count f part left) (le-max_left a b)) side
          | inr right ↦ trans (count cases last part l) (max a b) (greatest_count cases last (fix p w f g) l) (trans (count cases last part l) b (max a b) (part_count g part right) (le-max_right a b)) side
        ]) c

    parts_count : (fs : Properties) (part : Property) → Contains (all_subformulas fs) part → count cases last part l ≤ greatest_counts cases last fs l
    parts_count none part c = absurd (Contains-none part c)
    parts_count (more f fs) part c =
        let a = greatest_count cases last f l in
        let b = greatest_counts cases last fs l in
        elim (Contains-append_cases (subformulas f) (all_subformulas fs) part c) [
          | inl here ↦ trans (count cases last part l) a (max a b) (part_count f part here) (le-max_left a b)
          | inr later ↦ trans (count cases last part l) b (max a b) (parts_count fs part later) (le-max_right a b)
        ]

pub bounds_counts : (about : CaseSystem) (last : ℕ) (f : Property) → SizeBoundsCounts about last f
bounds_counts about last f part l stands inside =
    let a = greatest_count about.cases last (normal f) l in
    let b = greatest_count about.cases last (negation f) l in
    let all = below_greatest about.locations (λ k. max (greatest_count about.cases last (normal f) k) (greatest_count about.cases last (negation f) k)) l inside in
    elim (Contains-append_cases (subformulas (normal f)) (subformulas (negation f)) part stands) [
      | inl is ↦ trans (count about.cases last part l) (max a b) (size_bound about last f) (trans (count about.cases last part l) a (max a b) (part_count about.cases last l (normal f) part is) (le-max_left a b)) all
      | inr is ↦ trans (count about.cases last part l) (max a b) (size_bound about last f) (trans (count about.cases last part l) b (max a b) (part_count about.cases last l (negation f) part is) (le-max_right a b)) all
    ]

pub bounds_rounds : (about : CaseSystem) (last : ℕ) (f : Property) → SizeBoundsRounds about last f
bounds_rounds about last f path shape left right k l stands early inside =
    trans (round_count about.cases path shape (count about.cases last left) (count about.cases last right) k l) (count about.cases last (fix path shape left right) l) (size_bound about last f)
    (up_to_greatest last (λ j. round_count about.cases path shape (count about.cases last left) (count about.cases last right) j l) k early)
    (bounds_counts about last f (fix path shape left right) l stands inside)

-- ---- cases from a location

pub times_one : (a b : ℕ) → 1 ≤ b → a ≤ a * b
times_one a b l = grind arith

pub two_ones : (a b : ℕ) → 1 ≤ a → 1 ≤ b → 1 ≤ a * b
two_ones a b l m = grind arith

pub plus_first : (a b : ℕ) → a ≤ a + b
plus_first a b = omega arith

plus_later : (a b n : ℕ) → n ≤ b → n ≤ a + b
plus_later a b n h = omega arith

module _ (g : LinearCase → ℕ) (l : ℕ) where
  -- a case from the location adds its number
  added_up : (b : Bool) (c : LinearCase) (rest : List LinearCase) → b ≡ true → g c ≤ sum (map g (cond b (c ∷ rest) rest))
  added_up true c rest e = subst (λ n. g c ≤ n) (sym (sum-cons (g c) (map g rest))) (plus_first (g c) (sum (map g rest)))
  added_up false c rest e = absurd cc

  further_up : (b : Bool) (c : LinearCase) (rest : List LinearCase) (n : ℕ) → n ≤ sum (map g rest) → n ≤ sum (map g (cond b (c ∷ rest) rest))
  further_up true c rest n h = subst (λ m. n ≤ m) (sym (sum-cons (g c) (map g rest))) (plus_later (g c) (sum (map g rest)) n h)
  further_up false c rest n h = h

  in_sum : (cases : List LinearCase) (c : LinearCase) → Contains cases c → from_of c ≡ l → g c ≤ sum (map g (leaving l cases))
  in_sum [] c k e = absurd (Contains-none c k)
  in_sum (d ∷ cases) c k e = elim (Contains-cases d c cases k) [
    | inl is ↦ subst (λ x. g x ≤ sum (map g (leaving l (d ∷ cases)))) is (added_up (from_of d == l) d (leaving l cases) (subst (λ n. (n == l) ≡ true) (sym (ap from_of is ∙ e)) (same_number l)))
    | inr later ↦ further_up (from_of d == l) d (leaving l cases) (g c) (in_sum cases c later e)
  ]

  -- and multiplies by it, where each number is at least 1
  module _ (positive : (c : LinearCase) → 1 ≤ g c) where
    at_least_one : (rest : List LinearCase) → 1 ≤ product (map g rest)
    at_least_one [] = omega arith
    at_least_one (c ∷ rest) = two_ones (g c) (product (map g rest)) (positive c) (at_least_one rest)

    multiplied : (b : Bool) (c : LinearCase) (rest : List LinearCase) → b ≡ true → g c ≤ product (map g (cond b (c ∷ rest) rest))
    multiplied true c rest e = times_one (g c) (product (map g rest)) (at_least_one rest)
    multiplied false c rest e = absurd cc

    further_times : (b : Bool) (c : LinearCase) (rest : List LinearCase) (n : ℕ) → n ≤ product (map g rest) → n ≤ product (map g (cond b (c ∷ rest) rest))
    further_times true c rest n h = trans n (product (map g rest)) (g c * product (map g rest)) h (larger (g c) (product (map g rest)) (positive c))
    further_times false c rest n h = h

    in_product : (cases : List LinearCase) (c : LinearCase) → Contains cases c → from_of c ≡ l → g c ≤ product (map g (leaving l cases))
    in_product [] c k e = absurd (Contains-none c k)
    in_product (d ∷ cases) c k e = elim (Contains-cases d c cases k) [
      | inl is ↦ subst (λ x. g x ≤ product (map g (leaving l (d ∷ cases)))) is (multiplied (from_of d == l) d (leaving l cases) (subst (λ n. (n == l) ≡ true) (sym (ap from_of is ∙ e)) (same_number l)))
      | inr later ↦ further_times (from_of d == l) d (leaving l cases) (g c) (in_product cases c later e)
    ]

pub each_counts : (cases : List LinearCase) (count : ℕ → ℕ) (c : LinearCase) → Contains cases c → EachCaseCounts cases count c
each_counts cases count c k = record {
  some = trans (count c.to) (sum (map (λ d. count d.to) (leaving c.from cases))) (some_count cases count c.from) (in_sum (λ d. count d.to) c.from cases c k refl) (le-max_right 1 (sum (map (λ d. count d.to) (leaving c.from cases))));
  all =
      trans (length c.guards + count c.to) (max 1 (length c.guards + count c.to)) (all_count cases count c.from) (le-max_right 1 (length c.guards + count c.to))
      (in_product (λ d. max 1 (length d.guards + count d.to)) c.from (λ d. le-max_left 1 (length d.guards + count d.to)) cases c k refl);
  stop =
      trans (length c.guards) (max 1 (length c.guards)) (stop_count cases c.from) (le-max_right 1 (length c.guards))
      (in_product (λ d. max 1 (length d.guards)) c.from (λ d. le-max_left 1 (length d.guards)) cases c k refl);
}
