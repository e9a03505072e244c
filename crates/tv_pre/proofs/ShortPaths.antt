-- In a program without a cycle no path of cases is as long as there are locations.
use Rattle.std.proofs.Common.{◌≡◌, ◌⊎◌, inl, inr, ℕ, zero, suc, ◌+◌, ◌<◌, ◌≤◌, List, [], ◌∷◌, length, sym, ◌∙◌, subst, arith, true, false, ◌==◌}
use Rattle.std.specs.Prelude.{All, Contains}
use Rattle.std.specs.List.{list_any, IsDistinct, AllByRecursion}
use Rattle.std.proofs.lemmas.Bool.Decides.{nat_tests}
use Rattle.std.proofs.lemmas.List.{get_or_default}
use Rattle.std.proofs.lemmas.List.Elements.{All-contains}
use Rattle.std.proofs.lemmas.Map.Steps.{length-le_from_distinct_below}
use Rattle.tv_cases.specs.LinearCases.{LinearCase, CaseSystem, IsCase}
use Rattle.tv_known.specs.Cycles.{no_case, case_at, Leads, here, along, HasCycle}
use Rattle.std.proofs.lemmas.Bool.{or_cases}

-- no path of k cases leaves the location
abbrev pub IsShort : List LinearCase → ℕ → ℕ → Type 0
IsShort cases zero l = ⊥
IsShort cases (suc k) l = (c : LinearCase) → Contains cases c → c.from ≡ l → IsShort cases k c.to

-- ---- numbers that are apart
abbrev IsAmong : ℕ → List ℕ → Type 0
IsAmong l [] = ⊥
IsAmong l (v ∷ vs) = (l ≡ v) ⊎ IsAmong l vs

abbrev AreApart : List ℕ → Type 0
AreApart [] = Unit {0}
AreApart (v ∷ vs) = (IsAmong v vs → ⊥) × AreApart vs

apart_tests : (v : ℕ) (vs : List ℕ) → (IsAmong v vs → ⊥) → AllByRecursion (λ y. (v == y) ≡ false) vs
apart_tests v [] n = tt
apart_tests v (w ∷ vs) n = (let k : v ≡ w → ⊥ = λ e. n (inl e) in grind (arith, nat_tests), apart_tests v vs (λ h. n (inr h)))

distinct : (vs : List ℕ) → AreApart vs → IsDistinct (λ x y. x == y) vs
unfolding IsDistinct
distinct [] h = tt
distinct (v ∷ vs) h = (apart_tests v vs h.0, distinct vs h.1)

is_among : (q : ℕ) (vs : List ℕ) → list_any (λ y. q == y) vs ≡ true → IsAmong q vs
is_among q [] e = absurd cc
is_among q (v ∷ vs) e = elim (or_cases (q == v) (list_any (λ y. q == y) vs) e) [ inl t ↦ inl (let k : q ≡ v = grind (arith, nat_tests) in k) | inr t ↦ inr (is_among q vs t) ]

few_apart : (vs : List ℕ) (n : ℕ) → AreApart vs → ((q : ℕ) → IsAmong q vs → q < n) → length vs ≤ n
few_apart vs n h below = length-le_from_distinct_below vs n (distinct vs h) (λ q e. below q (is_among q vs e))

-- ---- paths
leads_then : (cases : List LinearCase) (u v w : ℕ) → Leads cases u v → Leads cases v w → Leads cases u w
leads_then cases u v w (here s) m = m
leads_then cases u v w (along k t l h) m = along k w l (leads_then cases (case_at cases k).to v w h m)

module _ (cases : List LinearCase) where
  -- the case as one with a number
  numbered : (c : LinearCase) → Contains cases c → (k : ℕ) × (k < length cases) × (case_at cases k ≡ c)
  numbered c m = (m.0, m.1, get_or_default cases m.0 no_case c m.1 ∙ m.2)

  one_step : (c : LinearCase) → Contains cases c → Leads cases c.from c.to
  one_step c m =
      let w = numbered c m in
      subst (λ (z : LinearCase). Leads cases z.from c.to) w.2 (along w.0 c.to w.1 (subst (λ (z : LinearCase). Leads cases (case_at cases w.0).to z.to) w.2 (here (case_at cases w.0).to)))

  -- some case leads to where it is reached from again
  abbrev IsCyclic : Type 0
  IsCyclic = (k : ℕ) × (k < length cases) × Leads cases (case_at cases k).to (case_at cases k).from

  -- some case from the location leads on to the other one
  record LeadsOn (u v : ℕ) : Type 0 where
    pub case : LinearCase
    pub among : Contains cases case
    pub leaves : case.from ≡ u
    pub onward : Leads cases case.to v

  has_cycle : (u : ℕ) → LeadsOn u u → IsCyclic
  has_cycle u h =
      let w = numbered h.case h.among in
      (w.0, w.1, subst (λ (z : LinearCase). Leads cases z.to z.from) (sym w.2) (subst (λ l. Leads cases h.case.to l) (sym h.leaves) h.onward))

  module _ (n : ℕ) (within : (c : LinearCase) → Contains cases c → c.to < n) (none : IsCyclic → ⊥) where
    -- the locations on the way are apart, and each leads on to this one
    short : (k : ℕ) (vs : List ℕ) (l : ℕ) → l < n → n ≤ k + length vs → AreApart vs → ((q : ℕ) → IsAmong q vs → (q < n) × LeadsOn q l) → IsShort cases k l
    short zero vs l in_range many apart way =
        let new : IsAmong l vs → ⊥ = λ h. none (has_cycle l (way l h).1) in
        let bounded : length (l ∷ vs) ≤ n = few_apart (l ∷ vs) n (new, apart) (λ q h. elim h [ inl e ↦ subst (λ x. x < n) (sym e) in_range | inr m ↦ (way q m).0 ]) in
        omega (arith, bounded, many)
    short (suc k) vs l in_range many apart way = λ c m e.
        (let new : IsAmong l vs → ⊥ = λ h. none (has_cycle l (way l h).1) in
        let step : Leads cases l c.to = subst (λ x. Leads cases x c.to) e (one_step c m) in
        short k (l ∷ vs) c.to (within c m) (omega (arith, many)) (new, apart) (λ q h. elim h [
          | inl w ↦ (subst (λ x. x < n) (sym w) in_range, record { case = c; among = m; leaves = e ∙ sym w; onward = here c.to })
          | inr w ↦ (let old = way q w in (old.0, record { case = old.1.case; among = old.1.among; leaves = old.1.leaves; onward = leads_then cases old.1.case.to l c.to old.1.onward step }))
        ]))

    pub no_long_path : (k l : ℕ) → n ≤ k → l < n → IsShort cases k l
    no_long_path k l long in_range = short k [] l in_range (omega (arith, long)) tt (λ q h. absurd h)

pub acyclic_short : (about : CaseSystem) → All (IsCase about.variables about.locations) about.cases → (HasCycle about → ⊥) → (l : ℕ) → l < about.locations → IsShort about.cases (suc about.locations) l
acyclic_short about cases none l in_range =
    no_long_path about.cases about.locations (λ c m. (All-contains (IsCase about.variables about.locations) about.cases c cases m).enters) none (suc about.locations) l (omega arith) in_range
