-- Lexicographic linear rankings over the rationals.
use Rattle.std.specs.Prelude.{◌≡◌, ℕ, ◌+◌, ◌<◌, List, [], length, map, get_or, All, ℤ, pos, ◌+ℤ◌, ◌≤ℤ◌, slice_index_or}
use Rattle.tv_linear.specs.Linear.{Linear, linear, columns, scaled_value, IsScaledPoint}
use Rattle.tv_linear.specs.Known.{Term, kept, put}
use Rattle.tv_linear.specs.Terms.{terms_after}
use Rattle.tv_cases.specs.LinearCases.{LinearCase, CaseSystem}
use Rattle.tv_known.specs.Cycles.{case_at, AreTogether}

-- the values and draws xs / z meet the guards of the case
pub record IsCasePoint (v : ℕ) (c : LinearCase) (xs : List ℤ) (z : ℤ) : Type 0 where
  pub width : length xs ≡ v + c.draws
  pub meets : IsScaledPoint c.guards xs z

-- some rational values and draws meet the guards of the case
abbrev pub HasCasePoint : ℕ → LinearCase → Type 0
HasCasePoint v c = (xs : List ℤ) × (z : ℤ) × IsCasePoint v c xs z

-- the term at a location
abbrev pub term_at : List Linear → ℕ → Linear
term_at terms l = get_or terms l (linear [] (pos 0))

-- the value of what a case puts for a variable at the rational point xs / z, times z
abbrev pub scaled_term : List ℤ → ℤ → Term → ℤ
scaled_term xs z (kept v) = slice_index_or xs v (pos 0)
scaled_term xs z (put r) = scaled_value r xs z

-- the scaled value of the term where the case starts, before it, and of the term where it ends, after it
abbrev pub value_before : List Linear → LinearCase → List ℤ → ℤ → ℤ
value_before terms c xs z = scaled_value (term_at terms c.from) xs z

abbrev pub value_after : ℕ → List Linear → LinearCase → List ℤ → ℤ → ℤ
value_after v terms c xs z = scaled_value (term_at terms c.to) (map (scaled_term xs z) (terms_after v c.updates)) z

-- The terms grow over none of the first cases at any rational point, and over the falling one they fall by at least 1 from a value of at
-- least 0.
pub record RanksCases (v many : ℕ) (cases : ℕ → LinearCase) (falling : ℕ) (terms : List Linear) : Type 0 where
  pub grows_nowhere : (k : ℕ) → k < many → (xs : List ℤ) (z : ℤ) → IsCasePoint v (cases k) xs z → value_after v terms (cases k) xs z ≤ℤ value_before terms (cases k) xs z
  pub bounded : (xs : List ℤ) (z : ℤ) → IsCasePoint v (cases falling) xs z → pos 0 ≤ℤ value_before terms (cases falling) xs z
  pub falls : (xs : List ℤ) (z : ℤ) → IsCasePoint v (cases falling) xs z → (value_after v terms (cases falling) xs z +ℤ z) ≤ℤ value_before terms (cases falling) xs z

-- the case at a place of a set of case numbers
abbrev pub case_in : CaseSystem → List ℕ → ℕ → LinearCase
case_in about set k = case_at about.cases (get_or set k 0)

-- case numbers of one component: the locations of these cases all reach each other
pub record AreInside (about : CaseSystem) (set : List ℕ) : Type 0 where
  pub numbered : (k : ℕ) → k < length set → get_or set k 0 < length about.cases
  pub inside : (k : ℕ) → k < length set → AreTogether about.cases (case_in about set k).from (case_in about set k).to
  pub together : (k j : ℕ) → k < length set → j < length set → AreTogether about.cases (case_in about set k).from (case_in about set j).from

-- The cases have a lexicographic linear ranking over the rationals: for every nonempty set of cases inside one component that each have a
-- rational point there are a case of it and a term for each location, with whole coefficients, that grow over no case of the set at any of
-- its rational points, and over the one case fall by at least 1 from a value of at least 0.
abbrev pub HasLexicographicRanking : CaseSystem → Type 0
HasLexicographicRanking about =
    (set : List ℕ) → 0 < length set → AreInside about set → ((k : ℕ) → k < length set → HasCasePoint about.variables (case_in about set k)) →
    (falling : ℕ) × (falling < length set) × (terms : List Linear) × All (λ t. columns t ≡ about.variables) terms
    × RanksCases about.variables (length set) (case_in about set) falling terms
