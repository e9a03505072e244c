-- The subformulas of a normal property, and the comparisons in it.
use Rattle.std.specs.Prelude.{◌≡◌, ℕ, suc, ◌+◌, ◌*◌, ◌≤◌, List, [], ◌∷◌, ◌++◌}
use Rattle.tv_formula.specs.declared.tree.Path.TheVariants.{Every, Any}
use Rattle.tv_formula.specs.declared.tree.Shape.TheVariants.{Until, Release}
use Rattle.tv_formula.specs.Properties.{Property, truth, compare, at, term, negated, all_of, some_of, next, fix, Properties, none, more}
use Rattle.tv_formula.specs.Normal.{normal}
use Rattle.tv_formula.specs.Forms.{never_at}
use Rattle.tv_linear.specs.Linear.{Linear}
use Rattle.tv_cases.specs.Comparisons.{comparison_lists}
use Rattle.tv_cases.specs.LinearCases.{CaseSystem, CaseSteps}
use Rattle.tv_meaning.specs.Meaning.{Holds}
use Rattle.tv_known.specs.Cycles.{HasCycle}
use Rattle.tv_known.specs.Rounds.{IsFixSettled, Goes, Stops}

abbrev mutual
  -- the property and its subformulas, each before its arguments and these in order; a negation stands with what it negates
  pub subformulas : Property → List Property
  subformulas (truth b) = truth b ∷ []
  subformulas (compare r a b) = compare r a b ∷ []
  subformulas (at l) = at l ∷ []
  subformulas term = term ∷ []
  subformulas (negated f) = negated f ∷ []
  subformulas (all_of fs) = all_of fs ∷ all_subformulas fs
  subformulas (some_of fs) = some_of fs ∷ all_subformulas fs
  subformulas (next path f) = next path f ∷ subformulas f
  subformulas (fix path shape f g) = fix path shape f g ∷ subformulas f ++ subformulas g

  pub all_subformulas : Properties → List Property
  all_subformulas none = []
  all_subformulas (more f fs) = subformulas f ++ all_subformulas fs

-- ---- comparisons

-- the rows of the lists of a comparison, over n variables
abbrev pub joined_rows : List (List Linear) → List Linear
joined_rows [] = []
joined_rows (l ∷ ls) = l ++ joined_rows ls

abbrev pub own_rows : ℕ → Property → List Linear
own_rows n (truth b) = []
own_rows n (compare r a b) = joined_rows (comparison_lists n r a b)
own_rows n (at l) = []
own_rows n term = []
own_rows n (negated f) = []
own_rows n (all_of fs) = []
own_rows n (some_of fs) = []
own_rows n (next path f) = []
own_rows n (fix path shape f g) = []

abbrev pub rows_of_all : ℕ → List Property → List Linear
rows_of_all n [] = []
rows_of_all n (f ∷ fs) = own_rows n f ++ rows_of_all n fs

-- the rows of the comparisons of a normal property
abbrev pub comparison_rows : ℕ → Property → List Linear
comparison_rows n f = rows_of_all n (subformulas f)

-- ---- how often rows are put before cases

abbrev pub own_weight : Property → ℕ
own_weight (truth b) = 0
own_weight (compare r a b) = 0
own_weight (at l) = 0
own_weight term = 2
own_weight (negated term) = 2
own_weight (negated f) = 0
own_weight (all_of fs) = 0
own_weight (some_of fs) = 0
own_weight (next path f) = 1
own_weight (fix path shape f g) = 1

abbrev pub weight : List Property → ℕ
weight [] = 0
weight (f ∷ fs) = own_weight f + weight fs

-- at most 10 times in a program with a cycle, and 10 more for each next and fixpoint of the normal property; `term` counts as two
abbrev pub IsAllowed : CaseSystem → Property → ℕ → Type 0
IsAllowed about f h = HasCycle about → h ≤ 10 * suc (weight (subformulas (normal f)))

-- ---- forms of properties

abbrev pub IsTermination : Property → Type 0
IsTermination f = normal f ≡ term

abbrev pub IsUnreachable : ℕ → Property → Type 0
IsUnreachable l f = normal f ≡ never_at l

-- ---- what is not settled

-- the property is a fixpoint, or `term` or its negation, that round k does not settle
abbrev pub IsUnsettledNot : CaseSystem → ℕ → Property → Type 0
IsUnsettledNot about k term = IsFixSettled about Any Release (λ s. ⊥) (Goes about) k → ⊥
IsUnsettledNot about k f = ⊥

abbrev pub IsUnsettled : CaseSystem → ℕ → Property → Type 0
IsUnsettled about k (truth b) = ⊥
IsUnsettled about k (compare r a b) = ⊥
IsUnsettled about k (at l) = ⊥
IsUnsettled about k term = IsFixSettled about Every Until (λ s. Unit {0}) (Stops about) k → ⊥
IsUnsettled about k (negated f) = IsUnsettledNot about k f
IsUnsettled about k (all_of fs) = ⊥
IsUnsettled about k (some_of fs) = ⊥
IsUnsettled about k (next path f) = ⊥
IsUnsettled about k (fix path shape f g) = IsFixSettled about path shape (λ s. Holds (CaseSteps about) f s) (λ s. Holds (CaseSteps about) g s) k → ⊥
