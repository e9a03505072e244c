-- The one spelling of conditions.
use Rattle.std.specs.Prelude.{ℕ, Bool, true, false, ◌||◌, not, List, [], ◌++◌, codes}
use Rattle.tv_program.specs.declared.tree.Relation.{Relation}
use Rattle.tv_program.specs.declared.tree.Relation.TheVariants.{Less, LessEqual, Greater, GreaterEqual, Equal, NotEqual}
use Rattle.tv_program.specs.Words.{Word}
use Rattle.tv_program.specs.Trees.{Condition, truth, compare, negated, all_of, some_of, Conditions, no_test, test}
use Rattle.tv_spelling.specs.Sums.{in_brackets, expression_text}

abbrev pub truth_text : Bool → List ℕ
truth_text true = codes "true"
truth_text false = codes "false"

-- a relation between single spaces
abbrev pub relation_text : Relation → List ℕ
relation_text Less = codes " < "
relation_text LessEqual = codes " <= "
relation_text Greater = codes " > "
relation_text GreaterEqual = codes " >= "
relation_text Equal = codes " == "
relation_text NotEqual = codes " != "

abbrev pub is_truth : Condition → Bool
is_truth (truth b) = true
is_truth c = false

abbrev pub is_negated : Condition → Bool
is_negated (negated c) = true
is_negated c = false

abbrev pub is_all : Condition → Bool
is_all (all_of cs) = true
is_all c = false

abbrev pub is_some : Condition → Bool
is_some (some_of cs) = true
is_some c = false

-- what is denied stands in brackets unless it is a truth value or denies something itself
abbrev pub as_denied : Condition → List ℕ → List ℕ
as_denied c text = in_brackets (not (is_truth c || is_negated c)) text

-- a condition inside && stands in brackets where it is && or ||
abbrev pub as_literal : Condition → List ℕ → List ℕ
as_literal c text = in_brackets (is_all c || is_some c) text

-- a condition inside || stands in brackets where it is ||
abbrev pub as_conjunction : Condition → List ℕ → List ℕ
as_conjunction c text = in_brackets (is_some c) text

abbrev mutual
  -- the text of a condition whose variables have these words, without brackets round the whole
  pub condition_text : List Word → Condition → List ℕ
  condition_text words (truth b) = truth_text b
  condition_text words (compare r e f) = expression_text words e ++ (relation_text r ++ expression_text words f)
  condition_text words (negated c) = codes "!" ++ as_denied c (condition_text words c)
  condition_text words (all_of cs) = all_text words cs
  condition_text words (some_of cs) = some_text words cs

  pub all_text : List Word → Conditions → List ℕ
  all_text words no_test = []
  all_text words (test c cs) = as_literal c (condition_text words c) ++ further_all_text words cs

  pub further_all_text : List Word → Conditions → List ℕ
  further_all_text words no_test = []
  further_all_text words (test c cs) = codes " && " ++ (as_literal c (condition_text words c) ++ further_all_text words cs)

  pub some_text : List Word → Conditions → List ℕ
  some_text words no_test = []
  some_text words (test c cs) = as_conjunction c (condition_text words c) ++ further_some_text words cs

  pub further_some_text : List Word → Conditions → List ℕ
  further_some_text words no_test = []
  further_some_text words (test c cs) = codes " || " ++ (as_conjunction c (condition_text words c) ++ further_some_text words cs)
