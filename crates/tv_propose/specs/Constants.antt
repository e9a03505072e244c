-- The constants of the guards and updates of cases.
use Rattle.std.specs.Prelude.{List, [], ◌∷◌, ◌++◌, ℤ, pos, neg_ℤ}
use Rattle.std.specs.List.{flat_map}
use Rattle.std.specs.BTreeSet.{insert_key}
use Rattle.std.specs.Ordering.{int_cmp}
use Rattle.tv_linear.specs.Linear.{Linear}
use Rattle.tv_linear.specs.declared.region.Update.{Update}
use Rattle.tv_cases.specs.LinearCases.{LinearCase, CaseSystem}

-- an ascending list with more numbers, each at its place in the order and once
abbrev pub with_numbers : List ℤ → List ℤ → List ℤ
with_numbers ascending [] = ascending
with_numbers ascending (z ∷ zs) = with_numbers (insert_key int_cmp ascending z) zs

-- the ordered set of numbers
abbrev pub ordered_set : List ℤ → List ℤ
ordered_set zs = with_numbers [] zs

-- a number and its negative
abbrev pub both_signs : ℤ → List ℤ
both_signs z = z ∷ neg_ℤ z ∷ []

abbrev pub row_constants : List Linear → List ℤ
row_constants rows = flat_map (λ r. both_signs r.constant) rows

abbrev pub term_constants : List Update → List ℤ
term_constants updates = flat_map (λ u. both_signs u.term.constant) updates

-- the constants of the guards and updates of a case, with their negatives
abbrev pub case_constants : LinearCase → List ℤ
case_constants c = row_constants c.guards ++ term_constants c.updates

-- the ordered set of 0 and of the constants of guards and updates with their negatives
abbrev pub constants : CaseSystem → List ℤ
constants about = ordered_set (pos 0 ∷ flat_map case_constants about.cases)
