-- Two statements are equal in at most one way, so that a claim can carry what its aims state.
use Rattle.std.specs.Prelude.{◌≡◌, ℕ, List, ℤ}
use Rattle.std.specs.Coded.{Coded, Coded-set, coded_ℕ, coded_ℤ, coded_list, coded×, code_by}
use Rattle.tv_formula.specs.declared.tree.Path.{Path}
use Rattle.tv_formula.specs.declared.tree.Shape.{Shape}
use Rattle.tv_formula.specs.contracts.tree.Path as path_row
use Rattle.tv_formula.specs.contracts.tree.Shape as shape_row
use Rattle.tv_linear.specs.Linear.{Linear, linear}
use Rattle.tv_cert.specs.Statements.{Statement, rows, here, elsewhere, ends, never_ends, each_of, one_of, after, along, unsaid, Statements, no_statement, statement}
use mathlib.Core.Path.{refl, sym, ap, ◌∙◌}
use mathlib.Core.HLevel.{collapsible→set}

-- a statement or a list of statements, as one type: antt shows of one type at a time that it is a set
data Copy : Type 0 where
  copied_rows : List (List Linear) → Copy
  copied_here : ℕ → Copy
  copied_elsewhere : ℕ → Copy
  copied_ends : Copy
  copied_never_ends : Copy
  copied_each_of : Copy → Copy
  copied_one_of : Copy → Copy
  copied_after : Path → Copy → Copy
  copied_along : Path → Shape → Copy → Copy → Copy
  copied_unsaid : Copy
  copied_none : Copy
  copied_more : Copy → Copy → Copy
  deriving IsSet as Copy_set

abbrev mutual
  copy_of : Statement → Copy
  copy_of (rows lists) = copied_rows lists
  copy_of (here l) = copied_here l
  copy_of (elsewhere l) = copied_elsewhere l
  copy_of ends = copied_ends
  copy_of never_ends = copied_never_ends
  copy_of (each_of ss) = copied_each_of (copies_of ss)
  copy_of (one_of ss) = copied_one_of (copies_of ss)
  copy_of (after path s) = copied_after path (copy_of s)
  copy_of (along path shape s t) = copied_along path shape (copy_of s) (copy_of t)
  copy_of unsaid = copied_unsaid

  copies_of : Statements → Copy
  copies_of no_statement = copied_none
  copies_of (statement s ss) = copied_more (copy_of s) (copies_of ss)

-- the statement and the statements of a copy; what is no copy of one has an unsaid one, or none
abbrev original : Copy → Statement × Statements
original (copied_rows lists) = (rows lists, no_statement)
original (copied_here l) = (here l, no_statement)
original (copied_elsewhere l) = (elsewhere l, no_statement)
original copied_ends = (ends, no_statement)
original copied_never_ends = (never_ends, no_statement)
original (copied_each_of c) = (each_of (original c).1, no_statement)
original (copied_one_of c) = (one_of (original c).1, no_statement)
original (copied_after path c) = (after path (original c).0, no_statement)
original (copied_along path shape c d) = (along path shape (original c).0 (original d).0, no_statement)
original copied_unsaid = (unsaid, no_statement)
original copied_none = (unsaid, no_statement)
original (copied_more c d) = (unsaid, statement (original c).0 (original d).1)

abbrev mutual
  original-copy : (s : Statement) → (original (copy_of s)).0 ≡ s
  original-copy (rows lists) = refl
  original-copy (here l) = refl
  original-copy (elsewhere l) = refl
  original-copy ends = refl
  original-copy never_ends = refl
  original-copy (each_of ss) = λ i. each_of (originals-copies ss i)
  original-copy (one_of ss) = λ i. one_of (originals-copies ss i)
  original-copy (after path s) = λ i. after path (original-copy s i)
  original-copy (along path shape s t) = λ i. along path shape (original-copy s i) (original-copy t i)
  original-copy unsaid = refl

  originals-copies : (ss : Statements) → (original (copies_of ss)).1 ≡ ss
  originals-copies no_statement = refl
  originals-copies (statement s ss) = λ i. statement (original-copy s i) (originals-copies ss i)

linear_code : Coded Linear
linear_code = code_by (List ℤ × ℤ) (coded× (coded_list coded_ℤ) coded_ℤ) (λ r. (r.coefficients, r.constant)) (λ p. linear p.0 p.1) (λ r. refl)

lists_set : IsSet (List (List Linear))
lists_set = Coded-set (coded_list (coded_list linear_code))

copies_are_set : IsSet Copy
copies_are_set = Copy_set lists_set (Coded-set coded_ℕ) (Coded-set path_row.the_row.coded) (Coded-set shape_row.the_row.coded)

-- two statements are equal in at most one way, as their copies are
pub equal_once : (s t : Statement) → IsProp (s ≡ t)
equal_once = collapsible→set (λ s t p. sym (original-copy s) ∙ ap (λ c. (original c).0) (ap copy_of p) ∙ original-copy t)
    (λ s t p q. ap (λ (e : copy_of s ≡ copy_of t). sym (original-copy s) ∙ ap (λ c. (original c).0) e ∙ original-copy t) (copies_are_set (copy_of s) (copy_of t) (ap copy_of p) (ap copy_of q)))
