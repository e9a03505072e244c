-- What a node of a certificate is to show: a normal formula, whose comparisons stand as lists of rows.
use Rattle.std.specs.Prelude.{ℕ, zero, suc, List}
use Rattle.tv_formula.specs.declared.tree.Path.{Path}
use Rattle.tv_formula.specs.declared.tree.Shape.{Shape}
use Rattle.tv_formula.specs.Properties.{Property, truth, compare, at, term, negated, all_of, some_of, next, fix, Properties, none, more}
use Rattle.tv_program.specs.declared.tree.Relation.{Relation}
use Rattle.tv_program.specs.Trees.{Expression}
use Rattle.tv_linear.specs.Linear.{Linear}
use Rattle.tv_cert.specs.Obligations.{truth_targets}

mutual
  pub data Statement : Type 0 where
    -- all rows of one of these lists are met
    rows : List (List Linear) → Statement
    here : ℕ → Statement
    elsewhere : ℕ → Statement
    ends : Statement
    never_ends : Statement
    each_of : Statements → Statement
    one_of : Statements → Statement
    after : Path → Statement → Statement
    along : Path → Shape → Statement → Statement → Statement
    -- a formula that is not normal
    unsaid : Statement

  pub data Statements : Type 0 where
    no_statement : Statements
    statement : Statement → Statements → Statements

-- the statement of a negation: that of a location test or of termination
abbrev pub denial_of : Property → Statement
denial_of (at l) = elsewhere l
denial_of term = never_ends
denial_of f = unsaid

abbrev mutual
  -- what a formula states, given the lists of rows of a comparison
  pub stated : (Relation → Expression → Expression → List (List Linear)) → Property → Statement
  stated tests (truth b) = rows (truth_targets b)
  stated tests (compare r a b) = rows (tests r a b)
  stated tests (at l) = here l
  stated tests term = ends
  stated tests (negated f) = denial_of f
  stated tests (all_of fs) = each_of (stated_all tests fs)
  stated tests (some_of fs) = one_of (stated_all tests fs)
  stated tests (next path f) = after path (stated tests f)
  stated tests (fix path shape f g) = along path shape (stated tests f) (stated tests g)

  pub stated_all : (Relation → Expression → Expression → List (List Linear)) → Properties → Statements
  stated_all tests none = no_statement
  stated_all tests (more f fs) = statement (stated tests f) (stated_all tests fs)

-- the arguments of a statement
abbrev pub parts_of : Statement → Statements
parts_of (rows lists) = no_statement
parts_of (here l) = no_statement
parts_of (elsewhere l) = no_statement
parts_of ends = no_statement
parts_of never_ends = no_statement
parts_of (each_of ss) = ss
parts_of (one_of ss) = ss
parts_of (after path s) = statement s no_statement
parts_of (along path shape s t) = statement s (statement t no_statement)
parts_of unsaid = no_statement

abbrev pub count : Statements → ℕ
count no_statement = 0
count (statement s ss) = suc (count ss)

abbrev pub part_at : ℕ → Statements → Statement
part_at i no_statement = unsaid
part_at zero (statement s ss) = s
part_at (suc i) (statement s ss) = part_at i ss
