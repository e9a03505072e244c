use Rattle.std.specs.Prelude.{ℕ, Bool}
use Rattle.tv_program.specs.declared.tree.Relation.{Relation}
use Rattle.tv_program.specs.Trees.{Expression}
use Rattle.tv_formula.specs.declared.tree.Path.{Path}
use Rattle.tv_formula.specs.declared.tree.Shape.{Shape}

mutual
  -- a formula, without the places in memory of its parts
  pub data Property : Type 0 where
    truth : Bool → Property
    compare : Relation → Expression → Expression → Property
    at : ℕ → Property
    term : Property
    negated : Property → Property
    all_of : Properties → Property
    some_of : Properties → Property
    next : Path → Property → Property
    fix : Path → Shape → Property → Property → Property

  pub data Properties : Type 0 where
    none : Properties
    more : Property → Properties → Properties
