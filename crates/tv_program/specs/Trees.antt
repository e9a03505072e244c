use Rattle.std.specs.Prelude.{ℕ, ℤ, Bool, List}
use Rattle.tv_program.specs.declared.tree.Relation.{Relation}

mutual
  -- an expression, without the places in memory of its parts
  pub data Expression : Type 0 where
    number : ℤ → Expression
    variable : ℕ → Expression
    draw : ℕ → Expression
    minus : Expression → Expression
    sum : Expressions → Expression
    product : Expressions → Expression

  pub data Expressions : Type 0 where
    no_part : Expressions
    part : Expression → Expressions → Expressions

mutual
  -- a condition, likewise
  pub data Condition : Type 0 where
    truth : Bool → Condition
    compare : Relation → Expression → Expression → Condition
    negated : Condition → Condition
    all_of : Conditions → Condition
    some_of : Conditions → Condition

  pub data Conditions : Type 0 where
    no_test : Conditions
    test : Condition → Conditions → Conditions

-- a command of an edge
pub data Instruction : Type 0 where
  assume : Condition → Instruction
  assign : ℕ → Expression → Instruction

-- an edge of a program
pub record Transition : Type 0 where
  pub from : ℕ
  pub to : ℕ
  pub draws : ℕ
  pub instructions : List Instruction
