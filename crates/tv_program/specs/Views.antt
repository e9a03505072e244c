use Rattle.std.specs.Prelude.{List, [], ◌∷◌, map}
use Rattle.tv_program.specs.declared.tree.Expr.{Expr}
use Rattle.tv_program.specs.declared.tree.Expr.TheOpen.{Expr-F}
use Rattle.tv_program.specs.declared.tree.Expr.TheFolds.{fold-Expr}
use Rattle.tv_program.specs.declared.tree.Cond.{Cond}
use Rattle.tv_program.specs.declared.tree.Cond.TheOpen.{Cond-F}
use Rattle.tv_program.specs.declared.tree.Cond.TheFolds.{fold-Cond}
use Rattle.tv_program.specs.declared.tree.Command.{Command}
use Rattle.tv_program.specs.declared.tree.Command.TheVariants.{Assume, Assign}
use Rattle.tv_program.specs.declared.tree.Edge.{Edge}
use Rattle.tv_program.specs.Trees.{Expression, number, variable, draw, minus, sum, product, Expressions, no_part, part, Condition, truth, compare, negated, all_of, some_of, Conditions, no_test, test, Instruction, assume, assign, Transition}

abbrev pub parts_of : List Expression → Expressions
parts_of [] = no_part
parts_of (e ∷ es) = part e (parts_of es)

abbrev pub expression_node : Expr-F Expression → Expression
expression_node (Expr-F.Number z) = number z
expression_node (Expr-F.Variable v) = variable v
expression_node (Expr-F.Draw d) = draw d
expression_node (Expr-F.Minus inner) = minus inner.value
expression_node (Expr-F.Sum parts) = sum (parts_of parts.items)
expression_node (Expr-F.Product parts) = product (parts_of parts.items)

-- the expression that a tree stands for
abbrev pub expression : Expr → Expression
expression = fold-Expr Expression expression_node

abbrev pub expressions : List Expr → Expressions
expressions es = parts_of (map expression es)

abbrev pub tests_of : List Condition → Conditions
tests_of [] = no_test
tests_of (c ∷ cs) = test c (tests_of cs)

abbrev pub condition_node : Cond-F Condition → Condition
condition_node (Cond-F.Truth b) = truth b
condition_node (Cond-F.Compare r e f) = compare r (expression e) (expression f)
condition_node (Cond-F.Not inner) = negated inner.value
condition_node (Cond-F.And parts) = all_of (tests_of parts.items)
condition_node (Cond-F.Or parts) = some_of (tests_of parts.items)

-- the condition that a tree stands for
abbrev pub condition : Cond → Condition
condition = fold-Cond Condition condition_node

abbrev pub conditions : List Cond → Conditions
conditions cs = tests_of (map condition cs)

abbrev pub instruction : Command → Instruction
instruction (Assume c) = assume (condition c)
instruction (Assign v e) = assign v (expression e)

-- the edge that a struct stands for
abbrev pub transition : Edge → Transition
transition e = record { from = e.from; to = e.to; draws = e.draws; instructions = map instruction e.commands.items }

abbrev pub transitions : List Edge → List Transition
transitions es = map transition es
