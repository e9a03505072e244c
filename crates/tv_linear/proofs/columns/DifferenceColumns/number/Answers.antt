use Rattle.std.proofs.Common.{arith, rules, FitsSigned}
use Rattle.std.specs.Int.{w128}
use Rattle.std.proofs.lemmas.Int.{ints, to_z-of_z}
use Rattle.tv_linear.specs.Linear.{IsWithin, entry}
use Rattle.tv_linear.specs.Arithmetic.{plus, opposite, raised}
use Rattle.tv_linear.proofs.Entries.{SomeIff-same, columns-difference, entry-difference_inner, entry-difference_last}
use Rattle.tv_linear.proofs.columns.DifferenceColumns.number.Goals as goal

pub returns-then-column-width-clause-is : goal.returns-then-column-width-clause-is
returns-then-column-width-clause-is c =
    let d = c.args.self.now in
    let fits : FitsSigned w128 c.difference.result = search rules in
    let counted = columns-difference d.left.now d.right.now d.more d.even in
    let is = entry-difference_inner d.left.now d.right.now d.more d.even c.args.column (omega (arith, counted)) in
    SomeIff-same (IsWithin 62) c.narrow.result c.difference.result (entry (raised d.more (plus d.left.now (opposite d.right.now))) c.args.column) (omega (arith, ints, is, c.difference.ensures, c.entry-left.ensures.is, c.entry-right.ensures.is)) (simp to_z-of_z at c.narrow.ensures.exact)

pub returns-else-column-width-clause-is : goal.returns-else-column-width-clause-is
returns-else-column-width-clause-is c =
    let d = c.args.self.now in
    let fits : FitsSigned w128 c.difference-else-column-width.result = search rules in
    let counted = columns-difference d.left.now d.right.now d.more d.even in
    let is = entry-difference_last d.left.now d.right.now d.more d.even c.args.column (omega (arith, counted)) in
    SomeIff-same (IsWithin 62) c.narrow-else-column-width.result c.difference-else-column-width.result (entry (raised d.more (plus d.left.now (opposite d.right.now))) c.args.column) (omega (arith, ints, is, c.difference-else-column-width.ensures, c.entry-left.ensures.is, c.entry-right.ensures.is)) (simp to_z-of_z at c.narrow-else-column-width.ensures.exact)
