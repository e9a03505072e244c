use Rattle.std.proofs.Common.{arith, rules, FitsSigned}
use Rattle.std.specs.Int.{w128}
use Rattle.std.proofs.lemmas.Int.{ints, to_z-of_z}
use Rattle.tv_linear.specs.Linear.{IsWithin, entry}
use Rattle.tv_linear.specs.Arithmetic.{plus}
use Rattle.tv_linear.proofs.Entries.{SomeIff-same, entry-plus}
use Rattle.tv_linear.proofs.columns.AddedColumns.number.Goals as goal

pub returns-clause-is : goal.returns-clause-is
returns-clause-is c =
    let fits : FitsSigned w128 c.sum.result = search rules in
    let is = entry-plus c.args.self.now.left.now c.args.self.now.right.now c.args.column c.args.self.now.even in
    SomeIff-same (IsWithin 62) c.narrow.result c.sum.result (entry (plus c.args.self.now.left.now c.args.self.now.right.now) c.args.column) (omega (arith, ints, is, c.sum.ensures, c.entry.ensures.is, c.entry-2.ensures.is)) (simp to_z-of_z at c.narrow.ensures.exact)
