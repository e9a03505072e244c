use Rattle.std.proofs.Common.{sym}
use Rattle.tv_simplex.proofs.GoesOn.{cost-none}
use Rattle.tv_simplex.proofs.StartLemmas.{cost_artificial, cost_last}
use Rattle.tv_simplex.proofs.numbers.cost_at.Goals as goal

pub returns-then-column-columns-clause-value : goal.returns-then-column-columns-clause-value
returns-then-column-columns-clause-value c = sym (cost-none c.args.system.now.rows c.args.system.now.columns c.args.column c.if-column-columns.true)

pub returns-then-column-columns-2-clause-value : goal.returns-then-column-columns-2-clause-value
returns-then-column-columns-2-clause-value c = sym (cost_artificial c.args.system.now.rows c.args.system.now.columns c.args.column c.if-column-columns.false c.if-column-columns-2.true)

pub returns-else-column-columns-2-clause-value : goal.returns-else-column-columns-2-clause-value
returns-else-column-columns-2-clause-value c = sym (cost_last c.args.system.now.rows c.args.system.now.columns c.args.column c.if-column-columns-2.false c.requires.column)
