use Rattle.std.proofs.Common.{◌<◌, ◌+◌, length, pos, get_or, set, sym, subst, arith}
use Rattle.std.specs.Int.{w128}
use Rattle.std.proofs.lemmas.Int.{to_z-of_z}
use Rattle.tv_simplex.specs.Chains.{column}
use Rattle.tv_simplex.specs.Walking.{AreValues}
use Rattle.tv_simplex.proofs.AnswerLemmas.{values_more, values_same, short_fits}
use Rattle.tv_simplex.proofs.answering.basis_values.Goals.{then-column-len, else-column-len}
use Rattle.tv_simplex.proofs.answering.basis_values.Goals as goal

pub rows-preserved : goal.rows-preserved
rows-preserved c = elim c.if-column-len.branch [
  | then-column-len w ↦ (
      let short = c.requires.short c.rows.i (omega arith) in
      let z = to_z-of_z w128 (get_or c.args.numbers.now c.rows.i (pos 0)) (short_fits (get_or c.args.numbers.now c.rows.i (pos 0)) short) in
      let size = c.rows.invariant.size in
      let inside : column c.args.basis.now c.rows.i < c.args.columns = (let a = w.if-column-len.true in let b = c.len.ensures in omega (arith, a, b, size)) in
      subst (λ x. AreValues (c.rows.i + 1) c.args.columns c.args.basis.now c.args.numbers.now x.items) (sym w.values-is)
      (subst (λ x. AreValues (c.rows.i + 1) c.args.columns c.args.basis.now c.args.numbers.now (set c.rows.values.items (column c.args.basis.now c.rows.i) x)) (sym z)
      (values_more c.rows.i c.args.columns c.args.basis.now c.args.numbers.now c.rows.values.items (length c.args.basis.now) c.rows-test.true c.requires.distinct inside short c.rows.invariant)))
  | else-column-len w ↦ (
      let size = c.rows.invariant.size in
      subst (λ x. AreValues (c.rows.i + 1) c.args.columns c.args.basis.now c.args.numbers.now x.items) (sym w.values-is)
      (values_same c.rows.i c.args.columns c.args.basis.now c.args.numbers.now c.rows.values.items (let a = w.if-column-len.false in let b = c.len.ensures in omega (arith, a, b, size)) c.rows.invariant))
]
