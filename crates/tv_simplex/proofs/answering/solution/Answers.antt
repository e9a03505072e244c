use Rattle.std.proofs.Common.{◌+◌, length, subst, sym}
use Rattle.std.specs.Int.{w128}
use Rattle.std.proofs.lemmas.Int.{to_z-of_z}
use Rattle.tv_simplex.specs.declared.answer.Answer.TheVariants.{Solution}
use Rattle.tv_simplex.specs.Views.{equations}
use Rattle.tv_simplex.specs.Walking.{AreOfColumn, AreValues, IsRight}
use Rattle.tv_simplex.specs.Tables.{shown}
use Rattle.tv_simplex.proofs.EndLemmas.{distinct_basis, gives_solution, right_solution, solution_unscaled, scaling_stops}
use Rattle.tv_simplex.proofs.AnswerLemmas.{short_fits}
use Rattle.tv_simplex.proofs.answering.solution.Goals as goal

pub returns-in-Err : goal.returns-in-Err
returns-in-Err c =
    let s = equations c.args.system.now in
    let of = subst (λ f. AreOfColumn s.rows (s.columns + s.rows) (shown c.args.table.now) f) (sym c.deref.ensures.value) c.in_ok-right.ensures in
    scaling_stops s c.args.table.now.basis.items c.deref.result.now c.in-Err.stop (solution_unscaled s c.requires.stands.0 c.args.table.now c.requires.stands.1 c.deref.result.now of c.requires.solved) c.in-Err.ensures

pub basis_values-requires-clause-distinct : goal.basis_values-requires-clause-distinct
basis_values-requires-clause-distinct c = distinct_basis (equations c.args.system.now) c.requires.stands.0 c.args.table.now c.requires.stands.1 c.deref-in-Ok.result.now c.deref-in-Ok.ensures.value

pub returns : goal.returns
returns c =
    let s = equations c.args.system.now in
    let t = c.args.table.now in
    let st = c.requires.stands.1 in
    let of = subst (λ f. AreOfColumn s.rows (s.columns + s.rows) (shown t) f) (sym c.deref.ensures.value) c.in_ok-right.ensures in
    let n = c.in-Ok.scaled.numbers.items in
    let v = c.in_ok-values-in-Ok.values.items in
    let values = subst (λ k. AreValues k s.columns t.basis.items n v) st.size.basis
    (subst (λ b. AreValues (length b) s.columns b n v) c.deref-in-Ok.ensures.value
    (subst (λ m. AreValues (length c.deref-in-Ok.result.now) s.columns c.deref-in-Ok.result.now m v) c.deref-in-Ok-2.ensures.value c.in_ok-values-in-Ok.ensures)) in
    let scaled = c.in-Ok.ensures in
    let z = to_z-of_z w128 c.in-Ok.scaled.scale (short_fits c.in-Ok.scaled.scale scaled.scale_short) in
    subst (λ k. IsRight s (Solution c.in_ok-values-in-Ok.values k)) (sym z) record {
      answers = right_solution s c.requires.stands.0 t st c.deref.result.now of c.requires.solved n v c.in-Ok.scaled.scale scaled values;
      last = gives_solution s c.requires.stands.0 t st c.deref.result.now of c.requires.solved n v c.in-Ok.scaled.scale scaled values;
    }
