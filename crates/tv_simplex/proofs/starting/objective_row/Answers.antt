use Rattle.std.proofs.Common.{◌≡◌, arith, refl, subst}
use Rattle.tv_simplex.specs.Views.{equations}
use Rattle.tv_simplex.specs.Rows.{IsRow}
use Rattle.tv_simplex.specs.Starting.{IsNumber, first_objective}
use Rattle.tv_simplex.proofs.StartLemmas.{objective_zero}
use Rattle.tv_simplex.proofs.starting.objective_row.Goals as goal

pub columns-preserved : goal.columns-preserved
columns-preserved c = c.in-Ok.ensures (first_objective (equations c.args.system.now)) c.columns.column (omega arith) refl (λ j low up. absurd (omega (arith, low, up))) c.columns.invariant

pub returns : goal.returns
returns c =
    let s = equations c.args.system.now in
    let e : c.columns.column ≡ s.columns = omega arith in
    c.in-Ok-put_objective.ensures (first_objective s) s.columns (omega arith) refl (objective_zero s) (subst (λ n. IsRow (IsNumber (first_objective s)) n c.columns.entries.items) e c.columns.invariant)
