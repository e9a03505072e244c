use Rattle.std.proofs.Common.{ap, sym, arith, pos, refl, ◌^◌}
use Rattle.std.specs.Prelude.{unsigned_abs, min}
use Rattle.tv_linear.specs.Arithmetic.{constant_row}
use Rattle.tv_linear.proofs.Entries.{entry-constant_inner, entry-last}
use Rattle.tv_linear.proofs.PlainLists.{length-zeros}
use Rattle.tv_causes.proofs.join.one.Goals as goal

pub returns-then-column-variables : goal.returns-then-column-variables
returns-then-column-variables c = record {
  at_column = ap (λ z. min (unsigned_abs z) (2 ^ 62)) (sym (entry-constant_inner c.args.variables (pos 1) c.args.column c.if-column-variables.true));
  constant = refl;
}

pub returns-else-column-variables : goal.returns-else-column-variables
returns-else-column-variables c =
    let l = length-zeros c.args.variables in
    record {
      at_column = ap (λ z. min (unsigned_abs z) (2 ^ 62)) (sym (entry-last (constant_row c.args.variables (pos 1)) c.args.column (omega arith)));
      constant = refl;
    }
