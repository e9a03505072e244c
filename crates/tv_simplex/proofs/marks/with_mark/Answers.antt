use Rattle.std.proofs.Common.{inl, inr, w64, arith, ap, sym, ◌∙◌}
use Rattle.std.specs.Int.{bit_at}
use Rattle.std.proofs.lemmas.Bool.{cases_eq}
use Rattle.std.proofs.lemmas.Nat.Bits.{bit_at_set_same, bit_at_set_other}
use Rattle.tv_simplex.specs.Marks.{class_of}
use Rattle.tv_simplex.proofs.marks.with_mark.Goals as goal

pub returns-clause-set : goal.returns-clause-set
returns-clause-set c = bit_at_set_same w64 c.args.marks (class_of c.args.column) (omega arith)

pub returns-clause-kept : goal.returns-clause-kept
returns-clause-kept c = λ class unset. elim (cases_eq class (class_of c.args.column)) [
  | inl e ↦ (let one = bit_at_set_same w64 c.args.marks (class_of c.args.column) (omega arith) in let z = ap (bit_at _) (sym e) ∙ unset in absurd (omega (arith, one, z)))
  | inr o ↦ sym (bit_at_set_other w64 c.args.marks (class_of c.args.column) (omega arith) class o) ∙ unset
]
