use Rattle.std.proofs.Common.{◌≡◌, ◌++◌, drop}
use Rattle.tv_trace.specs.Widths.{draws_are_held, values_drawn}
use Rattle.tv_trace.proofs.sums.values_at.Given as goal

abbrev pub invariant-loop-term : goal.invariant-loop-term
invariant-loop-term l = record {
  held : draws_are_held l.numbers l.terms ≡ draws_are_held l.numbers (drop l.term-index l.terms);
  made : l.values.items ++ values_drawn l.numbers (drop l.term-index l.terms) ≡ values_drawn l.numbers l.terms;
}
