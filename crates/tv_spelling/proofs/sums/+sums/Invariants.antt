use Rattle.std.proofs.Common.{◌≡◌, ◌++◌, drop}
use Rattle.tv_program.specs.Views.{expressions}
use Rattle.tv_spelling.specs.Sums.{sum_text, product_text, further_parts_text, further_factors_text}
use Rattle.tv_spelling.proofs.sums.+sums.Given as goal

abbrev pub invariant-append_parts-loop-part : goal.invariant-append_parts-loop-part
invariant-append_parts-loop-part l = l.out.items ++ further_parts_text l.names (expressions (drop l.part-index l.others)) ≡ l.fn.out.items ++ sum_text l.names (expressions l.parts)

abbrev pub invariant-append_factors-loop-factor : goal.invariant-append_factors-loop-factor
invariant-append_factors-loop-factor l = l.out.items ++ further_factors_text l.names (expressions (drop l.factor-index l.others)) ≡ l.fn.out.items ++ product_text l.names (expressions l.factors)
