use Rattle.std.proofs.Common.{◌≡◌, ◌++◌, drop}
use Rattle.tv_formula.specs.Views.{properties}
use Rattle.tv_formula_spelling.specs.Formulas.{all_text, some_text, further_all_text, further_some_text}
use Rattle.tv_formula_spelling.proofs.formulas.+formulas.Given as goal

abbrev pub invariant-append_all-loop-part : goal.invariant-append_all-loop-part
invariant-append_all-loop-part l = l.out.items ++ further_all_text l.words.variables.now l.words.labels.now (properties (drop l.part-index l.others)) ≡ l.fn.out.items ++ all_text l.words.variables.now l.words.labels.now (properties l.parts)

abbrev pub invariant-append_some-loop-part : goal.invariant-append_some-loop-part
invariant-append_some-loop-part l = l.out.items ++ further_some_text l.words.variables.now l.words.labels.now (properties (drop l.part-index l.others)) ≡ l.fn.out.items ++ some_text l.words.variables.now l.words.labels.now (properties l.parts)
