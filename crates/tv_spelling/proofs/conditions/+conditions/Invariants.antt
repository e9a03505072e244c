use Rattle.std.proofs.Common.{◌≡◌, ◌++◌, drop}
use Rattle.tv_program.specs.Views.{conditions}
use Rattle.tv_spelling.specs.Conditions.{all_text, some_text, further_all_text, further_some_text}
use Rattle.tv_spelling.proofs.conditions.+conditions.Given as goal

abbrev pub invariant-append_all-loop-part : goal.invariant-append_all-loop-part
invariant-append_all-loop-part l = l.out.items ++ further_all_text l.names (conditions (drop l.part-index l.others)) ≡ l.fn.out.items ++ all_text l.names (conditions l.parts)

abbrev pub invariant-append_some-loop-part : goal.invariant-append_some-loop-part
invariant-append_some-loop-part l = l.out.items ++ further_some_text l.names (conditions (drop l.part-index l.others)) ≡ l.fn.out.items ++ some_text l.names (conditions l.parts)
