use Rattle.std.proofs.Common.{◌≡◌, ◌+◌, ◌*◌, length}
use Rattle.tv_grammar.specs.Langs.{turns}
use Rattle.tv_reading.specs.SumGrammar.{every}
use Rattle.tv_formula_reader.specs.Answers.{left, Stays, trees_view}
use Rattle.tv_reading.specs.ConditionGrammar.{is_and, is_or}
use Rattle.tv_formula_reader.specs.FormulaGrammar.{more_cases, conjunction_over, literal_at}
use Rattle.tv_formula_reader.proofs.formulas.+formulas.Given as goal

abbrev pub decreases-plain : goal.decreases-plain
decreases-plain l = 16 * l.levels

abbrev pub decreases-denied : goal.decreases-denied
decreases-denied l = 16 * l.levels + 1

abbrev pub decreases-literal : goal.decreases-literal
decreases-literal l = 16 * l.levels + 1

abbrev pub decreases-conjunction_from : goal.decreases-conjunction_from
decreases-conjunction_from l = 16 * l.levels + 4

abbrev pub decreases-conjunction : goal.decreases-conjunction
decreases-conjunction l = 16 * l.levels + 5

abbrev pub decreases-ors : goal.decreases-ors
decreases-ors l = 16 * l.levels + 7

abbrev pub decreases-formula_from : goal.decreases-formula_from
decreases-formula_from l = 16 * l.levels + 8

abbrev pub decreases-formula : goal.decreases-formula
decreases-formula l = 16 * l.levels + 9

abbrev pub decreases-enclosed : goal.decreases-enclosed
decreases-enclosed l = 16 * l.levels + 10

abbrev pub decreases-argument : goal.decreases-argument
decreases-argument l = 16 * l.levels + 11

abbrev pub decreases-with_one : goal.decreases-with_one
decreases-with_one l = 16 * l.levels + 12

abbrev pub decreases-with_two : goal.decreases-with_two
decreases-with_two l = 16 * l.levels + 12

abbrev pub decreases-operated : goal.decreases-operated
decreases-operated l = 16 * l.levels + 13

abbrev pub decreases-and : goal.decreases-and
decreases-and l = 16 * l.levels + 2

abbrev pub decreases-ands : goal.decreases-ands
decreases-ands l = 16 * l.levels + 3

abbrev pub decreases-or : goal.decreases-or
decreases-or l = 16 * l.levels + 6

abbrev pub invariant-ands-turns : goal.invariant-ands-turns
invariant-ands-turns l = record {
  reads : (turns (more_cases is_and (literal_at every l.levels)) (trees_view l.trees)).read (left l.source l.reading) ≡ (turns (more_cases is_and (literal_at every l.levels)) (trees_view l.fn.first)).read (left l.source l.fn.reading);
  stays : Stays l.source l.fn.reading l.reading;
}

abbrev pub decreases-ands-turns : goal.decreases-ands-turns
decreases-ands-turns l = length (left l.source l.reading)

abbrev pub invariant-ors-turns : goal.invariant-ors-turns
invariant-ors-turns l = record {
  reads : (turns (more_cases is_or (conjunction_over (literal_at every l.levels))) (trees_view l.trees)).read (left l.source l.reading) ≡ (turns (more_cases is_or (conjunction_over (literal_at every l.levels))) (trees_view l.fn.first)).read (left l.source l.fn.reading);
  stays : Stays l.source l.fn.reading l.reading;
}

abbrev pub decreases-ors-turns : goal.decreases-ors-turns
decreases-ors-turns l = length (left l.source l.reading)
