use Rattle.std.proofs.Common.{◌≡◌, ◌+◌, ◌*◌, length}
use Rattle.tv_grammar.specs.Langs.{turns}
use Rattle.tv_reading.specs.Marks.{left}
use Rattle.tv_reading.specs.SumGrammar.{every}
use Rattle.tv_reading.specs.ConditionGrammar.{is_and, is_or, more_cases, conjunction_over, literal_at}
use Rattle.tv_reading.specs.Views.{stand, Keeps, conds_view}
use Rattle.tv_reading.proofs.conditions.+conditions.Given as goal

abbrev pub decreases-thing : goal.decreases-thing
decreases-thing l = 16 * l.levels

abbrev pub decreases-plain : goal.decreases-plain
decreases-plain l = 16 * l.levels

abbrev pub decreases-literal : goal.decreases-literal
decreases-literal l = 16 * l.levels + 1

abbrev pub decreases-negated : goal.decreases-negated
decreases-negated l = 16 * l.levels + 1

abbrev pub decreases-denied : goal.decreases-denied
decreases-denied l = 16 * l.levels + 1

abbrev pub decreases-and : goal.decreases-and
decreases-and l = 16 * l.levels + 2

abbrev pub decreases-ands : goal.decreases-ands
decreases-ands l = 16 * l.levels + 3

abbrev pub decreases-conjunction_from : goal.decreases-conjunction_from
decreases-conjunction_from l = 16 * l.levels + 4

abbrev pub decreases-conjunction : goal.decreases-conjunction
decreases-conjunction l = 16 * l.levels + 5

abbrev pub decreases-or : goal.decreases-or
decreases-or l = 16 * l.levels + 6

abbrev pub decreases-ors : goal.decreases-ors
decreases-ors l = 16 * l.levels + 7

abbrev pub decreases-condition_from : goal.decreases-condition_from
decreases-condition_from l = 16 * l.levels + 8

abbrev pub decreases-condition : goal.decreases-condition
decreases-condition l = 16 * l.levels + 9

abbrev pub decreases-continued : goal.decreases-continued
decreases-continued l = 16 * l.levels + 10

abbrev pub decreases-enclosed : goal.decreases-enclosed
decreases-enclosed l = 16 * l.levels + 11

abbrev pub decreases-bracketed : goal.decreases-bracketed
decreases-bracketed l = 16 * l.levels + 11

abbrev pub invariant-ands-turns : goal.invariant-ands-turns
invariant-ands-turns l = record {
  reads : (turns (more_cases is_and (literal_at every l.levels)) (conds_view l.conds)).read (left (stand l.source l.cursor)) ≡ (turns (more_cases is_and (literal_at every l.levels)) (conds_view l.fn.first)).read (left (stand l.source l.fn.cursor));
  passed : Keeps l.source l.fn.cursor l.cursor;
}

abbrev pub decreases-ands-turns : goal.decreases-ands-turns
decreases-ands-turns l = length (left (stand l.source l.cursor))

abbrev pub invariant-ors-turns : goal.invariant-ors-turns
invariant-ors-turns l = record {
  reads : (turns (more_cases is_or (conjunction_over (literal_at every l.levels))) (conds_view l.conds)).read (left (stand l.source l.cursor)) ≡ (turns (more_cases is_or (conjunction_over (literal_at every l.levels))) (conds_view l.fn.first)).read (left (stand l.source l.fn.cursor));
  passed : Keeps l.source l.fn.cursor l.cursor;
}

abbrev pub decreases-ors-turns : goal.decreases-ors-turns
decreases-ors-turns l = length (left (stand l.source l.cursor))
