use Rattle.std.proofs.Common.{◌≡◌, ◌+◌, ◌*◌, length}
use Rattle.tv_grammar.specs.Langs.{turns}
use Rattle.tv_reading.specs.Marks.{left}
use Rattle.tv_reading.specs.SumGrammar.{every, star_cases, sum_cases, factor_at, product_at}
use Rattle.tv_reading.specs.Views.{stand, Keeps, parts_view}
use Rattle.tv_reading.proofs.sums.+sums.Given as goal

abbrev pub decreases-factor : goal.decreases-factor
decreases-factor l = 16 * l.levels

abbrev pub decreases-star : goal.decreases-star
decreases-star l = 16 * l.levels + 1

abbrev pub decreases-stars : goal.decreases-stars
decreases-stars l = 16 * l.levels + 2

abbrev pub decreases-product_from : goal.decreases-product_from
decreases-product_from l = 16 * l.levels + 3

abbrev pub decreases-product : goal.decreases-product
decreases-product l = 16 * l.levels + 4

abbrev pub decreases-sign : goal.decreases-sign
decreases-sign l = 16 * l.levels + 5

abbrev pub decreases-signs : goal.decreases-signs
decreases-signs l = 16 * l.levels + 6

abbrev pub decreases-sum_from : goal.decreases-sum_from
decreases-sum_from l = 16 * l.levels + 7

abbrev pub decreases-sum : goal.decreases-sum
decreases-sum l = 16 * l.levels + 8

abbrev pub decreases-bracketed : goal.decreases-bracketed
decreases-bracketed l = 16 * l.levels + 9

abbrev pub decreases-signed : goal.decreases-signed
decreases-signed l = 16 * l.levels + 1

abbrev pub invariant-stars-turns : goal.invariant-stars-turns
invariant-stars-turns l = record {
  reads : (turns (star_cases (factor_at every l.levels) l.free) (parts_view l.run)).read (left (stand l.source l.cursor)) ≡ (turns (star_cases (factor_at every l.levels) l.free) (parts_view l.fn.first)).read (left (stand l.source l.fn.cursor));
  passed : Keeps l.source l.fn.cursor l.cursor;
}

abbrev pub decreases-stars-turns : goal.decreases-stars-turns
decreases-stars-turns l = length (left (stand l.source l.cursor))

abbrev pub invariant-signs-turns : goal.invariant-signs-turns
invariant-signs-turns l = record {
  reads : (turns (sum_cases (product_at every l.levels l.free)) (parts_view l.run)).read (left (stand l.source l.cursor)) ≡ (turns (sum_cases (product_at every l.levels l.free)) (parts_view l.fn.first)).read (left (stand l.source l.fn.cursor));
  passed : Keeps l.source l.fn.cursor l.cursor;
}

abbrev pub decreases-signs-turns : goal.decreases-signs-turns
decreases-signs-turns l = length (left (stand l.source l.cursor))
