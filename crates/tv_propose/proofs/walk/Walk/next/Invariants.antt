use Rattle.std.proofs.Common.{◌≡◌, ◌-◌}
use Rattle.tv_cases.specs.Systems.{cases_of}
use Rattle.tv_propose.proofs.WalkLemmas.{left_of}
use Rattle.tv_propose.proofs.walk.Walk.next.Given as goal

abbrev pub invariant-locations : goal.invariant-locations
invariant-locations g l = record {
  left : l.self.left ≡ l.fn.self.left;
  next : left_of (cases_of l.fn.about) (g.T.Table.rows l.fn.table (cases_of l.fn.about)) l.fn.self ≡ left_of (cases_of l.fn.about) (g.T.Table.rows l.fn.table (cases_of l.fn.about)) l.self;
}

abbrev pub decreases-locations : goal.decreases-locations
decreases-locations g l = l.locations - l.self.location
