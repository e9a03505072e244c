use Rattle.std.proofs.Common.{◌≡◌, ◌-◌}
use Rattle.tv_cases.specs.Systems.{cases_of}
use Rattle.tv_propose.specs.Walks.{left_in_table}
use Rattle.tv_propose.proofs.walk.Walk.next_in_table.Given as goal

abbrev pub invariant-groups : goal.invariant-groups
invariant-groups g l = record {
  left : l.self.left ≡ l.fn.self.left;
  location : l.self.location ≡ l.fn.self.location;
  next : left_in_table (g.T.Table.rows l.fn.table (cases_of l.fn.about)) l.fn.self ≡ left_in_table (g.T.Table.rows l.fn.table (cases_of l.fn.about)) l.self;
}

abbrev pub decreases-groups : goal.decreases-groups
decreases-groups g l = l.groups - l.self.group
