use Rattle.std.proofs.Common.{◌≡◌, ◌-◌, [], get_or}
use Rattle.tv_cases.specs.Systems.{cases_of}
use Rattle.tv_propose.specs.Walks.{left_in_group}
use Rattle.tv_propose.proofs.walk.Walk.next_in_group.Given as goal

abbrev pub invariant-places : goal.invariant-places
invariant-places g l = record {
  left : l.self.left ≡ l.fn.self.left;
  location : l.self.location ≡ l.fn.self.location;
  group : l.self.group ≡ l.fn.self.group;
  next : left_in_group (get_or (g.T.Table.rows l.fn.table (cases_of l.fn.about)) l.fn.self.group []) l.fn.self.place l.fn.self.row ≡ left_in_group (get_or (g.T.Table.rows l.fn.table (cases_of l.fn.about)) l.fn.self.group []) l.self.place l.self.row;
}

abbrev pub decreases-places : goal.decreases-places
decreases-places g l = l.places - l.self.place
