use Rattle.std.proofs.Common.{◌≡◌, [], get_or, None, sym, subst, ◌∙◌}
use Rattle.std.specs.List.{slice_get}
use Rattle.tv_cases.specs.Systems.{cases_of}
use Rattle.tv_propose.proofs.WalkLemmas.{group_none}
use Rattle.tv_propose.proofs.walk.Walk.next_in_group.Goals as goal

pub places-preserved : goal.places-preserved
places-preserved g c =
    let rows = g.T.Table.rows c.args.table.now (cases_of c.args.about.now) in
    let w = c.places.self in
    let none = subst (λ k. slice_get (get_or (get_or rows k []) w.place []) w.row ≡ None) c.places.invariant.group (sym c.in_ok-row.ensures.is ∙ c.in_default.is) in
    record {
      left = c.places.invariant.left;
      location = c.places.invariant.location;
      group = c.places.invariant.group;
      next = c.places.invariant.next ∙ group_none (get_or rows c.args.self.now.group []) w.place w.row none;
    }
