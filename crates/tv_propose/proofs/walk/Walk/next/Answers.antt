use Rattle.std.proofs.Common.{◌<◌, ◌+◌, ◌-◌, ◌∷◌, Some, None, arith, refl, ap, sym, subst, ◌∙◌}
use Rattle.tv_cases.specs.Systems.{cases_of}
use Rattle.tv_candidates.specs.Offered.{candidate}
use Rattle.tv_propose.specs.declared.walk.Walk.{Walk}
use Rattle.tv_propose.specs.Rests.{IsFirstOf}
use Rattle.tv_propose.specs.Walks.{left_in_table}
use Rattle.tv_propose.proofs.WalkLemmas.{left_of, walk_some, walk_none, given_some}
use Rattle.tv_propose.proofs.walk.Walk.next.Goals as goal

pub returns-in-Some-clause-given : goal.returns-in-Some-clause-given
returns-in-Some-clause-given g c =
    let about = cases_of c.args.about.now in
    let rows = g.T.Table.rows c.args.table.now about in
    let w = c.next_in_table.new.self in
    let new : Walk = record { left = w.left - 1; location = w.location; group = w.group; place = w.place; row = w.row } in
    let first : IsFirstOf (left_in_table rows c.locations.self) (left_in_table rows w) (Some c.in-Some.row) = subst (IsFirstOf (left_in_table rows c.locations.self) (left_in_table rows w)) c.in-Some.is c.in_ok-row.ensures.next in
    let within : c.locations.self.location < about.locations = subst (λ n. c.locations.self.location < n) c.locations-locations.ensures.same c.if-self-locations.true in
    let more = c.locations-test.true in
    let left = c.locations.invariant.left in
    given_some about rows c.args.self.now new (candidate w.location c.in-Some.row) (omega (arith, more, left)) (ap (λ n. n - 1) (c.in_ok-row.ensures.left ∙ left))
    (c.locations.invariant.next ∙ walk_some about rows c.locations.self new c.in-Some.row within c.in_ok-row.ensures.location first
    ∙ ap (λ l. candidate l c.in-Some.row ∷ left_of about rows new) (sym c.in_ok-row.ensures.location))

pub locations-preserved : goal.locations-preserved
locations-preserved g c =
    let about = cases_of c.args.about.now in
    let rows = g.T.Table.rows c.args.table.now about in
    let w = c.next_in_table.new.self in
    let new : Walk = record { left = w.left; location = w.location + 1; group = 0; place = 0; row = 0 } in
    let none : IsFirstOf (left_in_table rows c.locations.self) (left_in_table rows w) None = subst (IsFirstOf (left_in_table rows c.locations.self) (left_in_table rows w)) c.in_default.is c.in_ok-row.ensures.next in
    let within : c.locations.self.location < about.locations = subst (λ n. c.locations.self.location < n) c.locations-locations.ensures.same c.if-self-locations.true in
    record {
      left = c.in_ok-row.ensures.left ∙ c.locations.invariant.left;
      next = c.locations.invariant.next ∙ walk_none about rows c.locations.self new within (ap (λ n. n + 1) c.in_ok-row.ensures.location) refl refl refl none.0;
    }
