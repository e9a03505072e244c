use Rattle.std.proofs.Common.{get_or, refl}
use Rattle.std.specs.Vec.{with_item}
use Rattle.tv_graph.specs.Arcs.{from_at}
use Rattle.tv_graph.proofs.SearchLemmas.{top_boundary, steps_on}
use Rattle.tv_graph.proofs.search.PathSearch.advance.Goals as goal

pub follow_arc-requires-clause-top : goal.follow_arc-requires-clause-top
follow_arc-requires-clause-top c = top_boundary c.args.arcs.now c.args.self.now c.args.place c.requires.valid c.requires.waits

pub returns : goal.returns
returns c =
    steps_on c.args.arcs.now c.args.self.now c.follow_arc.new.self (record c.follow_arc.new.self { cursors = with_item c.follow_arc.new.self.cursors (from_at c.args.arcs.now c.args.a) (get_or c.args.earlier.now c.args.a 0) })
    c.args.place c.args.a (get_or c.args.earlier.now c.args.a 0) c.in_ok-follow_arc.ensures c.requires.arc (c.requires.range.from_in c.args.a c.requires.arc) c.requires.next (c.requires.earlier.links c.args.a c.requires.arc) refl
