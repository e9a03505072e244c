use Rattle.std.proofs.Common.{◌≡◌, ◌<◌, length, sym, ◌∙◌, arith}
use Rattle.std.proofs.lemmas.List.{get_or_read}
use Rattle.tv_graph.specs.Arcs.{to_at}
use Rattle.tv_graph.specs.Marks.{mark_at}
use Rattle.tv_graph.specs.declared.marks.Mark.TheVariants.{New}
use Rattle.tv_graph.proofs.SearchLemmas.{follows_new, follows_open, follows_closed}
use Rattle.tv_graph.proofs.search.PathSearch.follow_arc.Goals as goal

pub cut-requires : goal.cut-requires
cut-requires c = c.requires.valid.state.bottom (let h : c.args.place < length c.args.self.now.path.items = (c.requires.valid.state.placed _ _ c.requires.here).0 in omega arith)

pub returns-in_ok-enter-in-New : goal.returns-in_ok-enter-in-New
returns-in_ok-enter-in-New c =
    let inside : to_at c.args.arcs.now c.args.a < length c.args.self.now.marks.items = c.requires.range.to_in c.args.a c.requires.arc in
    let read : c.index.result.now ≡ mark_at c.args.self.now.marks.items (to_at c.args.arcs.now c.args.a) = get_or_read c.args.self.now.marks.items (to_at c.args.arcs.now c.args.a) c.index.result.now inside c.index.ensures New in
    follows_new c.args.arcs.now c.args.self.now c.enter.new.self c.args.place c.args.a (record { valid = c.requires.valid; arc = c.requires.arc; here = c.requires.here; waits = c.requires.waits; top = c.requires.top }) (sym read ∙ c.in-New.is) inside c.in_ok-enter-in-New.ensures

pub returns-in-Open : goal.returns-in-Open
returns-in-Open c =
    let inside : to_at c.args.arcs.now c.args.a < length c.args.self.now.marks.items = c.requires.range.to_in c.args.a c.requires.arc in
    let read : c.index.result.now ≡ mark_at c.args.self.now.marks.items (to_at c.args.arcs.now c.args.a) = get_or_read c.args.self.now.marks.items (to_at c.args.arcs.now c.args.a) c.index.result.now inside c.index.ensures New in
    follows_open c.args.arcs.now c.args.self.now (record c.args.self.now { boundaries = c.cut.new.boundaries }) c.args.place c.args.a c.in-Open.at (record { valid = c.requires.valid; arc = c.requires.arc; here = c.requires.here; waits = c.requires.waits; top = c.requires.top }) (sym read ∙ c.in-Open.is) c.cut.ensures.cuts c.cut.ensures.top

pub returns-in-Closed : goal.returns-in-Closed
returns-in-Closed c =
    let inside : to_at c.args.arcs.now c.args.a < length c.args.self.now.marks.items = c.requires.range.to_in c.args.a c.requires.arc in
    let read : c.index.result.now ≡ mark_at c.args.self.now.marks.items (to_at c.args.arcs.now c.args.a) = get_or_read c.args.self.now.marks.items (to_at c.args.arcs.now c.args.a) c.index.result.now inside c.index.ensures New in
    follows_closed c.args.arcs.now c.args.self.now c.args.place c.args.a c.in-Closed.field-0 (record { valid = c.requires.valid; arc = c.requires.arc; here = c.requires.here; waits = c.requires.waits; top = c.requires.top }) (sym read ∙ c.in-Closed.is)
