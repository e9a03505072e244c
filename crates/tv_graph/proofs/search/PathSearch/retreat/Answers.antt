use Rattle.std.proofs.Common.{◌≡◌, ◌-◌, ◌<◌, length, take, get_or, sym, ◌∙◌, arith}
use Rattle.std.proofs.lemmas.Grind.{common_steps}
use Rattle.tv_graph.proofs.SearchLemmas.{has_last, has_boundary, steps_close, steps_back}
use Rattle.tv_graph.proofs.search.PathSearch.retreat.Goals as goal

pub overflow_sub-len : goal.overflow_sub-len
overflow_sub-len c = omega (arith, has_boundary c.args.arcs.now c.args.self.now c.args.place c.requires.valid c.requires.waits)

pub index-requires : goal.index-requires
index-requires c = omega (arith, has_boundary c.args.arcs.now c.args.self.now c.args.place c.requires.valid c.requires.waits)

pub close_segment-requires-clause-boundary : goal.close_segment-requires-clause-boundary
close_segment-requires-clause-boundary c =
    let some : 0 < length c.args.self.now.boundaries.items = has_boundary c.args.arcs.now c.args.self.now c.args.place c.requires.valid c.requires.waits in
    let top : c.index.result.now ≡ get_or c.args.self.now.boundaries.items (length c.args.self.now.boundaries.items - 1) 0 = grind (arith, common_steps) in
    has_last c.args.self.now.boundaries.items c.args.place (record { some = some; is = sym c.if-index-place.true ∙ top })

pub returns-then-index-place : goal.returns-then-index-place
returns-then-index-place c =
    let some : 0 < length c.args.self.now.boundaries.items = has_boundary c.args.arcs.now c.args.self.now c.args.place c.requires.valid c.requires.waits in
    let top : c.index.result.now ≡ get_or c.args.self.now.boundaries.items (length c.args.self.now.boundaries.items - 1) 0 = grind (arith, common_steps) in
    steps_close c.args.arcs.now c.args.self.now c.close_segment.new.self c.args.place c.requires.valid c.close_segment.ensures
    (record { some = some; is = sym c.if-index-place.true ∙ top }) c.requires.waits c.requires.no_arc_left

pub returns : goal.returns
returns c =
    let some : 0 < length c.args.self.now.boundaries.items = has_boundary c.args.arcs.now c.args.self.now c.args.place c.requires.valid c.requires.waits in
    let top : c.index.result.now ≡ get_or c.args.self.now.boundaries.items (length c.args.self.now.boundaries.items - 1) 0 = grind (arith, common_steps) in
    let rest : c.pop.new.self.items ≡ take (length c.args.self.now.waiting.items - 1) c.args.self.now.waiting.items = grind (arith, common_steps) in
    steps_back c.args.arcs.now c.args.self.now (record c.args.self.now { waiting = c.pop.new.self }) c.args.place c.requires.valid c.requires.waits (λ e. c.if-index-place.false (top ∙ sym e)) c.requires.no_arc_left rest
