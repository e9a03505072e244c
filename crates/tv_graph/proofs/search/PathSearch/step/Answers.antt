use Rattle.std.proofs.Common.{rules, ◌≡◌, ◌+◌, ◌<◌, length, get_or, sym, ◌∙◌, ap, arith}
use Rattle.std.proofs.lemmas.Grind.{common_steps}
use Rattle.std.proofs.lemmas.List.{get_or_read}
use Rattle.tv_graph.specs.Arcs.{from_at}
use Rattle.tv_graph.specs.Marks.{mark_at}
use Rattle.tv_graph.specs.Stacks.{IsLastOf}
use Rattle.tv_graph.proofs.SearchLemmas.{on_path_from_last, IsAtTop, at_top}
use Rattle.tv_graph.proofs.search.PathSearch.step.Goals as goal

pub index-requires : goal.index-requires
index-requires c =
    let last : IsLastOf c.args.self.now.waiting.items c.index-place.result.now = record { some = c.requires.waits; is = grind (arith, common_steps) } in
    omega (arith, on_path_from_last c.args.arcs.now c.args.self.now c.index-place.result.now c.requires.valid last)

pub next_arc-requires : goal.next_arc-requires
next_arc-requires c =
    let last : IsLastOf c.args.self.now.waiting.items c.index-place.result.now = record { some = c.requires.waits; is = grind (arith, common_steps) } in
    let node : c.index.result.now ≡ get_or c.args.self.now.path.items c.index-place.result.now 0 = get_or_read c.args.self.now.path.items c.index-place.result.now c.index.result.now (on_path_from_last c.args.arcs.now c.args.self.now c.index-place.result.now c.requires.valid last) c.index.ensures 0 in
    let top : IsAtTop c.args.self.now c.index-place.result.now c.index.result.now = at_top c.args.arcs.now c.args.self.now c.index-place.result.now c.index.result.now c.requires.valid last node in
    omega (arith, top.inside, c.requires.valid.cursors)

pub advance-requires-clause-arc : goal.advance-requires-clause-arc
advance-requires-clause-arc c =
    let last : IsLastOf c.args.self.now.waiting.items c.index-place.result.now = record { some = c.requires.waits; is = grind (arith, common_steps) } in
    let node : c.index.result.now ≡ get_or c.args.self.now.path.items c.index-place.result.now 0 = get_or_read c.args.self.now.path.items c.index-place.result.now c.index.result.now (on_path_from_last c.args.arcs.now c.args.self.now c.index-place.result.now c.requires.valid last) c.index.ensures 0 in
    let top : IsAtTop c.args.self.now c.index-place.result.now c.index.result.now = at_top c.args.arcs.now c.args.self.now c.index-place.result.now c.index.result.now c.requires.valid last node in
    let link : get_or c.args.self.now.cursors.items c.index.result.now 0 ≡ c.in-Some.a + 1 = search rules in
    let next : (c.in-Some.a < length c.args.arcs.now) × (from_at c.args.arcs.now c.in-Some.a ≡ c.index.result.now) = c.requires.valid.hits c.index.result.now c.in-Some.a top.inside link in
    next.0

pub advance-requires-clause-here : goal.advance-requires-clause-here
advance-requires-clause-here c =
    let last : IsLastOf c.args.self.now.waiting.items c.index-place.result.now = record { some = c.requires.waits; is = grind (arith, common_steps) } in
    let node : c.index.result.now ≡ get_or c.args.self.now.path.items c.index-place.result.now 0 = get_or_read c.args.self.now.path.items c.index-place.result.now c.index.result.now (on_path_from_last c.args.arcs.now c.args.self.now c.index-place.result.now c.requires.valid last) c.index.ensures 0 in
    let top : IsAtTop c.args.self.now c.index-place.result.now c.index.result.now = at_top c.args.arcs.now c.args.self.now c.index-place.result.now c.index.result.now c.requires.valid last node in
    let link : get_or c.args.self.now.cursors.items c.index.result.now 0 ≡ c.in-Some.a + 1 = search rules in
    let next : (c.in-Some.a < length c.args.arcs.now) × (from_at c.args.arcs.now c.in-Some.a ≡ c.index.result.now) = c.requires.valid.hits c.index.result.now c.in-Some.a top.inside link in
    ap (mark_at c.args.self.now.marks.items) next.1 ∙ top.mark

pub advance-requires-clause-next : goal.advance-requires-clause-next
advance-requires-clause-next c =
    let last : IsLastOf c.args.self.now.waiting.items c.index-place.result.now = record { some = c.requires.waits; is = grind (arith, common_steps) } in
    let node : c.index.result.now ≡ get_or c.args.self.now.path.items c.index-place.result.now 0 = get_or_read c.args.self.now.path.items c.index-place.result.now c.index.result.now (on_path_from_last c.args.arcs.now c.args.self.now c.index-place.result.now c.requires.valid last) c.index.ensures 0 in
    let top : IsAtTop c.args.self.now c.index-place.result.now c.index.result.now = at_top c.args.arcs.now c.args.self.now c.index-place.result.now c.index.result.now c.requires.valid last node in
    let link : get_or c.args.self.now.cursors.items c.index.result.now 0 ≡ c.in-Some.a + 1 = search rules in
    let next : (c.in-Some.a < length c.args.arcs.now) × (from_at c.args.arcs.now c.in-Some.a ≡ c.index.result.now) = c.requires.valid.hits c.index.result.now c.in-Some.a top.inside link in
    ap (λ u. get_or c.args.self.now.cursors.items u 0) next.1 ∙ link

pub retreat-requires-clause-no_arc_left : goal.retreat-requires-clause-no_arc_left
retreat-requires-clause-no_arc_left c =
    let last : IsLastOf c.args.self.now.waiting.items c.index-place.result.now = record { some = c.requires.waits; is = grind (arith, common_steps) } in
    let node : c.index.result.now ≡ get_or c.args.self.now.path.items c.index-place.result.now 0 = get_or_read c.args.self.now.path.items c.index-place.result.now c.index.result.now (on_path_from_last c.args.arcs.now c.args.self.now c.index-place.result.now c.requires.valid last) c.index.ensures 0 in
    let none : get_or c.args.self.now.cursors.items c.index.result.now 0 ≡ 0 = search rules in
    ap (λ u. get_or c.args.self.now.cursors.items u 0) (sym node) ∙ none
