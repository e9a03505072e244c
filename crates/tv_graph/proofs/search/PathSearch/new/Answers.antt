use Rattle.std.proofs.Common.{◌≡◌, refl, arith, vec_len}
use Rattle.tv_graph.proofs.SearchLemmas.{start_valid}
use Rattle.tv_graph.proofs.search.PathSearch.new.Goals as goal

pub returns-clause-valid : goal.returns-clause-valid
returns-clause-valid c = start_valid c.args.arcs.now _ c.args.nodes c.requires.bounded c.requires.range (c.in_ok-marks.ensures.items_if_clones_equal (λ y e. e)) c.new.ensures.items c.new-2.ensures.items c.new-3.ensures.items refl c.requires.latest.many (let n : vec_len c.in_ok-marks.marks ≡ c.args.nodes = c.in_ok-marks.ensures.len in omega arith) c.requires.latest.links
