use Rattle.std.proofs.Common.{◌<◌, length, arith}
use Rattle.tv_graph.proofs.search.PathSearch.close_segment.Goals as goal

pub close_nodes-requires-clause-inside : goal.close_nodes-requires-clause-inside
close_nodes-requires-clause-inside c = (let h : c.args.place < length c.args.self.now.path.items = c.requires.valid.state.within c.args.place (c.requires.valid.state.boundaries c.args.place c.requires.boundary) in omega arith)
