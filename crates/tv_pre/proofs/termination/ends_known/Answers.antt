use Rattle.std.proofs.Common.{[]}
use Rattle.tv_pre.specs.Search.{system_of}
use Rattle.tv_pre.proofs.SameFoundLemmas.{ends_same}
use Rattle.tv_pre.proofs.termination.ends_known.Goals as goal

pub all_ended-requires : goal.all_ended-requires
all_ended-requires c = record {
  ranked = ends_same (system_of c.args.search.now) [] c.args.ranking.now.node c.in_ok-node.node c.in_ok-node.ensures c.requires.ranking.ranked.ends;
  lexicographic = c.requires.ranking.lexicographic;
}
