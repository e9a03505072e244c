use Rattle.std.proofs.Common.{length}
use Rattle.tv_cert_reader.proofs.counts.+joined_within.Given as goal

abbrev pub decreases-joined_within : goal.decreases-joined_within
decreases-joined_within l = length l.nodes.now
