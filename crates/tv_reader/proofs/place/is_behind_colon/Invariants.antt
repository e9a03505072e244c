use Rattle.std.proofs.Common.{◌≡◌, drop, false}
use Rattle.tv_reader.specs.FirstFaults.{ends_with_colon}
use Rattle.tv_reader.proofs.place.is_behind_colon.Given as goal

abbrev pub invariant-loop-token : goal.invariant-loop-token
invariant-loop-token l = ends_with_colon l.colon (drop l.token-index l.before) ≡ ends_with_colon false l.before
