use Rattle.tv_known.proofs.KnownHolds.{known_holds}
use Rattle.tv_known.proofs.Programs.{known_in}
use Rattle.tv_known.proofs.laws.known_states_are_right.Goals as goal

pub returns : goal.returns
returns c = record {
  cases = λ about cases f n last s is k. known_holds about cases last f n s is k;
  program = λ p about are f n last s is k. known_in p about are f n last s is k;
}
