use Rattle.tv_simplex.proofs.Chains.{last_of}
use Rattle.tv_simplex.proofs.GoesOn.{goes_on}
use Rattle.tv_simplex.proofs.Steps.{feasible-any}
use Rattle.tv_simplex.specs.Chains.{column}
use Rattle.tv_simplex.proofs.laws.chain_goes_on.Goals as goal

pub returns : goal.returns
returns c = λ a m n s b bs h x. let last = last_of a m n s b bs h in goes_on a m n b x (feasible-any a m n (column b) last.table x last.feasible)
