use Rattle.tv_cert_reader.proofs.CountLemmas.{few_targets}
use Rattle.tv_cert_reader.proofs.covers.target_of.Goals as goal

pub returns-in_err-target : goal.returns-in_err-target
returns-in_err-target c = rw c.from_residual.ensures (λ target fall rows text owes.
    let bounded = few_targets c.args.targets.now target fall rows c.requires owes in
    c.in_err-target.ensures target fall text bounded.0 bounded.1)
