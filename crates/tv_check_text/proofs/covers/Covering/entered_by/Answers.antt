use Rattle.std.proofs.Common.{length, sym, ap, ◌∙◌}
use Rattle.std.specs.Option.{option_map}
use Rattle.tv_cert.proofs.TargetLemmas.{counts_at}
use Rattle.tv_cert_reader.proofs.CountLemmas.{few_targets}
use Rattle.tv_check_text.proofs.covers.Covering.entered_by.Goals as goal

pub returns-in_default : goal.returns-in_default
returns-in_default c = λ change target fall rows text owes.
    let ts = c.args.self.now.targets.now in
    let bounded = few_targets ts target fall (length rows) c.requires (sym (counts_at change ts target fall) ∙ ap (option_map length) owes) in
    c.in_default.ensures target fall text bounded.0 bounded.1
