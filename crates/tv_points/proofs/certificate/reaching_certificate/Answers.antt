use Rattle.std.proofs.Common.{◌∙◌, sym, ap, true}
use Rattle.tv_cases.specs.Systems.{cases_of}
use Rattle.tv_points.specs.Nodes.{reaches}
use Rattle.tv_points.specs.declared.state.State.{State}
use Rattle.tv_points.proofs.CertificateLemmas.{values_inside}
use Rattle.tv_points.proofs.StepLemmas.{read_is}
use Rattle.tv_points.proofs.certificate.reaching_certificate.Goals as goal

pub disproved_certificate-requires-clause-inside : goal.disproved_certificate-requires-clause-inside
disproved_certificate-requires-clause-inside c =
    values_inside (cases_of c.args.about.now) (reaches c.args.location) true c.args.states.now c.in-Ok.node c.in_ok-values.values.items c.in-Ok.ensures c.requires.run.states_are.each c.requires.starts
    (c.in_ok-values.ensures ∙ c.deref.ensures.value ∙ ap (λ (s : State). s.values.items) (sym (read_is c.args.states.now 0 c.requires.starts.first c.index-states-0.result c.requires.starts.here)))
