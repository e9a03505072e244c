use Rattle.std.proofs.Common.{◌++◌, ◌∙◌, ap, refl, map, subst}
use Rattle.tv_linear.specs.Known.{term_value}
use Rattle.tv_linear.specs.Terms.{terms_after}
use Rattle.tv_cases.specs.Systems.{cases_of}
use Rattle.tv_cases.specs.Views.{case_view}
use Rattle.tv_reaching.specs.Making.{AreNumbers}
use Rattle.tv_reaching.proofs.NextLemmas.{next_is}
use Rattle.tv_reaching.proofs.next.next_state.Goals as goal

pub returns : goal.returns
returns c = λ t h.
    let numbers : AreNumbers (map (term_value c.in_ok-point.point.items) (terms_after c.variables.result c.in-Some.case.now.updates.items)) c.in-Ok.values.items =
    subst (λ us. AreNumbers (map (term_value c.in_ok-point.point.items) (terms_after c.variables.result us)) c.in-Ok.values.items) c.deref-2.ensures.value
    (subst (λ xs. AreNumbers (map (term_value xs) (terms_after c.variables.result c.deref-2.result.now)) c.in-Ok.values.items) c.deref-3.ensures.value c.in-Ok.ensures) in
    next_is (cases_of c.args.about.now) (case_view c.in-Some.case.now) c.args.number c.variables.result c.args.draws.now c.in_ok-point.point.items c.args.state.now c.in-Some.ensures c.variables.ensures.same c.requires.state
    (c.in_ok-point.ensures.exact ∙ ap (λ xs. xs ++ c.args.draws.now) c.deref.ensures.value)
    c.variables.ensures.limits t h _ refl numbers
