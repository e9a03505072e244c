use Rattle.std.proofs.Common.{◌≡◌, ◌∙◌, ◌++◌, All, ap, map, subst, refl}
use Rattle.std.specs.Prelude.{IfSome}
use Rattle.tv_linear.specs.Linear.{IsMet}
use Rattle.tv_linear.specs.Known.{term_value}
use Rattle.tv_linear.specs.Terms.{terms_after}
use Rattle.tv_cases.specs.Systems.{cases_of}
use Rattle.tv_cases.specs.Views.{case_view}
use Rattle.tv_invariant.proofs.RunLemmas.{reached_next}
use Rattle.tv_invariant.proofs.walks.after.Goals as goal

pub returns : goal.returns
returns c =
    let about = cases_of c.args.about.now in
    let case = case_view c.args.case.now in
    let state = c.args.state.now in
    let drawn = c.in_ok-push_numbers.ensures in
    let point : c.push_numbers.new.list.items ≡ state.values.items ++ drawn.drawn = drawn.parts ∙ ap (λ xs. xs ++ drawn.drawn) (c.in_ok-point.ensures.items ∙ c.deref.ensures.value) in
    let gives = subst (λ next. IfSome next (λ v. v.items ≡ map (term_value c.deref-5.result.now) (terms_after c.variables.result c.deref-4.result.now))) c.in-Some.is c.in_ok-values_after.ensures in
    let here = c.deref-5.ensures.value ∙ point in
    let values : c.in-Some.values.items ≡ map (term_value (state.values.items ++ drawn.drawn)) (terms_after about.variables case.updates) =
    gives ∙ (λ i. map (term_value (here i)) (terms_after (c.variables.ensures.same i) (c.deref-4.ensures.value i))) in
    let guards = subst (λ xs. All (IsMet xs) case.guards) (c.deref-2.ensures.value ∙ point) (subst (All (IsMet c.deref-2.result.now)) c.deref-3.ensures.value (c.if-not-meets_all.ensures refl)) in
    reached_next about state record { location = c.args.case.now.to; values = c.in-Some.values } case drawn.drawn c.requires.state c.requires.case c.requires.place drawn.counted guards refl values
