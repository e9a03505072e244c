use Rattle.std.proofs.Common.{◌≡◌, inl, inr, take, subst, arith}
use Rattle.tv_cases.specs.LinearCases.{LinearCase}
use Rattle.tv_cases.specs.Views.{case_view, case_views}
use Rattle.tv_region.specs.Met.{Has}
use Rattle.tv_region.proofs.MetLemmas.{has_push}
use Rattle.tv_region.proofs.StepLemmas.{cases_next, case_has}
use Rattle.tv_rounds.proofs.tame.are_plain.Goals as goal

pub returns-then-case-gt0 : goal.returns-then-case-gt0
returns-then-case-gt0 c = (
  λ e. (let f = e in cc),
  λ h. (let v = case_view c.case-item.result in
      let z = h v (case_has c.args.cases.now c.cases.case-index c.case-item.result c.cases-test.true c.case-item.is) in
      let p = c.if-case-gt0.true in
      absurd (omega (arith, z, p))),
)

pub cases-preserved : goal.cases-preserved
cases-preserved c d h =
    elim (has_push (case_views (take c.cases.case-index c.args.cases.now)) (case_view c.case-item.result) d (subst (λ cs. Has cs d) (cases_next c.args.cases.now c.cases.case-index c.case-item.result c.cases-test.true c.case-item.is) h)) [
      | inl k ↦ c.cases.invariant d k
      | inr e ↦ subst (λ (x : LinearCase). x.draws ≡ 0) e (let n = c.if-case-gt0.false in omega (arith, n))
    ]
