use Rattle.std.proofs.Common.{length, refl, arith}
use Rattle.std.proofs.lemmas.Option.{slice_get_past, slice_get_read}
use Rattle.tv_cases.specs.LinearCases.{leaving}
use Rattle.tv_cases.specs.Systems.{cases_of}
use Rattle.tv_cases.specs.Views.{case_view}
use Rattle.tv_cases.proofs.LeavingLemmas.{case_within}
use Rattle.tv_cert.proofs.ZipLemmas.{zip_next, zip_fails, zip_short, zip_over, zip_ends}
use Rattle.tv_shape.proofs.choices.no_step_has_shape.Goals as goal

pub returns-in_default-get : goal.returns-in_default-get
returns-in_default-get c =
    let all = leaving c.args.location (cases_of c.args.about.now).cases in
    (λ t. cc, λ h. absurd (zip_short _ all c.args.covers.now c.cases.k c.cases.invariant (case_view c.in-Some.case.now) c.in-Some.ensures.case (slice_get_past c.args.covers.now c.cases.k c.in_default-get.ensures.lookup.3) h))

pub returns-then-not-stop_has_shape : goal.returns-then-not-stop_has_shape
returns-then-not-stop_has_shape c =
    let all = leaving c.args.location (cases_of c.args.about.now).cases in
    let covers = c.args.covers.now in
    let cover = c.in-Some-get.cover.now in (
      λ t. cc,
      λ h. absurd (zip_fails _ all covers c.cases.k c.cases.invariant (case_view c.in-Some.case.now) c.in-Some.ensures.case cover
          (slice_get_read covers (length covers) c.cases.k cover refl c.in-Some-get.ensures.lookup.3.0 c.in-Some-get.ensures.lookup.1) (λ s. let t = c.if-not-stop_has_shape.ensures.1 s in cc) h),
    )

pub cases-smaller : goal.cases-smaller
cases-smaller c =
    let below = case_within c.args.location (cases_of c.args.about.now).cases c.cases.k (case_view c.in-Some.case.now) c.in-Some.ensures.case in
    omega (arith, below)

pub cases-preserved : goal.cases-preserved
cases-preserved c =
    let all = leaving c.args.location (cases_of c.args.about.now).cases in
    let covers = c.args.covers.now in
    let cover = c.in-Some-get.cover.now in
    zip_next _ all covers c.cases.k c.cases.invariant (case_view c.in-Some.case.now) c.in-Some.ensures.case cover
    (slice_get_read covers (length covers) c.cases.k cover refl c.in-Some-get.ensures.lookup.3.0 c.in-Some-get.ensures.lookup.1) (c.if-not-stop_has_shape.ensures.0 refl)

pub returns : goal.returns
returns c =
    let all = leaving c.args.location (cases_of c.args.about.now).cases in (
      λ t. zip_over _ all c.args.covers.now c.cases.k c.cases.invariant c.in_default.ensures.case (grind (arith, t)),
      λ h. let past = zip_ends _ all c.args.covers.now c.cases.k c.cases.invariant c.in_default.ensures.case h in grind (arith, past),
    )
