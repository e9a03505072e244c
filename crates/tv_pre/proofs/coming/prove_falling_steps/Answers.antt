use Rattle.std.proofs.Common.{◌≡◌, map, subst, sym, arith}
use Rattle.tv_cases.specs.LinearCases.{leaving}
use Rattle.tv_cases.specs.Systems.{cases_of}
use Rattle.tv_cases.specs.Views.{case_view}
use Rattle.tv_cases.proofs.LeavingLemmas.{case_within, case_among}
use Rattle.tv_cert.specs.declared.node.Proof.TheVariants.{Covered}
use Rattle.tv_cert.specs.Obligations.{step_of, step_fall}
use Rattle.tv_cert.specs.Claims.{about_with}
use Rattle.tv_pre.specs.Offers.{Adds}
use Rattle.tv_pre.specs.Questions.{steps, AsksSteps}
use Rattle.tv_pre.proofs.AddLemmas.{adds_one, one_done, steps_whole}
use Rattle.tv_pre.proofs.RefusalLemmas.{refusal_weaker}
use Rattle.tv_pre.proofs.coming.prove_falling_steps.Goals as goal
use Rattle.tv_choice.proofs.FitLemmas.{leaving_from}
use Rattle.tv_places.proofs.PlaceLemmas.{past_end}

pub step_falling-requires-clause-among : goal.step_falling-requires-clause-among
step_falling-requires-clause-among c = case_among c.args.piece.now.location (cases_of c.args.setting.now.about.now).cases c.cases.k (case_view c.in-Some.case.now) c.in-Some.ensures.case

pub step_falling-requires-clause-from : goal.step_falling-requires-clause-from
step_falling-requires-clause-from c = leaving_from c.args.piece.now.location (cases_of c.args.setting.now.about.now).cases c.cases.k (case_view c.in-Some.case.now) c.in-Some.ensures.case

pub returns-in-Err-clause-refusals : goal.returns-in-Err-clause-refusals
returns-in-Err-clause-refusals c =
    let about = cases_of c.args.setting.now.about.now in
    let case = case_view c.in-Some.case.now in
    let l = c.args.piece.now.location in
    refusal_weaker about c.args.setting.now.budget.now (λ a. a ≡ steps c.args.piece.now case c.args.into.now) (AsksSteps about c.args.piece.now c.args.into.now) c.in-Err.fault
    (λ a e. (case, case_among l about.cases c.cases.k case c.in-Some.ensures.case, leaving_from l about.cases c.cases.k case c.in-Some.ensures.case, e)) c.in-Err.ensures.refusals

pub overflow_add-k : goal.overflow_add-k
overflow_add-k c =
    let below = case_within c.args.piece.now.location (cases_of c.args.setting.now.about.now).cases c.cases.k (case_view c.in-Some.case.now) c.in-Some.ensures.case in
    let bounded = c.in-Some.ensures.bounded in
    omega (arith, below, bounded)

pub cases-smaller : goal.cases-smaller
cases-smaller c =
    let below = case_within c.args.piece.now.location (cases_of c.args.setting.now.about.now).cases c.cases.k (case_view c.in-Some.case.now) c.in-Some.ensures.case in
    omega (arith, below)

pub cases-preserved : goal.cases-preserved
cases-preserved c number p ps h =
    let system = cases_of c.args.setting.now.about.now in
    let case = case_view c.in-Some.case.now in
    let f = step_of number (about_with system) p ps (step_fall (about_with system) p) in
    one_done f (leaving c.args.piece.now.location system.cases) c.cases.k case c.args.proofs.now.items c.cases.proofs.items c.push_item.new.items.items c.in-Some.ensures.case
    (adds_one (f case) (Covered c.in-Ok.cover) c.cases.proofs.items c.push_item.new.items.items c.in_ok-push_item-in-Ok.ensures (c.in-Ok.ensures.shows number p ps h))
    (c.cases.invariant number p ps h)

pub returns-clause-adds : goal.returns-clause-adds
returns-clause-adds c number p ps h =
    let system = cases_of c.args.setting.now.about.now in
    let all = leaving c.args.piece.now.location system.cases in
    let f = step_of number (about_with system) p ps (step_fall (about_with system) p) in
    subst (λ l. Adds (map f (leaving l system.cases)) c.args.proofs.now.items c.cases.proofs.items) (sym h.marked.0)
    (steps_whole f all c.cases.k c.args.proofs.now.items c.cases.proofs.items (past_end all c.cases.k c.in_default.ensures.case) (c.cases.invariant number p ps h))
