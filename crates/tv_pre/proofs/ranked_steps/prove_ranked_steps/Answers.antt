use Rattle.std.proofs.Common.{◌≡◌, ◌+◌, [], ◌∷◌, map, take, arith, sym, subst}
use Rattle.std.proofs.lemmas.List.{map-append}
use Rattle.tv_cases.specs.LinearCases.{leaving}
use Rattle.tv_cases.specs.Systems.{cases_of}
use Rattle.tv_cases.specs.Views.{case_view}
use Rattle.tv_cert.specs.declared.node.Proof.TheVariants.{Covered}
use Rattle.tv_cert.specs.Claims.{about_with}
use Rattle.tv_cert.specs.Nodes.{pieces_of}
use Rattle.tv_cert.specs.Obligations.{step_of, step_fall}
use Rattle.tv_lexrank.specs.Shown.{IsShownIn}
use Rattle.tv_pre.specs.Offers.{Adds}
use Rattle.tv_pre.specs.Questions.{steps, AsksSteps}
use Rattle.tv_pre.proofs.AddLemmas.{adds_one, adds_then}
use Rattle.tv_pre.proofs.RankedStepLemmas.{case_within, got_case, leaving_kept, leaving_skipped, many_cases, many_shown, shown_at}
use Rattle.tv_pre.proofs.RefusalLemmas.{refusal_weaker}
use Rattle.tv_pre.proofs.ranked_steps.prove_ranked_steps.Goals.{then-case-piece+in-Ok+in_ok-push_item-in-Ok, else-case-piece}
use Rattle.tv_pre.proofs.ranked_steps.prove_ranked_steps.Goals as goal
use Rattle.tv_linear.proofs.ListLaws.{take_past}

pub bounds-ranking-number : goal.bounds-ranking-number
bounds-ranking-number c =
    let about = cases_of c.args.setting.now.about.now in
    let many = many_shown about (pieces_of c.args.ranking.now.node.now) c.list-list.result.now c.args.ranking.now.shown.now c.list-list.ensures.same c.requires.ranked in
    let within = c.cases-test.true in
    omega (arith, many, within)

pub step_ranked-requires-clause-shown : goal.step_ranked-requires-clause-shown
step_ranked-requires-clause-shown c =
    let about = cases_of c.args.setting.now.about.now in
    let ranked = pieces_of c.args.ranking.now.node.now in
    let case = c.index-list-number.result in
    let at = c.index-ranking-number.result in (
      ranked,
      subst (IsShownIn about [] ranked (case_view case)) c.index-ranking-number.is
          (shown_at about ranked c.list-list.result.now c.args.ranking.now.shown.now c.cases.number case at c.list-list.ensures.same c.requires.ranked c.cases-test.true c.index-list-number.is c.index-ranking-number.is),
    )

pub returns-in-Err-clause-refusals : goal.returns-in-Err-clause-refusals
returns-in-Err-clause-refusals c =
    let about = cases_of c.args.setting.now.about.now in
    let case = case_view c.index-list-number.result in
    refusal_weaker about c.args.setting.now.budget.now (λ a. a ≡ steps c.args.piece.now case c.args.into.now) (AsksSteps about c.args.piece.now c.args.into.now) c.in-Err.fault
    (λ a e. (case, case_within c.list-list.result.now about.cases c.cases.number c.index-list-number.result c.list-list.ensures.same c.cases-test.true c.index-list-number.is, c.if-case-piece.true, e)) c.in-Err.ensures.refusals

pub cases-preserved : goal.cases-preserved
cases-preserved c k p all placed =
    let about = cases_of c.args.setting.now.about.now in
    let l = c.args.piece.now.location in
    let ranked = pieces_of c.args.ranking.now.node.now in
    let case = case_view c.index-list-number.result in
    let number = c.cases.number in
    let f = step_of k (about_with about) p all (step_fall (about_with about) p) in
    let old = c.args.proofs.now.items in
    let now = c.cases.proofs.items in
    let before = leaving l (take number about.cases) in
    let got = got_case c.list-list.result.now about.cases number c.index-list-number.result c.list-list.ensures.same c.cases-test.true c.index-list-number.is in
    elim c.if-case-piece.branch [
      | then-case-piece+in-Ok+in_ok-push_item-in-Ok w ↦
          let new = w.push_item.new.items.items in
          let shown = subst (IsShownIn about [] ranked case) w.index-ranking-number.is
          (shown_at about ranked c.list-list.result.now c.args.ranking.now.shown.now number c.index-list-number.result w.index-ranking-number.result c.list-list.ensures.same c.requires.ranked c.cases-test.true c.index-list-number.is w.index-ranking-number.is)
          in
          let one = adds_one (f case) (Covered w.in-Ok.cover) now new w.in_ok-push_item-in-Ok.ensures (w.in-Ok.ensures.shows ranked shown k p all placed) in
          subst (λ v. Adds (map f (leaving l (take (number + 1) about.cases))) old v.items) (sym w.proofs-is)
          (subst (λ cs. Adds (map f cs) old new) (sym (leaving_kept l about.cases number case got w.if-case-piece.true))
          (subst (λ os. Adds os old new) (sym (map-append f before (case ∷ []))) (adds_then (map f before) (f case ∷ []) old now new (c.cases.invariant k p all placed) one)))
      | else-case-piece w ↦
          subst (λ v. Adds (map f (leaving l (take (number + 1) about.cases))) old v.items) (sym w.proofs-is)
          (subst (λ cs. Adds (map f cs) old now) (sym (leaving_skipped l about.cases number case got w.if-case-piece.false)) (c.cases.invariant k p all placed))
    ]

pub returns-clause-adds : goal.returns-clause-adds
returns-clause-adds c k p all placed =
    let about = cases_of c.args.setting.now.about.now in
    let f = step_of k (about_with about) p all (step_fall (about_with about) p) in
    let many = many_cases c.list-list.result.now about.cases c.list-list.ensures.same in
    let past = c.cases-test.false in
    subst (λ l. Adds (map f (leaving l about.cases)) c.args.proofs.now.items c.cases.proofs.items) (sym placed.marked.0)
    (subst (λ cs. Adds (map f (leaving c.args.piece.now.location cs)) c.args.proofs.now.items c.cases.proofs.items) (take_past about.cases c.cases.number (omega (arith, many, past))) (c.cases.invariant k p all placed))
