use Rattle.std.proofs.Common.{◌≡◌, ◌∙◌, get_or, sym, subst, arith, Some, slice_get}
use Rattle.tv_cases.specs.Systems.{cases_of}
use Rattle.tv_points.specs.Taking.{IsChosen}
use Rattle.tv_points.proofs.PlaceLemmas.{got, got_one}
use Rattle.tv_points.proofs.StepLemmas.{read_is, as_many, piece_is, taking_is, lines_shown, lines_refused}
use Rattle.tv_points.proofs.steps.choice_at.Goals as goal
use Rattle.std.proofs.lemmas.Option.{slice_get_within}

pub bounds-run-place-2 : goal.bounds-run-place-2
bounds-run-place-2 c = let l = slice_get_within c.args.run.now.states.now c.args.place c.requires.leads.before c.requires.leads.here in let m = as_many c.args.run.now c.requires.made in omega (arith, l, m)

pub bounds-run-next : goal.bounds-run-next
bounds-run-next c = let l = slice_get_within c.args.run.now.states.now c.args.step.now.next c.requires.leads.after c.requires.leads.there in let m = as_many c.args.run.now c.requires.made in omega (arith, l, m)

pub place_among-requires-clause-inside : goal.place_among-requires-clause-inside
place_among-requires-clause-inside c = let l = slice_get_within c.args.run.now.states.now c.args.step.now.next c.requires.leads.after c.requires.leads.there in let m = as_many c.args.run.now c.requires.made in omega (arith, l, m)

pub place_among-requires-clause-bounded : goal.place_among-requires-clause-bounded
place_among-requires-clause-bounded c = let m = as_many c.args.run.now c.requires.made in let f = c.requires.made.states.bounded in omega (arith, f, m)

pub take-requires : goal.take-requires
take-requires c =
    let run = c.args.run.now in
    let leads = c.requires.leads in
    taking_is _ run.states.now c.args.place leads c.requires.made.states
    (read_is run.states.now c.args.place leads.before c.index-run-place.result leads.here)
    (sym c.index-run-place-2.is ∙ piece_is run c.requires.made c.args.place leads.before c.index-run-place-2.result leads.here c.index-run-place-2.is)
    (sym c.index-run-next.is ∙ piece_is run c.requires.made c.args.step.now.next leads.after c.index-run-next.result leads.there c.index-run-next.is)
    c.requires.falling
    (omega arith)

pub returns-in-Ok : goal.returns-in-Ok
returns-in-Ok c =
    let run = c.args.run.now in
    let leads = c.requires.leads in
    let here = got run.pieces.now c.args.place c.index-run-place-2.result (let l = slice_get_within run.states.now c.args.place leads.before leads.here in let m = as_many run c.requires.made in omega (arith, l, m)) c.index-run-place-2.is in
    let there = got run.pieces.now c.args.step.now.next c.index-run-next.result (let l = slice_get_within run.states.now c.args.step.now.next leads.after leads.there in let m = as_many run c.requires.made in omega (arith, l, m)) c.index-run-next.is in
    record {
      shown = lines_shown _ run.states.now c.args.place leads c.in-Ok.choice c.in-Ok.ensures
          (read_is run.states.now c.args.place leads.before c.index-run-place.result leads.here)
          (sym c.index-run-place-2.is ∙ piece_is run c.requires.made c.args.place leads.before c.index-run-place-2.result leads.here c.index-run-place-2.is)
          (sym c.index-run-next.is ∙ piece_is run c.requires.made c.args.step.now.next leads.after c.index-run-next.result leads.there c.index-run-next.is);
      chosen = λ p e. subst (λ q. IsChosen (cases_of run.about.now) run.pieces.now run.ends q c.in-Ok.choice) (sym c.index-run-place-2.is ∙ got_one run.pieces.now c.args.place c.index-run-place-2.result p here e)
          (c.in-Ok.ensures.chosen run.pieces.now (c.place_among.ensures (get_or run.pieces.now c.args.step.now.next c.index-run-next.result) (subst (λ q. slice_get run.pieces.now c.args.step.now.next ≡ Some q) c.index-run-next.is there)));
    }

pub returns-in-Err : goal.returns-in-Err
returns-in-Err c =
    let run = c.args.run.now in
    let leads = c.requires.leads in
    lines_refused _ run.states.now c.args.place leads c.in-Err.fault c.in-Err.ensures
    (read_is run.states.now c.args.place leads.before c.index-run-place.result leads.here)
    (sym c.index-run-place-2.is ∙ piece_is run c.requires.made c.args.place leads.before c.index-run-place-2.result leads.here c.index-run-place-2.is)
    (sym c.index-run-next.is ∙ piece_is run c.requires.made c.args.step.now.next leads.after c.index-run-next.result leads.there c.index-run-next.is)
