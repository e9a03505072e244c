use Rattle.std.proofs.Common.{All, arith, refl, get_or, sym, subst}
use Rattle.tv_linear.specs.Linear.{IsWithin}
use Rattle.tv_cases.specs.Systems.{cases_of}
use Rattle.tv_points.specs.States.{seen}
use Rattle.tv_program.specs.Steps as programs
use Rattle.tv_reaching.specs.FoundRuns.{Takes}
use Rattle.tv_reaching.specs.Making.{IsNext, IsWideValue}
use Rattle.tv_reaching.proofs.ValueLemmas.{length-rest}
use Rattle.tv_reaching.proofs.RunLemmas.{front, front_wide, can_run, narrow_front, narrow_rest, states_more}
use Rattle.tv_reaching.proofs.states.+push_states.Goals as goal

pub next_state-requires-clause-draws : goal.next_state-requires-clause-draws
next_state-requires-clause-draws t c =
    subst (All (IsWithin 62)) (sym c.deref.ensures.value) (narrow_front c.args.draws.now c.first-item.result c.in-len1-up-draws.len_at_least c.first-item.is c.requires.draws)

pub push_states-requires : goal.push_states-requires
push_states-requires t c =
    let about = cases_of c.args.about.now in
    let h = c.requires.run in
    let f = front about c.args.path.now c.args.draws.now (get_or c.args.path.now 0 0) c.first-item.result (seen c.args.state) h.0 c.in-len1-up.len_at_least c.in-len1-up-draws.len_at_least refl c.first-item.is h.1 in
    let next = subst (λ ds. (t : programs.State) → Takes about (get_or c.args.path.now 0 0) ds (seen c.args.state) t → IsNext about t c.in-Ok.next) c.deref.ensures.value c.in-Ok.ensures in
    let is = next f.next f.takes in
    ((let d = c.decreases in let r = length-rest c.args.path.now c.in-len1-up.len_at_least in omega (arith, d, r)), (is.state, (narrow_rest c.args.draws.now c.in-len1-up-draws.len_at_least c.requires.draws, (can_run about c.args.path.now c.args.draws.now (get_or c.args.path.now 0 0) c.first-item.result (seen c.args.state) h.0 f c.in-Ok.next is))))

pub returns-in-Err : goal.returns-in-Err
returns-in-Err t c = λ run h.
    let about = cases_of c.args.about.now in
    let f = front about c.args.path.now c.args.draws.now (get_or c.args.path.now 0 0) c.first-item.result (seen c.args.state) run c.in-len1-up.len_at_least c.in-len1-up-draws.len_at_least refl c.first-item.is h in
    front_wide about c.args.path.now c.args.draws.now (get_or c.args.path.now 0 0) c.first-item.result (seen c.args.state) run f c.in-Err.fault
    (subst (λ ds. (t : programs.State) → Takes about (get_or c.args.path.now 0 0) ds (seen c.args.state) t → IsWideValue t.values c.in-Err.fault) c.deref.ensures.value c.in-Err.ensures)

pub returns-in_ok-push_item-in-Ok : goal.returns-in_ok-push_item-in-Ok
returns-in_ok-push_item-in-Ok t c =
    let about = cases_of c.args.about.now in
    states_more about c.args.path.now c.args.draws.now (get_or c.args.path.now 0 0) c.first-item.result c.args.state c.in-Ok.next c.args.states.now.items c.push_item-in-Ok.new.items.items c.push_states.new.states.items c.push_states.result
    c.in-len1-up.len_at_least c.in-len1-up-draws.len_at_least refl c.first-item.is c.requires.state
    (subst (λ ds. (t : programs.State) → Takes about (get_or c.args.path.now 0 0) ds (seen c.args.state) t → IsNext about t c.in-Ok.next) c.deref.ensures.value c.in-Ok.ensures)
    c.in_ok-push_item-in-Ok.ensures c.push_states.ensures
