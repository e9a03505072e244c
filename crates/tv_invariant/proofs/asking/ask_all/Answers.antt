use Rattle.std.proofs.Common.{◌<◌, length, arith}
use Rattle.tv_cases.specs.Systems.{cases_of}
use Rattle.tv_invariant.proofs.AskLemmas.{all_next, no_more_first, if_refused}
use Rattle.tv_invariant.proofs.asking.ask_all.Goals as goal

pub returns-in_err-ask_box-clause-kept : goal.returns-in_err-ask_box-clause-kept
returns-in_err-ask_box-clause-kept g c =
    let now = c.proposers.proposers in
    let t = c.proposers-test.true in
    let e = c.len.ensures in
    let k = now.ok.0 in
    let some : 0 < length now.items = omega (arith, t, e, k) in
    if_refused _ c.from_residual.result
    (no_more_first (λ p. (goal.Proposer-dyn g (p.vtable, p.value)).left p.value) c.args.proposers.now.items now.items c.index_mut.result.now c.ask_box.new.proposer c.proposers.invariant.asked.0 c.proposers.invariant.asked.1 some c.index_mut.ensures.value c.ask_box.ensures.fewer)

pub proposers-preserved : goal.proposers-preserved
proposers-preserved g c =
    let about = cases_of c.args.about.now in
    let now = c.proposers.proposers in
    let t = c.proposers-test.true in
    let e = c.len.ensures in
    let k = now.ok.0 in
    let some : 0 < length now.items = omega (arith, t, e, k) in
    record {
      over = c.in_ok-ask_box.ensures.over;
      asked = all_next about (λ p. (goal.Proposer-dyn g (p.vtable, p.value)).rest p.value about) c.args.proposers.now.items c.args.list.now.items now.items c.remove.new.self.items c.proposers.list.items c.ask_box.new.list.items c.index_mut.result.now c.ask_box.new.proposer c.proposers.invariant.asked some c.index_mut.ensures.value c.in_ok-ask_box.ensures.given c.remove.ensures.items;
    }
