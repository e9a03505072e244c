use Rattle.std.proofs.Common.{arith, subst}
use Rattle.tv_cases.specs.Systems.{cases_of}
use Rattle.tv_propose.specs.Rests.{IsGiven, IsFewer}
use Rattle.tv_invariant.proofs.AskLemmas.{asked_some, asked_end}
use Rattle.tv_invariant.proofs.asking.ask.Goals as goal

pub offers-preserved : goal.offers-preserved
offers-preserved g c =
    let about = cases_of c.args.about.now in
    let fewer = subst (IsFewer _ _) c.in-Some.is c.in_ok-next.ensures.0 in
    let given = subst (IsGiven _ _) c.in-Some.is c.in_ok-next.ensures.1.1.1 in
    let was = c.offers.invariant.fewer in
    record {
      over = c.in_ok-put-in-Some.ensures.over;
      fewer = omega (arith, fewer, was);
      asked = asked_some about _ _ _ c.args.list.now.items c.offers.list.items c.put.new.list.items c.in-Some.candidate c.offers.invariant.asked given c.in_ok-put-in-Some.ensures.put;
    }

pub returns-in-None-clause-given : goal.returns-in-None-clause-given
returns-in-None-clause-given g c =
    let given = subst (IsGiven _ _) c.in-None.is c.in_ok-next.ensures.1.1.1 in
    asked_end (cases_of c.args.about.now) _ _ _ c.args.list.now.items c.offers.list.items c.offers.invariant.asked given
