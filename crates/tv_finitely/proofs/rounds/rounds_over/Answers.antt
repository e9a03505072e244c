use Rattle.std.proofs.Common.{◌∙◌, sym, ap, subst, length, arith, Bool}
use Rattle.std.specs.Prelude.{MatchBool}
use Rattle.tv_rank.specs.Sets.{PointsOf}
use Rattle.tv_cases.specs.Systems.{cases_of}
use Rattle.tv_rank.specs.Given.{AreNumbered}
use Rattle.tv_lexrank.specs.Greedy.{IsTurn, Lead, none, without, RefusesTurn}
use Rattle.tv_lexrank.proofs.Turns.{one_more}
use Rattle.tv_lexrank.proofs.Removing.{length-without, numbered_without, points_without}
use Rattle.tv_cases.proofs.AmountLemmas.{one_more as one_longer}
use Rattle.tv_finitely.specs.Rounds.{SomeEnters, NoneEnters}
use Rattle.tv_finitely.proofs.RoundLemmas.{none_left, turn_refused}
use Rattle.tv_finitely.proofs.rounds.rounds_over.Goals as goal

pub rounds-init : goal.rounds-init
rounds-init c =
    let o = c.args.set.ok in
    let n = c.len-count.ensures in
    record {
      lead = subst (λ z. Lead (cases_of c.args.component.now.about.now) c.args.component.now.known.now.pieces.items c.args.set.items z c.args.set.items) (sym c.new-rounds.ensures.items) (none c.args.set.items);
      as_many = ap length c.new-rounds.ensures.items;
      counted = omega (arith, o, n);
      fewer = omega (arith, o, n);
      numbered = c.requires.numbered;
      points = c.requires.points;
    }

pub take_turn-requires-clause-points : goal.take_turn-requires-clause-points
take_turn-requires-clause-points c = subst (λ z. PointsOf (cases_of c.args.component.now.about.now) c.args.component.now.known.now.pieces.items z) (sym c.deref-in-rounds.ensures.value) c.rounds.invariant.points

pub returns-then-not-some_enters-clause-rounds : goal.returns-then-not-some_enters-clause-rounds
returns-then-not-some_enters-clause-rounds c =
    let marks = c.args.entering.now in
    let out = subst (λ (b : Bool). MatchBool b (SomeEnters marks c.deref.result.now) (NoneEnters marks c.deref.result.now)) c.if-not-some_enters.true c.some_enters.ensures in
    record {
      left = c.rounds.left.items;
      lead = c.rounds.invariant.lead;
      none_enters = subst (NoneEnters marks) c.deref.ensures.value out;
    }

pub returns-in-Stuck-clause-rounds : goal.returns-in-Stuck-clause-rounds
returns-in-Stuck-clause-rounds c =
    let about = cases_of c.args.component.now.about.now in
    let known = c.args.component.now.known.now.pieces.items in
    let marks = c.args.entering.now in
    let some = subst (λ (b : Bool). MatchBool b (SomeEnters marks c.deref.result.now) (NoneEnters marks c.deref.result.now)) c.if-not-some_enters.false c.some_enters.ensures in
    record {
      rounds = c.rounds.rounds.items;
      lead = c.rounds.invariant.lead;
      enters = subst (SomeEnters marks) c.deref.ensures.value some;
      points = c.rounds.invariant.points;
      each_barred = subst (λ t. IsTurn about known c.rounds.left.items t) c.in-Stuck.is (subst (λ z. IsTurn about known z c.in-Ok.turn) c.deref-in-rounds.ensures.value c.in-Ok.ensures.turn);
    }

pub returns-in-Err-clause-refusals : goal.returns-in-Err-clause-refusals
returns-in-Err-clause-refusals c =
    let about = cases_of c.args.component.now.about.now in
    let known = c.args.component.now.known.now.pieces.items in
    let marks = c.args.entering.now in
    let some = subst (λ (b : Bool). MatchBool b (SomeEnters marks c.deref.result.now) (NoneEnters marks c.deref.result.now)) c.if-not-some_enters.false c.some_enters.ensures in
    turn_refused about known marks c.args.set.items c.args.component.now.pivots c.args.component.now.number c.rounds.rounds.items c.rounds.left.items c.rounds.round c.rounds.invariant.lead c.rounds.invariant.as_many
    (subst (SomeEnters marks) c.deref.ensures.value some) c.in-Err.fault
    (subst (λ z. RefusesTurn about known z c.args.component.now.pivots c.args.component.now.number c.rounds.round c.in-Err.fault) c.deref-in-rounds.ensures.value c.in-Err.ensures.refusals)

pub returns-clause-rounds : goal.returns-clause-rounds
returns-clause-rounds c =
    let f = c.rounds.invariant.fewer in
    let t = c.rounds-test.false in
    record {
      left = c.rounds.left.items;
      lead = c.rounds.invariant.lead;
      none_enters = none_left c.args.entering.now c.rounds.left.items (omega (arith, f, t));
    }

pub rounds-preserved : goal.rounds-preserved
rounds-preserved c =
    let about = cases_of c.args.component.now.about.now in
    let known = c.args.component.now.known.now.pieces.items in
    let turn = subst (λ t. IsTurn about known c.rounds.left.items t) c.in-Took.is (subst (λ z. IsTurn about known z c.in-Ok.turn) c.deref-in-rounds.ensures.value c.in-Ok.ensures.turn) in
    let rest = c.in_ok-left-in-Took.ensures ∙ ap (λ z. without z c.in-Took.taken.place) c.deref-in-Took.ensures.value in
    let m = length-without c.rounds.left.items c.in-Took.taken.place turn.within in
    let r = ap length rest in
    let f = c.rounds.invariant.fewer in
    record {
      lead = one_more about known c.args.set.items c.rounds.left.items c.rounds.rounds.items c.push_item.new.items.items c.in-Took.taken c.in_ok-left-in-Took.left.items c.rounds.invariant.lead turn c.in_ok-push_item-in-Took.ensures rest;
      as_many = ap length c.in_ok-push_item-in-Took.ensures ∙ (let a = c.rounds.invariant.as_many in one_longer c.rounds.rounds.items c.in-Took.taken c.rounds.round a);
      counted = c.rounds.invariant.counted;
      fewer = omega (arith, m, r, f);
      numbered = subst (AreNumbered (length about.cases)) (sym rest) (numbered_without (length about.cases) c.rounds.left.items c.in-Took.taken.place c.rounds.invariant.numbered);
      points = subst (λ z. PointsOf about known z) (sym rest) (points_without about known c.rounds.left.items c.in-Took.taken.place c.rounds.invariant.points);
    }
