use Rattle.std.proofs.Common.{[], ◌∷◌, ◌++◌, sym, subst, MatchBool}
use Rattle.tv_invariant.specs.Sieves.{Sieved, none}
use Rattle.tv_invariant.specs.Judged.{Stays, Falls}
use Rattle.tv_invariant.proofs.SieveLemmas.{one_stays, one_falls}
use Rattle.tv_invariant.proofs.step.sieve.Goals as goal

pub candidates-init : goal.candidates-init
candidates-init c = record {
  sieved = subst (λ ks. Sieved (Stays c.args.judge.now) (Falls c.args.judge.now) [] ks) (sym c.new-kept.ensures.items) none;
  seen = c.in-Ok.ensures.seen;
}

pub candidates-preserved-in-Continue-1 : goal.candidates-preserved-in-Continue-1
candidates-preserved-in-Continue-1 c =
    let j = c.args.judge.now in
    let d = c.in-Some.candidate in
    let stays : Stays j d = subst (λ b. MatchBool b (Stays j d) (Falls j d)) c.in-Ok-true.field-0-test c.in-Ok-true.ensures.settled in
    record {
      sieved = subst (λ ks. Sieved (Stays j) (Falls j) (c.candidates.yielded ++ d ∷ []) ks) (sym c.in_ok-push_item-in-Ok-true.ensures) (one_stays (Stays j) (Falls j) c.candidates.yielded c.candidates.kept.items d stays c.candidates.invariant.sieved);
      seen = c.in-Ok-true.ensures.seen;
    }

pub candidates-preserved : goal.candidates-preserved
candidates-preserved c =
    let j = c.args.judge.now in
    let d = c.in-Some.candidate in
    let falls : Falls j d = subst (λ b. MatchBool b (Stays j d) (Falls j d)) c.in-Ok-false.field-0-test c.in-Ok-false.ensures.settled in
    record {
      sieved = one_falls (Stays j) (Falls j) c.candidates.yielded c.candidates.kept.items d falls c.candidates.invariant.sieved;
      seen = c.in-Ok-false.ensures.seen;
    }
