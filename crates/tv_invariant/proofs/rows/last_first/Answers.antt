use Rattle.std.proofs.Common.{◌≡◌, ◌++◌, ◌∷◌, ◌∙◌, [], List, ℤ, All, ap, sym, subst}
use Rattle.std.specs.List.{Contains}
use Rattle.std.specs.Option.{option_to_list}
use Rattle.tv_linear.specs.Linear.{Linear, IsMet}
use Rattle.tv_invariant.proofs.RowLemmas.{rest_from, kept_from, kept_met, dropped_met}
use Rattle.tv_invariant.proofs.rows.last_first.Goals as goal

pub rows-preserved-in-Continue-1 : goal.rows-preserved-in-Continue-1
rows-preserved-in-Continue-1 c =
    let all = c.args.rows.items in
    let rest = c.pop.new.self.items in
    let kept = c.rows.kept.items in
    let row = c.in-Some.row in
    let popped : c.rows.rows.items ≡ rest ++ row ∷ [] = c.pop.ensures.items ∙ ap (λ o. rest ++ option_to_list o) c.in-Some.is in
    let held = subst (λ rs. (r : Linear) → Contains rs r → Contains all r) popped c.rows.invariant.rest in
    let met = subst (λ rs. (xs : List ℤ) → All (IsMet xs) rs → All (IsMet xs) kept → All (IsMet xs) all) popped c.rows.invariant.met in
    record {
      rest = rest_from all rest kept row held;
      from = λ r k. kept_from all rest kept row held c.rows.invariant.from r (subst (λ ks. Contains ks r) c.in_ok-push_item.ensures k);
      met = λ xs h k. kept_met all rest kept row xs (met xs) h (subst (All (IsMet xs)) c.in_ok-push_item.ensures k);
    }

pub rows-preserved : goal.rows-preserved
rows-preserved c =
    let all = c.args.rows.items in
    let rest = c.pop.new.self.items in
    let kept = c.rows.kept.items in
    let row = c.in-Some.row in
    let popped : c.rows.rows.items ≡ rest ++ row ∷ [] = c.pop.ensures.items ∙ ap (λ o. rest ++ option_to_list o) c.in-Some.is in
    let held = subst (λ rs. (r : Linear) → Contains rs r → Contains all r) popped c.rows.invariant.rest in
    let met = subst (λ rs. (xs : List ℤ) → All (IsMet xs) rs → All (IsMet xs) kept → All (IsMet xs) all) popped c.rows.invariant.met in
    let implied : (xs : List ℤ) → All (IsMet xs) c.deref.result.now → IsMet xs row = c.is_implied.ensures c.if-not-is_implied.false in
    record {
      rest = rest_from all rest kept row held;
      from = c.rows.invariant.from;
      met = λ xs h k. dropped_met all rest kept row xs (λ m. implied xs (subst (All (IsMet xs)) (sym c.deref.ensures.value) m)) (met xs) h k;
    }
