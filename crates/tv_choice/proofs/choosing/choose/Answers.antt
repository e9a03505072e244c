use Rattle.std.proofs.Common.{◌≡◌, [], subst, sym}
use Rattle.tv_cases.specs.Systems.{cases_of}
use Rattle.tv_choice.specs.Leading.{Query, piece_rows}
use Rattle.tv_choice.specs.Choosing.{query}
use Rattle.tv_choice.specs.Refusals.{IsChoiceFault}
use Rattle.tv_choice.specs.Targets.{IsWideTarget}
use Rattle.tv_choice.specs.Ways.{IsUnmade}
use Rattle.tv_choice.specs.Settling.{IsFound, IsTreeAt}
use Rattle.tv_choice.proofs.SameLemmas.{known_of}
use Rattle.tv_choice.proofs.SettleLemmas.{different_ways}
use Rattle.tv_choice.proofs.RefusalLemmas.{way_longer, target_fault}
use Rattle.tv_choice.proofs.choosing.choose.Goals as goal

pub settle-requires-clause-ways : goal.settle-requires-clause-ways
settle-requires-clause-ways c =
    let n = c.variables.result in
    let q : Query = record { system = cases_of c.args.about.now; location = c.args.ambient.now.location; stop = c.args.stop; pieces = c.deref.result.now } in
    different_ways n q c.deref-2.result.now c.in-Ok.first.items c.in_ok-ways.ways.items (λ i d l. way_longer n q [] c.deref-2.result.now _ (c.in-Ok.ensures.ways i d l)) c.in-Ok.ensures.lists c.in_ok-ways.ensures

pub returns-in-Err-clause-refusals : goal.returns-in-Err-clause-refusals
returns-in-Err-clause-refusals c =
    let n = c.variables.result in
    let rows = piece_rows c.args.ambient.now in
    let pivots = c.args.budget.now.pivots in
    let most = c.args.budget.now.splits in
    let q : Query = record { system = cases_of c.args.about.now; location = c.args.ambient.now.location; stop = c.args.stop; pieces = c.deref.result.now } in
    let q' = query c.args.about.now c.args.ambient.now c.args.into.now c.args.stop in
    let same : q ≡ q' = (λ i. record { system = cases_of c.args.about.now; location = c.args.ambient.now.location; stop = c.args.stop; pieces = c.deref.ensures.value i }) in
    let h = subst (λ k. IsUnmade (IsWideTarget n k) c.in-Err.fault) same c.in-Err.ensures.refusals in
    let fault = target_fault n q' rows pivots most c.in-Err.fault h in
    subst (λ k. IsChoiceFault k q' rows pivots most c.in-Err.fault) c.variables.ensures.same fault

pub returns-in-Some : goal.returns-in-Some
returns-in-Some c =
    let n = c.variables.result in
    let rows = piece_rows c.args.ambient.now in
    let most = c.args.budget.now.splits in
    let q : Query = record { system = cases_of c.args.about.now; location = c.args.ambient.now.location; stop = c.args.stop; pieces = c.deref.result.now } in
    let q' = query c.args.about.now c.args.ambient.now c.args.into.now c.args.stop in
    let same : q ≡ q' = (λ i. record { system = cases_of c.args.about.now; location = c.args.ambient.now.location; stop = c.args.stop; pieces = c.deref.ensures.value i }) in
    let found = subst (IsFound n q c.deref-2.result.now most) c.in-Ok-Tree.field-0-is c.in-Ok-Tree.ensures.found in
    let tree0 : IsTreeAt n q c.deref-2.result.now most c.in-Some.choice = subst (IsTreeAt n q c.deref-2.result.now most) (sym c.in-Some.ensures.1) found in
    let tree1 = subst (λ rs. IsTreeAt n q rs most c.in-Some.choice) c.deref-2.ensures.value tree0 in
    let tree2 = subst (λ k. IsTreeAt n k rows most c.in-Some.choice) same tree1 in
    let tree = subst (λ k. IsTreeAt k q' rows most c.in-Some.choice) c.variables.ensures.same tree2 in
    record {
      answers = λ known k. tree.met known (known_of rows known k);
      none = tree.none;
      shape = tree.shape;
      shallow = tree.shallow;
      short = tree.narrow;
      refusals = tt;
    }
