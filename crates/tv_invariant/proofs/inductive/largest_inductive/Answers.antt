use Rattle.std.proofs.Common.{◌≡◌, ◌≤◌, ◌∙◌, length, replicate, true, arith, ap, sym, subst}
use Rattle.std.proofs.lemmas.List.{length-replicate}
use Rattle.tv_cases.specs.Systems.{cases_of}
use Rattle.tv_invariant.specs.Passes.{ClosedKeep}
use Rattle.tv_invariant.proofs.PassLemmas.{as_many, over_part, left_part, passed_part, begins_left, begins_part, met_left, all_open, largest}
use Rattle.tv_invariant.proofs.inductive.largest_inductive.Goals as goal

pub passes-init : goal.passes-init
passes-init c =
    let about = cases_of c.args.about.now in
    let begun = begins_left about c.args.candidates.items c.in_ok-begun.begun.items c.in_ok-begun.ensures in
    let met = met_left about c.args.candidates.items c.in_ok-begun.begun.items c.in_ok-now.now.items begun.0 begun.1 c.in_ok-now.ensures in
    let list = c.list.result.now in
    let marks : c.in_ok-vec.field-0.items ≡ replicate (length list) true = c.in_ok-vec.ensures.items_if_clones_equal (λ y e. e) in
    record {
      as_many = ap length marks ∙ length-replicate (length list) true ∙ sym (as_many about list c.list.ensures.same);
      left = met.0;
      begins = met.1;
      closed = subst (λ m. ClosedKeep about c.in_ok-now.now.items m) (sym marks) (all_open about c.in_ok-now.now.items (length list));
    }

pub met_at-requires-clause-over : goal.met_at-requires-clause-over
met_at-requires-clause-over c =
    let about = cases_of c.args.about.now in
    let begun = begins_left about c.args.candidates.items c.in_ok-begun.begun.items c.in_ok-begun.ensures in
    over_part about.variables c.args.candidates.items c.in_ok-begun.begun.items c.requires.over (left_part about c.args.candidates.items c.in_ok-begun.begun.items begun.0)

pub pass-requires-clause-over : goal.pass-requires-clause-over
pass-requires-clause-over c =
    let about = cases_of c.args.about.now in
    over_part about.variables c.args.candidates.items c.passes.now.items c.requires.over (left_part about c.args.candidates.items c.passes.now.items c.passes.invariant.left)

pub returns-then-len-before-clause-largest : goal.returns-then-len-before-clause-largest
returns-then-len-before-clause-largest c =
    let about = cases_of c.args.about.now in
    let e = c.if-len-before.true in
    let old = c.len-before.ensures ∙ c.passes.now.ok.0 in
    let new = c.len.ensures ∙ c.in-Ok.kept.ok.0 in
    let long : length c.passes.now.items ≤ length c.in-Ok.kept.items = omega (arith, e, old, new) in
    largest about c.args.candidates.items c.passes.now.items c.in-Ok.kept.items c.passes.tries.open.items c.pass.new.tries.open.items c.passes.invariant.left c.passes.invariant.begins c.passes.invariant.closed c.in-Ok.ensures.passed long

pub passes-preserved : goal.passes-preserved
passes-preserved c =
    let about = cases_of c.args.about.now in
    let p = c.in-Ok.ensures.passed in
    record {
      as_many = c.in-Ok.ensures.marks ∙ c.passes.invariant.as_many;
      left = p.left c.args.candidates.items c.passes.invariant.left;
      begins = begins_part about c.passes.now.items c.in-Ok.kept.items c.passes.invariant.begins (passed_part about (length about.cases) c.passes.now.items c.in-Ok.kept.items c.passes.tries.open.items c.pass.new.tries.open.items p);
      closed = p.closed c.passes.invariant.closed;
    }
