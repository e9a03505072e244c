use Rattle.std.proofs.Common.{rules, arith, refl, get_or, pos, FitsSigned}
use Rattle.std.specs.Int.{w128}
use Rattle.std.proofs.lemmas.Int.{to_z-of_z, ints}
use Rattle.tv_refute.specs.Frames.{known_at}
use Rattle.tv_refute.proofs.Soundness.{refuted_rows}
use Rattle.tv_refute.proofs.refute.refutes.Goals as goal

pub returns-then-sums_at-clause-sound : goal.returns-then-sums_at-clause-sound
returns-then-sums_at-clause-sound c =
    let told = c.if-sums_at.ensures.told 0 (omega arith) in
    let fits : FitsSigned w128 (get_or c.sums_at.new.totals 0 (pos 0)) = search rules in
    λ t. let p = rw (to_z-of_z w128 (get_or c.sums_at.new.totals 0 (pos 0)) fits) at t in
    let e = told.1 in
    refuted_rows c.args.columns (known_at c.args.frames.now) c.args.multipliers.now (record {
      as_many = c.if-not-is_count.ensures.0 refl;
      none_negative = c.if-not-none_negative.ensures.0 refl;
      columns = λ j h. (c.if-not-are_cancelled.ensures.0 refl j h).1;
      constant = grind (arith, ints);
      columns_held = λ j h. (c.if-not-are_cancelled.ensures.0 refl j h).0;
      constant_held = told.0;
    })
