use Rattle.std.proofs.Common.{◌++◌, [], ◌∷◌, ◌∙◌, ◌+◌, map, pos, arith, refl}
use Rattle.tv_linear.specs.Arithmetic.{constant_row}
use Rattle.tv_cert.specs.declared.node.Mark.TheVariants.{Go}
use Rattle.tv_pre.specs.Pieces.{marked_as}
use Rattle.tv_pre.proofs.growing.with_layer.Goals as goal

pub returns : goal.returns
returns c =
    let old = c.args.grown in
    let joined = c.in_ok-joined.ensures in
    let same = c.variables-variables.ensures.same in
    let rank_is = c.in_ok-rank.ensures ∙ (λ i. constant_row (same i) (pos (old.round + 1))) in
    let bound = c.if-round.false in
    let ok = c.well_formed in
    record {
      count = refl;
      round = omega arith;
      small = omega (arith, bound, ok);
      variables = joined.variables;
      locations = joined.locations;
      whole = joined.pieces;
      pieces = c.in_ok-push_marked.ensures ∙ (λ i. old.pieces.items ++ map (marked_as (same i) Go (rank_is i ∷ [])) (c.deref.ensures.value i));
      proofs = refl;
    }
