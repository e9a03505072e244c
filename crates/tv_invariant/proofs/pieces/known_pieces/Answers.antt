use Rattle.std.proofs.Common.{◌∙◌, subst}
use Rattle.tv_invariant.specs.Pieces.{AreInPlace}
use Rattle.tv_invariant.proofs.pieces.known_pieces.Goals as goal

pub returns : goal.returns
returns c =
    let list = c.args.list.now in
    let made = c.in_ok-pieces.ensures in
    record {
      variables = c.variables-variables.ensures.same;
      locations = c.locations-locations.ensures.same;
      one_each = made.one_each ∙ c.locations-locations.ensures.same;
      in_place = subst (λ v. AreInPlace v list c.in_ok-pieces.pieces.items) c.variables-variables.ensures.same made.in_place;
    }
