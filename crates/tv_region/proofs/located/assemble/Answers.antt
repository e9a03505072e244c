use Rattle.std.proofs.Common.{subst, sym}
use Rattle.tv_cases.specs.Given.{lists}
use Rattle.tv_region.specs.Regions.{IsAt}
use Rattle.tv_region.proofs.RegionLemmas.{assembled_more}
use Rattle.tv_region.proofs.located.assemble.Goals as goal

pub locations-preserved : goal.locations-preserved
locations-preserved g c =
    let only = g.L.Located.only c.args.located.now in
    let out = g.L.Located.out c.args.located.now in
    let made = g.L.Located.made c.args.located.now in
    let bounded = g.L.Located.bounded c.args.located.now in
    let l = c.locations.location in
    assembled_more c.args.variables c.args.locations only out made bounded l c.locations.pieces.items c.in_ok-pieces.pieces.items (lists c.in-Ok.more) c.locations-test.true c.locations.invariant
    (subst (λ n. IsAt n (only l) (out l) (made l) (bounded l) (lists c.in-Ok.more)) (sym c.requires.variables) c.in-Ok.ensures.at) c.in_ok-pieces.ensures
