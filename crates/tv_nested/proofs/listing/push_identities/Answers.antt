use Rattle.std.proofs.Common.{◌≡◌, ◌++◌, suc, arith, ap, ◌∙◌}
use Rattle.tv_rank.specs.Questions.{ways_of}
use Rattle.tv_nested.specs.NestedSystem.{way_unknowns}
use Rattle.tv_nested.proofs.listing.push_identities.Goals as goal

pub returns : goal.returns
returns c =
    let q = c.args.asked.now in
    let past = c.identities-test.false in
    let end = c.identities.auto.index-end in
    c.identities.invariant ∙ ap (λ n. c.args.items.now.items ++ way_unknowns c.args.place (ways_of q c.args.place) n) (let e : c.identities.index ≡ suc c.args.depth = omega (arith, past, end) in e)
