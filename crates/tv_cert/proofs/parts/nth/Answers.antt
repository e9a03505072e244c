use Rattle.std.proofs.Common.{◌≡◌, get_or, arith}
use Rattle.std.proofs.lemmas.Grind.{common_steps}
use Rattle.tv_cert.proofs.AimLemmas.{many_parts, nth_part}
use Rattle.tv_cert.proofs.parts.nth.Goals as goal

pub unreachable-requires : goal.unreachable-requires
unreachable-requires c =
    let bounded = many_parts c.args.parts.now c.args.i c.requires in
    grind (arith, common_steps, bounded)

pub returns : goal.returns
returns c =
    let bounded = many_parts c.args.parts.now c.args.i c.requires in
    let is : c.in-Some.part.now ≡ get_or c.args.parts.now c.args.i c.in-Some.part.now = grind (arith, common_steps) in
    nth_part c.args.parts.now c.args.i c.in-Some.part.now bounded is
