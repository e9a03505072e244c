use Rattle.std.proofs.Common.{length, length-append, length-take-le, map, take, arith, ap}
use Rattle.std.proofs.lemmas.List.{length-map}
use Rattle.tv_rank.specs.Questions.{ways_of}
use Rattle.tv_nested.specs.NestedSystem.{entry}
use Rattle.tv_nested.proofs.system.push_row.Goals as goal

pub push-requires : goal.push-requires
push-requires c =
    let f = entry (ways_of c.args.asked.now) c.args.line in
    let done = take c.unknowns.unknown-index c.args.unknowns.now in
    let e = ap length c.unknowns.invariant in
    let a = length-append c.args.numbers.now (map f done) in
    let m = length-map done f in
    let t = length-take-le c.unknowns.unknown-index c.args.unknowns.now (omega arith) in
    omega (arith, e, a, m, t)
