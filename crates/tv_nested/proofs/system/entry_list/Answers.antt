use Rattle.std.proofs.Common.{◌+◌, ◌*◌, length, length-take-le, map, take, arith, ap}
use Rattle.std.proofs.lemmas.List.{length-map}
use Rattle.tv_simplex.proofs.ScaleLemmas.{scaled_up}
use Rattle.tv_rank.specs.Questions.{ways_of}
use Rattle.tv_nested.specs.NestedSystem.{entry}
use Rattle.tv_rank.proofs.UnknownLists.{length-flat}
use Rattle.tv_nested.proofs.system.entry_list.Goals as goal

pub push_row-requires-clause-size : goal.push_row-requires-clause-size
push_row-requires-clause-size c =
    let us = c.args.unknowns.now in
    let done = take c.lines.line-index c.args.lines.now in
    let e = ap length c.lines.invariant in
    let n = length-flat (λ line. map (entry (ways_of c.args.asked.now) line) us) (length us) done (λ line. length-map us (entry (ways_of c.args.asked.now) line)) in
    let t = ap (λ z. z * length us) (length-take-le c.lines.line-index c.args.lines.now (omega arith)) in
    let l = scaled_up (c.lines.line-index + 1) (length c.args.lines.now) (length us) (omega arith) in
    omega (arith, e, n, t, l)
