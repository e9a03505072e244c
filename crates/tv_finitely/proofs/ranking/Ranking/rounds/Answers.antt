use Rattle.std.proofs.Common.{◌∙◌, length, ap, sym, arith}
use Rattle.tv_finitely.proofs.PartLemmas.{rounds_are}
use Rattle.tv_finitely.proofs.ranking.Ranking.rounds.Goals as goal

pub returns-clause-bounded : goal.returns-clause-bounded
returns-clause-bounded c =
    let r = c.args.self.now in
    let e = ap length (c.deref.ensures.value ∙ sym (rounds_are c.args.number r.parts.now c.part_at.result.now c.requires c.part_at.ensures)) in
    let f = r.enough c.args.number in
    omega (arith, e, f)
