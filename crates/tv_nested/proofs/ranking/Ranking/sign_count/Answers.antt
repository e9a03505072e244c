use Rattle.std.proofs.Common.{◌∙◌, length, ap, arith}
use Rattle.tv_cases.specs.Systems.{cases_of}
use Rattle.tv_nested.specs.Amounts.{tuple_at}
use Rattle.tv_nested.specs.Ranks.{tuple_of_place}
use Rattle.tv_nested.proofs.RankingLemmas.{tuple_length, signs_length, signs_few}
use Rattle.tv_nested.proofs.ranking.Ranking.sign_count.Goals as goal

pub returns-clause-is : goal.returns-clause-is
returns-clause-is c =
    let r = c.args.self.now in
    let a = c.len.ensures in
    let o = c.part-part.result.now.family.terms.ok in
    let b = tuple_length c.part-part.result.now in
    let d = ap length (c.part-part.ensures.tuple ∙ ap (tuple_at c.args.self.now.parts.now) c.component_of.ensures.is) in
    let e = signs_length (cases_of c.args.self.now.about.now).variables (tuple_of_place c.args.self.now c.args.location) c.args.location in
    omega (arith, a, o, b, d, e)

pub returns-clause-few : goal.returns-clause-few
returns-clause-few c =
    let a = c.len.ensures in
    let o = c.part-part.result.now.family.terms.ok in
    let b = tuple_length c.part-part.result.now in
    let d = ap length (c.part-part.ensures.tuple ∙ ap (tuple_at c.args.self.now.parts.now) c.component_of.ensures.is) in
    let e = signs_length (cases_of c.args.self.now.about.now).variables (tuple_of_place c.args.self.now c.args.location) c.args.location in
    let f = signs_few c.args.self.now c.requires.ranked c.args.location c.requires.location in
    omega (arith, a, o, b, d, e, f)
