use Rattle.std.proofs.Common.{◌∙◌, ap}
use Rattle.tv_nested.specs.Amounts.{tuple_at}
use Rattle.tv_nested.specs.Reading.{tuple_of}
use Rattle.tv_nested.specs.Signs.{signs_there}
use Rattle.tv_nested.proofs.RankingLemmas.{signs_few, signs_wide}
use Rattle.tv_nested.proofs.ranking.Ranking.signs.Goals as goal

pub returns-clause-is : goal.returns-clause-is
returns-clause-is c =
    let r = c.args.self.now in
    c.in_ok-signs.ensures
    ∙ (λ i. signs_there (c.variables.ensures.same i) ((ap tuple_of c.deref.ensures.value ∙ c.part-part.ensures.tuple ∙ ap (tuple_at c.args.self.now.parts.now) c.component_of.ensures.is) i) c.args.location)

pub returns-clause-few : goal.returns-clause-few
returns-clause-few c =
    let is = c.in_ok-signs.ensures ∙ (λ i. signs_there (c.variables.ensures.same i) ((ap tuple_of c.deref.ensures.value ∙ c.part-part.ensures.tuple ∙ ap (tuple_at c.args.self.now.parts.now) c.component_of.ensures.is) i) c.args.location) in
    rw is (signs_few c.args.self.now c.requires.ranked c.args.location c.requires.location)

pub returns-clause-even : goal.returns-clause-even
returns-clause-even c =
    let is = c.in_ok-signs.ensures ∙ (λ i. signs_there (c.variables.ensures.same i) ((ap tuple_of c.deref.ensures.value ∙ c.part-part.ensures.tuple ∙ ap (tuple_at c.args.self.now.parts.now) c.component_of.ensures.is) i) c.args.location) in
    rw is (signs_wide c.args.self.now c.requires.ranked c.args.location c.requires.location)
