use Rattle.std.proofs.Common.{◌≡◌, length, refl, ◌∙◌, ap}
use Rattle.std.specs.Prelude.{map}
use Rattle.std.proofs.lemmas.List.{length-map}
use Rattle.tv_graph.specs.Marks.{number_of}
use Rattle.tv_graph.proofs.Numbering.{numbering}
use Rattle.tv_graph.proofs.search.PathSearch.numbers.Goals as goal

pub returns : goal.returns
returns c =
    let is : c.in_ok-numbers.numbers.items ≡ map number_of c.args.self.now.marks.items = c.in_ok-numbers.ensures ∙ ap (map number_of) c.deref.ensures.value in
    numbering c.args.arcs.now c.args.self.now (length c.args.self.now.marks.items) c.in_ok-numbers.numbers.items c.requires.valid c.requires.range c.requires.rests refl c.requires.reached is (ap length is ∙ length-map c.args.self.now.marks.items number_of)
