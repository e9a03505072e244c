use Rattle.std.proofs.Common.{◌∙◌, ap, sym}
use Rattle.tv_formula.specs.Formulas.{property_of}
use Rattle.tv_formula.specs.Normal.{negation}
use Rattle.tv_pre.proofs.NegationLemmas.{negation_of_normal}
use Rattle.tv_top.proofs.finding.find.Goals as goal

pub settle-requires : goal.settle-requires
settle-requires g c =
    let f = property_of c.args.property.now in
    let is = c.in-Ok.ensures.of_property in
    record {
      same_program = c.requires.same_program;
      same_steps = c.requires.same_steps;
      are_cases = c.requires.are_cases;
      variables = c.in-Ok.ensures.variables ∙ c.requires.variables ∙ sym c.requires.same_program.variables;
      denies = is.denied ∙ sym (negation_of_normal f) ∙ ap negation (sym is.proved);
    }
