use Rattle.std.proofs.Common.{sym, subst}
use Rattle.tv_formula.specs.Formulas.{property_of, variables_of, locations_of}
use Rattle.tv_cert.specs.Statable.{IsStatable}
use Rattle.tv_cert.proofs.AimedLemmas.{is_statable}
use Rattle.tv_cert.proofs.aims.aim_of.Goals as goal

pub aim_of_tree-requires-clause-statable : goal.aim_of_tree-requires-clause-statable
aim_of_tree-requires-clause-statable c = subst IsStatable (sym c.tree.ensures.same) (is_statable (variables_of c.args.formula.now) (locations_of c.args.formula.now) (property_of c.args.formula.now) c.requires.normal c.tree.ensures.limits.fits)
