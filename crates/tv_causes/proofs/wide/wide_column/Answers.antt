use Rattle.std.proofs.Common.{◌++◌, subst, sym}
use Rattle.std.specs.Prelude.{None}
use Rattle.tv_formula.specs.Formulas.{property_of, variables_of, locations_of}
use Rattle.tv_formula.specs.Views.{property}
use Rattle.tv_known.specs.Subformulas.{subformulas}
use Rattle.tv_causes.specs.Widths.{IsLinear, TellsRows}
use Rattle.tv_causes.specs.Walks.{TellsBoth}
use Rattle.tv_causes.proofs.WalkLemmas.{first_list, second_list, rows_of, is_linear_in}
use Rattle.tv_causes.proofs.WideLemmas.{on_ok}
use Rattle.tv_causes.proofs.wide.wide_column.Goals as goal

pub wide_in-requires-clause-linear : goal.wide_in-requires-clause-linear
wide_in-requires-clause-linear c =
    let f = c.args.proved.now in
    subst IsLinear (sym c.tree.ensures.same) (is_linear_in (variables_of f) (locations_of f) (property_of f) c.tree.ensures.limits.fits)

pub wide_in-requires-in-None-clause-linear : goal.wide_in-requires-in-None-clause-linear
wide_in-requires-in-None-clause-linear c =
    let f = c.args.denied.now in
    subst IsLinear (sym c.tree-in-None.ensures.same) (is_linear_in (variables_of f) (locations_of f) (property_of f) c.tree-in-None.ensures.limits.fits)

pub returns-in-Some : goal.returns-in-Some
returns-in-Some c =
    let n = c.args.variables in
    let told = subst (TellsBoth n (subformulas (property c.tree.result.now))) c.in-Some.is c.in_ok-column.ensures in
    first_list n (subformulas (property_of c.args.proved.now)) (subformulas (property_of c.args.denied.now)) c.in-Some.column (rw c.tree.ensures.same at told)

pub returns-in-None : goal.returns-in-None
returns-in-None c =
    let n = c.args.variables in
    let first = subformulas (property_of c.args.proved.now) in
    let second = subformulas (property c.tree-in-None.result.now) in
    let told = subst (TellsBoth n (subformulas (property c.tree.result.now))) c.in-None.is c.in_ok-column.ensures in
    let narrow = subst (λ f. TellsBoth n (subformulas f) None) c.tree.ensures.same told in
    rw (sym c.tree-in-None.ensures.same)
    (on_ok (TellsBoth n second) (TellsRows n (first ++ second)) (λ found k. rows_of n (first ++ second) found (second_list n first second found narrow k)) c.wide_in-in-None.result c.wide_in-in-None.ensures)
