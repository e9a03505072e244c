use Rattle.std.proofs.Common.{◌<◌, ◌∙◌, sym, subst, arith, rules, FitsSigned, length}
use Rattle.std.specs.Int.{w128}
use Rattle.std.proofs.lemmas.Int.{to_z-of_z}
use Rattle.tv_linear.specs.Linear.{IsWithin}
use Rattle.tv_cases.specs.Systems.{cases_of}
use Rattle.tv_propose.proofs.TableLemmas.{bound_groups, bound_places, upper_there, lower_there, no_bound_there}
use Rattle.tv_propose.proofs.bounds.BoundTableTable.row.Goals as goal

pub overflow_cast-variable : goal.overflow_cast-variable
overflow_cast-variable c =
    let about = cases_of c.args.about.now in
    let numbers = c.args.self.now.constants.now.numbers in
    let g : c.args.at.now.group < about.variables = subst (λ n. c.args.at.now.group < n) (bound_groups about numbers.items) c.requires.group in
    let bounded = c.variables-columns.ensures.limits.few_variables in
    omega (arith, g, bounded)

pub index-bound-requires : goal.index-bound-requires
index-bound-requires c =
    let about = cases_of c.args.about.now in
    let numbers = c.args.self.now.constants.now.numbers in
    let g : c.args.at.now.group < about.variables = subst (λ n. c.args.at.now.group < n) (bound_groups about numbers.items) c.requires.group in
    let p : c.args.at.now.place < length numbers.items = subst (λ n. c.args.at.now.place < n) (bound_places about numbers.items c.args.at.now.group g) c.requires.place in
    let k = numbers.ok.0 in
    omega (arith, p, k)

pub upper_bound-requires-clause-x : goal.upper_bound-requires-clause-x
upper_bound-requires-clause-x c =
    let about = cases_of c.args.about.now in
    let numbers = c.args.self.now.constants.now.numbers in
    subst (λ n. c.args.at.now.group < n) (bound_groups about numbers.items ∙ sym c.variables-columns.ensures.same) c.requires.group

pub lower_bound-requires-clause-x : goal.lower_bound-requires-clause-x
lower_bound-requires-clause-x c =
    let about = cases_of c.args.about.now in
    let numbers = c.args.self.now.constants.now.numbers in
    subst (λ n. c.args.at.now.group < n) (bound_groups about numbers.items ∙ sym c.variables-columns.ensures.same) c.requires.group

pub upper_bound-requires-clause-narrow : goal.upper_bound-requires-clause-narrow
upper_bound-requires-clause-narrow c =
    let about = cases_of c.args.about.now in
    let numbers = c.args.self.now.constants.now.numbers in
    let g : c.args.at.now.group < about.variables = subst (λ n. c.args.at.now.group < n) (bound_groups about numbers.items) c.requires.group in
    let p : c.args.at.now.place < length numbers.items = subst (λ n. c.args.at.now.place < n) (bound_places about numbers.items c.args.at.now.group g) c.requires.place in
    let f : FitsSigned w128 c.index-bound.result.now = search rules in
    let h : IsWithin 62 c.index-bound.result.now = subst (λ z. IsWithin 62 z) (sym c.index-bound.ensures) (c.args.self.now.constants.now.narrow c.args.at.now.place c.index-bound.result.now p) in
    simp to_z-of_z h

pub lower_bound-requires-clause-narrow : goal.lower_bound-requires-clause-narrow
lower_bound-requires-clause-narrow c =
    let about = cases_of c.args.about.now in
    let numbers = c.args.self.now.constants.now.numbers in
    let g : c.args.at.now.group < about.variables = subst (λ n. c.args.at.now.group < n) (bound_groups about numbers.items) c.requires.group in
    let p : c.args.at.now.place < length numbers.items = subst (λ n. c.args.at.now.place < n) (bound_places about numbers.items c.args.at.now.group g) c.requires.place in
    let f : FitsSigned w128 c.index-bound.result.now = search rules in
    let h : IsWithin 62 c.index-bound.result.now = subst (λ z. IsWithin 62 z) (sym c.index-bound.ensures) (c.args.self.now.constants.now.narrow c.args.at.now.place c.index-bound.result.now p) in
    simp to_z-of_z h

pub returns-in_ok-upper_bound-in-0-clause-is : goal.returns-in_ok-upper_bound-in-0-clause-is
returns-in_ok-upper_bound-in-0-clause-is c =
    let about = cases_of c.args.about.now in
    let numbers = c.args.self.now.constants.now.numbers in
    let g : c.args.at.now.group < about.variables = subst (λ n. c.args.at.now.group < n) (bound_groups about numbers.items) c.requires.group in
    let p : c.args.at.now.place < length numbers.items = subst (λ n. c.args.at.now.place < n) (bound_places about numbers.items c.args.at.now.group g) c.requires.place in
    let f : FitsSigned w128 c.index-bound.result.now = search rules in
    upper_there about numbers.items c.args.at.now.group c.args.at.now.place c.args.at.now.row c.index-bound.result.now g p c.index-bound.ensures c.in_ok-upper_bound-in-0.field-0 c.variables-columns.result c.variables-columns.ensures.same c.in-0.is (simp to_z-of_z at c.in_ok-upper_bound-in-0.ensures)

pub returns-in_ok-lower_bound-in-1-clause-is : goal.returns-in_ok-lower_bound-in-1-clause-is
returns-in_ok-lower_bound-in-1-clause-is c =
    let about = cases_of c.args.about.now in
    let numbers = c.args.self.now.constants.now.numbers in
    let g : c.args.at.now.group < about.variables = subst (λ n. c.args.at.now.group < n) (bound_groups about numbers.items) c.requires.group in
    let p : c.args.at.now.place < length numbers.items = subst (λ n. c.args.at.now.place < n) (bound_places about numbers.items c.args.at.now.group g) c.requires.place in
    let f : FitsSigned w128 c.index-bound.result.now = search rules in
    lower_there about numbers.items c.args.at.now.group c.args.at.now.place c.args.at.now.row c.index-bound.result.now g p c.index-bound.ensures c.in_ok-lower_bound-in-1.field-0 c.variables-columns.result c.variables-columns.ensures.same c.in-1.is (simp to_z-of_z at c.in_ok-lower_bound-in-1.ensures)

pub returns-in_default-clause-is : goal.returns-in_default-clause-is
returns-in_default-clause-is c =
    let about = cases_of c.args.about.now in
    let numbers = c.args.self.now.constants.now.numbers in
    let g : c.args.at.now.group < about.variables = subst (λ n. c.args.at.now.group < n) (bound_groups about numbers.items) c.requires.group in
    let p : c.args.at.now.place < length numbers.items = subst (λ n. c.args.at.now.place < n) (bound_places about numbers.items c.args.at.now.group g) c.requires.place in
    no_bound_there about numbers.items c.args.at.now.group c.args.at.now.place c.args.at.now.row c.index-bound.result.now g p c.index-bound.ensures (omega arith)
