use Rattle.std.proofs.Common.{◌≡◌, ◌<◌, ◌≤◌, length, Some, rules, FitsSigned, refl, subst}
use Rattle.std.specs.Int.{w128}
use Rattle.std.proofs.lemmas.Int.{to_z-of_z}
use Rattle.std.proofs.lemmas.Option.{slice_get_read}
use Rattle.std.specs.List.{slice_get}
use Rattle.tv_top.proofs.Lines.{line_added, none_left}
use Rattle.tv_top.proofs.assignment.Assignment.append_variable.Goals as goal

pub returns-in-Some : goal.returns-in-Some
returns-in-Some c =
    let fits : FitsSigned w128 c.in-Some.value.now = search rules in
    let passed = to_z-of_z w128 c.in-Some.value.now fits in
    let below : c.args.number < length c.deref.result.now = search (rules, c.in-Some.ensures.lookup.0) in
    let is : slice_get c.args.self.now.values.items c.args.number ≡ Some c.in-Some.value.now =
    subst (λ xs. slice_get xs c.args.number ≡ Some c.in-Some.value.now) c.deref.ensures.value
    (slice_get_read c.deref.result.now (length c.deref.result.now) c.args.number c.in-Some.value.now refl below c.in-Some.ensures.lookup.1) in
    line_added c.append_line.result c.args.self.now.names c.args.self.now.values.items c.args.number c.text.result.now c.in-Some.value.now _ _ c.text.ensures is (rw passed at c.append_line.ensures)

pub returns-in-None : goal.returns-in-None
returns-in-None c =
    let past : length c.args.self.now.values.items ≤ c.args.number = search rules in
    none_left c.args.self.now.names c.args.self.now.values.items c.args.number c.args.out.now.items past
