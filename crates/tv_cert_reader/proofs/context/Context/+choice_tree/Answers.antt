use Rattle.std.proofs.Common.{◌≡◌, ◌+◌, length, refl, sym, subst}
use Rattle.tv_lines.specs.declared.head.Head.TheVariants as heads
use Rattle.tv_cases.specs.Systems.{cases_of}
use Rattle.tv_cert_reader.specs.declared.kind.LineKind.TheVariants.{Shape}
use Rattle.tv_cert_reader.specs.Parts.{IsRowOf}
use Rattle.tv_cert_reader.specs.Covers.{IsBehind}
use Rattle.tv_cert_reader.specs.Choices.{ReadsChoice}
use Rattle.tv_cert_reader.proofs.ReadingLemmas.{at_exit}
use Rattle.tv_cert_reader.proofs.CoverLemmas.{behind_as}
use Rattle.tv_cert_reader.proofs.ChoiceLemmas.{choice_taken, choice_tree, other_head, no_numbers_fit, split_read}
use Rattle.tv_cert_reader.proofs.TreeLemmas.{tree_line_fails, tree_stops, deep_stops, row_stops, holds_fail, fails_fail}
use Rattle.tv_cert_reader.proofs.PartLemmas.{row_there, no_row}
use Rattle.tv_cert_reader.proofs.context.Context.+choice_tree.Goals as goal

pub returns-in_err-head : goal.returns-in_err-head
returns-in_err-head t c =
    at_exit (ReadsChoice (cases_of c.args.self.now.about.now) c.args.choosing.now.piece.now c.args.choosing.now.stop c.args.choosing.now.destination.now c.args.known c.args.left c.args.cursor.now c.take.new.cursor) c.from_residual.result c.in_err-head.field-0.0 c.from_residual.ensures.1
    (tree_line_fails (choice_tree (cases_of c.args.self.now.about.now) c.args.choosing.now.piece.now c.args.choosing.now.stop c.args.choosing.now.destination.now c.args.known c.args.left) c.args.cursor.now c.in_err-head.field-0.0 c.in_err-head.ensures.line)

pub returns-then-left-eq0 : goal.returns-then-left-eq0
returns-then-left-eq0 t c =
    let at = behind_as c.in_ok-head.head heads.Split c.in_ok-head.numbers.items c.args.cursor.now c.take.new.cursor c.in-Split.is c.in_ok-head.ensures.line.0 c.in_ok-head.ensures.line.1 in
    deep_stops (choice_tree (cases_of c.args.self.now.about.now) c.args.choosing.now.piece.now c.args.choosing.now.stop c.args.choosing.now.destination.now c.args.known c.args.left) c.args.cursor.now c.take.new.cursor c.in_ok-head.numbers.items at c.if-left-eq0.true

pub returns-in_default-row_of : goal.returns-in_default-row_of
returns-in_default-row_of t c =
    let at = behind_as c.in_ok-head.head heads.Split c.in_ok-head.numbers.items c.args.cursor.now c.take.new.cursor c.in-Split.is c.in_ok-head.ensures.line.0 c.in_ok-head.ensures.line.1 in
    let none = no_row c.variables.result c.in_ok-head.numbers.items c.row_of.result c.row_of.ensures c.in_default-row_of.is in
    row_stops (choice_tree (cases_of c.args.self.now.about.now) c.args.choosing.now.piece.now c.args.choosing.now.stop c.args.choosing.now.destination.now c.args.known c.args.left) c.args.cursor.now c.take.new.cursor c.in_ok-head.numbers.items at c.if-left-eq0.false (subst (λ n. length c.in_ok-head.numbers.items ≡ n + 1 → ⊥) c.variables.ensures.same none)

pub returns-in_err-holds-in-Split : goal.returns-in_err-holds-in-Split
returns-in_err-holds-in-Split t c =
    let at = behind_as c.in_ok-head.head heads.Split c.in_ok-head.numbers.items c.args.cursor.now c.take.new.cursor c.in-Split.is c.in_ok-head.ensures.line.0 c.in_ok-head.ensures.line.1 in
    let of_line = row_there c.variables.result c.in_ok-head.numbers.items c.row_of.result c.row_of.ensures c.in-Some.row c.in-Some.is in
    let is = subst (λ n. IsRowOf n c.in_ok-head.numbers.items c.in-Some.row) c.variables.ensures.same of_line in
    at_exit (ReadsChoice (cases_of c.args.self.now.about.now) c.args.choosing.now.piece.now c.args.choosing.now.stop c.args.choosing.now.destination.now c.args.known c.args.left c.args.cursor.now c.choice_tree.new.cursor) c.from_residual-in_err-holds-in-Split.result c.in_err-holds-in-Split.field-0.0 c.from_residual-in_err-holds-in-Split.ensures.1
    (holds_fail (choice_tree (cases_of c.args.self.now.about.now) c.args.choosing.now.piece.now c.args.choosing.now.stop c.args.choosing.now.destination.now c.args.known c.args.left) c.args.cursor.now c.take.new.cursor c.in_ok-head.numbers.items at c.in-Some.row is c.if-left-eq0.false c.in_err-holds-in-Split.field-0.0 c.in_err-holds-in-Split.ensures)

pub returns-in_err-fails-in-Split : goal.returns-in_err-fails-in-Split
returns-in_err-fails-in-Split t c =
    let at = behind_as c.in_ok-head.head heads.Split c.in_ok-head.numbers.items c.args.cursor.now c.take.new.cursor c.in-Split.is c.in_ok-head.ensures.line.0 c.in_ok-head.ensures.line.1 in
    let of_line = row_there c.variables.result c.in_ok-head.numbers.items c.row_of.result c.row_of.ensures c.in-Some.row c.in-Some.is in
    let is = subst (λ n. IsRowOf n c.in_ok-head.numbers.items c.in-Some.row) c.variables.ensures.same of_line in
    at_exit (ReadsChoice (cases_of c.args.self.now.about.now) c.args.choosing.now.piece.now c.args.choosing.now.stop c.args.choosing.now.destination.now c.args.known c.args.left c.args.cursor.now c.choice_tree-in-Split.new.cursor) c.from_residual-in_err-fails-in-Split.result c.in_err-fails-in-Split.field-0.0 c.from_residual-in_err-fails-in-Split.ensures.1
    (fails_fail (choice_tree (cases_of c.args.self.now.about.now) c.args.choosing.now.piece.now c.args.choosing.now.stop c.args.choosing.now.destination.now c.args.known c.args.left) c.args.cursor.now c.take.new.cursor c.in_ok-head.numbers.items at c.in-Some.row is c.if-left-eq0.false c.choice_tree.new.cursor c.in_ok-holds-in-Split.ensures.1
    (choice_taken (cases_of c.args.self.now.about.now) c.args.choosing.now.piece.now c.args.choosing.now.stop c.args.choosing.now.destination.now c.in_ok-holds-in-Split.holds c.in_ok-holds-in-Split.ensures.0) c.in_err-fails-in-Split.field-0.0 c.in_err-fails-in-Split.ensures)

pub returns-in_ok-split-in-Split : goal.returns-in_ok-split-in-Split
returns-in_ok-split-in-Split t c =
    let at = behind_as c.in_ok-head.head heads.Split c.in_ok-head.numbers.items c.args.cursor.now c.take.new.cursor c.in-Split.is c.in_ok-head.ensures.line.0 c.in_ok-head.ensures.line.1 in
    let of_line = row_there c.variables.result c.in_ok-head.numbers.items c.row_of.result c.row_of.ensures c.in-Some.row c.in-Some.is in
    let is = subst (λ n. IsRowOf n c.in_ok-head.numbers.items c.in-Some.row) c.variables.ensures.same of_line in
    split_read (cases_of c.args.self.now.about.now) c.args.choosing.now.piece.now c.args.choosing.now.stop c.args.choosing.now.destination.now c.args.known c.args.left c.args.cursor.now c.take.new.cursor c.in_ok-head.numbers.items at c.in-Some.row is c.if-left-eq0.false c.in_ok-holds-in-Split.holds c.choice_tree.new.cursor c.in_ok-holds-in-Split.ensures.0 c.in_ok-holds-in-Split.ensures.1
    c.in_ok-fails-in-Split.fails c.in_ok-split-in-Split.split c.choice_tree-in-Split.new.cursor c.in_ok-fails-in-Split.ensures.0 c.in_ok-fails-in-Split.ensures.1 c.in_ok-split-in-Split.ensures

pub returns-in-Empty : goal.returns-in-Empty
returns-in-Empty t c =
    c.empty_of.ensures (cases_of c.args.self.now.about.now) c.args.choosing.now.piece.now c.args.choosing.now.stop c.args.choosing.now.destination.now c.args.left c.args.cursor.now c.take.new.cursor
    (behind_as c.in_ok-head.head heads.Empty c.in_ok-head.numbers.items c.args.cursor.now c.take.new.cursor c.in-Empty.is c.in_ok-head.ensures.line.0 c.in_ok-head.ensures.line.1) refl

pub returns-in-NoStep : goal.returns-in-NoStep
returns-in-NoStep t c =
    c.no_step.ensures c.args.choosing.now.destination.now c.args.cursor.now
    (subst (λ zs. IsBehind heads.NoStep zs c.args.cursor.now c.take.new.cursor) (no_numbers_fit c.in_ok-head.head c.in_ok-head.numbers.items c.in-NoStep.is c.in_ok-head.ensures.fit)
    (behind_as c.in_ok-head.head heads.NoStep c.in_ok-head.numbers.items c.args.cursor.now c.take.new.cursor c.in-NoStep.is c.in_ok-head.ensures.line.0 c.in_ok-head.ensures.line.1))

pub returns-in-Take : goal.returns-in-Take
returns-in-Take t c =
    c.takes.ensures c.args.left c.args.cursor.now
    (subst (λ zs. IsBehind heads.Take zs c.args.cursor.now c.take.new.cursor) (sym c.deref.ensures.value)
    (behind_as c.in_ok-head.head heads.Take c.in_ok-head.numbers.items c.args.cursor.now c.take.new.cursor c.in-Take.is c.in_ok-head.ensures.line.0 c.in_ok-head.ensures.line.1))

pub returns-in_default : goal.returns-in_default
returns-in_default t c =
    let at : IsBehind c.in_ok-head.head c.in_ok-head.numbers.items c.args.cursor.now c.take.new.cursor = record { front = c.in_ok-head.ensures.line.0; one = c.in_ok-head.ensures.line.1 } in
    tree_stops (choice_tree (cases_of c.args.self.now.about.now) c.args.choosing.now.piece.now c.args.choosing.now.stop c.args.choosing.now.destination.now c.args.known c.args.left) c.args.cursor.now c.take.new.cursor c.in_ok-head.head c.in_ok-head.numbers.items at Shape
    (other_head (cases_of c.args.self.now.about.now) c.args.choosing.now.piece.now c.args.choosing.now.stop c.args.choosing.now.destination.now c.args.known c.args.left c.in_ok-head.head c.in_ok-head.numbers.items c.in_default.not-Split c.in_default.not-Empty c.in_default.not-NoStep c.in_default.not-Take)
