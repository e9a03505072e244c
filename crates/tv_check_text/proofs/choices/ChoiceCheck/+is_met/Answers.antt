use Rattle.std.proofs.Common.{◌≡◌, ◌+◌, ◌++◌, ◌∷◌, [], Err, length, refl, sym, subst}
use Rattle.tv_lines.specs.declared.head.Head.TheVariants as heads
use Rattle.tv_refute.specs.Frames.{known_at}
use Rattle.tv_cases.specs.Systems.{cases_of}
use Rattle.tv_cert_reader.specs.declared.kind.LineKind.TheVariants.{Shape}
use Rattle.tv_cert_reader.specs.Parts.{IsRowOf}
use Rattle.tv_cert_reader.specs.Covers.{IsBehind}
use Rattle.tv_cert_reader.proofs.ReadingLemmas.{at_exit}
use Rattle.tv_cert_reader.proofs.CoverLemmas.{behind_as}
use Rattle.tv_cert_reader.proofs.ChoiceLemmas.{choice_tree, other_head, no_numbers_fit}
use Rattle.tv_cert_reader.proofs.TreeLemmas.{tree_line_fails, tree_stops, deep_stops, row_stops}
use Rattle.tv_cert_reader.proofs.PartLemmas.{row_there, no_row}
use Rattle.tv_linear.specs.Known.{given, denied}
use Rattle.tv_check_text.specs.Checking.{CheckedChoice, ChecksChoice, ChecksChoiceSides}
use Rattle.tv_check_text.proofs.ShownLemmas.{joined_true, joined_false}
use Rattle.tv_check_text.proofs.ChoiceLemmas.{outside_fails, split_checks}
use Rattle.tv_check_text.proofs.choices.ChoiceCheck.+is_met.Goals as goal

pub is_met-returns-in_err-head : goal.is_met-returns-in_err-head
is_met-returns-in_err-head t c =
    let s = c.args.self.now in
    let system = cases_of s.context.about.now in
    let known = known_at c.args.frames.now in
    at_exit (ChecksChoice system s.piece.now s.stop s.destination.now known c.args.left c.args.cursor.now c.take.new.cursor) c.from_residual.result c.in_err-head.field-0.0 c.from_residual.ensures.1
    (tree_line_fails (choice_tree system s.piece.now s.stop s.destination.now (length known) c.args.left) c.args.cursor.now c.in_err-head.field-0.0 c.in_err-head.ensures.line)

pub is_met-returns-then-left-eq0 : goal.is_met-returns-then-left-eq0
is_met-returns-then-left-eq0 t c =
    let s = c.args.self.now in
    let at = behind_as c.in_ok-head.head heads.Split c.in_ok-head.numbers.items c.args.cursor.now c.take.new.cursor c.in-Split.is c.in_ok-head.ensures.line.0 c.in_ok-head.ensures.line.1 in
    deep_stops (choice_tree (cases_of s.context.about.now) s.piece.now s.stop s.destination.now (length (known_at c.args.frames.now)) c.args.left) c.args.cursor.now c.take.new.cursor c.in_ok-head.numbers.items at c.if-left-eq0.true

pub is_met-returns-in_default-row_of : goal.is_met-returns-in_default-row_of
is_met-returns-in_default-row_of t c =
    let s = c.args.self.now in
    let at = behind_as c.in_ok-head.head heads.Split c.in_ok-head.numbers.items c.args.cursor.now c.take.new.cursor c.in-Split.is c.in_ok-head.ensures.line.0 c.in_ok-head.ensures.line.1 in
    let none = no_row c.variables-columns.result c.in_ok-head.numbers.items c.row_of.result c.row_of.ensures c.in_default-row_of.is in
    row_stops (choice_tree (cases_of s.context.about.now) s.piece.now s.stop s.destination.now (length (known_at c.args.frames.now)) c.args.left) c.args.cursor.now c.take.new.cursor c.in_ok-head.numbers.items at c.if-left-eq0.false (subst (λ n. length c.in_ok-head.numbers.items ≡ n + 1 → ⊥) c.variables-columns.ensures.same none)

pub is_met-returns-in-Some : goal.is_met-returns-in-Some
is_met-returns-in-Some t c =
    let s = c.args.self.now in
    let at = behind_as c.in_ok-head.head heads.Split c.in_ok-head.numbers.items c.args.cursor.now c.take.new.cursor c.in-Split.is c.in_ok-head.ensures.line.0 c.in_ok-head.ensures.line.1 in
    let of_line = row_there c.variables-columns.result c.in_ok-head.numbers.items c.row_of.result c.row_of.ensures c.in-Some.row c.in-Some.is in
    let is = subst (λ n. IsRowOf n c.in_ok-head.numbers.items c.in-Some.row) c.variables-columns.ensures.same of_line in
    split_checks (cases_of s.context.about.now) s.piece.now s.stop s.destination.now (known_at c.args.frames.now) c.args.left c.args.cursor.now c.take.new.cursor c.in_ok-head.numbers.items at c.in-Some.row is c.if-left-eq0.false s.context.alloc c.sides_are_met.new.cursor c.sides_are_met.result c.sides_are_met.ensures

pub is_met-returns-in-Empty : goal.is_met-returns-in-Empty
is_met-returns-in-Empty t c =
    let s = c.args.self.now in
    c.is_empty.ensures.choice (cases_of s.context.about.now) s.piece.now s.stop s.destination.now c.args.left c.args.cursor.now c.take.new.cursor c.variables-columns.ensures.same
    (behind_as c.in_ok-head.head heads.Empty c.in_ok-head.numbers.items c.args.cursor.now c.take.new.cursor c.in-Empty.is c.in_ok-head.ensures.line.0 c.in_ok-head.ensures.line.1) refl

pub is_met-returns-in-NoStep : goal.is_met-returns-in-NoStep
is_met-returns-in-NoStep t c =
    c.no_step_is_met.ensures c.args.cursor.now
    (subst (λ zs. IsBehind heads.NoStep zs c.args.cursor.now c.take.new.cursor) (no_numbers_fit c.in_ok-head.head c.in_ok-head.numbers.items c.in-NoStep.is c.in_ok-head.ensures.fit)
    (behind_as c.in_ok-head.head heads.NoStep c.in_ok-head.numbers.items c.args.cursor.now c.take.new.cursor c.in-NoStep.is c.in_ok-head.ensures.line.0 c.in_ok-head.ensures.line.1))

pub is_met-returns-in-Take : goal.is_met-returns-in-Take
is_met-returns-in-Take t c =
    c.take_is_met.ensures c.args.left c.args.cursor.now
    (subst (λ zs. IsBehind heads.Take zs c.args.cursor.now c.take.new.cursor) (sym c.deref.ensures.value)
    (behind_as c.in_ok-head.head heads.Take c.in_ok-head.numbers.items c.args.cursor.now c.take.new.cursor c.in-Take.is c.in_ok-head.ensures.line.0 c.in_ok-head.ensures.line.1))

pub is_met-returns-in_default : goal.is_met-returns-in_default
is_met-returns-in_default t c =
    let s = c.args.self.now in
    let at : IsBehind c.in_ok-head.head c.in_ok-head.numbers.items c.args.cursor.now c.take.new.cursor = record { front = c.in_ok-head.ensures.line.0; one = c.in_ok-head.ensures.line.1 } in
    tree_stops (choice_tree (cases_of s.context.about.now) s.piece.now s.stop s.destination.now (length (known_at c.args.frames.now)) c.args.left) c.args.cursor.now c.take.new.cursor c.in_ok-head.head c.in_ok-head.numbers.items at Shape
    (other_head (cases_of s.context.about.now) s.piece.now s.stop s.destination.now (length (known_at c.args.frames.now)) c.args.left c.in_ok-head.head c.in_ok-head.numbers.items c.in_default.not-Split c.in_default.not-Empty c.in_default.not-NoStep c.in_default.not-Take)

pub sides_are_met-returns-in_err-fails : goal.sides_are_met-returns-in_err-fails
sides_are_met-returns-in_err-fails t c =
    let s = c.args.self.now in
    let system = cases_of s.context.about.now in
    let known = known_at c.args.frames.now in
    at_exit (ChecksChoiceSides system s.piece.now s.stop s.destination.now known c.args.left c.args.row.now c.args.cursor.now c.is_met-2.new.cursor) c.from_residual-in_err-fails.result c.in_err-fails.field-0.0 c.from_residual-in_err-fails.ensures.1
    (outside_fails system s.piece.now s.stop s.destination.now known c.args.left c.args.row.now c.args.cursor.now c.is_met.new.cursor c.in_ok-holds.holds
    (subst (λ r. CheckedChoice (cases_of c.args.self.now.context.about.now) c.args.self.now.piece.now c.args.self.now.stop c.args.self.now.destination.now (known_at c.args.frames.now ++ given r ∷ []) c.args.left c.args.cursor.now c.is_met.new.cursor c.in_ok-holds.holds) c.of.ensures c.in_ok-holds.ensures) c.in_err-fails.field-0.0
    (subst (λ r. ChecksChoice system s.piece.now s.stop s.destination.now (known ++ denied (given r) ∷ []) c.args.left c.is_met.new.cursor c.is_met-2.new.cursor (Err c.in_err-fails.field-0.0)) c.of.ensures c.in_err-fails.ensures))

pub sides_are_met-returns-then-holds : goal.sides_are_met-returns-then-holds
sides_are_met-returns-then-holds t c = record {
  middle = c.is_met.new.cursor;
  inside = c.in_ok-holds.holds;
  outside = c.in_ok-fails.fails;
  holds = subst (λ r. CheckedChoice (cases_of c.args.self.now.context.about.now) c.args.self.now.piece.now c.args.self.now.stop c.args.self.now.destination.now (known_at c.args.frames.now ++ given r ∷ []) c.args.left c.args.cursor.now c.is_met.new.cursor c.in_ok-holds.holds) c.of.ensures c.in_ok-holds.ensures;
  fails = subst (λ r. CheckedChoice (cases_of c.args.self.now.context.about.now) c.args.self.now.piece.now c.args.self.now.stop c.args.self.now.destination.now (known_at c.args.frames.now ++ denied (given r) ∷ []) c.args.left c.is_met.new.cursor c.is_met-2.new.cursor c.in_ok-fails.fails) c.of.ensures c.in_ok-fails.ensures;
  told = joined_true c.in_ok-holds.holds c.in_ok-fails.fails c.in_ok-fails.fails c.if-holds.true refl;
}

pub sides_are_met-returns-else-holds : goal.sides_are_met-returns-else-holds
sides_are_met-returns-else-holds t c = record {
  middle = c.is_met.new.cursor;
  inside = c.in_ok-holds.holds;
  outside = c.in_ok-fails.fails;
  holds = subst (λ r. CheckedChoice (cases_of c.args.self.now.context.about.now) c.args.self.now.piece.now c.args.self.now.stop c.args.self.now.destination.now (known_at c.args.frames.now ++ given r ∷ []) c.args.left c.args.cursor.now c.is_met.new.cursor c.in_ok-holds.holds) c.of.ensures c.in_ok-holds.ensures;
  fails = subst (λ r. CheckedChoice (cases_of c.args.self.now.context.about.now) c.args.self.now.piece.now c.args.self.now.stop c.args.self.now.destination.now (known_at c.args.frames.now ++ denied (given r) ∷ []) c.args.left c.is_met.new.cursor c.is_met-2.new.cursor c.in_ok-fails.fails) c.of.ensures c.in_ok-fails.ensures;
  told = joined_false c.in_ok-holds.holds c.in_ok-fails.fails c.in_ok-holds.holds c.if-holds.false refl;
}
