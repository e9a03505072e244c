use Rattle.std.proofs.Common.{◌++◌, ◌∷◌, [], Err, length, refl, sym, subst}
use Rattle.tv_lines.specs.declared.head.Head.TheVariants as heads
use Rattle.tv_refute.specs.Built.{change_of}
use Rattle.tv_refute.specs.Frames.{known_at}
use Rattle.tv_cert.specs.Shapes.{owed_count}
use Rattle.tv_cert_reader.specs.declared.kind.LineKind.TheVariants.{Shape}
use Rattle.tv_cert_reader.specs.Covers.{IsBehind}
use Rattle.tv_cert_reader.proofs.ReadingLemmas.{at_exit}
use Rattle.tv_cert_reader.proofs.CoverLemmas.{behind_as, cover_tree, other_head}
use Rattle.tv_cert_reader.proofs.TreeLemmas.{tree_line_fails, tree_stops, deep_stops, row_stops}
use Rattle.tv_cert_reader.proofs.PartLemmas.{row_there, no_row}
use Rattle.tv_linear.specs.Known.{given, denied}
use Rattle.tv_check_text.specs.Checking.{CheckedCover, ChecksCover, ChecksSides}
use Rattle.tv_cert.specs.TargetViews.{owed_at}
use Rattle.tv_check_text.proofs.ShownLemmas.{joined_true, joined_false}
use Rattle.tv_check_text.proofs.TreeLemmas.{outside_fails, split_checks}
use Rattle.tv_check_text.proofs.covers.Covering.+is_met.Goals as goal

pub is_met-returns-in_err-head : goal.is_met-returns-in_err-head
is_met-returns-in_err-head t c =
    let s = c.args.self.now in
    let owed = owed_at (change_of s.change.now) s.targets.now in
    let known = known_at c.args.frames.now in
    at_exit (ChecksCover s.columns owed known c.args.left c.args.cursor.now c.take.new.cursor) c.from_residual.result c.in_err-head.field-0.0 c.from_residual.ensures.1
    (tree_line_fails (cover_tree s.columns (owed_count owed) (length known) c.args.left) c.args.cursor.now c.in_err-head.field-0.0 c.in_err-head.ensures.line)

pub is_met-returns-then-left-eq0 : goal.is_met-returns-then-left-eq0
is_met-returns-then-left-eq0 t c =
    let s = c.args.self.now in
    let owed = owed_at (change_of s.change.now) s.targets.now in
    let at = behind_as c.in_ok-head.head heads.Split c.in_ok-head.numbers.items c.args.cursor.now c.take.new.cursor c.in-Split.is c.in_ok-head.ensures.line.0 c.in_ok-head.ensures.line.1 in
    deep_stops (cover_tree s.columns (owed_count owed) (length (known_at c.args.frames.now)) c.args.left) c.args.cursor.now c.take.new.cursor c.in_ok-head.numbers.items at c.if-left-eq0.true

pub is_met-returns-in_default-row_of : goal.is_met-returns-in_default-row_of
is_met-returns-in_default-row_of t c =
    let s = c.args.self.now in
    let owed = owed_at (change_of s.change.now) s.targets.now in
    let at = behind_as c.in_ok-head.head heads.Split c.in_ok-head.numbers.items c.args.cursor.now c.take.new.cursor c.in-Split.is c.in_ok-head.ensures.line.0 c.in_ok-head.ensures.line.1 in
    let none = no_row s.columns c.in_ok-head.numbers.items c.row_of.result c.row_of.ensures c.in_default-row_of.is in
    row_stops (cover_tree s.columns (owed_count owed) (length (known_at c.args.frames.now)) c.args.left) c.args.cursor.now c.take.new.cursor c.in_ok-head.numbers.items at c.if-left-eq0.false none

pub is_met-returns-in-Some : goal.is_met-returns-in-Some
is_met-returns-in-Some t c =
    let s = c.args.self.now in
    let owed = owed_at (change_of s.change.now) s.targets.now in
    let at = behind_as c.in_ok-head.head heads.Split c.in_ok-head.numbers.items c.args.cursor.now c.take.new.cursor c.in-Split.is c.in_ok-head.ensures.line.0 c.in_ok-head.ensures.line.1 in
    let is = row_there s.columns c.in_ok-head.numbers.items c.row_of.result c.row_of.ensures c.in-Some.row c.in-Some.is in
    split_checks s.columns owed (known_at c.args.frames.now) c.args.left c.args.cursor.now c.take.new.cursor c.in_ok-head.numbers.items at c.in-Some.row is c.if-left-eq0.false s.alloc c.sides_are_met.new.cursor c.sides_are_met.result c.sides_are_met.ensures

pub is_met-returns-in-Empty : goal.is_met-returns-in-Empty
is_met-returns-in-Empty t c =
    let s = c.args.self.now in
    c.is_empty.ensures.cover (owed_at (change_of s.change.now) s.targets.now) c.args.left c.args.cursor.now c.take.new.cursor
    (behind_as c.in_ok-head.head heads.Empty c.in_ok-head.numbers.items c.args.cursor.now c.take.new.cursor c.in-Empty.is c.in_ok-head.ensures.line.0 c.in_ok-head.ensures.line.1) refl

pub is_met-returns-in-Into : goal.is_met-returns-in-Into
is_met-returns-in-Into t c =
    c.is_shown.ensures c.args.left c.args.cursor.now
    (subst (λ zs. IsBehind heads.Into zs c.args.cursor.now c.take.new.cursor) (sym c.deref.ensures.value)
    (behind_as c.in_ok-head.head heads.Into c.in_ok-head.numbers.items c.args.cursor.now c.take.new.cursor c.in-Into.is c.in_ok-head.ensures.line.0 c.in_ok-head.ensures.line.1))

pub is_met-returns-in_default : goal.is_met-returns-in_default
is_met-returns-in_default t c =
    let s = c.args.self.now in
    let owed = owed_at (change_of s.change.now) s.targets.now in
    let at : IsBehind c.in_ok-head.head c.in_ok-head.numbers.items c.args.cursor.now c.take.new.cursor = record { front = c.in_ok-head.ensures.line.0; one = c.in_ok-head.ensures.line.1 } in
    tree_stops (cover_tree s.columns (owed_count owed) (length (known_at c.args.frames.now)) c.args.left) c.args.cursor.now c.take.new.cursor c.in_ok-head.head c.in_ok-head.numbers.items at Shape
    (other_head s.columns (owed_count owed) (length (known_at c.args.frames.now)) c.args.left c.in_ok-head.head c.in_ok-head.numbers.items c.in_default.not-Split c.in_default.not-Empty c.in_default.not-Into)

pub sides_are_met-returns-in_err-fails : goal.sides_are_met-returns-in_err-fails
sides_are_met-returns-in_err-fails t c =
    let s = c.args.self.now in
    let owed = owed_at (change_of s.change.now) s.targets.now in
    let known = known_at c.args.frames.now in
    at_exit (ChecksSides s.columns owed known c.args.left c.args.row.now c.args.cursor.now c.is_met-2.new.cursor) c.from_residual-in_err-fails.result c.in_err-fails.field-0.0 c.from_residual-in_err-fails.ensures.1
    (outside_fails s.columns owed known c.args.left c.args.row.now c.args.cursor.now c.is_met.new.cursor c.in_ok-holds.holds
    (subst (λ r. CheckedCover c.args.self.now.columns (owed_at (change_of c.args.self.now.change.now) c.args.self.now.targets.now) (known_at c.args.frames.now ++ given r ∷ []) c.args.left c.args.cursor.now c.is_met.new.cursor c.in_ok-holds.holds) c.of.ensures c.in_ok-holds.ensures) c.in_err-fails.field-0.0
    (subst (λ r. ChecksCover s.columns owed (known ++ denied (given r) ∷ []) c.args.left c.is_met.new.cursor c.is_met-2.new.cursor (Err c.in_err-fails.field-0.0)) c.of.ensures c.in_err-fails.ensures))

pub sides_are_met-returns-then-holds : goal.sides_are_met-returns-then-holds
sides_are_met-returns-then-holds t c = record {
  middle = c.is_met.new.cursor;
  inside = c.in_ok-holds.holds;
  outside = c.in_ok-fails.fails;
  holds = subst (λ r. CheckedCover c.args.self.now.columns (owed_at (change_of c.args.self.now.change.now) c.args.self.now.targets.now) (known_at c.args.frames.now ++ given r ∷ []) c.args.left c.args.cursor.now c.is_met.new.cursor c.in_ok-holds.holds) c.of.ensures c.in_ok-holds.ensures;
  fails = subst (λ r. CheckedCover c.args.self.now.columns (owed_at (change_of c.args.self.now.change.now) c.args.self.now.targets.now) (known_at c.args.frames.now ++ denied (given r) ∷ []) c.args.left c.is_met.new.cursor c.is_met-2.new.cursor c.in_ok-fails.fails) c.of.ensures c.in_ok-fails.ensures;
  told = joined_true c.in_ok-holds.holds c.in_ok-fails.fails c.in_ok-fails.fails c.if-holds.true refl;
}

pub sides_are_met-returns-else-holds : goal.sides_are_met-returns-else-holds
sides_are_met-returns-else-holds t c = record {
  middle = c.is_met.new.cursor;
  inside = c.in_ok-holds.holds;
  outside = c.in_ok-fails.fails;
  holds = subst (λ r. CheckedCover c.args.self.now.columns (owed_at (change_of c.args.self.now.change.now) c.args.self.now.targets.now) (known_at c.args.frames.now ++ given r ∷ []) c.args.left c.args.cursor.now c.is_met.new.cursor c.in_ok-holds.holds) c.of.ensures c.in_ok-holds.ensures;
  fails = subst (λ r. CheckedCover c.args.self.now.columns (owed_at (change_of c.args.self.now.change.now) c.args.self.now.targets.now) (known_at c.args.frames.now ++ denied (given r) ∷ []) c.args.left c.is_met.new.cursor c.is_met-2.new.cursor c.in_ok-fails.fails) c.of.ensures c.in_ok-fails.ensures;
  told = joined_false c.in_ok-holds.holds c.in_ok-fails.fails c.in_ok-holds.holds c.if-holds.false refl;
}
