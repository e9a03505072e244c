use Rattle.std.proofs.Common.{refl, sym, subst}
use Rattle.tv_lines.specs.declared.head.Head.TheVariants as heads
use Rattle.tv_cert.specs.TargetViews.{counts_of}
use Rattle.tv_cert_reader.specs.declared.kind.LineKind.TheVariants.{Shape}
use Rattle.tv_cert_reader.specs.Covers.{IsBehind, ReadsTree}
use Rattle.tv_cert_reader.proofs.ReadingLemmas.{at_exit}
use Rattle.tv_cert_reader.proofs.CoverLemmas.{behind_as, cover_taken, cover_tree, other_head, split_read}
use Rattle.tv_cert_reader.proofs.TreeLemmas.{tree_line_fails, tree_stops, deep_stops, row_stops, holds_fail, fails_fail}
use Rattle.tv_cert_reader.proofs.PartLemmas.{row_there, no_row}
use Rattle.tv_cert_reader.proofs.context.Context.+cover_tree.Goals as goal

pub returns-in_err-head : goal.returns-in_err-head
returns-in_err-head t c =
    let counts = counts_of c.args.targets.now in
    at_exit (ReadsTree c.args.width counts c.args.known c.args.left c.args.cursor.now c.take.new.cursor) c.from_residual.result c.in_err-head.field-0.0 c.from_residual.ensures.1
    (tree_line_fails (cover_tree c.args.width counts c.args.known c.args.left) c.args.cursor.now c.in_err-head.field-0.0 c.in_err-head.ensures.line)

pub returns-then-left-eq0 : goal.returns-then-left-eq0
returns-then-left-eq0 t c =
    let at = behind_as c.in_ok-head.head heads.Split c.in_ok-head.numbers.items c.args.cursor.now c.take.new.cursor c.in-Split.is c.in_ok-head.ensures.line.0 c.in_ok-head.ensures.line.1 in
    deep_stops (cover_tree c.args.width (counts_of c.args.targets.now) c.args.known c.args.left) c.args.cursor.now c.take.new.cursor c.in_ok-head.numbers.items at c.if-left-eq0.true

pub returns-in_default-row_of : goal.returns-in_default-row_of
returns-in_default-row_of t c =
    let at = behind_as c.in_ok-head.head heads.Split c.in_ok-head.numbers.items c.args.cursor.now c.take.new.cursor c.in-Split.is c.in_ok-head.ensures.line.0 c.in_ok-head.ensures.line.1 in
    let none = no_row c.args.width c.in_ok-head.numbers.items c.row_of.result c.row_of.ensures c.in_default-row_of.is in
    row_stops (cover_tree c.args.width (counts_of c.args.targets.now) c.args.known c.args.left) c.args.cursor.now c.take.new.cursor c.in_ok-head.numbers.items at c.if-left-eq0.false none

pub returns-in_err-holds-in-Split : goal.returns-in_err-holds-in-Split
returns-in_err-holds-in-Split t c =
    let counts = counts_of c.args.targets.now in
    let at = behind_as c.in_ok-head.head heads.Split c.in_ok-head.numbers.items c.args.cursor.now c.take.new.cursor c.in-Split.is c.in_ok-head.ensures.line.0 c.in_ok-head.ensures.line.1 in
    let is = row_there c.args.width c.in_ok-head.numbers.items c.row_of.result c.row_of.ensures c.in-Some.row c.in-Some.is in
    at_exit (ReadsTree c.args.width counts c.args.known c.args.left c.args.cursor.now c.cover_tree.new.cursor) c.from_residual-in_err-holds-in-Split.result c.in_err-holds-in-Split.field-0.0 c.from_residual-in_err-holds-in-Split.ensures.1
    (holds_fail (cover_tree c.args.width counts c.args.known c.args.left) c.args.cursor.now c.take.new.cursor c.in_ok-head.numbers.items at c.in-Some.row is c.if-left-eq0.false c.in_err-holds-in-Split.field-0.0 c.in_err-holds-in-Split.ensures)

pub returns-in_err-fails-in-Split : goal.returns-in_err-fails-in-Split
returns-in_err-fails-in-Split t c =
    let counts = counts_of c.args.targets.now in
    let at = behind_as c.in_ok-head.head heads.Split c.in_ok-head.numbers.items c.args.cursor.now c.take.new.cursor c.in-Split.is c.in_ok-head.ensures.line.0 c.in_ok-head.ensures.line.1 in
    let is = row_there c.args.width c.in_ok-head.numbers.items c.row_of.result c.row_of.ensures c.in-Some.row c.in-Some.is in
    at_exit (ReadsTree c.args.width counts c.args.known c.args.left c.args.cursor.now c.cover_tree-in-Split.new.cursor) c.from_residual-in_err-fails-in-Split.result c.in_err-fails-in-Split.field-0.0 c.from_residual-in_err-fails-in-Split.ensures.1
    (fails_fail (cover_tree c.args.width counts c.args.known c.args.left) c.args.cursor.now c.take.new.cursor c.in_ok-head.numbers.items at c.in-Some.row is c.if-left-eq0.false c.cover_tree.new.cursor c.in_ok-holds-in-Split.ensures.1
    (cover_taken c.args.width counts c.in_ok-holds-in-Split.holds c.in_ok-holds-in-Split.ensures.0) c.in_err-fails-in-Split.field-0.0 c.in_err-fails-in-Split.ensures)

pub returns-in_ok-split-in-Split : goal.returns-in_ok-split-in-Split
returns-in_ok-split-in-Split t c =
    let counts = counts_of c.args.targets.now in
    let at = behind_as c.in_ok-head.head heads.Split c.in_ok-head.numbers.items c.args.cursor.now c.take.new.cursor c.in-Split.is c.in_ok-head.ensures.line.0 c.in_ok-head.ensures.line.1 in
    let is = row_there c.args.width c.in_ok-head.numbers.items c.row_of.result c.row_of.ensures c.in-Some.row c.in-Some.is in
    split_read c.args.width counts c.args.known c.args.left c.args.cursor.now c.take.new.cursor c.in_ok-head.numbers.items at c.in-Some.row is c.if-left-eq0.false c.in_ok-holds-in-Split.holds c.cover_tree.new.cursor c.in_ok-holds-in-Split.ensures.0 c.in_ok-holds-in-Split.ensures.1
    c.in_ok-fails-in-Split.fails c.in_ok-split-in-Split.split c.cover_tree-in-Split.new.cursor c.in_ok-fails-in-Split.ensures.0 c.in_ok-fails-in-Split.ensures.1 c.in_ok-split-in-Split.ensures

pub returns-in_default : goal.returns-in_default
returns-in_default t c =
    let counts = counts_of c.args.targets.now in
    let at : IsBehind c.in_ok-head.head c.in_ok-head.numbers.items c.args.cursor.now c.take.new.cursor = record { front = c.in_ok-head.ensures.line.0; one = c.in_ok-head.ensures.line.1 } in
    tree_stops (cover_tree c.args.width counts c.args.known c.args.left) c.args.cursor.now c.take.new.cursor c.in_ok-head.head c.in_ok-head.numbers.items at Shape
    (other_head c.args.width counts c.args.known c.args.left c.in_ok-head.head c.in_ok-head.numbers.items c.in_default.not-Split c.in_default.not-Empty c.in_default.not-Into)

pub returns-in-Empty : goal.returns-in-Empty
returns-in-Empty t c =
    c.empty_of.ensures c.args.width c.args.left (counts_of c.args.targets.now) c.args.cursor.now c.take.new.cursor
    (behind_as c.in_ok-head.head heads.Empty c.in_ok-head.numbers.items c.args.cursor.now c.take.new.cursor c.in-Empty.is c.in_ok-head.ensures.line.0 c.in_ok-head.ensures.line.1) refl

pub returns-in-Into : goal.returns-in-Into
returns-in-Into t c =
    c.entered.ensures c.args.width c.args.left c.args.cursor.now
    (subst (λ zs. IsBehind heads.Into zs c.args.cursor.now c.take.new.cursor) (sym c.deref.ensures.value)
    (behind_as c.in_ok-head.head heads.Into c.in_ok-head.numbers.items c.args.cursor.now c.take.new.cursor c.in-Into.is c.in_ok-head.ensures.line.0 c.in_ok-head.ensures.line.1))
