use Rattle.std.proofs.Common.{[], ◌∷◌, true, subst, arith}
use Rattle.tv_lines.specs.Lines.{formed}
use Rattle.tv_lines.specs.declared.head.Head.TheVariants as heads
use Rattle.tv_cases.specs.Systems.{cases_of}
use Rattle.tv_cert.specs.AimViews.{aim_states}
use Rattle.tv_cert_reader.specs.Reading.{Takes}
use Rattle.tv_cert_reader.specs.Wholes.{ReadsRest}
use Rattle.tv_cert_reader.proofs.ReadingLemmas.{at_exit}
use Rattle.tv_cert_reader.proofs.VerdictLemmas.{proved_root_fails, start_fails, last_fails, end_fails}
use Rattle.tv_cert_reader.proofs.context.Context.proved.Goals as goal
use Rattle.tv_cases.proofs.BeforeValue.{no_columns}

pub returns-in_err-root : goal.returns-in_err-root
returns-in_err-root c =
    let system = cases_of c.args.self.now.about.now in
    let s = aim_states c.args.aim.now in
    let a = c.args.self.now.about.now.are_cases.starts in
    at_exit (ReadsRest system s true c.args.cursor.now) c.from_residual.result c.in_err-root.field-0.0 c.from_residual.ensures.1
    (proved_root_fails system (omega (arith, a)) s c.args.cursor.now c.in_err-root.field-0.0 c.in_err-root.ensures.read)

pub returns-in_err-start : goal.returns-in_err-start
returns-in_err-start c =
    let system = cases_of c.args.self.now.about.now in
    let s = aim_states c.args.aim.now in
    let a = c.args.self.now.about.now.are_cases.starts in
    at_exit (ReadsRest system s true c.args.cursor.now) c.from_residual-in_err-start.result c.in_err-start.field-0.0 c.from_residual-in_err-start.ensures.1
    (start_fails system (omega (arith, a)) s c.args.cursor.now c.in_ok-root.root c.node.new.cursor c.in_ok-root.ensures.read.0 c.in_ok-root.ensures.read.1 c.in_err-start.field-0.0
    c.in_err-start.ensures)

pub returns-in_err-numbers : goal.returns-in_err-numbers
returns-in_err-numbers c =
    let system = cases_of c.args.self.now.about.now in
    let s = aim_states c.args.aim.now in
    let a = c.args.self.now.about.now.are_cases.starts in
    at_exit (ReadsRest system s true c.args.cursor.now) c.from_residual-in_err-numbers.result c.in_err-numbers.field-0.0 c.from_residual-in_err-numbers.ensures.1
    (last_fails system (omega (arith, a)) s c.args.cursor.now c.in_ok-root.root c.node.new.cursor c.in_ok-root.ensures.read.0 c.in_ok-root.ensures.read.1 c.in_ok-start.start c.start.new.cursor
    c.in_ok-start.ensures.0 c.in_ok-start.ensures.1 c.in_err-numbers.field-0.0 c.in_err-numbers.ensures)

pub returns-in_err-finish : goal.returns-in_err-finish
returns-in_err-finish c =
    let system = cases_of c.args.self.now.about.now in
    let s = aim_states c.args.aim.now in
    let a = c.args.self.now.about.now.are_cases.starts in
    let none = no_columns c.in_ok-numbers.field-0.items c.in_ok-numbers.ensures.0.many in
    at_exit (ReadsRest system s true c.args.cursor.now) c.from_residual-in_err-finish.result c.in_err-finish.field-0.0 c.from_residual-in_err-finish.ensures.1
    (end_fails system (omega (arith, a)) s c.args.cursor.now c.in_ok-root.root c.node.new.cursor c.in_ok-root.ensures.read.0 c.in_ok-root.ensures.read.1 c.in_ok-start.start c.start.new.cursor
    c.in_ok-start.ensures.0 c.in_ok-start.ensures.1 c.numbers.new.cursor c.in_err-finish.field-0.0
    (subst (λ zs. Takes (formed heads.End zs ∷ []) c.start.new.cursor c.numbers.new.cursor) none c.in_ok-numbers.ensures.1) c.in_err-finish.ensures)
