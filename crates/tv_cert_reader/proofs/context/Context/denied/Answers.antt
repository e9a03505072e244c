use Rattle.std.proofs.Common.{◌≡◌, [], ◌∷◌, false, None, Some, subst, ◌∙◌, arith}
use Rattle.std.specs.Prelude.{slice_get}
use Rattle.tv_lines.specs.Lines.{formed}
use Rattle.tv_lines.specs.declared.head.Head.TheVariants as heads
use Rattle.tv_cases.specs.Systems.{cases_of}
use Rattle.tv_cert.specs.AimViews.{aim_states}
use Rattle.tv_cert.specs.NodeViews.{pieces_list}
use Rattle.tv_cert.specs.Pieces.{pieces_at}
use Rattle.tv_cert_reader.specs.Reading.{Takes, FailsBy}
use Rattle.tv_cert_reader.specs.Wholes.{ReadsRest}
use Rattle.tv_cert_reader.proofs.ReadingLemmas.{at_exit}
use Rattle.tv_cert_reader.specs.LineGrammar.{line}
use Rattle.tv_cert_reader.specs.CertificateGrammar.{at_line}
use Rattle.tv_cert_reader.proofs.VerdictLemmas.{none_past, none_by, some_by, denied_root_fails, values_stop, piece_missing, denied_last_fails, denied_end_fails}
use Rattle.tv_cert_reader.proofs.context.Context.denied.Goals as goal
use Rattle.tv_cases.proofs.BeforeValue.{no_columns}

pub returns-in_err-root : goal.returns-in_err-root
returns-in_err-root c =
    let system = cases_of c.args.self.now.about.now in
    let s = aim_states c.args.aim.now in
    let a = c.args.self.now.about.now.are_cases.starts in
    at_exit (ReadsRest system s false c.args.cursor.now) c.from_residual.result c.in_err-root.field-0.0 c.from_residual.ensures.1
    (denied_root_fails system (omega (arith, a)) s c.args.cursor.now c.in_err-root.field-0.0 c.in_err-root.ensures.read)

pub returns-in_err-place : goal.returns-in_err-place
returns-in_err-place c =
    let system = cases_of c.args.self.now.about.now in
    let s = aim_states c.args.aim.now in
    let a = c.args.self.now.about.now.are_cases.starts in
    at_exit (ReadsRest system s false c.args.cursor.now) c.from_residual-in_err-place.result c.in_err-place.field-0.0 c.from_residual-in_err-place.ensures.1
    (values_stop system (omega (arith, a)) s c.args.cursor.now c.in_ok-root.root c.node.new.cursor c.in_ok-root.ensures.read.0 c.in_ok-root.ensures.read.1 c.in_err-place.field-0.0
    (subst (λ n. FailsBy (line (at_line n)) c.node.new.cursor c.in_err-place.field-0.0) c.variables.ensures.same c.in_err-place.ensures))

pub returns-then-place : goal.returns-then-place
returns-then-place c =
    let system = cases_of c.args.self.now.about.now in
    let s = aim_states c.args.aim.now in
    let a = c.args.self.now.about.now.are_cases.starts in
    piece_missing system (omega (arith, a)) s c.args.cursor.now c.in_ok-root.root c.node.new.cursor c.in_ok-root.ensures.read.0 c.in_ok-root.ensures.read.1 c.in_ok-place.place c.in_ok-place.values.items c.values.new.cursor
    (c.in_ok-place.ensures.0.many ∙ c.variables.ensures.same) c.in_ok-place.ensures.1
    (none_past (pieces_list c.in_ok-root.root) system.start c.in_ok-place.place (let f = c.in_ok-root.ensures.bounded in let h = c.if-place.true in omega (arith, f, h)))

pub returns-then-is_none : goal.returns-then-is_none
returns-then-is_none c =
    let system = cases_of c.args.self.now.about.now in
    let s = aim_states c.args.aim.now in
    let a = c.args.self.now.about.now.are_cases.starts in
    piece_missing system (omega (arith, a)) s c.args.cursor.now c.in_ok-root.root c.node.new.cursor c.in_ok-root.ensures.read.0 c.in_ok-root.ensures.read.1 c.in_ok-place.place c.in_ok-place.values.items c.values.new.cursor
    (c.in_ok-place.ensures.0.many ∙ c.variables.ensures.same) c.in_ok-place.ensures.1 (subst (λ (x : Type 0). x) (λ i. slice_get (pieces_at (pieces_list c.in_ok-root.root) (c.start.ensures.same i)) c.in_ok-place.place ≡ None)
    (none_by c.at.result (slice_get (pieces_at (pieces_list c.in_ok-root.root) c.start.result) c.in_ok-place.place ≡ None) (λ q. slice_get (pieces_at (pieces_list c.in_ok-root.root) c.start.result) c.in_ok-place.place ≡ Some q.now) c.at.ensures c.if-is_none.ensures))

pub returns-in_err-numbers : goal.returns-in_err-numbers
returns-in_err-numbers c =
    let system = cases_of c.args.self.now.about.now in
    let s = aim_states c.args.aim.now in
    let a = c.args.self.now.about.now.are_cases.starts in
    at_exit (ReadsRest system s false c.args.cursor.now) c.from_residual-in_err-numbers.result c.in_err-numbers.field-0.0 c.from_residual-in_err-numbers.ensures.1
    (denied_last_fails system (omega (arith, a)) s c.args.cursor.now c.in_ok-root.root c.node.new.cursor c.in_ok-root.ensures.read.0 c.in_ok-root.ensures.read.1 c.in_ok-place.place c.in_ok-place.values.items c.values.new.cursor
    (c.in_ok-place.ensures.0.many ∙ c.variables.ensures.same) c.in_ok-place.ensures.1
    (subst (λ (x : Type 0). x) (λ i. slice_get (pieces_at (pieces_list c.in_ok-root.root) (c.start.ensures.same i)) c.in_ok-place.place ≡ None → ⊥)
    (some_by (λ q. q.now) c.at.result (slice_get (pieces_at (pieces_list c.in_ok-root.root) c.start.result) c.in_ok-place.place) c.at.ensures c.if-is_none.ensures)) c.in_err-numbers.field-0.0 c.in_err-numbers.ensures)

pub returns-in_err-finish : goal.returns-in_err-finish
returns-in_err-finish c =
    let system = cases_of c.args.self.now.about.now in
    let s = aim_states c.args.aim.now in
    let a = c.args.self.now.about.now.are_cases.starts in
    let none = no_columns c.in_ok-numbers.field-0.items c.in_ok-numbers.ensures.0.many in
    at_exit (ReadsRest system s false c.args.cursor.now) c.from_residual-in_err-finish.result c.in_err-finish.field-0.0 c.from_residual-in_err-finish.ensures.1
    (denied_end_fails system (omega (arith, a)) s c.args.cursor.now c.in_ok-root.root c.node.new.cursor c.in_ok-root.ensures.read.0 c.in_ok-root.ensures.read.1 c.in_ok-place.place c.in_ok-place.values.items c.values.new.cursor
    (c.in_ok-place.ensures.0.many ∙ c.variables.ensures.same) c.in_ok-place.ensures.1
    (subst (λ (x : Type 0). x) (λ i. slice_get (pieces_at (pieces_list c.in_ok-root.root) (c.start.ensures.same i)) c.in_ok-place.place ≡ None → ⊥)
    (some_by (λ q. q.now) c.at.result (slice_get (pieces_at (pieces_list c.in_ok-root.root) c.start.result) c.in_ok-place.place) c.at.ensures c.if-is_none.ensures)) c.numbers.new.cursor c.in_err-finish.field-0.0
    (subst (λ zs. Takes (formed heads.End zs ∷ []) c.values.new.cursor c.numbers.new.cursor) none c.in_ok-numbers.ensures.1) c.in_err-finish.ensures)
