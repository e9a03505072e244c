use Rattle.std.proofs.Common.{◌≡◌, ◌↔◌, IsTrue, [], ◌∷◌, None, Some, ap, ◌∙◌, subst, length, arith}
use Rattle.std.specs.Prelude.{slice_get, IsSome}
use Rattle.std.specs.Option.{option_map}
use Rattle.tv_lines.specs.Lines.{formed}
use Rattle.tv_lines.specs.declared.head.Head.TheVariants as heads
use Rattle.tv_cases.specs.Systems.{cases_of}
use Rattle.tv_cert.specs.AimViews.{aim_states}
use Rattle.tv_cert.specs.NodeViews.{pieces_list}
use Rattle.tv_cert.specs.Obligations.{PointMet}
use Rattle.tv_cert.specs.Pieces.{pieces_at, rows_of}
use Rattle.tv_cert_reader.specs.LineGrammar.{line}
use Rattle.tv_cert_reader.specs.CertificateGrammar.{at_line}
use Rattle.tv_cert_reader.specs.Reading.{Takes, FailsBy}
use Rattle.tv_cert_reader.proofs.ReadingLemmas.{at_exit}
use Rattle.tv_cert_reader.proofs.VerdictLemmas.{none_past, none_by, some_by, denied_root_fails, values_stop, piece_missing, denied_last_fails, denied_end_fails}
use Rattle.tv_check_text.specs.Verdicts.{ChecksDenied}
use Rattle.tv_check_text.proofs.VerdictLemmas.{denied_checked, pieces_over, there_by}
use Rattle.tv_check_text.proofs.verdict.check_denied.Goals as goal
use Rattle.tv_cases.proofs.BeforeValue.{no_columns}

pub returns-in_err-root : goal.returns-in_err-root
returns-in_err-root c =
    let system = cases_of c.args.context.now.about.now in
    let s = aim_states c.args.aim.now in
    let a = c.args.context.now.about.now.are_cases.starts in
    at_exit (ChecksDenied system s c.args.walk.now c.node.new.self.taker) c.from_residual.result c.in_err-root.field-0.0 c.from_residual.ensures.1
    (denied_root_fails system (omega (arith, a)) s c.args.walk.now.cursor c.in_err-root.field-0.0 c.in_err-root.ensures.walked)

pub returns-in_err-place : goal.returns-in_err-place
returns-in_err-place c =
    let system = cases_of c.args.context.now.about.now in
    let s = aim_states c.args.aim.now in
    let a = c.args.context.now.about.now.are_cases.starts in
    let j = c.in_ok-root.ensures.walked in
    at_exit (ChecksDenied system s c.args.walk.now _) c.from_residual-in_err-place.result c.in_err-place.field-0.0 c.from_residual-in_err-place.ensures.1
    (values_stop system (omega (arith, a)) s c.args.walk.now.cursor j.node c.node.new.self.cursor j.is_node j.took c.in_err-place.field-0.0
    (subst (λ n. FailsBy (line (at_line n)) c.node.new.self.cursor c.in_err-place.field-0.0) c.variables.ensures.same c.in_err-place.ensures))

pub returns-then-place : goal.returns-then-place
returns-then-place c =
    let system = cases_of c.args.context.now.about.now in
    let s = aim_states c.args.aim.now in
    let a = c.args.context.now.about.now.are_cases.starts in
    let j = c.in_ok-root.ensures.walked in
    piece_missing system (omega (arith, a)) s c.args.walk.now.cursor j.node c.node.new.self.cursor j.is_node j.took c.in_ok-place.place c.in_ok-place.values.items c.values.new.cursor
    (c.in_ok-place.ensures.0.many ∙ c.variables.ensures.same) c.in_ok-place.ensures.1
    (subst (λ ps. slice_get (pieces_at ps system.start) c.in_ok-place.place ≡ None) j.pieces
    (none_past (pieces_list c.in_ok-root.root) system.start c.in_ok-place.place (let f = c.in_ok-root.ensures.bounded in let h = c.if-place.true in omega (arith, f, h))))

pub returns-then-is_none : goal.returns-then-is_none
returns-then-is_none c =
    let system = cases_of c.args.context.now.about.now in
    let s = aim_states c.args.aim.now in
    let a = c.args.context.now.about.now.are_cases.starts in
    let j = c.in_ok-root.ensures.walked in
    piece_missing system (omega (arith, a)) s c.args.walk.now.cursor j.node c.node.new.self.cursor j.is_node j.took c.in_ok-place.place c.in_ok-place.values.items c.values.new.cursor
    (c.in_ok-place.ensures.0.many ∙ c.variables.ensures.same) c.in_ok-place.ensures.1
    (subst (λ (x : Type 0). x) (λ i. slice_get (pieces_at (j.pieces i) (c.start.ensures.same i)) c.in_ok-place.place ≡ None)
    (none_by c.at.result (slice_get (pieces_at (pieces_list c.in_ok-root.root) c.start.result) c.in_ok-place.place ≡ None) (λ q. slice_get (pieces_at (pieces_list c.in_ok-root.root) c.start.result) c.in_ok-place.place ≡ Some q.now) c.at.ensures c.if-is_none.ensures))

pub returns-in_err-numbers : goal.returns-in_err-numbers
returns-in_err-numbers c =
    let system = cases_of c.args.context.now.about.now in
    let s = aim_states c.args.aim.now in
    let a = c.args.context.now.about.now.are_cases.starts in
    let j = c.in_ok-root.ensures.walked in
    let f = c.in_err-numbers.field-0.0 in
    at_exit (ChecksDenied system s c.args.walk.now _) c.from_residual-in_err-numbers.result f c.from_residual-in_err-numbers.ensures.1
    (denied_last_fails system (omega (arith, a)) s c.args.walk.now.cursor j.node c.node.new.self.cursor j.is_node j.took c.in_ok-place.place c.in_ok-place.values.items c.values.new.cursor
    (c.in_ok-place.ensures.0.many ∙ c.variables.ensures.same) c.in_ok-place.ensures.1
    (subst (λ (x : Type 0). x) (λ i. slice_get (pieces_at (j.pieces i) (c.start.ensures.same i)) c.in_ok-place.place ≡ None → ⊥)
    (some_by (λ q. q.now) c.at.result (slice_get (pieces_at (pieces_list c.in_ok-root.root) c.start.result) c.in_ok-place.place) c.at.ensures c.if-is_none.ensures)) f
    c.in_err-numbers.ensures)

pub returns-in_err-finish : goal.returns-in_err-finish
returns-in_err-finish c =
    let system = cases_of c.args.context.now.about.now in
    let s = aim_states c.args.aim.now in
    let a = c.args.context.now.about.now.are_cases.starts in
    let j = c.in_ok-root.ensures.walked in
    let f = c.in_err-finish.field-0.0 in
    let none = no_columns c.in_ok-numbers.field-0.items c.in_ok-numbers.ensures.0.many in
    at_exit (ChecksDenied system s c.args.walk.now _) c.from_residual-in_err-finish.result f c.from_residual-in_err-finish.ensures.1
    (denied_end_fails system (omega (arith, a)) s c.args.walk.now.cursor j.node c.node.new.self.cursor j.is_node j.took c.in_ok-place.place c.in_ok-place.values.items c.values.new.cursor
    (c.in_ok-place.ensures.0.many ∙ c.variables.ensures.same) c.in_ok-place.ensures.1
    (subst (λ (x : Type 0). x) (λ i. slice_get (pieces_at (j.pieces i) (c.start.ensures.same i)) c.in_ok-place.place ≡ None → ⊥)
    (some_by (λ q. q.now) c.at.result (slice_get (pieces_at (pieces_list c.in_ok-root.root) c.start.result) c.in_ok-place.place) c.at.ensures c.if-is_none.ensures)) c.numbers.new.cursor f
    (subst (λ zs. Takes (formed heads.End zs ∷ []) c.values.new.cursor c.numbers.new.cursor) none c.in_ok-numbers.ensures.1) c.in_err-finish.ensures)

pub hold-met-requires : goal.hold-met-requires
hold-met-requires c =
    let system = cases_of c.args.context.now.about.now in
    let j = c.in_ok-root.ensures.walked in
    pieces_over system (aim_states c.args.aim.now) j.node (pieces_list c.in_ok-root.root) (length c.deref.result.now) j.is_node j.pieces
    (ap length c.deref.ensures.value ∙ c.in_ok-place.ensures.0.many ∙ c.variables.ensures.same)

pub returns : goal.returns
returns c =
    let system = cases_of c.args.context.now.about.now in
    let s = aim_states c.args.aim.now in
    let j = c.in_ok-root.ensures.walked in
    let ps = pieces_list c.in_ok-root.root in
    let place = c.in_ok-place.place in
    let none = no_columns c.in_ok-numbers.field-0.items c.in_ok-numbers.ensures.0.many in
    denied_checked system s c.args.walk.now c.node.new.self c.requires c.in_ok-root.root j _ c.hold-met.result c.settle_root.ensures.seen c.settle_root.ensures.failing
    c.values.new.cursor c.numbers.new.cursor place c.in_ok-place.values (record { many = c.in_ok-place.ensures.0.many ∙ c.variables.ensures.same; narrow = c.in_ok-place.ensures.0.narrow }) c.in_ok-place.ensures.1
    (subst (λ l. IsSome (slice_get (pieces_at ps l) place)) c.start.ensures.same (there_by (λ q. q.now) c.at.result (slice_get (pieces_at ps c.start.result) place) c.at.ensures c.if-is_none.ensures))
    (subst (λ (x : Type 0). x) (λ i. IsTrue c.hold-met.result ↔ PointMet (c.deref.ensures.value i) (option_map rows_of (slice_get (pieces_at ps (c.start-2.ensures.same i)) place))) c.hold-met.ensures)
    (subst (λ zs. Takes (formed heads.End zs ∷ []) c.values.new.cursor c.numbers.new.cursor) none c.in_ok-numbers.ensures.1)
    c.in_ok-finish.ensures
