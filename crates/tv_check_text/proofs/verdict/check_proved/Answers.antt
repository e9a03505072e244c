use Rattle.std.proofs.Common.{[], ◌∷◌, false, subst, arith}
use Rattle.tv_lines.specs.Lines.{formed}
use Rattle.tv_lines.specs.declared.head.Head.TheVariants as heads
use Rattle.tv_cases.specs.Systems.{cases_of}
use Rattle.tv_cert.specs.AimViews.{aim_states}
use Rattle.tv_cert_reader.specs.CoverGrammar.{cover}
use Rattle.tv_cert_reader.specs.Covers.{IsCoverWithin}
use Rattle.tv_cert_reader.specs.Reading.{Takes, FailsBy}
use Rattle.tv_cert_reader.specs.Values.{start_counts}
use Rattle.tv_cert_reader.proofs.ReadingLemmas.{at_exit}
use Rattle.tv_cert_reader.proofs.VerdictLemmas.{proved_root_fails, start_fails, last_fails, end_fails}
use Rattle.tv_check_text.specs.Verdicts.{ChecksProved}
use Rattle.tv_check_text.proofs.VerdictLemmas.{proved_checked}
use Rattle.tv_check_text.proofs.verdict.check_proved.Goals as goal
use Rattle.tv_cases.proofs.BeforeValue.{no_columns}

pub returns-in_err-root : goal.returns-in_err-root
returns-in_err-root c =
    let system = cases_of c.args.context.now.about.now in
    let s = aim_states c.args.aim.now in
    let a = c.args.context.now.about.now.are_cases.starts in
    at_exit (ChecksProved system s c.args.walk.now c.node.new.self.taker) c.from_residual.result c.in_err-root.field-0.0 c.from_residual.ensures.1
    (proved_root_fails system (omega (arith, a)) s c.args.walk.now.cursor c.in_err-root.field-0.0 c.in_err-root.ensures.walked)

pub returns-in_err-met : goal.returns-in_err-met
returns-in_err-met c =
    let system = cases_of c.args.context.now.about.now in
    let s = aim_states c.args.aim.now in
    let a = c.args.context.now.about.now.are_cases.starts in
    let j = c.in_ok-root.ensures.walked in
    let f = c.in_err-met.field-0.0 in
    at_exit (ChecksProved system s c.args.walk.now _) c.from_residual-in_err-met.result f c.from_residual-in_err-met.ensures.1
    (start_fails system (omega (arith, a)) s c.args.walk.now.cursor j.node c.node.new.self.cursor j.is_node j.took f
    (subst (λ ps. FailsBy (cover false 128 system.variables 0 (start_counts system ps)) c.node.new.self.cursor f) j.pieces c.in_err-met.ensures))

pub returns-in_err-numbers : goal.returns-in_err-numbers
returns-in_err-numbers c =
    let system = cases_of c.args.context.now.about.now in
    let s = aim_states c.args.aim.now in
    let a = c.args.context.now.about.now.are_cases.starts in
    let j = c.in_ok-root.ensures.walked in
    let start = c.in_ok-met.ensures in
    let f = c.in_err-numbers.field-0.0 in
    at_exit (ChecksProved system s c.args.walk.now _) c.from_residual-in_err-numbers.result f c.from_residual-in_err-numbers.ensures.1
    (last_fails system (omega (arith, a)) s c.args.walk.now.cursor j.node c.node.new.self.cursor j.is_node j.took start.tree c.start_is_covered.new.cursor
    (subst (λ ps. IsCoverWithin system.variables (start_counts system ps) 0 128 start.tree) j.pieces start.within) start.took f
    c.in_err-numbers.ensures)

pub returns-in_err-finish : goal.returns-in_err-finish
returns-in_err-finish c =
    let system = cases_of c.args.context.now.about.now in
    let s = aim_states c.args.aim.now in
    let a = c.args.context.now.about.now.are_cases.starts in
    let j = c.in_ok-root.ensures.walked in
    let start = c.in_ok-met.ensures in
    let f = c.in_err-finish.field-0.0 in
    let none = no_columns c.in_ok-numbers.field-0.items c.in_ok-numbers.ensures.0.many in
    at_exit (ChecksProved system s c.args.walk.now _) c.from_residual-in_err-finish.result f c.from_residual-in_err-finish.ensures.1
    (end_fails system (omega (arith, a)) s c.args.walk.now.cursor j.node c.node.new.self.cursor j.is_node j.took start.tree c.start_is_covered.new.cursor
    (subst (λ ps. IsCoverWithin system.variables (start_counts system ps) 0 128 start.tree) j.pieces start.within) start.took c.numbers.new.cursor f
    (subst (λ zs. Takes (formed heads.End zs ∷ []) c.start_is_covered.new.cursor c.numbers.new.cursor) none c.in_ok-numbers.ensures.1) c.in_err-finish.ensures)

pub returns : goal.returns
returns c =
    let system = cases_of c.args.context.now.about.now in
    let s = aim_states c.args.aim.now in
    let none = no_columns c.in_ok-numbers.field-0.items c.in_ok-numbers.ensures.0.many in
    proved_checked system s c.args.walk.now c.node.new.self c.requires c.in_ok-root.root c.in_ok-root.ensures.walked _ c.in_ok-met.met c.settle_root.ensures.seen c.settle_root.ensures.failing
    c.start_is_covered.new.cursor c.numbers.new.cursor c.in_ok-met.ensures
    (subst (λ zs. Takes (formed heads.End zs ∷ []) c.start_is_covered.new.cursor c.numbers.new.cursor) none c.in_ok-numbers.ensures.1)
    c.in_ok-finish.ensures
