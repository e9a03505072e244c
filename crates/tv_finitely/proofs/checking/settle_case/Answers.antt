use Rattle.std.proofs.Common.{length, arith, refl}
use Rattle.std.proofs.lemmas.Option.{slice_get_read}
use Rattle.tv_finitely.specs.Splits.{split_of}
use Rattle.tv_finitely.proofs.CaseLemmas.{settled_nothing, settled_missing, settled_met, settled_unmet}
use Rattle.tv_finitely.proofs.checking.settle_case.Goals as goal

pub returns-then-not-starts_at : goal.returns-then-not-starts_at
returns-then-not-starts_at c = settled_nothing (split_of c.args.about.now) c.args.pieces.now c.args.piece.now c.args.number c.args.proofs.now c.args.met (λ e. let h = c.starts_at.ensures.1 e in let f = c.if-not-starts_at.true in cc) c.requires.met

pub returns-then-met-proofs : goal.returns-then-met-proofs
returns-then-met-proofs c =
    let s = split_of c.args.about.now in
    let t = c.if-met-proofs.true in
    rw c.step_failing-failing.ensures
    (settled_missing s c.args.pieces.now c.args.piece.now c.args.number c.args.proofs.now c.args.met (c.starts_at.ensures.0 c.if-not-starts_at.false) (omega (arith, t)))

pub returns-then-step_is_met : goal.returns-then-step_is_met
returns-then-step_is_met c =
    let l = c.if-met-proofs.false in
    settled_met (split_of c.args.about.now) c.args.pieces.now c.args.piece.now c.args.number c.args.proofs.now c.args.met c.index-proofs-met.result
    (slice_get_read c.args.proofs.now (length c.args.proofs.now) c.args.met c.index-proofs-met.result refl (omega (arith, l)) c.index-proofs-met.is)
    (c.starts_at.ensures.0 c.if-not-starts_at.false) (c.step_is_met.ensures.0 c.if-step_is_met.true) (omega (arith, l))

pub returns-else-step_is_met : goal.returns-else-step_is_met
returns-else-step_is_met c =
    let s = split_of c.args.about.now in
    let l = c.if-met-proofs.false in
    rw c.step_failing-failing.ensures
    (settled_unmet s c.args.pieces.now c.args.piece.now c.args.number c.args.proofs.now c.args.met c.index-proofs-met.result
    (slice_get_read c.args.proofs.now (length c.args.proofs.now) c.args.met c.index-proofs-met.result refl (omega (arith, l)) c.index-proofs-met.is)
    (c.starts_at.ensures.0 c.if-not-starts_at.false) (λ m. let h = c.step_is_met.ensures.1 m in let f = c.if-step_is_met.false in cc))
