use Rattle.std.proofs.Common.{length, arith, refl}
use Rattle.std.proofs.lemmas.Option.{slice_get_read}
use Rattle.tv_finitely.specs.Splits.{split_of}
use Rattle.tv_finitely.proofs.CaseLemmas.{shaped_nothing, shaped_missing, shaped_one, shaped_other}
use Rattle.tv_finitely.proofs.shape.after_case.Goals as goal

pub returns-then-not-starts_at : goal.returns-then-not-starts_at
returns-then-not-starts_at c = shaped_nothing (split_of c.args.about.now) c.args.pieces.now c.args.piece.now c.args.number c.args.proofs.now c.args.from (λ e. let h = c.starts_at.ensures.1 e in let f = c.if-not-starts_at.true in cc) c.requires.from

pub returns-then-from-proofs : goal.returns-then-from-proofs
returns-then-from-proofs c =
    let t = c.if-from-proofs.true in
    shaped_missing (split_of c.args.about.now) c.args.pieces.now c.args.piece.now c.args.number c.args.proofs.now c.args.from (c.starts_at.ensures.0 c.if-not-starts_at.false) (omega (arith, t))

pub returns-then-proof_has_shape : goal.returns-then-proof_has_shape
returns-then-proof_has_shape c =
    let l = c.if-from-proofs.false in
    shaped_one (split_of c.args.about.now) c.args.pieces.now c.args.piece.now c.args.number c.args.proofs.now c.args.from c.index-proofs-from.result
    (slice_get_read c.args.proofs.now (length c.args.proofs.now) c.args.from c.index-proofs-from.result refl (omega (arith, l)) c.index-proofs-from.is)
    (c.starts_at.ensures.0 c.if-not-starts_at.false) (c.proof_has_shape.ensures.0 c.if-proof_has_shape.true) (omega (arith, l))

pub returns-else-proof_has_shape : goal.returns-else-proof_has_shape
returns-else-proof_has_shape c =
    let l = c.if-from-proofs.false in
    shaped_other (split_of c.args.about.now) c.args.pieces.now c.args.piece.now c.args.number c.args.proofs.now c.args.from c.index-proofs-from.result
    (slice_get_read c.args.proofs.now (length c.args.proofs.now) c.args.from c.index-proofs-from.result refl (omega (arith, l)) c.index-proofs-from.is)
    (c.starts_at.ensures.0 c.if-not-starts_at.false) (λ m. let h = c.proof_has_shape.ensures.1 m in let f = c.if-proof_has_shape.false in cc)
