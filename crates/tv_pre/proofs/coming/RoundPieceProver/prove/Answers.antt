use Rattle.std.proofs.Common.{◌≡◌, ◌⊎◌, inl, inr, [], ◌∷◌, subst, sym}
use Rattle.tv_cases.specs.Systems.{cases_of}
use Rattle.tv_cert.specs.declared.node.Kind.TheVariants as kind
use Rattle.tv_cert.specs.Claims.{about_with}
use Rattle.tv_cert.specs.Obligations.{cover_of, hold_side, first_of, second_of}
use Rattle.tv_pre.specs.Growing.{come_of, AsksCome}
use Rattle.tv_pre.specs.Pieces.{AreMarked, InPieces}
use Rattle.tv_pre.specs.Inclusions.{OfPiece}
use Rattle.tv_pre.specs.Questions.{lies}
use Rattle.tv_pre.proofs.AddLemmas.{adds_then}
use Rattle.tv_pre.proofs.RefusalLemmas.{refusal_weaker}
use Rattle.tv_pre.proofs.coming.RoundPieceProver.prove.Goals as goal

pub prove_cover-requires-clause-inside : goal.prove_cover-requires-clause-inside
prove_cover-requires-clause-inside c = subst (λ qs. OfPiece (cases_of c.args.setting.now.about.now) c.args.piece.now (InPieces qs)) (sym c.deref.ensures.value) c.requires.of.4

pub returns-in-Err-clause-refusals : goal.returns-in-Err-clause-refusals
returns-in-Err-clause-refusals c =
    let s = c.args.self.now in
    let q = c.args.piece.now in
    let about = cases_of c.args.setting.now.about.now in
    refusal_weaker about c.args.setting.now.budget.now (λ a. a ≡ lies q c.deref.result.now) (λ a. (a ≡ lies q s.hold.now.pieces.items) ⊎ AsksCome about s.path q s.earlier.now.pieces.items a) c.in-Err.fault
    (λ a e. inl (subst (λ qs. a ≡ lies q qs) c.deref.ensures.value e)) c.in-Err.ensures.refusals

pub returns-in-Err-prove_coming-clause-refusals : goal.returns-in-Err-prove_coming-clause-refusals
returns-in-Err-prove_coming-clause-refusals c =
    let s = c.args.self.now in
    let q = c.args.piece.now in
    let about = cases_of c.args.setting.now.about.now in
    refusal_weaker about c.args.setting.now.budget.now (AsksCome about s.path q s.earlier.now.pieces.items) (λ a. (a ≡ lies q s.hold.now.pieces.items) ⊎ AsksCome about s.path q s.earlier.now.pieces.items a) c.in-Err-prove_coming.fault
    (λ a h. inr h) c.in-Err-prove_coming.ensures.refusals

pub returns-in-Ok-prove_coming-clause-adds : goal.returns-in-Ok-prove_coming-clause-adds
returns-in-Ok-prove_coming-clause-adds c a p f =
    let s = c.args.self.now in
    let about = cases_of c.args.setting.now.about.now in
    let hold = hold_side s.shape (first_of a.kids) (second_of a.kids) in
    adds_then (cover_of a.number kind.Hold (about_with about) p hold ∷ []) (come_of about a.number s.path p a.pieces) c.args.proofs.now.items c.prove_cover.new.proofs.items c.prove_coming.new.proofs.items
    (c.in-Ok.ensures.adds a.number kind.Hold p hold f.0.marked (subst (AreMarked hold) (sym c.deref.ensures.value) f.1))
    (c.in-Ok-prove_coming.ensures.adds a.number p a.pieces f.0)
