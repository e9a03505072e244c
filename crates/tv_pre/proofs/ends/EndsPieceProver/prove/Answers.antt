use Rattle.std.proofs.Common.{◌∙◌, [], ◌∷◌, map, subst, sym}
use Rattle.tv_cases.specs.Systems.{cases_of}
use Rattle.tv_cert.specs.declared.node.Kind.TheVariants as kind
use Rattle.tv_cert.specs.Claims.{about_with}
use Rattle.tv_cert.specs.Obligations.{cover_of, end_sides, first_of, second_of}
use Rattle.tv_region.specs.StepRegions.{InState}
use Rattle.tv_choice.specs.Leading.{state}
use Rattle.tv_pre.specs.Pieces.{AreMarked, InPieces}
use Rattle.tv_pre.specs.Inclusions.{OfPiece}
use Rattle.tv_pre.specs.Offers.{Adds}
use Rattle.tv_pre.proofs.AddLemmas.{adds_then}
use Rattle.tv_pre.proofs.RefusalLemmas.{each_refused}
use Rattle.tv_pre.proofs.SideLemmas.{ends_first, ends_second, one_end, both_ends, first_among, second_among}
use Rattle.tv_pre.proofs.ends.EndsPieceProver.prove.Goals as goal

pub prove_cover-requires-clause-inside : goal.prove_cover-requires-clause-inside
prove_cover-requires-clause-inside c =
    let s = c.args.self.now in
    let q = c.args.piece.now in
    subst (λ qs. OfPiece (cases_of c.args.setting.now.about.now) q (InPieces qs)) (sym c.deref.ensures.value)
    (λ xs w. ends_first s.shape (InState s.first.now) (InState s.second.now) (state q.location xs) (sym c.has_two_ends.ensures ∙ c.if-has_two_ends.true) (c.requires.of.3 xs w))

pub returns-in-Err-clause-refusals : goal.returns-in-Err-clause-refusals
returns-in-Err-clause-refusals c =
    let s = c.args.self.now in
    each_refused (cases_of c.args.setting.now.about.now) c.args.setting.now.budget.now c.args.piece.now (end_sides s.shape s.first.now s.second.now) s.first.now c.deref.result.now c.in-Err.fault
    (first_among s.shape s.first.now s.second.now (sym c.has_two_ends.ensures ∙ c.if-has_two_ends.true)) c.deref.ensures.value c.in-Err.ensures.refusals

pub prove_cover-requires-then-has_two_ends-clause-inside : goal.prove_cover-requires-then-has_two_ends-clause-inside
prove_cover-requires-then-has_two_ends-clause-inside c =
    let s = c.args.self.now in
    let q = c.args.piece.now in
    subst (λ qs. OfPiece (cases_of c.args.setting.now.about.now) q (InPieces qs)) (sym c.deref-then-has_two_ends.ensures.value)
    (λ xs w. ends_second s.shape (InState s.first.now) (InState s.second.now) (state q.location xs) (c.requires.of.3 xs w))

pub returns-in-Err-prove_cover-clause-refusals : goal.returns-in-Err-prove_cover-clause-refusals
returns-in-Err-prove_cover-clause-refusals c =
    let s = c.args.self.now in
    each_refused (cases_of c.args.setting.now.about.now) c.args.setting.now.budget.now c.args.piece.now (end_sides s.shape s.first.now s.second.now) s.second.now c.deref-then-has_two_ends.result.now c.in-Err-prove_cover.fault
    (second_among s.shape s.first.now s.second.now) c.deref-then-has_two_ends.ensures.value c.in-Err-prove_cover.ensures.refusals

pub returns-in-Ok-prove_cover-clause-adds : goal.returns-in-Ok-prove_cover-clause-adds
returns-in-Ok-prove_cover-clause-adds c a p f =
    let s = c.args.self.now in
    let owed = cover_of a.number kind.Done (about_with (cases_of c.args.setting.now.about.now)) p in
    let first = first_of a.kids in
    let second = second_of a.kids in
    subst (λ os. Adds (map owed os) c.args.proofs.now.items c.prove_cover-then-has_two_ends.new.proofs.items) (sym (both_ends s.shape first second (sym c.has_two_ends.ensures ∙ c.if-has_two_ends.true)))
    (adds_then (owed first ∷ []) (owed second ∷ []) c.args.proofs.now.items c.prove_cover.new.proofs.items c.prove_cover-then-has_two_ends.new.proofs.items
    (c.in-Ok.ensures.adds a.number kind.Done p first f.0 (subst (AreMarked first) (sym c.deref.ensures.value) f.1))
    (c.in-Ok-prove_cover.ensures.adds a.number kind.Done p second f.0 (subst (AreMarked second) (sym c.deref-then-has_two_ends.ensures.value) f.2)))

pub prove_cover-requires-2-clause-inside : goal.prove_cover-requires-2-clause-inside
prove_cover-requires-2-clause-inside c =
    let s = c.args.self.now in
    let q = c.args.piece.now in
    subst (λ qs. OfPiece (cases_of c.args.setting.now.about.now) q (InPieces qs)) (sym c.deref-2.ensures.value)
    (λ xs w. ends_second s.shape (InState s.first.now) (InState s.second.now) (state q.location xs) (c.requires.of.3 xs w))

pub returns-in-Err-prove_cover-2-clause-refusals : goal.returns-in-Err-prove_cover-2-clause-refusals
returns-in-Err-prove_cover-2-clause-refusals c =
    let s = c.args.self.now in
    each_refused (cases_of c.args.setting.now.about.now) c.args.setting.now.budget.now c.args.piece.now (end_sides s.shape s.first.now s.second.now) s.second.now c.deref-2.result.now c.in-Err-prove_cover-2.fault
    (second_among s.shape s.first.now s.second.now) c.deref-2.ensures.value c.in-Err-prove_cover-2.ensures.refusals

pub returns-in-Ok-prove_cover-2-clause-adds : goal.returns-in-Ok-prove_cover-2-clause-adds
returns-in-Ok-prove_cover-2-clause-adds c a p f =
    let s = c.args.self.now in
    let owed = cover_of a.number kind.Done (about_with (cases_of c.args.setting.now.about.now)) p in
    let second = second_of a.kids in
    subst (λ os. Adds (map owed os) c.args.proofs.now.items c.prove_cover-2.new.proofs.items) (sym (one_end s.shape (first_of a.kids) second (sym c.has_two_ends.ensures ∙ c.if-has_two_ends.false)))
    (c.in-Ok-prove_cover-2.ensures.adds a.number kind.Done p second f.0 (subst (AreMarked second) (sym c.deref-2.ensures.value) f.2))
